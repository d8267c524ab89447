use mathlib.Core.Path.{◌≡◌}
use lib.ListN.{length, take}
use Rattle.numbers.specs.Fields.{front}
use Rattle.numbers.proofs.fields.write_bytes.Given as goal

-- what was written up to here stands at the front
abbrev pub invariant-loop-i : goal.invariant-loop-i
invariant-loop-i l = (length l.out ≡ length l.initial.out) × (l.out ≡ front (take l.i l.src) l.initial.out)
