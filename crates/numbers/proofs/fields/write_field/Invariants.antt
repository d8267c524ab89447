use mathlib.Core.Path.{◌≡◌}
use lib.ListN.{length}
use Rattle.numbers.specs.Fields.{bytes_of, front}
use Rattle.numbers.proofs.fields.write_field.Given as goal

-- what is left to write, written to the present buffer, gives the whole
abbrev pub invariant-loop-i : goal.invariant-loop-i
invariant-loop-i l = (length l.out ≡ length l.initial.out) × (front (bytes_of l.i l.v) l.out ≡ front (bytes_of l.n l.x) l.initial.out)
