use mathlib.Core.Path.{◌≡◌}
use Prim.Native.Nat.{◌-◌}
use mathlib.Core.List.{◌++◌}
use lib.ListN.{length, replicate, take}
use Rattle.image.specs.Image.{joined}
use Rattle.image.proofs.reading.entries.Given as goal

abbrev pub invariant-loop-i : goal.invariant-loop-i
invariant-loop-i g l = (length l.all ≡ 16) × (l.all ≡ take l.i (joined g.R.Row.entry l.rows l.names) ++ replicate (16 - l.i) g.R.Entry.Entry.blank)
