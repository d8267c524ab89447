use mathlib.Core.Path.{◌≡◌}
use Prim.Native.Nat.{◌-◌}
use lib.ListN.{length}
use Rattle.std.specs.Prelude.{None}
use Rattle.amf0.specs.Properties.{last}
use Rattle.amf0.proofs.property.last_pair.Given as goal

-- what is left of the pairs, with the best so far, gives the answer
abbrev pub invariant-loop-v : goal.invariant-loop-v
invariant-loop-v l = last l.body l.word l.i l.best ≡ last l.body l.word l.at None

abbrev pub decreases-loop-v : goal.decreases-loop-v
decreases-loop-v l = length l.body - l.i
