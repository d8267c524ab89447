use mathlib.Core.Path.{◌≡◌}
use Prim.Native.Nat.{◌-◌}
use lib.ListN.{length}
use Rattle.amf0.specs.Bodies.{checked, row, verdict}
use Rattle.amf0.proofs.body.check_body.Given as goal

-- what is left to check gives the verdict
abbrev pub invariant-loop-at : goal.invariant-loop-at
invariant-loop-at l = verdict (row l.body l.at) ≡ checked l.body

abbrev pub decreases-loop-at : goal.decreases-loop-at
decreases-loop-at l = length l.body - l.at
