use mathlib.Core.Path.{◌≡◌}
use Prim.Native.Nat.{◌+◌, ◌-◌, ◌*◌, ◌≤◌}
use lib.ListN.{length}
use Rattle.std.specs.Prelude.{Ok}
use Rattle.amf0.specs.Skipping.{pairs, skip_v, values_f}
use Rattle.amf0.proofs.skip.+skip.Given as goal

-- a call one level down has a smaller `left`, and a value is called by what holds it at the same one
abbrev pub decreases-skip_pairs : goal.decreases-skip_pairs
decreases-skip_pairs l = 2 * l.left + 1

abbrev pub decreases-skip_value : goal.decreases-skip_value
decreases-skip_value l = 2 * l.left

abbrev pub decreases-skip_values : goal.decreases-skip_values
decreases-skip_values l = 2 * l.left + 1

-- what is left to skip gives the answer
abbrev pub invariant-skip_pairs-loop-n : goal.invariant-skip_pairs-loop-n
invariant-skip_pairs-loop-n l = pairs (skip_v l.body l.left) l.body l.i ≡ pairs (skip_v l.body l.left) l.body l.at

abbrev pub decreases-skip_pairs-loop-n : goal.decreases-skip_pairs-loop-n
decreases-skip_pairs-loop-n l = length l.body - l.i

-- the values so far are skipped up to i
abbrev pub invariant-skip_values-loop : goal.invariant-skip_values-loop
invariant-skip_values-loop l = (l.counter ≤ l.count) × (values_f (skip_v l.body l.left) l.counter l.at ≡ Ok l.i)
