use Rattle.numbers.proofs.NearestLaws.{rest_lt}
use native.Mathlib.Omega.{arith}
use native.Mathlib.Nat.{mod-lt, div-le_self}
use Rattle.numbers.proofs.NearestLaws.{nearest_down, nearest_up, nearest_tie}
use Rattle.numbers.proofs.single.nearest_whole.Goals as goal

pub overflow_sub-d : goal.overflow_sub-d
overflow_sub-d c = omega (arith, rest_lt c.args.q c.args.u (omega arith))

pub returns-then-r-d : goal.returns-then-r-d
returns-then-r-d c = nearest_down c.args.q c.args.u (omega arith)

pub overflow_add-result : goal.overflow_add-result
overflow_add-result c = omega (arith, div-le_self c.args.q c.args.u)

pub returns-then-d-r : goal.returns-then-d-r
returns-then-d-r c = nearest_up c.args.q c.args.u (mod-lt _ (omega arith)) (omega arith)

pub overflow_add-result-2 : goal.overflow_add-result-2
overflow_add-result-2 c = omega (arith, div-le_self c.args.q c.args.u)

pub returns : goal.returns
returns c = nearest_tie c.args.q c.args.u (mod-lt _ (omega arith)) (omega arith) (omega arith)
