use mathlib.Core.Path.{refl}
use native.Mathlib.Omega.{arith}
use Rattle.numbers.proofs.WholeLaws.{cut_lt, whole_above, whole_below, whole_cut, whole_other}
use Rattle.numbers.proofs.whole.u32_of.Goals as goal

pub returns-then-bits-lt4607182418800017408 : goal.returns-then-bits-lt4607182418800017408
returns-then-bits-lt4607182418800017408 c = whole_below _ (omega arith)

pub overflow_cast-result : goal.overflow_cast-result
overflow_cast-result c = omega (arith, cut_lt c.args.bits _ (omega arith) refl)

pub returns-then-bits-lt4751297606875873280 : goal.returns-then-bits-lt4751297606875873280
returns-then-bits-lt4751297606875873280 c = whole_cut _ _ (omega arith) (omega arith) refl

pub returns-then-bits-le9218868437227405312 : goal.returns-then-bits-le9218868437227405312
returns-then-bits-le9218868437227405312 c = whole_above _ (omega arith) (omega arith)

pub returns : goal.returns
returns c = whole_other _ (omega arith) (omega arith)
