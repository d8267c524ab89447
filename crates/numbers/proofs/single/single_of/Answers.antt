use Rattle.numbers.proofs.SingleLaws.{single_ieee}
use mathlib.Core.Path.{◌∙◌}
use native.Mathlib.Omega.{arith}
use Rattle.numbers.proofs.SingleLaws.{single_nan, single_done}
use Rattle.numbers.proofs.single.single_of.Goals as goal

pub returns-then-m-gt9218868437227405312 : goal.returns-then-m-gt9218868437227405312
returns-then-m-gt9218868437227405312 c = single_nan _ (omega arith) ∙ single_ieee _ (omega arith)

pub returns : goal.returns
returns c = single_done c.args.bits _ _ _ _ _ (omega arith) c.saturating_sub-j.ensures c.saturating_sub-k.ensures c.double_digits.ensures.0 c.nearest_shifted-n.ensures.0 c.min-v.ensures ∙ single_ieee _ (omega arith)
