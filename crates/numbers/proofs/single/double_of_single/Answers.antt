use Rattle.numbers.proofs.ExactLaws.{widened}
use Rattle.numbers.proofs.ExactLaws.{read_no_nan, single_widens, double_nan}
use Rattle.numbers.proofs.PatternLaws.{is_nan_lem, no_nan}
use lib.Ieee.{binary32, binary64, to_bits}
use native.Mathlib.Omega.{arith}
use mathlib.Core.Path.{sym, ap, ◌∙◌}
use Rattle.numbers.proofs.single.double_of_single.Goals as goal

pub returns-then-m-gt2139095040 : goal.returns-then-m-gt2139095040
returns-then-m-gt2139095040 c = sym (widened _ ∙ ap (to_bits binary64) (is_nan_lem binary32 c.args.bits (omega arith)) ∙ double_nan)

pub float_from_bits-result : goal.float_from_bits-result
float_from_bits-result c = no_nan binary32 _ (omega arith)

pub float_to_float-result : goal.float_to_float-result
float_to_float-result c = single_widens _ (omega arith)

pub float_to_bits-result : goal.float_to_bits-result
float_to_bits-result c = read_no_nan binary32 _ (omega arith)

pub returns : goal.returns
returns c = sym (widened _)
