use Rattle.numbers.proofs.ExactLaws.{read_back}
use Rattle.numbers.proofs.PatternLaws.{is_nan_lem, no_nan}
use lib.Ieee.{binary32, binary64, of_bits, div}
use native.Mathlib.Omega.{arith}
use mathlib.Core.Path.{sym, ◌∙◌}
use Rattle.numbers.proofs.single.f32_of.Goals as goal

pub returns-then-s-gt2139095040 : goal.returns-then-s-gt2139095040
unfolding of_bits div
returns-then-s-gt2139095040 c = sym (is_nan_lem binary32 c.single_of-s.result (omega arith)) ∙ read_back binary64 binary32 _ _ c.single_of-s.ensures

pub float_from_bits-result : goal.float_from_bits-result
float_from_bits-result c = no_nan binary32 _ (omega arith)

pub returns : goal.returns
returns c = read_back binary64 binary32 _ _ c.single_of-s.ensures
