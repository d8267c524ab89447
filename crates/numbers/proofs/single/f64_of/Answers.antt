use mathlib.Core.Path.{sym}
use native.Mathlib.Omega.{arith}
use lib.Ieee.{binary64, of_bits, div}
use Rattle.numbers.proofs.PatternLaws.{is_nan_lem, no_nan}
use Rattle.numbers.proofs.single.f64_of.Goals as goal

pub returns-then-m-gt9218868437227405312 : goal.returns-then-m-gt9218868437227405312
unfolding of_bits div
returns-then-m-gt9218868437227405312 c = sym (is_nan_lem binary64 c.args.bits (omega arith))

pub float_from_bits-result : goal.float_from_bits-result
float_from_bits-result c = no_nan binary64 _ (omega arith)
