use native.Mathlib.Omega.{arith}
use Rattle.numbers.proofs.WholeLaws.{whole_no_nan}
use Rattle.numbers.proofs.whole.double_of_u32.Goals as goal

pub float_to_bits-result : goal.float_to_bits-result
float_to_bits-result c = whole_no_nan _ (omega arith)
