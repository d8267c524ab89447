use Rattle.numbers.proofs.ExactLaws.{equals_itself, itself_widens, differs_bits}
use Rattle.numbers.proofs.single.bits_of_f32.Goals as goal

pub returns-then-x : goal.returns-then-x
returns-then-x c = differs_bits _ c.if-x.true

pub float_to_float-result : goal.float_to_float-result
float_to_float-result c = itself_widens _ c.row_known-1.given c.if-x.false

pub float_to_bits-result : goal.float_to_bits-result
float_to_bits-result c = equals_itself _ c.if-x.false
