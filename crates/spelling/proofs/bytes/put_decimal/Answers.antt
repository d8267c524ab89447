use Rattle.spelling.proofs.DecimalLaws.{decimal_is}
use native.Mathlib.Omega.{arith}
use Rattle.spelling.proofs.bytes.put_decimal.Goals as goal

pub returns : goal.returns
returns c = let d = c.decimal-k.ensures in decimal_is _ _ _ _ _ (omega arith) d.len d.digits c.put_word.ensures
