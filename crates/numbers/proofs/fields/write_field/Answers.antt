use native.Mathlib.Omega.{arith}
use lib.ListN.{length-set}
use Rattle.numbers.proofs.FieldsLaws.{number_on, number_done}
use Rattle.numbers.proofs.fields.write_field.Goals as goal

pub loop-i-preserved : goal.loop-i-preserved
loop-i-preserved c = (simp length-set (omega arith), number_on _ _ _ _ c.loop-i.invariant.1 (omega arith) (omega arith))

pub returns : goal.returns
returns c = number_done _ _ _ _ c.loop-i.invariant.1 (omega arith)
