use native.Mathlib.Omega.{arith}
use Rattle.numbers.proofs.FieldsLaws.{front_two, length_bytes_of}
use Rattle.amf0.proofs.write.write_name.Goals as goal

pub returns : goal.returns
returns c = front_two 2 _ _ _ _ _ c.write_field_at.ensures c.write_bytes_at.ensures (length_bytes_of 2 _) (omega arith)
