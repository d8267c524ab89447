use mathlib.Core.Path.{refl}
use native.Mathlib.Omega.{arith}
use Rattle.numbers.specs.Fields.{bytes_of}
use Rattle.numbers.proofs.FieldsLaws.{front_two}
use Rattle.amf0.specs.Writing.{encode}
use Rattle.amf0.proofs.write.write_number.Goals as goal

pub returns : goal.returns
unfolding bytes_of encode
returns c = front_two 1 _ _ _ _ _ c.write_field_at.ensures c.write_field_at-2.ensures refl (omega arith)
