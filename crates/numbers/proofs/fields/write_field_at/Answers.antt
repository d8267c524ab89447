use native.Mathlib.Omega.{arith}
use Rattle.numbers.proofs.FieldsLaws.{lent_part}
use Rattle.numbers.proofs.fields.write_field_at.Goals as goal

pub returns : goal.returns
returns c = lent_part _ _ _ _ c.write_field.ensures (omega arith)
