use native.Mathlib.Omega.{arith}
use Rattle.numbers.proofs.FieldsLaws.{lent_part}
use Rattle.numbers.proofs.fields.write_bytes_at.Goals as goal

pub returns : goal.returns
returns c = lent_part _ _ _ _ c.write_bytes.ensures (omega arith)
