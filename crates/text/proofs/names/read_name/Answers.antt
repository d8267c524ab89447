use native.Mathlib.Omega.{arith}
use Rattle.text.proofs.NamesLaws.{read_fits, read_none}
use Rattle.text.proofs.names.read_name.Goals as goal

pub returns-then-len-gt128 : goal.returns-then-len-gt128
returns-then-len-gt128 c = read_none _ (omega arith)

pub returns : goal.returns
returns c = read_fits _ _ (omega arith) c.write_bytes.ensures
