use Rattle.std.proofs.Common.{rules}
use native.Mathlib.Omega.{arith}
use Rattle.numbers.proofs.FieldsLaws.{bytes_next}
use Rattle.numbers.proofs.fields.write_bytes.Goals as goal

pub loop-i-preserved : goal.loop-i-preserved
loop-i-preserved c = let l = c.loop-i in (search rules, bytes_next c.args.out.now c.args.src.now l.out l.i l.invariant.1 (omega arith) (omega arith))
