use native.Mathlib.Omega.{arith}
use Rattle.spelling.proofs.TextLaws.{hex_turn}
use Rattle.spelling.proofs.bytes.put_hex.Goals as goal

pub loop-x-preserved : goal.loop-x-preserved
loop-x-preserved c = let a = c.args in let l = c.loop-x in hex_turn a.part.now l.x-index _ _ _ _ _ _ (omega arith) c.glyph.ensures c.glyph-in-loop-x.ensures c.put-to.ensures c.put-to-in-loop-x.ensures l.invariant
