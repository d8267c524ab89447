use mathlib.Core.Path.{refl}
use Rattle.image.proofs.RowsLaws.{read_all, read_none, read_step}
use native.Mathlib.Omega.{arith}
use lib.ListN.{length-set}
use Rattle.image.proofs.reading.entries.Goals as goal

pub loop-i-init : goal.loop-i-init
loop-i-init g c = let a = c.args in (refl, read_none g.R.Row.entry a.rows.now a.names.now (omega arith) (omega arith) _ _ c.blank-all.ensures)

pub loop-i-preserved : goal.loop-i-preserved
loop-i-preserved g c = let a = c.args in let l = c.loop-i in (simp length-set l.invariant.0, read_step g.R.Row.entry a.rows.now a.names.now (omega arith) (omega arith) _ l.all l.i _ l.invariant.1 (omega arith) c.index-rows-i.is _ (c.entry.ensures))

pub returns : goal.returns
returns g c = let a = c.args in let l = c.loop-i in read_all g.R.Row.entry a.rows.now a.names.now (omega arith) (omega arith) _ l.all a.count l.i (omega arith) l.invariant.1
