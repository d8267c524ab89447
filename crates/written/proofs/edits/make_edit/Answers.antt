use native.Mathlib.Omega.{arith}
use Rattle.written.proofs.EditsLaws.{cut_in, shift_copied}
use Rattle.written.proofs.edits.make_edit.Goals as goal

pub returns-in-Cut : goal.returns-in-Cut
returns-in-Cut g c = let a = c.args in rw (c.in-Cut.is, c.copy_within.ensures.after) (cut_in a.blank a.n a.item a.list.now _ _ (shift_copied a.blank a.n a.list.now _ (omega arith) (omega arith)) (omega arith))
