use mathlib.Core.Path.{refl}
use native.Mathlib.Omega.{arith}
use Rattle.metadata.proofs.WritingLaws.{set_written, unset_written}
use Rattle.metadata.proofs.writing.Property.write_at.Goals as goal

pub returns-in-Some : goal.returns-in-Some
returns-in-Some c = let s = c.args.self.now in set_written s.0.now s.1 _ _ _ _ _ _ _ _ c.in-Some.is c.write_name_at.ensures c.write_at.ensures c.room.ensures refl refl (omega arith)

pub returns-in-None : goal.returns-in-None
returns-in-None c = let s = c.args.self.now in unset_written s.0.now s.1 _ _ c.in-None.is
