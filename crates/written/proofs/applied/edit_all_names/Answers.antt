use Rattle.written.proofs.EditsLaws.{app_edited}
use Rattle.image.specs.Image.{keys_of, titles_of}
use native.Mathlib.Omega.{arith}
use Rattle.written.specs.Edits.{app_after, edited}
use Rattle.written.specs.Kept.{blank_bytes}
use Rattle.written.proofs.applied.edit_all_names.Goals as goal

pub returns : goal.returns
returns c = let a = c.args in app_edited (app_after a.effect a.title) a.names.now (edited blank_bytes a.e a.n a.key (keys_of a.names.now)) (edited blank_bytes a.f a.m a.title (titles_of a.names.now)) (omega arith) _ _ c.edit_parts.ensures c.set_app.ensures
