use Rattle.spelling.proofs.TextLaws.{put_then}
use Rattle.lines.proofs.outcomes.put_wrong.Goals as goal

pub returns : goal.returns
returns c = put_then _ _ _ _ _ c.put_word-to.ensures (put_then _ _ _ _ _ c.put_action-then.ensures (rw c.from.ensures at c.put_field.ensures))
