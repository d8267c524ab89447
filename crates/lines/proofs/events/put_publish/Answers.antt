use Rattle.spelling.proofs.TextLaws.{put_then}
use Rattle.lines.specs.Lines.{publish_text}
use Rattle.lines.proofs.events.put_publish.Goals as goal

pub returns : goal.returns
unfolding publish_text
returns c = put_then _ _ _ _ _ (rw c.from.ensures at c.put_field-a.ensures) (put_then _ _ _ _ _ c.put_names-b.ensures (put_then _ _ _ _ _ c.put_word-c.ensures c.put_mode.ensures))
