use Rattle.spelling.proofs.TextLaws.{put_then}
use Rattle.lines.specs.Lines.{play_text}
use Rattle.lines.proofs.events.put_play.Goals as goal

pub returns : goal.returns
unfolding play_text
returns c = put_then _ _ _ _ _ (rw c.from.ensures at c.put_field-a.ensures) (put_then _ _ _ _ _ c.put_names-b.ensures (put_then _ _ _ _ _ c.put_range-c.ensures (rw c.from-2.ensures at c.put_field.ensures)))
