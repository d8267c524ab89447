use Rattle.spelling.proofs.TextLaws.{put_then}
use Rattle.lines.specs.Lines.{frame_text}
use Rattle.lines.proofs.events.put_frame.Goals as goal

pub returns : goal.returns
unfolding frame_text
returns c = put_then _ _ _ _ _ c.put_finished-a.ensures (put_then _ _ _ _ _ (rw c.from.ensures at c.put_field-b.ensures) c.put_field.ensures)
