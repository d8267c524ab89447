use Rattle.spelling.proofs.TextLaws.{put_then}
use Rattle.lines.specs.Lines.{connect_text}
use Rattle.lines.proofs.events.put_connect.Goals as goal

pub returns : goal.returns
unfolding connect_text
returns c = put_then _ _ _ _ _ (rw c.from.ensures at c.put_field-to.ensures) c.put_name.ensures
