use Rattle.spelling.proofs.TextLaws.{put_then}
use Rattle.lines.specs.Lines.{range_text}
use Rattle.lines.proofs.events.put_range.Goals as goal

pub returns : goal.returns
unfolding range_text
returns c = put_then _ _ _ _ _ c.put_word-a.ensures (put_then _ _ _ _ _ c.put_start-b.ensures (put_then _ _ _ _ _ c.put_word-c.ensures (put_then _ _ _ _ _ c.put_duration-d.ensures (put_then _ _ _ _ _ c.put_word-e.ensures c.put_flag.ensures))))
