use mathlib.Core.Path.{ap}
use borrow.Author.Tests.{ne_eqb}
use Rattle.spelling.proofs.CaseLaws.{if_unset}
use Rattle.spelling.proofs.TextLaws.{put_as, put_then}
use Rattle.spelling.specs.Text.{hex_of}
use Rattle.reports.specs.AnswerLine.{written_text}
use Rattle.reports.proofs.answer_lines.put_written.Goals as goal

pub returns : goal.returns
unfolding written_text
returns c = if_unset _ _ _ _ _ (put_then _ _ _ _ _ c.put_word-to.ensures (put_as _ _ _ _ c.put_hex.ensures (ap hex_of c.text_of.ensures))) (ne_eqb _ _ c.if-count-eq0.false)
