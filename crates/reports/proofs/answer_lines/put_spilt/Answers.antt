use mathlib.Core.Path.{sym, ◌∙◌}
use Rattle.spelling.proofs.CaseLaws.{if_set}
use Rattle.reports.specs.AnswerLine.{spilt_text}
use Rattle.reports.proofs.answer_lines.put_spilt.Goals as goal

-- said out loud, so that another test is refused here
pub returns-then-untouched : goal.returns-then-untouched
unfolding spilt_text
returns-then-untouched c = if_set _ _ _ _ _ c.put_word.ensures (sym c.untouched.ensures ∙ c.if-untouched.true)
