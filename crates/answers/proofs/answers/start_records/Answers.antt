use native.Mathlib.Omega.{arith}
use Rattle.numbers.proofs.FieldsLaws.{lent_part}
use Rattle.answers.proofs.SendingLaws.{sent_no, sent_yes, start_five, start_four, start_long, start_short}
use Rattle.answers.proofs.answers.start_records.Goals as goal

pub returns-then-out-lt114 : goal.returns-then-out-lt114
returns-then-out-lt114 c = sent_no _ _ _ (start_long _ _ _ _ c.if-on_bw_done.true) (omega arith)

pub returns-then-on_bw_done : goal.returns-then-on_bw_done
returns-then-on_bw_done c = sent_yes _ _ _ _ (start_five _ _ _ _ _ _ _ c.if-on_bw_done.true c.write_four.ensures (lent_part _ _ _ 71 c.write_number_answer.ensures (omega arith)) (omega arith)) (start_long _ _ _ _ c.if-on_bw_done.true) (omega arith)

pub returns-then-out-lt71 : goal.returns-then-out-lt71
returns-then-out-lt71 c = sent_no _ _ _ (start_short _ _ _ _ c.if-on_bw_done.false) (omega arith)

pub returns : goal.returns
returns c = sent_yes _ _ _ _ (start_four _ _ _ _ _ _ c.if-on_bw_done.false c.write_four-2.ensures) (start_short _ _ _ _ c.if-on_bw_done.false) (omega arith)
