use native.Mathlib.Omega.{arith}
use Rattle.answers.proofs.SendingLaws.{length_control, sent_no, sent_yes}
use Rattle.answers.proofs.answers.ping_response.Goals as goal

pub returns-then-out-lt19 : goal.returns-then-out-lt19
returns-then-out-lt19 c = sent_no _ _ _ (length_control _ _ _ _ _) (omega arith)

pub returns : goal.returns
returns c = sent_yes _ _ _ _ c.write_event.ensures (length_control _ _ _ _ _) (omega arith)
