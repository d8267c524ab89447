use native.Mathlib.Omega.{arith}
use Rattle.answers.proofs.SendingLaws.{created_by, length_created, sent_no, sent_yes}
use Rattle.answers.proofs.answers.stream_created.Goals as goal

pub returns-then-out-lt42 : goal.returns-then-out-lt42
returns-then-out-lt42 c = sent_no _ _ _ (length_created _ _ _) (omega arith)

pub returns : goal.returns
returns c = sent_yes _ _ _ _ (created_by _ _ _ _ _ _ c.write_number_answer.ensures c.double_of_u32-bits.ensures) (length_created _ _ _) (omega arith)
