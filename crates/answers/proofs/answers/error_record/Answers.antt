use native.Mathlib.Omega.{arith}
use Rattle.answers.proofs.SendingLaws.{error_by, length_error, sent_no, sent_yes}
use Rattle.answers.proofs.answers.error_record.Goals as goal

pub returns-then-out-total : goal.returns-then-out-total
returns-then-out-total c = sent_no _ _ _ (length_error _ _ _ _ _) (omega arith)

pub returns : goal.returns
returns c = sent_yes _ _ _ _ (error_by _ _ _ _ _ _ _ c.write_status.ensures) (length_error _ _ _ _ _) (omega arith)
