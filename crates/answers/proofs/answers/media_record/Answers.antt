use native.Mathlib.Omega.{arith}
use Rattle.answers.proofs.SendingLaws.{length_media, media_by, sent_no, sent_yes}
use Rattle.answers.proofs.answers.media_record.Goals as goal

pub returns-then-out-lt13 : goal.returns-then-out-lt13
returns-then-out-lt13 c = sent_no _ _ _ (length_media _ _ _ _ _) (omega arith)

pub returns-then-out-body : goal.returns-then-out-body
returns-then-out-body c = sent_no _ _ _ (length_media _ _ _ _ _) (omega arith)

pub returns : goal.returns
returns c = sent_yes _ _ _ _ (media_by _ _ _ _ _ _ _ _ c.write_body.ensures c.dropping_of-flags.ensures) (length_media _ _ _ _ _) (omega arith)
