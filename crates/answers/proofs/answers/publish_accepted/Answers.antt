use mathlib.Core.List.{List}
use Prim.Native.Nat.{ℕ}
use mathlib.Core.Path.{sym, ◌∙◌}
use native.Mathlib.Omega.{arith}
use Rattle.numbers.proofs.FieldsLaws.{front_two, lent_part, over_zero}
use Rattle.record.specs.Records.{publish_accepted, status_record}
use Rattle.answers.proofs.SendingLaws.{length_control, length_publish, sent_no, sent_of, sent_yes}
use Rattle.answers.proofs.answers.publish_accepted.Goals as goal

pub returns-then-out-total : goal.returns-then-out-total
returns-then-out-total c = let a = c.args in sent_of (λ (k : List ℕ). publish_accepted k a.time a.stream.0) _ _ _ _ (sent_no _ _ _ (length_publish _ _ _) (omega arith)) c.text-key.ensures.value

pub returns : goal.returns
unfolding publish_accepted status_record
returns c = let a = c.args in sent_of (λ (k : List ℕ). publish_accepted k a.time a.stream.0) _ _ _ _ (sent_yes _ _ _ _ (front_two 19 _ _ _ _ _ (c.write_event.ensures ∙ sym (over_zero _ _)) (lent_part _ _ _ 19 c.write_status.ensures (omega arith)) (length_control _ _ _ _ _) (omega arith)) (length_publish _ _ _) (omega arith)) c.text-key.ensures.value
