use mathlib.Core.List.{List}
use Prim.Native.Nat.{ℕ}
use mathlib.Core.Path.{sym, ◌∙◌}
use native.Mathlib.Omega.{arith}
use Rattle.numbers.proofs.FieldsLaws.{front_two, lent_part, over_zero}
use Rattle.record.specs.Records.{play_accepted}
use Rattle.answers.proofs.SendingLaws.{length_first, length_play, sent_no, sent_of, sent_yes}
use Rattle.answers.proofs.answers.play_accepted.Goals as goal

pub returns-then-out-total : goal.returns-then-out-total
returns-then-out-total c = let a = c.args in sent_of (λ (k : List ℕ). play_accepted k a.time a.stream.0) _ _ _ _ (sent_no _ _ _ (length_play _ _ _) (omega arith)) c.text-key.ensures.value

pub returns : goal.returns
unfolding play_accepted
returns c = let a = c.args in sent_of (λ (k : List ℕ). play_accepted k a.time a.stream.0) _ _ _ _ (sent_yes _ _ _ _ (front_two _ _ _ _ _ _ (c.write_play.ensures ∙ sym (over_zero _ _)) (lent_part _ _ _ _ c.write_play_data.ensures (omega arith)) (length_first _ _ _) (omega arith)) (length_play _ _ _) (omega arith)) c.text-key.ensures.value
