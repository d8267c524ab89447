use mathlib.Core.List.{List}
use Prim.Native.Nat.{ℕ}
use native.Mathlib.Omega.{arith}
use Rattle.record.specs.Records.{play_finished, status_record}
use Rattle.answers.proofs.SendingLaws.{length_finished, sent_no, sent_of, sent_yes}
use Rattle.answers.proofs.answers.play_finished.Goals as goal

pub returns-then-out-total : goal.returns-then-out-total
returns-then-out-total c = let a = c.args in sent_of (λ (k : List ℕ). play_finished k a.time a.stream.0) _ _ _ _ (sent_no _ _ _ (length_finished _ _ _) (omega arith)) c.text-key.ensures.value

pub returns : goal.returns
unfolding play_finished status_record
returns c = let a = c.args in sent_of (λ (k : List ℕ). play_finished k a.time a.stream.0) _ _ _ _ (sent_yes _ _ _ _ c.write_status.ensures (length_finished _ _ _) (omega arith)) c.text-key.ensures.value
