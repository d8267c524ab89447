use mathlib.Core.List.{List}
use Prim.Native.Nat.{ℕ}
use Rattle.text.specs.Names.{text_of}
use Rattle.record.specs.Records.{connect_accepted}
use native.Mathlib.Omega.{arith}
use Rattle.answers.proofs.SendingLaws.{length_connect, sent_no, sent_of, sent_yes}
use Rattle.answers.proofs.answers.connect_accepted.Goals as goal

pub returns-then-out-total : goal.returns-then-out-total
returns-then-out-total c = let a = c.args in let t = c.text-app.result.now in sent_of (λ (k : List ℕ). connect_accepted a.transaction (text_of a.version) k a.encoding a.time) _ _ _ _ (sent_of (λ (k : List ℕ). connect_accepted a.transaction k t a.encoding a.time) _ _ _ _ (sent_no _ _ _ (length_connect _ _ _ _ _) (omega arith)) c.text-version.ensures.value) c.text-app.ensures.value

pub returns : goal.returns
returns c = let a = c.args in let t = c.text-app.result.now in sent_of (λ (k : List ℕ). connect_accepted a.transaction (text_of a.version) k a.encoding a.time) _ _ _ _ (sent_of (λ (k : List ℕ). connect_accepted a.transaction k t a.encoding a.time) _ _ _ _ (sent_yes _ _ _ _ c.write_connected.ensures (length_connect _ _ _ _ _) (omega arith)) c.text-version.ensures.value) c.text-app.ensures.value
