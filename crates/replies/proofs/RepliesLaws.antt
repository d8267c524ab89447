-- An answer without records, an error record by its fault, what a reject's texts may be, and a decision with its records.
use mathlib.Core.Path.{◌≡◌, refl, sym, ap, ◌∙◌}
use Prim.Native.Nat.{ℕ, ◌≤◌, ◌<◌}
use mathlib.Core.Bool.{Bool, true, false}
use mathlib.Core.List.{List, []}
use native.Mathlib.Omega.{arith}
use lib.Dec.{leb}
use lib.ListN.{length}
use borrow.Author.Tests.{leb-true, lt-leb}
use Rattle.std.specs.Prelude.{Option, Some}
use Rattle.numbers.proofs.FieldsLaws.{front_nil}
use Rattle.record.specs.Clock.{time_of}
use Rattle.answers.specs.Sending.{sent}
use Rattle.answers.proofs.SendingLaws.{sent_yes}
use Rattle.session.specs.declared.decision.CommandFault.{CommandFault}
use Rattle.session.specs.declared.decision.Decision.{Decision}
use Rattle.session.specs.declared.session.Session.{Session}
use Rattle.tables.proofs.SoundLaws.{both}
use Rattle.replies.specs.Answers.{answered, closed}
use Rattle.replies.specs.Finishing.{finishing}
use Rattle.replies.specs.Replies.{fault_record, reply_records, short}
use Rattle.replies.specs.declared.answer.Answer.{Answer}

pub nothing_sent : (out : List ℕ) → ◌≡◌ {A = Option ℕ × List ℕ} (Some 0, out) (sent [] out)
nothing_sent out = sent_yes [] out out 0 (sym (front_nil out)) refl (omega arith)

pub fault_told : (t : ℕ) (f g : CommandFault) (time id : ℕ) (out : List ℕ) (p : Option ℕ × List ℕ) → p ≡ sent (fault_record t g time id) out → f ≡ g → p ≡ sent (fault_record t f time id) out
fault_told t f g time id out p e q = e ∙ ap (λ (x : CommandFault). sent (fault_record t x time id) out) (sym q)

-- ---- a reject's texts
pub code_long : (code description : List ℕ) → 256 < length code → false ≡ short code description
unfolding short
code_long code description h = simp (lt-leb (length code) 256 h)

pub short_says : (code description : List ℕ) (b : Bool) → b ≡ short code description → b ≡ true → (length code ≤ 256) × (length description ≤ 256)
unfolding short
short_says code description b e q = let g = both (leb (length code) 256) _ (sym e ∙ q) in (leb-true (length code) 256 g.0, leb-true (length description) 256 g.1)

-- ---- a decision and its records
pub finish_is : (s : Session) (d : Decision) (code description : List ℕ) (clock : ℕ) (out : List ℕ) (time : ℕ) (r : Option ℕ) (after : List ℕ) (a : Answer)
    → ◌≡◌ {A = Option ℕ × List ℕ} (r, after) (sent (reply_records d.reply d.name s.version s.encoding code description time) out) → time ≡ time_of s.start clock → a ≡ closed s d r
    → ◌≡◌ {A = Answer × List ℕ} (a, after) (finishing s d code description clock out)
unfolding finishing answered
finish_is s d code description clock out time r after a e t k =
    ap (λ (x : Answer). (x, after)) k
    ∙ ap (λ (p : Option ℕ × List ℕ). (closed s d p.0, p.1)) (e ∙ ap (λ (n : ℕ). sent (reply_records d.reply d.name s.version s.encoding code description n) out) t)
