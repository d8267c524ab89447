-- A call over the arrays, step by step.
use mathlib.Core.Path.{◌≡◌, refl, sym, ap, ◌∙◌}
use Prim.Native.Nat.{ℕ}
use native.Mathlib.Omega.{arith}
use mathlib.Core.Logic.{◌⊎◌, inl, inr}
use mathlib.Core.Bool.{Bool, true, false, ◌&&◌}
use Rattle.std.specs.Prelude.{Option, Some, None, Err}
use mathlib.Core.List.{List, []}
use lib.ListN.{get_or}
use borrow.Author.Tests.{ne_eqb}
use Rattle.numbers.specs.Choose.{pick}
use Rattle.text.specs.Names.{empty_name}
use Rattle.text.specs.declared.ids.StreamId.{StreamId}
use Rattle.metadata.specs.Metadata.{no_metadata}
use Rattle.record.specs.Clock.{time_of}
use Rattle.answers.specs.Sending.{sent}
use Rattle.wishes.specs.Outcome.{Outcome, number_of}
use Rattle.wishes.specs.declared.outcome.Refusal.TheVariants.{BadSession, NoRoom}
use Rattle.session.specs.State.{session_sound}
use Rattle.session.specs.declared.changes.Change.{Change}
use Rattle.session.specs.declared.decision.Decision.{Decision}
use Rattle.session.specs.declared.session.Session.{Session}
use Rattle.session.specs.declared.decision.Event.TheVariants.{AudioDataReceived, VideoDataReceived}
use Rattle.streams.specs.Streams.{frame_of}
use Rattle.streams.specs.declared.streams.Frame.{Frame}
use Rattle.replies.specs.Answers.{answer_of, answered, closed, idle, refusal}
use Rattle.replies.specs.Finishing.{finishing}
use Rattle.replies.specs.Replies.{reply_records}
use Rattle.replies.specs.declared.answer.Answer.{Answer}
use Rattle.messages.specs.Messages.{by_type, frame_answer, guarded, wished}
use Rattle.image.specs.Image.{Arrays, Shaped, cell, readable_at, session_at, sound_at}
use Rattle.written.specs.Edits.{applied_at}
use Rattle.written.specs.Kept.{kept_at}
use Rattle.written.proofs.AppliedTheorems.{applied_kept, same_kept}
use Rattle.parts.specs.Parts.{Shown}
use Rattle.parts.specs.Told.{told_of}
use Rattle.desks.specs.Asked.{wish_of}
use Rattle.arrays.specs.Turns.{changed_by, hosted, keeps, kept, told, turned, unread}

pub not_both : {A : Type 0} (b : Bool) → b ≡ true → b ≡ false → A
not_both b p q = let z : ◌≡◌ {A = Bool} true false = sym p ∙ q in let y : ◌≡◌ {A = ℕ} 0 1 = cc in absurd (omega arith)

-- ---- readable arrays with a sound session, or refusal 15: two doors are one
module _ {A B : Type 0} (f g b : Bool) (e : b ≡ f && g) (h : A → B) (x z : A) (y : B) where
  pub door_shut : b ≡ false → y ≡ h z → y ≡ pick f (h (pick g x z)) y
  door_shut q w = go f g (sym e ∙ q)
    where
      go : (f g : Bool) → f && g ≡ false → y ≡ pick f (h (pick g x z)) y
      go true true q = not_both true refl q
      go true false q = w
      go false g q = refl

  pub door_open : b ≡ true → (v : B) → v ≡ h x → v ≡ pick f (h (pick g x z)) y
  door_open q v w = go f g (sym e ∙ q)
    where
      go : (f g : Bool) → f && g ≡ true → v ≡ pick f (h (pick g x z)) y
      go true true q = w
      go true false q = not_both false q refl
      go false g q = not_both false q refl

pub sound_is : (facts : List ℕ) (streams requests names : List (List ℕ)) (b : Bool) → b ≡ sound_at facts streams requests names → b ≡ readable_at facts streams requests && session_sound (session_at facts streams requests names)
unfolding sound_at
sound_is facts streams requests names b e = e

pick_same : {A : Type 0} (b : Bool) (x y : A) → x ≡ y → pick b x y ≡ y
pick_same true x y e = e
pick_same false x y e = refl

module _ (facts : List ℕ) (streams requests names : List (List ℕ)) where
  abbrev before : Arrays
  before = (facts, (streams, (requests, names)))

  abbrev s : Session
  s = session_at facts streams requests names

  -- ---- the door
  module _ (also : ℕ) (out : List ℕ) (call : Session → Answer × List ℕ) (b : Bool) (e : b ≡ sound_at facts streams requests names) where
    pub turn_shut : keeps also 15 ≡ false → b ≡ false → (t : ℕ × Shown) → t ≡ unread → ◌≡◌ {A = (Arrays × (ℕ × Shown)) × List ℕ} (((facts, (streams, (requests, names))), t), out) (hosted also (facts, (streams, (requests, names))) out (λ (z : Session). guarded z out (call z)))
    unfolding hosted guarded kept
    turn_shut k q t w =
        let z : kept also before (refusal BadSession s) ≡ before = simp k in
        ap {B = (Arrays × (ℕ × Shown)) × List ℕ} (λ (x : ℕ × Shown). ((before, x), out)) w
        ∙ door_shut (readable_at facts streams requests) (session_sound s) b (sound_is facts streams requests names b e) (turned also before) (call s) (refusal BadSession s, out) ((before, unread), out) q
        (ap {B = (Arrays × (ℕ × Shown)) × List ℕ} (λ (x : Arrays). ((x, unread), out)) (sym z))

    pub turn_open :
        b ≡ true → (v : (Arrays × (ℕ × Shown)) × List ℕ) → v ≡ turned also (facts, (streams, (requests, names))) (call (session_at facts streams requests names))
        → v ≡ hosted also (facts, (streams, (requests, names))) out (λ (z : Session). guarded z out (call z))
    unfolding hosted guarded
    turn_open q v w = door_open (readable_at facts streams requests) (session_sound s) b (sound_is facts streams requests names b e) (turned also before) (call s) (refusal BadSession s, out) ((before, unread), out) q v w

  module _ (shape : Shaped facts streams requests names) (ok : sound_at facts streams requests names ≡ true) where
    -- ---- what is written back
    module _ (also : ℕ) (outcome : Outcome) (change : Change) (n : ℕ) (e : n ≡ number_of outcome) (b : Bool) (k : b ≡ keeps also n) where
      pub kept_new : b ≡ true → (x : Arrays) → x ≡ applied_at (facts, (streams, (requests, names))) change → x ≡ changed_by also (facts, (streams, (requests, names))) outcome change
      kept_new q x w = w ∙ applied_kept facts streams requests names shape ok change ∙ simp (sym (ap (keeps also) e), sym k ∙ q)

      pub kept_old : b ≡ false → (facts, (streams, (requests, names))) ≡ changed_by also (facts, (streams, (requests, names))) outcome change
      kept_old q = simp (sym (ap (keeps also) e), sym k ∙ q)

    -- ---- an answer with the session that stood there
    pub stays_told : (also : ℕ) (out : List ℕ) (x : Answer) (t : ℕ × Shown) → x.session ≡ session_at facts streams requests names → t ≡ told x
        → ◌≡◌ {A = (Arrays × (ℕ × Shown)) × List ℕ} (((facts, (streams, (requests, names))), t), out) (turned also (facts, (streams, (requests, names))) (x, out))
    unfolding kept
    stays_told also out x t q w =
        let z = pick_same (keeps also (number_of x.outcome)) (kept_at before x.session) before (ap (kept_at before) q ∙ same_kept facts streams requests names shape ok) in
        λ i. ((sym z i, w i), out)

    -- ---- the records of a decision, then what it changes
    module _ (also : ℕ) (c d : Decision) (made : d ≡ c) (code description : List ℕ) (clock : ℕ) (out : List ℕ) (r : Option ℕ) (o : List ℕ)
        (e : ◌≡◌ {A = Option ℕ × List ℕ} (r, o) (sent (reply_records d.reply d.name (record { bytes = get_or names 0 []; len = cell facts 1 }) (cell facts 5) code description (time_of (cell facts 0) clock)) out)) where
      closes : ◌≡◌ {A = Answer × List ℕ} (closed s d r, o) (finishing s c code description clock out)
      unfolding finishing answered session_at
      closes = ap {B = Answer × List ℕ} (λ (x : Option ℕ × List ℕ). (closed s d x.0, x.1)) e ∙ ap (λ (y : Decision). finishing s y code description clock out) made

      pub concluded_full : r ≡ None → (t : ℕ × Shown) → t ≡ told_of (Err NoRoom) None empty_name empty_name no_metadata 0
          → ◌≡◌ {A = (Arrays × (ℕ × Shown)) × List ℕ} (((facts, (streams, (requests, names))), t), o) (turned also (facts, (streams, (requests, names))) (finishing (session_at facts streams requests names) c code description clock out))
      concluded_full q t w =
          let z : refusal NoRoom s ≡ closed s d r = sym (ap (closed s d) q) in
          stays_told also o (refusal NoRoom s) t refl w ∙ ap (λ (x : Answer). turned also before (x, o)) z ∙ ap (turned also before) closes

      pub concluded : (n : ℕ) → r ≡ Some n → (x : Arrays) → x ≡ changed_by also (facts, (streams, (requests, names))) d.outcome d.change → (t : ℕ × Shown) → t ≡ told_of d.outcome d.event d.app d.key d.metadata n
          → ◌≡◌ {A = (Arrays × (ℕ × Shown)) × List ℕ} ((x, t), o) (turned also (facts, (streams, (requests, names))) (finishing (session_at facts streams requests names) c code description clock out))
      unfolding kept
      concluded n q x k t w =
          let z : answer_of s d n ≡ closed s d r = sym (ap (closed s d) q) in
          (λ i. ((k i, w i), o)) ∙ ap (λ (y : Answer). turned also before (y, o)) z ∙ ap (turned also before) closes

-- a frame leaves the session
pub frame_stays : (s : Session) (f : Option Frame) → (frame_answer s f).session ≡ s
frame_stays s None = refl
frame_stays s (Some f) = refl

-- ---- by the type: one that is read, audio, video, or none of these
module _ (s : Session) (type : ℕ) (x : StreamId) (timestamp clock : ℕ) (body out : List ℕ) where
  said_at : (k : ℕ) → type ≡ k → wished s x clock out (wish_of k body) ≡ by_type s k x timestamp clock body out → wished s x clock out (wish_of type body) ≡ by_type s type x timestamp clock body out
  said_at k e p = ap (λ (n : ℕ). wished s x clock out (wish_of n body)) e ∙ p ∙ sym (ap (λ (n : ℕ). by_type s n x timestamp clock body out) e)

  pub type_said : (type ≡ 4) ⊎ ((type ≡ 18) ⊎ (type ≡ 20)) → wished s x clock out (wish_of type body) ≡ by_type s type x timestamp clock body out
  unfolding by_type wish_of
  type_said (inl e) = said_at 4 e refl
  type_said (inr (inl e)) = said_at 18 e refl
  type_said (inr (inr e)) = said_at 20 e refl

  pub type_audio : type ≡ 8 → ◌≡◌ {A = Answer × List ℕ} (frame_answer s (frame_of s x (Some (AudioDataReceived timestamp))), out) (by_type s type x timestamp clock body out)
  unfolding by_type
  type_audio e = sym (ap (λ (n : ℕ). by_type s n x timestamp clock body out) e)

  pub type_video : type ≡ 9 → ◌≡◌ {A = Answer × List ℕ} (frame_answer s (frame_of s x (Some (VideoDataReceived timestamp))), out) (by_type s type x timestamp clock body out)
  unfolding by_type
  type_video e = sym (ap (λ (n : ℕ). by_type s n x timestamp clock body out) e)

  pub type_none : (type ≡ 4 → ⊥) → (type ≡ 8 → ⊥) → (type ≡ 9 → ⊥) → (type ≡ 18 → ⊥) → (type ≡ 20 → ⊥) → ◌≡◌ {A = Answer × List ℕ} (idle s 0, out) (by_type s type x timestamp clock body out)
  unfolding by_type
  type_none a b c d e = simp (ne_eqb type 4 a, ne_eqb type 8 b, ne_eqb type 9 c, ne_eqb type 18 d, ne_eqb type 20 e)
