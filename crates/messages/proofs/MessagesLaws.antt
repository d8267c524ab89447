-- The door, and the type of a message.
use mathlib.Core.Path.{◌≡◌, sym, ap, ◌∙◌}
use Prim.Native.Nat.{ℕ}
use mathlib.Core.Bool.{Bool, true, false}
use mathlib.Core.List.{List}
use borrow.Author.Tests.{ne_eqb}
use Rattle.std.specs.Prelude.{Option, Some, Result, Ok, Err}
use Rattle.text.specs.declared.ids.StreamId.{StreamId}
use Rattle.wishes.specs.Commands.{command_wish}
use Rattle.wishes.specs.Control.{control_wish}
use Rattle.wishes.specs.DataFrame.{data_wish}
use Rattle.wishes.specs.declared.outcome.Refusal.{Refusal}
use Rattle.wishes.specs.declared.outcome.Refusal.TheVariants.{BadSession}
use Rattle.wishes.specs.declared.wish.Wish.{Wish}
use Rattle.session.specs.State.{session_sound}
use Rattle.session.specs.declared.decision.Event.{Event}
use Rattle.session.specs.declared.decision.Event.TheVariants.{AudioDataReceived, VideoDataReceived}
use Rattle.session.specs.declared.session.Session.{Session}
use Rattle.streams.specs.Streams.{frame_of}
use Rattle.streams.specs.declared.streams.Frame.{Frame}
use Rattle.replies.specs.Answers.{idle, refusal}
use Rattle.replies.specs.declared.answer.Answer.{Answer}
use Rattle.messages.specs.Messages.{by_type, frame_answer, guarded, handle_media, media_event, wished}
use Rattle.messages.specs.declared.messages.MediaKind.{MediaKind}

-- ---- the door
module _ (s : Session) (out : List ℕ) (c : Bool) (e : c ≡ session_sound s) where
  pub door_shut : (p : Answer × List ℕ) (a : Answer) → a ≡ refusal BadSession s → c ≡ false → ◌≡◌ {A = Answer × List ℕ} (a, out) (guarded s out p)
  unfolding guarded
  door_shut p a k q = ap (λ (x : Answer). (x, out)) k ∙ simp (sym e ∙ q)

  pub door_open : (p r : Answer × List ℕ) → r ≡ p → c ≡ true → r ≡ guarded s out p
  unfolding guarded
  door_open p r k q = k ∙ simp (sym e ∙ q)

-- ---- by the type
module _ (s : Session) (type : ℕ) (x : StreamId) (timestamp clock : ℕ) (body out : List ℕ) where
  at_type : (k : ℕ) (p : Answer × List ℕ) → p ≡ by_type s k x timestamp clock body out → type ≡ k → p ≡ by_type s type x timestamp clock body out
  at_type k p e q = e ∙ ap (λ (n : ℕ). by_type s n x timestamp clock body out) (sym q)

  module _ (w : Result Wish Refusal) (p : Answer × List ℕ) (e : p ≡ wished s x clock out w) where
    by : (v : Result Wish Refusal) → w ≡ v → p ≡ wished s x clock out v
    by v q = e ∙ ap (wished s x clock out) q

    pub type_4 : w ≡ control_wish body → type ≡ 4 → p ≡ by_type s type x timestamp clock body out
    unfolding by_type
    type_4 q = at_type 4 p (by (control_wish body) q)

    pub type_18 : w ≡ data_wish body → type ≡ 18 → p ≡ by_type s type x timestamp clock body out
    unfolding by_type
    type_18 q = at_type 18 p (by (data_wish body) q)

    pub type_20 : w ≡ command_wish body → type ≡ 20 → p ≡ by_type s type x timestamp clock body out
    unfolding by_type
    type_20 q = at_type 20 p (by (command_wish body) q)

  module _ (a : Answer) (f : Option Frame) (e : a ≡ frame_answer s f) where
    shows : (g : Option Frame) → f ≡ g → ◌≡◌ {A = Answer × List ℕ} (a, out) (frame_answer s g, out)
    shows g q = ap (λ (y : Answer). (y, out)) (e ∙ ap (frame_answer s) q)

    pub type_8 : f ≡ frame_of s x (Some (AudioDataReceived timestamp)) → type ≡ 8 → ◌≡◌ {A = Answer × List ℕ} (a, out) (by_type s type x timestamp clock body out)
    unfolding by_type
    type_8 q = at_type 8 (a, out) (shows (frame_of s x (Some (AudioDataReceived timestamp))) q)

    pub type_9 : f ≡ frame_of s x (Some (VideoDataReceived timestamp)) → type ≡ 9 → ◌≡◌ {A = Answer × List ℕ} (a, out) (by_type s type x timestamp clock body out)
    unfolding by_type
    type_9 q = at_type 9 (a, out) (shows (frame_of s x (Some (VideoDataReceived timestamp))) q)

  pub type_other : (a : Answer) → a ≡ idle s 0 → (type ≡ 4 → ⊥) → (type ≡ 8 → ⊥) → (type ≡ 9 → ⊥) → (type ≡ 18 → ⊥) → (type ≡ 20 → ⊥) → ◌≡◌ {A = Answer × List ℕ} (a, out) (by_type s type x timestamp clock body out)
  unfolding by_type
  type_other a e n4 n8 n9 n18 n20 = ap (λ (y : Answer). (y, out)) e ∙ simp (ne_eqb type 4 n4, ne_eqb type 8 n8, ne_eqb type 9 n9, ne_eqb type 18 n18, ne_eqb type 20 n20)

-- ---- audio and video alone
module _ (s : Session) (kind : MediaKind) (x : StreamId) (timestamp : ℕ) (c : Bool) (e : c ≡ session_sound s) where
  pub media_shut : c ≡ false → Err BadSession ≡ handle_media s kind x timestamp
  unfolding handle_media
  media_shut q = simp (sym e ∙ q)

  pub media_open : (f : Option Frame) (v : Event) → f ≡ frame_of s x (Some v) → v ≡ media_event kind timestamp → c ≡ true → Ok f ≡ handle_media s kind x timestamp
  unfolding handle_media
  media_open f v p r q = ap (λ (g : Option Frame). Ok g) (p ∙ ap (λ (e : Event). frame_of s x (Some e)) r) ∙ simp (sym e ∙ q)
