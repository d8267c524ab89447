-- The cases of sends.
use mathlib.Core.Path.{◌≡◌, refl, sym, ap, ◌∙◌}
use Prim.Native.Nat.{ℕ, ◌<◌}
use mathlib.Core.Bool.{Bool, true, false}
use mathlib.Core.List.{List}
use lib.ListN.{length}
use borrow.Author.Tests.{lt-leb}
use Rattle.std.specs.Prelude.{Option, Some, None, option_map, Result, Err}
use Rattle.std.specs.Option.{ok_or}
use Rattle.text.specs.declared.ids.StreamId.{StreamId}
use Rattle.record.specs.Clock.{time_of}
use Rattle.metadata.specs.declared.metadata.StreamMetadata.{StreamMetadata}
use Rattle.answers.specs.Sending.{sent}
use Rattle.wishes.specs.declared.outcome.Refusal.{Refusal}
use Rattle.wishes.specs.declared.outcome.Refusal.TheVariants.{BodyTooLong, NameTooLong, NoRoom}
use Rattle.session.specs.State.{session_sound}
use Rattle.session.specs.declared.session.Session.{Session}
use Rattle.sending.specs.Answers.{sending}
use Rattle.sending.specs.Sends.{encoder_fits, media_sent, metadata_sent, ping_of, pinged, sends_ping}
use Rattle.sending.specs.declared.sends.PingSent.{PingSent}

pub sending_is : (records out : List ℕ) (r : Option ℕ) (after : List ℕ) (a : Result ℕ Refusal) → ◌≡◌ {A = Option ℕ × List ℕ} (r, after) (sent records out) → a ≡ ok_or r NoRoom → ◌≡◌ {A = Result ℕ Refusal × List ℕ} (a, after) (sending records out)
unfolding sending
sending_is records out r after a e k = ap (λ (x : Result ℕ Refusal). (x, after)) k ∙ ap (λ (p : Option ℕ × List ℕ). (ok_or p.0 NoRoom, p.1)) e

-- ---- metadata, audio and video
pub metadata_long : (x : StreamId) (m : StreamMetadata) (time : ℕ) (out : List ℕ) (b : Bool) → b ≡ encoder_fits m.encoder → (a : Result ℕ Refusal) → a ≡ Err NameTooLong → b ≡ false → ◌≡◌ {A = Result ℕ Refusal × List ℕ} (a, out) (metadata_sent x m time out)
unfolding metadata_sent
metadata_long x m time out b e a k q = ap (λ (y : Result ℕ Refusal). (y, out)) k ∙ simp (sym e ∙ q)

pub media_long : (type : ℕ) (x : StreamId) (timestamp : ℕ) (droppable : Bool) (body out : List ℕ) (a : Result ℕ Refusal) → a ≡ Err BodyTooLong → 16777215 < length body
    → ◌≡◌ {A = Result ℕ Refusal × List ℕ} (a, out) (media_sent type x timestamp droppable body out)
unfolding media_sent
media_long type x timestamp droppable body out a k h = ap (λ (y : Result ℕ Refusal). (y, out)) k ∙ simp (lt-leb (length body) 16777215 h)

-- ---- a ping
pub ping_open : (s : Session) (clock : ℕ) (out : List ℕ) (c : Bool) → c ≡ session_sound s → (time : ℕ) (p : Result PingSent Refusal × List ℕ) → p ≡ pinged time out → time ≡ time_of s.start clock → c ≡ true → p ≡ sends_ping s clock out
unfolding sends_ping
ping_open s clock out c e time p k t q = k ∙ ap (λ (n : ℕ). pinged n out) t ∙ simp (sym e ∙ q)

abbrev pub ping_at : ℕ → ℕ → PingSent
ping_at time n = record { count = n; timestamp = time }

pub ping_told : (time : ℕ) (r b : Option ℕ) → r ≡ b → ok_or (option_map (ping_at time) b) NoRoom ≡ ping_of time r
ping_told time r b q = go b ∙ ap (ping_of time) (sym q)
  where
    go : (b : Option ℕ) → ok_or (option_map (ping_at time) b) NoRoom ≡ ping_of time b
    go (Some n) = refl
    go None = refl
