-- Audio and video: refusal 15 stands before the type.
use mathlib.Core.Path.{◌≡◌, refl, sym, ap, ◌∙◌}
use Prim.Native.Nat.{ℕ}
use mathlib.Core.Bool.{Bool, true, false}
use mathlib.Core.List.{List}
use lib.Dec.{eqb}
use Rattle.std.specs.Prelude.{Option, Some, None, Result, Ok, Err}
use Rattle.numbers.specs.Choose.{pick}
use Rattle.text.specs.declared.ids.StreamId.{StreamId}
use Rattle.wishes.specs.declared.outcome.Refusal.{Refusal}
use Rattle.wishes.specs.declared.outcome.Refusal.TheVariants.{BadSession}
use Rattle.session.specs.State.{session_sound}
use Rattle.session.specs.declared.decision.Event.TheVariants.{AudioDataReceived, VideoDataReceived}
use Rattle.session.specs.declared.session.Session.{Session}
use Rattle.streams.specs.Streams.{frame_of}
use Rattle.streams.specs.declared.streams.Frame.{Frame}
use Rattle.messages.specs.Messages.{handle_media}
use Rattle.image.specs.Image.{readable_at, session_at, sound_at}
use Rattle.arrays.proofs.TurnsLaws.{door_open, door_shut, sound_is}
use Rattle.host.specs.Frames.{FrameShown, frame_by, frame_shown, hosted_media, media_of, media_told}

swap : (a b g : Bool) (x y : Option Frame)
    → pick a (pick g (Ok x) (Err BadSession)) (pick b (pick g (Ok y) (Err BadSession)) (pick g (Ok None) (Err BadSession))) ≡ pick {X = Result (Option Frame) Refusal} g (Ok (pick a x (pick b y None))) (Err BadSession)
swap true b true x y = refl
swap true b false x y = refl
swap false true true x y = refl
swap false true false x y = refl
swap false false true x y = refl
swap false false false x y = refl

media_door : (kind : ℕ) (s : Session) (x : StreamId) (timestamp : ℕ) → media_of kind s x timestamp ≡ pick (session_sound s) (Ok (frame_by kind s x timestamp)) (Err BadSession)
unfolding media_of handle_media frame_by
media_door kind s x timestamp = swap (eqb kind 8) (eqb kind 9) (session_sound s) (frame_of s x (Some (AudioDataReceived timestamp))) (frame_of s x (Some (VideoDataReceived timestamp)))

module _ (facts : List ℕ) (streams requests names : List (List ℕ)) (kind : ℕ) (x : StreamId) (timestamp : ℕ) (b : Bool) (e : b ≡ sound_at facts streams requests names) (r : FrameShown) where
  abbrev s : Session
  s = session_at facts streams requests names

  behind : hosted_media (readable_at facts streams requests) (media_of kind s x timestamp) ≡ pick (readable_at facts streams requests) (media_told (pick (session_sound s) (Ok (frame_by kind s x timestamp)) (Err BadSession))) (media_told (Err BadSession))
  unfolding hosted_media
  behind = ap (λ (t : Result (Option Frame) Refusal). pick (readable_at facts streams requests) (media_told t) (media_told (Err BadSession))) (media_door kind s x timestamp)

  pub media_refused : b ≡ false → r ≡ frame_shown None → ◌≡◌ {A = ℕ × FrameShown} (15, r) (hosted_media (readable_at facts streams requests) (media_of kind (session_at facts streams requests names) x timestamp))
  media_refused q w =
      ap {B = ℕ × FrameShown} (λ (t : FrameShown). (15, t)) w
      ∙ door_shut (readable_at facts streams requests) (session_sound s) b (sound_is facts streams requests names b e) media_told (Ok (frame_by kind s x timestamp)) (Err BadSession) (media_told (Err BadSession)) q refl
      ∙ sym behind

  pub media_done : b ≡ true → r ≡ frame_shown (frame_by kind (session_at facts streams requests names) x timestamp) → ◌≡◌ {A = ℕ × FrameShown} (0, r) (hosted_media (readable_at facts streams requests) (media_of kind (session_at facts streams requests names) x timestamp))
  media_done q w =
      door_open (readable_at facts streams requests) (session_sound s) b (sound_is facts streams requests names b e) media_told (Ok (frame_by kind s x timestamp)) (Err BadSession) (media_told (Err BadSession)) q (0, r) (ap {B = ℕ × FrameShown} (λ (t : FrameShown). (0, t)) w)
      ∙ sym behind
