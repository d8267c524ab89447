-- The door of a send.
use mathlib.Core.Path.{◌≡◌, refl}
use Prim.Native.Nat.{ℕ}
use mathlib.Core.Bool.{Bool, true, false}
use mathlib.Core.List.{List}
use Rattle.std.specs.Prelude.{Result, Err}
use Rattle.text.specs.declared.ids.StreamId.{StreamId}
use Rattle.metadata.specs.declared.metadata.StreamMetadata.{StreamMetadata}
use Rattle.record.specs.Clock.{time_of}
use Rattle.wishes.specs.declared.outcome.Refusal.{Refusal}
use Rattle.wishes.specs.declared.outcome.Refusal.TheVariants.{BadSession}
use Rattle.session.specs.State.{session_sound}
use Rattle.sending.specs.Sends.{guarded_send, metadata_sent, pinged, sends_metadata, sends_ping}
use Rattle.image.specs.Image.{cell, readable_at, session_at, sound_at}
use Rattle.arrays.proofs.TurnsLaws.{door_open, door_shut, sound_is}
use Rattle.host.specs.Sends.{hosted_ping, hosted_send, ping_numbers, sent_numbers}

module _ (facts : List ℕ) (streams requests names : List (List ℕ)) (b : Bool) (e : b ≡ sound_at facts streams requests names) (out : List ℕ) where
  module _ (a : Result ℕ Refusal × List ℕ) where
    pub send_shut : b ≡ false → ◌≡◌ {A = (ℕ × ℕ) × List ℕ} ((15, 0), out) (hosted_send (readable_at facts streams requests) out (guarded_send (session_at facts streams requests names) out a))
    unfolding hosted_send guarded_send
    send_shut q = door_shut (readable_at facts streams requests) (session_sound (session_at facts streams requests names)) b (sound_is facts streams requests names b e) sent_numbers a (Err BadSession, out) ((15, 0), out) q refl

    pub send_open : b ≡ true → (v : (ℕ × ℕ) × List ℕ) → v ≡ sent_numbers a → v ≡ hosted_send (readable_at facts streams requests) out (guarded_send (session_at facts streams requests names) out a)
    unfolding hosted_send guarded_send
    send_open q v w = door_open (readable_at facts streams requests) (session_sound (session_at facts streams requests names)) b (sound_is facts streams requests names b e) sent_numbers a (Err BadSession, out) ((15, 0), out) q v w

  -- the start is read from the facts
  module _ (x : StreamId) (m : StreamMetadata) (clock : ℕ) where
    pub metadata_shut : b ≡ false → ◌≡◌ {A = (ℕ × ℕ) × List ℕ} ((15, 0), out) (hosted_send (readable_at facts streams requests) out (sends_metadata (session_at facts streams requests names) x m clock out))
    metadata_shut q = send_shut (metadata_sent x m (time_of (session_at facts streams requests names).start clock) out) q

    pub metadata_open : b ≡ true → (v : (ℕ × ℕ) × List ℕ) → v ≡ sent_numbers (metadata_sent x m (time_of (cell facts 0) clock) out) → v ≡ hosted_send (readable_at facts streams requests) out (sends_metadata (session_at facts streams requests names) x m clock out)
    unfolding session_at
    metadata_open q v w = send_open (metadata_sent x m (time_of (cell facts 0) clock) out) q v w

  module _ (clock : ℕ) where
    pub ping_shut : b ≡ false → ◌≡◌ {A = (ℕ × (ℕ × ℕ)) × List ℕ} ((15, (0, 0)), out) (hosted_ping (readable_at facts streams requests) out (sends_ping (session_at facts streams requests names) clock out))
    unfolding hosted_ping sends_ping session_at
    ping_shut q = door_shut (readable_at facts streams requests) (session_sound (session_at facts streams requests names)) b (sound_is facts streams requests names b e) ping_numbers (pinged (time_of (cell facts 0) clock) out) (Err BadSession, out) ((15, (0, 0)), out) q refl

    pub ping_open : b ≡ true → (v : (ℕ × (ℕ × ℕ)) × List ℕ) → v ≡ ping_numbers (pinged (time_of (cell facts 0) clock) out) → v ≡ hosted_ping (readable_at facts streams requests) out (sends_ping (session_at facts streams requests names) clock out)
    unfolding hosted_ping sends_ping session_at
    ping_open q v w = door_open (readable_at facts streams requests) (session_sound (session_at facts streams requests names)) b (sound_is facts streams requests names b e) ping_numbers (pinged (time_of (cell facts 0) clock) out) (Err BadSession, out) ((15, (0, 0)), out) q v w
