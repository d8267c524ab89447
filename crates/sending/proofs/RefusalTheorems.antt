-- "Every refusal leaves session and out buffer unchanged". A send hands no session back.
use mathlib.Core.Path.{◌≡◌, refl}
use Prim.Native.Nat.{ℕ}
use mathlib.Core.Bool.{Bool, true, false}
use mathlib.Core.List.{List}
use lib.Dec.{leb, ltb}
use lib.ListN.{length}
use Rattle.std.specs.Prelude.{Option, Some, None, Result, Ok, Err}
use Rattle.std.specs.Option.{ok_or}
use Rattle.numbers.specs.Choose.{pick}
use Rattle.numbers.specs.Fields.{front}
use Rattle.text.specs.declared.ids.StreamId.{StreamId}
use Rattle.record.specs.Clock.{time_of}
use Rattle.record.specs.Records.{media, ping_request}
use Rattle.metadata.specs.Writing.{metadata_record}
use Rattle.metadata.specs.declared.metadata.StreamMetadata.{StreamMetadata}
use Rattle.answers.specs.Sending.{sent}
use Rattle.wishes.specs.declared.outcome.Refusal.{Refusal}
use Rattle.wishes.specs.declared.outcome.Refusal.TheVariants.{BadSession, BodyTooLong, NameTooLong, NoRoom}
use Rattle.session.specs.State.{session_sound}
use Rattle.session.specs.declared.session.Session.{Session}
use Rattle.sending.specs.Answers.{sending}
use Rattle.sending.specs.Sends.{encoder_fits, guarded_send, media_sent, metadata_sent, ping_of, pinged, sends_media, sends_metadata, sends_ping}
use Rattle.sending.specs.declared.sends.PingSent.{PingSent}

-- done, or the buffer stays
pub data SendLeaves {A : Type 0} (out : List ℕ) (p : Result A Refusal × List ℕ) : Type 0 where
  sent_done : (a : A) → p.0 ≡ Ok a → SendLeaves out p
  sent_left : (r : Refusal) → p ≡ (Err r, out) → SendLeaves out p

module _ {A : Type 0} (out : List ℕ) where
  either : (b : Bool) (p q : Result A Refusal × List ℕ) → SendLeaves out p → SendLeaves out q → SendLeaves out (pick b p q)
  either true p q f g = f
  either false p q f g = g

abbrev room : ℕ → List ℕ → List ℕ → Bool → Option ℕ × List ℕ
room n after out b = pick b (None, out) (Some n, after)

send_room : (n : ℕ) (after out : List ℕ) (b : Bool) → SendLeaves {A = ℕ} out (ok_or (room n after out b).0 NoRoom, (room n after out b).1)
send_room n after out true = sent_left NoRoom refl
send_room n after out false = sent_done n refl

sending_leaves : (records out : List ℕ) → SendLeaves {A = ℕ} out (sending records out)
unfolding sending sent
sending_leaves records out = send_room (length records) (front records out) out (ltb (length out) (length records))

send_door : (s : Session) (out : List ℕ) (p : Result ℕ Refusal × List ℕ) → SendLeaves {A = ℕ} out p → SendLeaves {A = ℕ} out (guarded_send s out p)
unfolding guarded_send
send_door s out p f = either out (session_sound s) p (Err BadSession, out) f (sent_left BadSession refl)

pub metadata_leaves : (s : Session) (x : StreamId) (m : StreamMetadata) (clock : ℕ) (out : List ℕ) → SendLeaves {A = ℕ} out (sends_metadata s x m clock out)
unfolding metadata_sent
metadata_leaves s x m clock out =
    send_door s out (metadata_sent x m (time_of s.start clock) out)
    (either out (encoder_fits m.encoder) _ _ (sending_leaves (metadata_record m (time_of s.start clock) x.0) out) (sent_left NameTooLong refl))

pub media_leaves : (type : ℕ) (s : Session) (x : StreamId) (timestamp : ℕ) (droppable : Bool) (body out : List ℕ) → SendLeaves {A = ℕ} out (sends_media type s x timestamp droppable body out)
unfolding media_sent
media_leaves type s x timestamp droppable body out =
    send_door s out (media_sent type x timestamp droppable body out)
    (either out (leb (length body) 16777215) _ _ (sending_leaves (media type timestamp x.0 droppable body) out) (sent_left BodyTooLong refl))

-- ---- a ping
ping_room : (time n : ℕ) (after out : List ℕ) (b : Bool) → SendLeaves {A = PingSent} out (ping_of time (room n after out b).0, (room n after out b).1)
ping_room time n after out true = sent_left NoRoom refl
ping_room time n after out false = sent_done _ refl

pinged_leaves : (time : ℕ) (out : List ℕ) → SendLeaves {A = PingSent} out (pinged time out)
unfolding sent
pinged_leaves time out = ping_room time (length (ping_request time)) (front (ping_request time) out) out (ltb (length out) (length (ping_request time)))

pub ping_leaves : (s : Session) (clock : ℕ) (out : List ℕ) → SendLeaves {A = PingSent} out (sends_ping s clock out)
unfolding sends_ping
ping_leaves s clock out = either out (session_sound s) _ _ (pinged_leaves (time_of s.start clock) out) (sent_left BadSession refl)

-- ---- with 0: the count is the sum of the records' lengths, and the bytes past it stay
send_count : (m n : ℕ) (after out : List ℕ) (b : Bool) → ok_or {E = Refusal} (room n after out b).0 NoRoom ≡ Ok m → (m ≡ n) × ((room n after out b).1 ≡ after)
send_count m n after out true e = absurd cc
send_count m n after out false e = (cc, refl)

pub sent_whole : (records out : List ℕ) (n : ℕ) → (sending records out).0 ≡ Ok n → (n ≡ length records) × ((sending records out).1 ≡ front records out)
unfolding sending sent
sent_whole records out n e = send_count n (length records) (front records out) out (ltb (length out) (length records)) e
