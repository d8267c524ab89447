-- The sends: the door, then the records. The session stays as it is.
use Rattle.std.specs.Prelude.{ℕ, Bool, true, List, Option, Some, None, Result, Ok, Err, leb, length}
use Rattle.numbers.specs.Choose.{pick}
use Rattle.text.specs.declared.ids.StreamId.{StreamId}
use Rattle.text.specs.declared.names.Name.{Name}
use Rattle.record.specs.Clock.{time_of}
use Rattle.record.specs.Records.{media, ping_request}
use Rattle.metadata.specs.Writing.{metadata_record}
use Rattle.metadata.specs.declared.metadata.StreamMetadata.{StreamMetadata}
use Rattle.answers.specs.Sending.{sent}
use Rattle.wishes.specs.declared.outcome.Refusal.{Refusal}
use Rattle.wishes.specs.declared.outcome.Refusal.TheVariants.{BadSession, BodyTooLong, NameTooLong, NoRoom}
use Rattle.session.specs.State.{session_sound}
use Rattle.session.specs.declared.session.Session.{Session}
use Rattle.sending.specs.Answers.{sending}
use Rattle.sending.specs.declared.sends.PingSent.{PingSent}

-- "Order: 15; 1; .."
unfoldable pub guarded_send : Session → List ℕ → Result ℕ Refusal × List ℕ → Result ℕ Refusal × List ℕ
guarded_send s out a = pick (session_sound s) a (Err BadSession, out)

-- an encoder counts where one is set
abbrev pub encoder_fits : Option Name → Bool
encoder_fits (Some e) = leb e.len 128
encoder_fits None = true

-- 6: "metadata encoder that the step would .. send is over 128 bytes"
unfoldable pub metadata_sent : StreamId → StreamMetadata → ℕ → List ℕ → Result ℕ Refusal × List ℕ
metadata_sent x m time out = pick (encoder_fits m.encoder) (sending (metadata_record m time x.0) out) (Err NameTooLong, out)

abbrev pub sends_metadata : Session → StreamId → StreamMetadata → ℕ → List ℕ → Result ℕ Refusal × List ℕ
sends_metadata s x m clock out = guarded_send s out (metadata_sent x m (time_of s.start clock) out)

-- 1: "or over 16,777,215 in an audio or video send". "The video send is send_audio_data with type 9."
unfoldable pub media_sent : ℕ → StreamId → ℕ → Bool → List ℕ → List ℕ → Result ℕ Refusal × List ℕ
media_sent type x timestamp droppable body out = pick (leb (length body) 16777215) (sending (media type timestamp x.0 droppable body) out) (Err BodyTooLong, out)

abbrev pub sends_media : ℕ → Session → StreamId → ℕ → Bool → List ℕ → List ℕ → Result ℕ Refusal × List ℕ
sends_media type s x timestamp droppable body out = guarded_send s out (media_sent type x timestamp droppable body out)

-- "A ping request is event 6 with the record's own timestamp as its four bytes, and also hands that number back."
abbrev pub ping_of : ℕ → Option ℕ → Result PingSent Refusal
ping_of time (Some n) = Ok (record { count = n; timestamp = time })
ping_of time None = Err NoRoom

abbrev pub pinged : ℕ → List ℕ → Result PingSent Refusal × List ℕ
pinged time out = (ping_of time (sent (ping_request time) out).0, (sent (ping_request time) out).1)

unfoldable pub sends_ping : Session → ℕ → List ℕ → Result PingSent Refusal × List ℕ
sends_ping s clock out = pick (session_sound s) (pinged (time_of s.start clock) out) (Err BadSession, out)
