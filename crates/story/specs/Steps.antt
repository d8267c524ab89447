-- A call with all its inputs, and what it does: the answer that is told, and the next session.
use Rattle.std.specs.Prelude.{ℕ, Bool, List, [], Option, Some, None, Result, Ok, Err}
use Rattle.text.specs.Names.{empty_name}
use Rattle.text.specs.declared.ids.RequestId.{RequestId}
use Rattle.text.specs.declared.ids.StreamId.{StreamId}
use Rattle.text.specs.declared.names.Name.{Name}
use Rattle.metadata.specs.Metadata.{no_metadata}
use Rattle.metadata.specs.declared.metadata.StreamMetadata.{StreamMetadata}
use Rattle.wishes.specs.Outcome.{Outcome}
use Rattle.wishes.specs.declared.outcome.Refusal.{Refusal}
use Rattle.session.specs.declared.decision.Event.{Event}
use Rattle.session.specs.declared.session.Session.{Session}
use Rattle.sending.specs.Sends.{sends_media, sends_metadata, sends_ping}
use Rattle.sending.specs.declared.sends.PingSent.{PingSent}
use Rattle.streams.specs.declared.streams.Frame.{Frame}
use Rattle.replies.specs.declared.answer.Answer.{Answer}
use Rattle.messages.specs.Messages.{handle_media, handle_message}
use Rattle.messages.specs.declared.messages.MediaKind.{MediaKind}
use Rattle.calls.specs.Calls.{accepting, finishes, rejecting}

-- each public function but start, with its arguments: the clock and the lent buffer are part of the call
pub data Call : Type 0 where
  -- type, stream, timestamp, clock, body, out
  message : ℕ → StreamId → ℕ → ℕ → List ℕ → List ℕ → Call
  -- kind, stream, timestamp
  media : MediaKind → StreamId → ℕ → Call
  -- request, clock, out
  accept : RequestId → ℕ → List ℕ → Call
  -- request, code, description, clock, out
  reject : RequestId → List ℕ → List ℕ → ℕ → List ℕ → Call
  -- stream, clock, out
  finish : StreamId → ℕ → List ℕ → Call
  -- stream, metadata, clock, out
  send_metadata : StreamId → StreamMetadata → ℕ → List ℕ → Call
  -- stream, timestamp, droppable, body, out
  send_audio : StreamId → ℕ → Bool → List ℕ → List ℕ → Call
  send_video : StreamId → ℕ → Bool → List ℕ → List ℕ → Call
  -- clock, out
  send_ping : ℕ → List ℕ → Call

-- all that a caller sees of a step: the answer's fields, and the lent buffer afterwards
pub record Response : Type 0 where
  pub outcome : Outcome
  pub event : Option Event
  pub app : Name
  pub key : Name
  pub metadata : StreamMetadata
  pub count : ℕ
  pub timestamp : ℕ
  pub out : List ℕ

-- ---- what a function's answer does not have is empty; a function that hands no session back leaves it
abbrev pub answering : Answer × List ℕ → Response × Session
answering a =
    (record { outcome = a.0.outcome; event = a.0.event; app = a.0.app; key = a.0.key; metadata = a.0.metadata; count = a.0.count; timestamp = 0; out = a.1 }, a.0.session)

-- done or refused, with no event
abbrev pub plainly : Outcome → ℕ → ℕ → List ℕ → Response
plainly outcome count timestamp out = record { outcome = outcome; event = None; app = empty_name; key = empty_name; metadata = no_metadata; count = count; timestamp = timestamp; out = out }

abbrev pub shown : Result (Option Frame) Refusal → Response
shown (Ok (Some f)) = record { outcome = Ok tt; event = f.event; app = f.app; key = f.key; metadata = no_metadata; count = 0; timestamp = 0; out = [] }
shown (Ok None) = plainly (Ok tt) 0 0 []
shown (Err r) = plainly (Err r) 0 0 []

abbrev pub showing : Session → Result (Option Frame) Refusal → Response × Session
showing s a = (shown a, s)

abbrev pub sent_as : Result ℕ Refusal → List ℕ → Response
sent_as (Ok n) out = plainly (Ok tt) n 0 out
sent_as (Err r) out = plainly (Err r) 0 0 out

abbrev pub sending_of : Session → Result ℕ Refusal × List ℕ → Response × Session
sending_of s a = (sent_as a.0 a.1, s)

abbrev pub pinged_as : Result PingSent Refusal → List ℕ → Response
pinged_as (Ok p) out = plainly (Ok tt) p.count p.timestamp out
pinged_as (Err r) out = plainly (Err r) 0 0 out

abbrev pub pinging_of : Session → Result PingSent Refusal × List ℕ → Response × Session
pinging_of s a = (pinged_as a.0 a.1, s)

-- ---- a step is what the function's contract says of it: the contract of `handle_message` is
-- (result, out.new) ≡ handle_message session kind stream timestamp clock body out, and so on for each line
unfoldable pub step : Session → Call → Response × Session
step s (message type x timestamp clock body out) = answering (handle_message s type x timestamp clock body out)
step s (media kind x timestamp) = showing s (handle_media s kind x timestamp)
step s (accept n clock out) = answering (accepting s n clock out)
step s (reject n code description clock out) = answering (rejecting s n code description clock out)
step s (finish x clock out) = answering (finishes s x clock out)
step s (send_metadata x m clock out) = sending_of s (sends_metadata s x m clock out)
step s (send_audio x timestamp droppable body out) = sending_of s (sends_media 8 s x timestamp droppable body out)
step s (send_video x timestamp droppable body out) = sending_of s (sends_media 9 s x timestamp droppable body out)
step s (send_ping clock out) = pinging_of s (sends_ping s clock out)
