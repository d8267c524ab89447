-- What a call is about, read from the call alone: a message as the session reads it.
use Rattle.std.specs.Prelude.{ℕ, Bool, List, Option, Some, None, Result, eqb}
use Rattle.numbers.specs.Choose.{pick}
use Rattle.text.specs.declared.ids.RequestId.{RequestId}
use Rattle.text.specs.declared.ids.StreamId.{StreamId}
use Rattle.wishes.specs.Commands.{command_wish}
use Rattle.wishes.specs.Control.{control_wish}
use Rattle.wishes.specs.DataFrame.{data_wish}
use Rattle.wishes.specs.declared.outcome.Refusal.{Refusal}
use Rattle.wishes.specs.declared.wish.Wish.{Wish}
use Rattle.session.specs.declared.decision.Event.{Event}
use Rattle.session.specs.declared.decision.Event.TheVariants.{AudioDataReceived, VideoDataReceived}
use Rattle.replies.specs.Replies.{short}
use Rattle.messages.specs.Messages.{media_event}
use Rattle.story.specs.Steps.{Call, accept, finish, media, message, reject, send_audio, send_metadata, send_ping, send_video}

pub data Doing : Type 0 where
  -- a user control, data or command message on a stream, and what it wants, or why it can't be read
  Wants : StreamId → Result Wish Refusal → Doing
  -- audio or video on a stream, and the event that it may raise
  Shows : StreamId → Event → Doing
  -- a message of another type
  Rests : Doing
  Accepts : RequestId → Doing
  -- with whether code and description are short enough
  Rejects : RequestId → Bool → Doing
  Finishes : StreamId → Doing
  -- a send, on a stream or on none
  Sends : Option ℕ → Doing

-- "The type alone picks the treatment: 4 user control, 8 audio, 9 video, 18 data, 20 command; any other type is done and does nothing."
unfoldable pub message_doing : ℕ → StreamId → ℕ → List ℕ → Doing
message_doing type x timestamp body =
    pick (eqb type 4) (Wants x (control_wish body))
    (pick (eqb type 8) (Shows x (AudioDataReceived timestamp))
    (pick (eqb type 9) (Shows x (VideoDataReceived timestamp))
    (pick (eqb type 18) (Wants x (data_wish body))
    (pick (eqb type 20) (Wants x (command_wish body))
    Rests))))

abbrev pub doing : Call → Doing
doing (message type x timestamp clock body out) = message_doing type x timestamp body
doing (media kind x timestamp) = Shows x (media_event kind timestamp)
doing (accept n clock out) = Accepts n
doing (reject n code description clock out) = Rejects n (short code description)
doing (finish x clock out) = Finishes x
doing (send_metadata x m clock out) = Sends (Some x.0)
doing (send_audio x timestamp droppable body out) = Sends (Some x.0)
doing (send_video x timestamp droppable body out) = Sends (Some x.0)
doing (send_ping clock out) = Sends None
