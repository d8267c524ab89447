-- Audio and video over the host's arrays.
use Rattle.std.specs.Prelude.{ℕ, Bool, List, Option, Some, None, Result, Ok, Err, eqb}
use Rattle.numbers.specs.Choose.{pick}
use Rattle.text.specs.Names.{empty_name}
use Rattle.text.specs.declared.ids.StreamId.{StreamId}
use Rattle.wishes.specs.Outcome.{number_of}
use Rattle.wishes.specs.declared.outcome.Refusal.{Refusal}
use Rattle.wishes.specs.declared.outcome.Refusal.TheVariants.{BadSession}
use Rattle.session.specs.State.{session_sound}
use Rattle.session.specs.declared.decision.Event.TheVariants.{AudioDataReceived, VideoDataReceived}
use Rattle.session.specs.declared.session.Session.{Session}
use Rattle.streams.specs.Streams.{frame_of}
use Rattle.streams.specs.declared.streams.Frame.{Frame}
use Rattle.messages.specs.Messages.{handle_media}
use Rattle.messages.specs.declared.messages.MediaKind.TheVariants.{Audio, Video}
use Rattle.image.specs.Image.{cell}
use Rattle.parts.specs.Parts.{event_numbers, media_shown}

-- the session's answer by the type byte: 8 audio, 9 video; "any other type is done and does nothing"
unfoldable pub media_of : ℕ → Session → StreamId → ℕ → Result (Option Frame) Refusal
media_of kind s x timestamp = pick (eqb kind 8) (handle_media s Audio x timestamp) (pick (eqb kind 9) (handle_media s Video x timestamp) (pick (session_sound s) (Ok None) (Err BadSession)))

abbrev pub FrameShown : Type 0
FrameShown = List ℕ × List (List ℕ)

-- the event's number and timestamp, the names; zeros where there is no event
abbrev pub frame_shown : Option Frame → FrameShown
frame_shown (Some f) = media_shown (cell (event_numbers f.event) 0) (cell (event_numbers f.event) 9) f.app f.key
frame_shown None = media_shown 0 0 empty_name empty_name

abbrev pub media_told : Result (Option Frame) Refusal → ℕ × FrameShown
media_told (Ok f) = (0, frame_shown f)
media_told (Err why) = (number_of (Err why), frame_shown None)

unfoldable pub hosted_media : Bool → Result (Option Frame) Refusal → ℕ × FrameShown
hosted_media fine a = pick fine (media_told a) (media_told (Err BadSession))

-- behind the door: the frame by the type byte
unfoldable pub frame_by : ℕ → Session → StreamId → ℕ → Option Frame
frame_by kind s x timestamp = pick (eqb kind 8) (frame_of s x (Some (AudioDataReceived timestamp))) (pick (eqb kind 9) (frame_of s x (Some (VideoDataReceived timestamp))) None)
