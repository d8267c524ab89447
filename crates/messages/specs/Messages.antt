-- Messages that come in: the door, then read, decide and write.
use Rattle.std.specs.Prelude.{ℕ, List, [], Option, Some, None, Result, Ok, Err, eqb}
use Rattle.numbers.specs.Choose.{pick}
use Rattle.text.specs.declared.ids.StreamId.{StreamId}
use Rattle.metadata.specs.Metadata.{no_metadata}
use Rattle.wishes.specs.Commands.{command_wish}
use Rattle.wishes.specs.Control.{control_wish}
use Rattle.wishes.specs.DataFrame.{data_wish}
use Rattle.wishes.specs.declared.outcome.Refusal.{Refusal}
use Rattle.wishes.specs.declared.outcome.Refusal.TheVariants.{BadSession}
use Rattle.wishes.specs.declared.wish.Wish.{Wish}
use Rattle.session.specs.State.{session_sound}
use Rattle.session.specs.declared.decision.Event.{Event}
use Rattle.session.specs.declared.decision.Event.TheVariants.{AudioDataReceived, VideoDataReceived}
use Rattle.session.specs.declared.session.Session.{Session}
use Rattle.streams.specs.Streams.{frame_of}
use Rattle.streams.specs.declared.streams.Frame.{Frame}
use Rattle.steps.specs.Deciding.{decided}
use Rattle.replies.specs.Answers.{idle, refusal}
use Rattle.replies.specs.Finishing.{finishing}
use Rattle.replies.specs.declared.answer.Answer.{Answer}
use Rattle.messages.specs.declared.messages.MediaKind.{MediaKind}
use Rattle.messages.specs.declared.messages.MediaKind.TheVariants.{Audio, Video}

-- "Order: 15; 1; .."
unfoldable pub guarded : Session → List ℕ → Answer × List ℕ → Answer × List ℕ
guarded s out a = pick (session_sound s) a (refusal BadSession s, out)

abbrev pub wished : Session → StreamId → ℕ → List ℕ → Result Wish Refusal → Answer × List ℕ
wished s x clock out w = finishing s (decided s x w) [] [] clock out

abbrev pub frame_answer : Session → Option Frame → Answer
frame_answer s None = idle s 0
frame_answer s (Some f) = record { outcome = Ok tt; event = f.event; app = f.app; key = f.key; metadata = no_metadata; count = 0; session = s }

-- "The type alone picks the treatment: 4 user control, 8 audio, 9 video, 18 data, 20 command; any other type is done and does nothing."
unfoldable pub by_type : Session → ℕ → StreamId → ℕ → ℕ → List ℕ → List ℕ → Answer × List ℕ
by_type s type x timestamp clock body out =
    pick (eqb type 4) (wished s x clock out (control_wish body))
    (pick (eqb type 8) (frame_answer s (frame_of s x (Some (AudioDataReceived timestamp))), out)
    (pick (eqb type 9) (frame_answer s (frame_of s x (Some (VideoDataReceived timestamp))), out)
    (pick (eqb type 18) (wished s x clock out (data_wish body))
    (pick (eqb type 20) (wished s x clock out (command_wish body))
    (idle s 0, out)))))

abbrev pub handle_message : Session → ℕ → StreamId → ℕ → ℕ → List ℕ → List ℕ → Answer × List ℕ
handle_message s type x timestamp clock body out = guarded s out (by_type s type x timestamp clock body out)

-- ---- audio and video alone, where the session stays
abbrev pub media_event : MediaKind → ℕ → Event
media_event Audio timestamp = AudioDataReceived timestamp
media_event Video timestamp = VideoDataReceived timestamp

unfoldable pub handle_media : Session → MediaKind → StreamId → ℕ → Result (Option Frame) Refusal
handle_media s kind x timestamp = pick (session_sound s) (Ok (frame_of s x (Some (media_event kind timestamp)))) (Err BadSession)
