-- The names of events, and of the actions that 11 names: "names the action (publish, play, complete) and the stream".
use Rattle.std.specs.Prelude.{ℕ, List, [], Option, Some, None}
use Rattle.std.specs.Option.{unwrap_or}
use Rattle.text.specs.Names.{empty_name, name_read}
use Rattle.text.specs.Words.{text}
use Rattle.text.specs.declared.names.Name.{Name}
use Rattle.wishes.specs.declared.outcome.Action.{Action}
use Rattle.wishes.specs.declared.outcome.Action.TheVariants.{Publish, Play, Complete}
use Rattle.session.specs.declared.decision.Event.{Event}
use Rattle.session.specs.declared.decision.Event.TheVariants.{ConnectionRequested, PublishStreamRequested, PlayStreamRequested, PublishStreamFinished, PlayStreamFinished, StreamMetadataChanged, AudioDataReceived, VideoDataReceived, PingResponseReceived}

-- a short text as a name
abbrev pub word_of : List ℕ → Name
word_of t = unwrap_or (name_read t) empty_name

-- no event has the empty name
abbrev pub event_text : Option Event → List ℕ
event_text None = []
event_text (Some (ConnectionRequested request)) = text "ConnectionRequested"
event_text (Some (PublishStreamRequested request mode)) = text "PublishStreamRequested"
event_text (Some (PlayStreamRequested request start duration reset stream)) = text "PlayStreamRequested"
event_text (Some PublishStreamFinished) = text "PublishStreamFinished"
event_text (Some PlayStreamFinished) = text "PlayStreamFinished"
event_text (Some StreamMetadataChanged) = text "StreamMetadataChanged"
event_text (Some (AudioDataReceived timestamp)) = text "AudioDataReceived"
event_text (Some (VideoDataReceived timestamp)) = text "VideoDataReceived"
event_text (Some (PingResponseReceived timestamp)) = text "PingResponseReceived"

abbrev pub action_text : Action → List ℕ
action_text Publish = text "publish"
action_text Play = text "play"
action_text Complete = text "complete"
