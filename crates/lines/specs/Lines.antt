-- What a trace writes of an answer: its code, what 11 names, and the event with its fields.
use Rattle.std.specs.Prelude.{ℕ, Bool, List, [], ◌++◌, Float, Option, Some, None, Ok, Err}
use Rattle.std.specs.Float.{binary32, binary64}
use Rattle.std.specs.Float.Ieee.{to_bits}
use Rattle.numbers.specs.Fields.{bytes_of}
use Rattle.numbers.specs.Single.{recode}
use Rattle.numbers.specs.declared.play.PlayStartValue.{PlayStartValue}
use Rattle.text.specs.Words.{text}
use Rattle.text.specs.declared.ids.RequestId.{RequestId}
use Rattle.text.specs.declared.ids.StreamId.{StreamId}
use Rattle.text.specs.declared.names.Name.{Name}
use Rattle.text.specs.declared.words.PublishMode.{PublishMode}
use Rattle.metadata.specs.declared.metadata.StreamMetadata.{StreamMetadata}
use Rattle.wishes.specs.Outcome.{Outcome, number_of}
use Rattle.wishes.specs.declared.outcome.Action.{Action}
use Rattle.wishes.specs.declared.outcome.Refusal.TheVariants.{BodyTooLong, NotAmf0, TooDeep, NoCommand, NoApp, NameTooLong, RequestsFull, NumbersUsedUp, StreamsFull, NoSuchRequest, WrongStream, NoRoom, TextTooLong, BadConfig, BadSession}
use Rattle.session.specs.Names.{action_text}
use Rattle.session.specs.declared.decision.Event.{Event}
use Rattle.session.specs.declared.decision.Event.TheVariants.{ConnectionRequested, PublishStreamRequested, PlayStreamRequested, PublishStreamFinished, PlayStreamFinished, StreamMetadataChanged, AudioDataReceived, VideoDataReceived, PingResponseReceived}
use Rattle.spelling.specs.Text.{hex_of, name_field, number_field}
use Rattle.spelling.specs.Words.{duration_text, flag_text, mode_text, start_text}

-- "ACTION (publish, play or complete) and STREAM follow 11 alone."
abbrev pub wrong_text : Action → StreamId → List ℕ
wrong_text action stream = text " " ++ (action_text action ++ number_field (text " ") stream.0)

abbrev pub named_text : Outcome → List ℕ
named_text (Ok u) = []
named_text (Err BodyTooLong) = []
named_text (Err NotAmf0) = []
named_text (Err TooDeep) = []
named_text (Err NoCommand) = []
named_text (Err NoApp) = []
named_text (Err NameTooLong) = []
named_text (Err RequestsFull) = []
named_text (Err NumbersUsedUp) = []
named_text (Err StreamsFull) = []
named_text (Err NoSuchRequest) = []
named_text (Err (WrongStream action stream)) = wrong_text action stream
named_text (Err NoRoom) = []
named_text (Err TextTooLong) = []
named_text (Err BadConfig) = []
named_text (Err BadSession) = []

-- "CODE is document 01's number."
unfoldable pub outcome_text : Outcome → List ℕ
outcome_text o = number_field (text " ") (number_of o) ++ named_text o

-- ---- "each set field under its property's name in document 01's order"
abbrev pub number_text : List ℕ → Option ℕ → List ℕ
number_text name (Some n) = number_field name n
number_text name None = []

-- "framerate is the single's eight hex digits."
abbrev pub rate_text : Option Float → List ℕ
rate_text (Some rate) = text " framerate=" ++ hex_of (bytes_of 4 (recode binary64 binary32 (to_bits binary64 rate)))
rate_text None = []

abbrev pub stereo_text : Option Bool → List ℕ
stereo_text (Some stereo) = text " stereo=" ++ flag_text stereo
stereo_text None = []

abbrev pub encoder_text : Option Name → List ℕ
encoder_text (Some encoder) = name_field (text " encoder=") encoder
encoder_text None = []

unfoldable pub video_text : StreamMetadata → List ℕ
video_text m =
    number_text (text " width=") m.video_width
    ++ (number_text (text " height=") m.video_height
    ++ (number_text (text " videocodecid=") m.video_codec_id
    ++ (number_text (text " videodatarate=") m.video_bitrate_kbps
    ++ rate_text m.video_frame_rate)))

unfoldable pub audio_text : StreamMetadata → List ℕ
audio_text m =
    number_text (text " audiocodecid=") m.audio_codec_id
    ++ (number_text (text " audiodatarate=") m.audio_bitrate_kbps
    ++ (number_text (text " audiosamplerate=") m.audio_sample_rate
    ++ (number_text (text " audiochannels=") m.audio_channels
    ++ stereo_text m.audio_is_stereo)))

unfoldable pub metadata_text : StreamMetadata → List ℕ
metadata_text m = video_text m ++ (audio_text m ++ encoder_text m.encoder)

-- ---- the events
unfoldable pub names_text : Name → Name → List ℕ
names_text app key = name_field (text " app=") app ++ name_field (text " key=") key

unfoldable pub connect_text : RequestId → Name → List ℕ
connect_text request app = number_field (text " ConnectionRequested request=") request.0 ++ name_field (text " app=") app

unfoldable pub publish_text : RequestId → Name → Name → PublishMode → List ℕ
publish_text request app key mode = number_field (text " PublishStreamRequested request=") request.0 ++ (names_text app key ++ (text " mode=" ++ mode_text mode))

unfoldable pub range_text : PlayStartValue → Option ℕ → Bool → List ℕ
range_text start duration reset = text " start=" ++ (start_text start ++ (text " duration=" ++ (duration_text duration ++ (text " reset=" ++ flag_text reset))))

unfoldable pub play_text : RequestId → Name → Name → PlayStartValue → Option ℕ → Bool → StreamId → List ℕ
play_text request app key start duration reset stream = number_field (text " PlayStreamRequested request=") request.0 ++ (names_text app key ++ (range_text start duration reset ++ number_field (text " stream=") stream.0))

unfoldable pub finished_text : List ℕ → Name → Name → List ℕ
finished_text name app key = name ++ names_text app key

unfoldable pub described_text : Name → Name → StreamMetadata → List ℕ
described_text app key m = finished_text (text " StreamMetadataChanged") app key ++ metadata_text m

unfoldable pub frame_text : List ℕ → Name → Name → ℕ → ℕ → List ℕ
frame_text name app key timestamp len = finished_text name app key ++ (number_field (text " timestamp=") timestamp ++ number_field (text " length=") len)

-- "An event's name is the Rust's, and its fields follow in the order below."
abbrev pub event_line : Option Event → Name → Name → StreamMetadata → ℕ → List ℕ
event_line None app key m len = []
event_line (Some (ConnectionRequested request)) app key m len = connect_text request app
event_line (Some (PublishStreamRequested request mode)) app key m len = publish_text request app key mode
event_line (Some (PlayStreamRequested request start duration reset stream)) app key m len = play_text request app key start duration reset stream
event_line (Some PublishStreamFinished) app key m len = finished_text (text " PublishStreamFinished") app key
event_line (Some PlayStreamFinished) app key m len = finished_text (text " PlayStreamFinished") app key
event_line (Some StreamMetadataChanged) app key m len = described_text app key m
event_line (Some (AudioDataReceived timestamp)) app key m len = frame_text (text " AudioDataReceived") app key timestamp len
event_line (Some (VideoDataReceived timestamp)) app key m len = frame_text (text " VideoDataReceived") app key timestamp len
event_line (Some (PingResponseReceived timestamp)) app key m len = number_field (text " PingResponseReceived timestamp=") timestamp
