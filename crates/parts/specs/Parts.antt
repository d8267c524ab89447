-- The parts of an answer as numbers and bytes.
use Rattle.std.specs.Prelude.{ℕ, ◌%◌, List, [], ◌∷◌, Option, Some, None, Err, eqb, is_some, map, option_map, Float}
use Rattle.std.specs.Option.{unwrap_or}
use Rattle.std.specs.Float.{binary32, binary64}
use Rattle.std.specs.Float.Ieee.{of_bits, to_bits}
use Rattle.numbers.specs.Choose.{pick}
use Rattle.numbers.specs.Single.{convert, recode}
use Rattle.numbers.specs.declared.play.PlayStartValue.{PlayStartValue}
use Rattle.numbers.specs.declared.play.PlayStartValue.TheVariants.{LiveOrRecorded, LiveOnly, StartTimeInSeconds}
use Rattle.text.specs.Names.{empty_name}
use Rattle.text.specs.declared.names.Name.{Name}
use Rattle.metadata.specs.declared.metadata.StreamMetadata.{StreamMetadata}
use Rattle.wishes.specs.Outcome.{Outcome, number_of}
use Rattle.wishes.specs.declared.outcome.Action.{Action}
use Rattle.wishes.specs.declared.outcome.Action.TheVariants.{Publish, Play, Complete}
use Rattle.wishes.specs.declared.outcome.Refusal.TheVariants.{WrongStream}
use Rattle.session.specs.declared.decision.Event.{Event}
use Rattle.session.specs.declared.decision.Event.TheVariants.{ConnectionRequested, PublishStreamRequested, PlayStreamRequested, PublishStreamFinished, PlayStreamFinished, StreamMetadataChanged, AudioDataReceived, VideoDataReceived, PingResponseReceived}
use Rattle.image.specs.Cases.{flag_number, mode_number}
use Rattle.image.specs.Image.{cell}

-- ---- what refusal 11 names: 1 publish, 2 play, 3 complete, and the stream; zeros of any other outcome
abbrev pub action_number : Action → ℕ
action_number Publish = 1
action_number Play = 2
action_number Complete = 3

abbrev pub named_by : Outcome → List ℕ
named_by (Err (WrongStream action stream)) = action_number action ∷ stream.0 ∷ []
named_by _ = 0 ∷ 0 ∷ []

-- ---- an event: its number, request, mode, start's kind and time, whether there is a duration and how long, reset, stream, timestamp; what it does not use is 0
abbrev pub plain_event : ℕ → ℕ → ℕ → ℕ → List ℕ
plain_event what request mode timestamp = what ∷ request ∷ mode ∷ 0 ∷ 0 ∷ 0 ∷ 0 ∷ 0 ∷ 0 ∷ timestamp ∷ []

-- 0 live or recorded, 1 live only, 2 from a time on
abbrev pub start_numbers : PlayStartValue → List ℕ
start_numbers LiveOrRecorded = 0 ∷ 0 ∷ []
start_numbers LiveOnly = 1 ∷ 0 ∷ []
start_numbers (StartTimeInSeconds n) = 2 ∷ n ∷ []

-- 0 no limit, 1 so many seconds
abbrev pub duration_numbers : Option ℕ → List ℕ
duration_numbers None = 0 ∷ 0 ∷ []
duration_numbers (Some n) = 1 ∷ n ∷ []

abbrev pub event_numbers : Option Event → List ℕ
event_numbers None = plain_event 0 0 0 0
event_numbers (Some (ConnectionRequested request)) = plain_event 1 request.0 0 0
event_numbers (Some (PublishStreamRequested request mode)) = plain_event 2 request.0 (mode_number mode) 0
event_numbers (Some (PlayStreamRequested request start duration reset stream)) =
    3 ∷ request.0 ∷ 0 ∷ cell (start_numbers start) 0 ∷ cell (start_numbers start) 1 ∷ cell (duration_numbers duration) 0 ∷ cell (duration_numbers duration) 1 ∷ flag_number reset ∷ stream.0 ∷ 0 ∷ []
event_numbers (Some PublishStreamFinished) = plain_event 4 0 0 0
event_numbers (Some PlayStreamFinished) = plain_event 5 0 0 0
event_numbers (Some StreamMetadataChanged) = plain_event 6 0 0 0
event_numbers (Some (AudioDataReceived timestamp)) = plain_event 7 0 0 timestamp
event_numbers (Some (VideoDataReceived timestamp)) = plain_event 8 0 0 timestamp
event_numbers (Some (PingResponseReceived timestamp)) = plain_event 9 0 0 timestamp

-- ---- metadata: a row of which are set, and a row of values, of the encoder its length; the frame rate as the single's bits
abbrev pub rate_number : Float → ℕ
rate_number rate = recode binary64 binary32 (to_bits binary64 rate)

unfoldable pub field_numbers : StreamMetadata → List (Option ℕ)
field_numbers m =
    m.video_width ∷ m.video_height ∷ m.video_codec_id ∷ m.video_bitrate_kbps ∷ option_map rate_number m.video_frame_rate
    ∷ m.audio_codec_id ∷ m.audio_bitrate_kbps ∷ m.audio_sample_rate ∷ m.audio_channels ∷ option_map flag_number m.audio_is_stereo
    ∷ option_map (λ (n : Name). n.len) m.encoder ∷ []

-- the value of a field that is not set is 0
unfoldable pub metadata_rows : StreamMetadata → List (List ℕ)
metadata_rows m = map (λ (n : Option ℕ). flag_number (is_some n)) (field_numbers m) ∷ map (λ (n : Option ℕ). unwrap_or n 0) (field_numbers m) ∷ []

-- and zeros are the bytes of no encoder
abbrev pub encoder_bytes : StreamMetadata → List ℕ
encoder_bytes m = (unwrap_or m.encoder empty_name).bytes

-- the same way back: a field is set where its flag is 1, whatever stands beside another flag; a number is taken modulo 2^32
abbrev pub given : {A : Type 0} → ℕ → A → Option A
given set x = pick (eqb set 1) (Some x) None

abbrev pub rate_of : ℕ → Float
rate_of n = convert binary32 (of_bits binary64 (recode binary32 binary64 (n % 4294967296)))

unfoldable pub metadata_of : List ℕ → List ℕ → List ℕ → StreamMetadata
metadata_of set values bytes =
    record {
      video_width = given (cell set 0) (cell values 0 % 4294967296);
      video_height = given (cell set 1) (cell values 1 % 4294967296);
      video_codec_id = given (cell set 2) (cell values 2 % 4294967296);
      video_bitrate_kbps = given (cell set 3) (cell values 3 % 4294967296);
      video_frame_rate = given (cell set 4) (rate_of (cell values 4));
      audio_codec_id = given (cell set 5) (cell values 5 % 4294967296);
      audio_bitrate_kbps = given (cell set 6) (cell values 6 % 4294967296);
      audio_sample_rate = given (cell set 7) (cell values 7 % 4294967296);
      audio_channels = given (cell set 8) (cell values 8 % 4294967296);
      audio_is_stereo = given (cell set 9) (eqb (cell values 9) 1);
      encoder = given (cell set 10) (record { bytes = bytes; len = cell values 10 });
    }

-- ---- all of an answer: outcome, what 11 names, bytes written, the event, the lengths of app and key
unfoldable pub answer_numbers : Outcome → Option Event → ℕ → ℕ → ℕ → List ℕ
answer_numbers outcome event app key count =
    let o = named_by outcome in
    let e = event_numbers event in
    number_of outcome ∷ cell o 0 ∷ cell o 1 ∷ count ∷ cell e 0 ∷ cell e 1 ∷ cell e 2 ∷ cell e 3 ∷ cell e 4 ∷ cell e 5 ∷ cell e 6 ∷ cell e 7 ∷ cell e 8 ∷ cell e 9 ∷ app ∷ key ∷ []

abbrev pub Shown : Type 0
Shown = List ℕ × (List (List ℕ) × List (List ℕ))

unfoldable pub shown_parts : Outcome → Option Event → Name → Name → StreamMetadata → ℕ → Shown
shown_parts outcome event app key metadata count = (answer_numbers outcome event app.len key.len count, (metadata_rows metadata, app.bytes ∷ key.bytes ∷ encoder_bytes metadata ∷ []))

-- ---- of a frame
unfoldable pub media_shown : ℕ → ℕ → Name → Name → List ℕ × List (List ℕ)
media_shown what timestamp app key = (what ∷ timestamp ∷ app.len ∷ key.len ∷ [], app.bytes ∷ key.bytes ∷ [])
