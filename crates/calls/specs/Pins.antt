-- The starred pins of the bench plate, computed: one table and one claim.
use Rattle.std.specs.Prelude.{◌≡◌, refl, ℕ, List, [], ◌∷◌, Option, Some, None, Ok}
use Rattle.std.specs.Float.{binary32, binary64}
use Rattle.std.specs.Float.Ieee.{of_bits, to_bits, round, eq, lt, le, is_nan}
use Rattle.numbers.specs.Fields.{front}
use Rattle.numbers.specs.Pins.{as_whole}
use Rattle.numbers.specs.Play.{duration_of, start_of}
use Rattle.numbers.specs.Single.{convert, recode}
use Rattle.numbers.specs.Whole.{u32_of, whole_of}
use Rattle.numbers.specs.declared.play.PlayStartValue.{PlayStartValue}
use Rattle.numbers.specs.declared.play.PlayStartValue.TheVariants.{LiveOrRecorded, StartTimeInSeconds}
use Rattle.text.specs.Names.{empty_name, name_of}
use Rattle.text.specs.Words.{same, text}
use Rattle.text.specs.declared.ids.RequestId.{RequestId}
use Rattle.text.specs.declared.ids.StreamId.{StreamId}
use Rattle.text.specs.declared.words.PublishMode.TheVariants.{Live}
use Rattle.record.specs.Clock.{time_of}
use Rattle.tables.specs.Tables.{change, changed, look, remove, removed}
use Rattle.tables.specs.declared.streams.Stream.{Stream}
use Rattle.tables.specs.declared.streams.StreamState.{StreamState}
use Rattle.tables.specs.declared.streams.StreamState.TheVariants.{Publishing}
use Rattle.wishes.specs.Connect.{without_slash}
use Rattle.wishes.specs.Outcome.{number_of}
use Rattle.session.specs.Changes.{applied}
use Rattle.session.specs.Desk.{desk_of}
use Rattle.session.specs.State.{connected, fresh_session, stream_of, with_changed, with_request, with_stream, without_request, without_stream}
use Rattle.session.specs.declared.decision.Decision.{Decision}
use Rattle.session.specs.declared.desk.Desk.{Desk}
use Rattle.session.specs.declared.session.Session.{Session}
use Rattle.streams.specs.Streams.{close_stream, create_stream, delete_stream, on_stream}
use Rattle.steps.specs.Commands.{connect, publish, request_room}
use Rattle.decisions.specs.Answers.{accepted, accept_request}

pub data Pin : Type 0 where
  name : List ℕ → Pin
  start : PlayStartValue → Pin
  duration : Option ℕ → Pin
  number : ℕ → Pin
  state : StreamState → Pin
  missing : Pin

-- ---- a session with stream 1, and a publish of "pin7" that waits as request 1
abbrev pub stream1 : StreamId
stream1 = record { 0 = 1 }

abbrev pub request0 : RequestId
request0 = record { 0 = 0 }

abbrev pub request1 : RequestId
request1 = record { 0 = 1 }

-- the session after a message's decision, stream 1 in question; and after an accept
unfoldable pub told : Session → (Desk → Decision) → Session
told s f = applied s (f (desk_of s stream1)).change

unfoldable pub granted : Session → RequestId → Session
granted s id = applied s (accepted s id).change

unfoldable pub asked : Session
asked = told (fresh_session 0 empty_name) (λ (d : Desk). connect d 0 0 (Some (name_of (text "live"))))

unfoldable pub made : Session
made = told (granted asked request0) (λ (d : Desk). create_stream d 0)

unfoldable pub waiting : Session
waiting = told made (λ (d : Desk). publish d stream1 0 (Ok (record { mode = Live; key = Some (name_of (text "pin7")) })))

-- the publish accepted after a delete, and once more; and after a close
unfoldable pub deleted : Session
deleted = told waiting delete_stream

unfoldable pub closed : Session
closed = told waiting close_stream

abbrev pub state_of : Option Stream → Pin
state_of (Some e) = state e.state
state_of None = missing

unfoldable pub plate : List Pin
plate =
    name (without_slash (text "live//"))
    ∷ name (without_slash (text "/"))
    ∷ start (start_of 0x8000000000000000)
    ∷ start (start_of 0xBFE0000000000000)
    ∷ duration (duration_of 0x7FF8000000000000)
    ∷ number (u32_of 0x41F0000000000000)
    ∷ number (u32_of 0x3FECCCCCCCCCCCCD)
    ∷ number (as_whole (recode binary64 binary32 0x4170000010000000))
    ∷ number (as_whole (recode binary64 binary32 0x4170000030000000))
    ∷ number (number_of (accepted deleted request1).outcome)
    ∷ number (number_of (accepted (granted deleted request1) request1).outcome)
    ∷ state_of (stream_of (granted closed request1) 1)
    ∷ number (time_of 9 5)
    ∷ []

-- "live//" gives "live/"; "/" gives ""; start -0.0 gives 0 seconds; start -0.5 gives LiveOrRecorded; duration NaN gives none; 4294967296.0 gives 4294967295; 0.9 gives 0;
-- 16777217 as single gives 16777216; 16777219 gives 16777220; publish accepted after delete: 11, then 10; publish, close, accept: Publishing; clock 5 with start 9: 0
pub plate_is : plate
    ≡ name (text "live/")
    ∷ name []
    ∷ start (StartTimeInSeconds 0)
    ∷ start LiveOrRecorded
    ∷ duration None
    ∷ number 4294967295
    ∷ number 0
    ∷ number 16777216
    ∷ number 16777220
    ∷ number 11
    ∷ number 10
    ∷ state Publishing
    ∷ number 0
    ∷ []
unfolding plate told granted asked made waiting deleted closed applied desk_of without_slash same start_of duration_of u32_of whole_of recode convert of_bits to_bits round eq lt le is_nan name_of front time_of look change remove changed removed accept_request request_room connected with_changed with_request with_stream without_request without_stream create_stream on_stream
plate_is = refl
