-- The codes and texts of the source, each named once.
use Rattle.std.specs.Prelude.{ℕ, List}
use Rattle.text.specs.Words.{text}

-- ---- command and data names
abbrev pub the_result : List ℕ
the_result = text "_result"

abbrev pub the_error : List ℕ
the_error = text "_error"

abbrev pub the_status : List ℕ
the_status = text "onStatus"

abbrev pub the_bWDone : List ℕ
the_bWDone = text "onBWDone"

abbrev pub the_sample_access : List ℕ
the_sample_access = text "|RtmpSampleAccess"

-- ---- levels
abbrev pub level_status : List ℕ
level_status = text "status"

abbrev pub level_error : List ℕ
level_error = text "error"

-- ---- codes
abbrev pub connect_success : List ℕ
connect_success = text "NetConnection.Connect.Success"

abbrev pub publish_start : List ℕ
publish_start = text "NetStream.Publish.Start"

abbrev pub play_reset : List ℕ
play_reset = text "NetStream.Play.Reset"

abbrev pub play_start : List ℕ
play_start = text "NetStream.Play.Start"

abbrev pub play_complete : List ℕ
play_complete = text "NetStream.Play.Complete"

abbrev pub data_start : List ℕ
data_start = text "NetStream.Data.Start"

-- ---- descriptions; a name follows where they end with a blank
abbrev pub connected_on : List ℕ
connected_on = text "Successfully connected on app: "

abbrev pub publishing_on : List ℕ
publishing_on = text "Successfully started publishing on stream key "

abbrev pub playing_on : List ℕ
playing_on = text "Successfully started playback on stream key "

abbrev pub completed_for : List ℕ
completed_for = text "Stream playback is completed for "

abbrev pub reset_stream : List ℕ
reset_stream = text "Reset stream"
