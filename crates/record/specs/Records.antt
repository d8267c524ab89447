-- Outbound records as lists of bytes: document 01, "Outbound records".
use Rattle.std.specs.Prelude.{ℕ, Bool, false, List, [], ◌++◌, length}
use Rattle.numbers.specs.Choose.{pick}
use Rattle.numbers.specs.Fields.{bytes_of}
use Rattle.numbers.specs.Whole.{double_of}
use Rattle.text.specs.Words.{text}
use Rattle.amf0.specs.Grammar.{Properties, Row, boolean, done, none, null, number, object, property, string, value}
use Rattle.amf0.specs.Writing.{encode_of}
use Rattle.record.specs.Texts.{completed_for, connect_success, connected_on, data_start, level_error, level_status, play_complete, play_reset, play_start, playing_on, publish_start, publishing_on, reset_stream, the_bWDone, the_error, the_result, the_sample_access, the_status}

-- "type 1, length 3, timestamp 4, stream 4, flags 1"
unfoldable pub header : ℕ → ℕ → ℕ → ℕ → ℕ → List ℕ
header kind len time stream flags = bytes_of 1 kind ++ (bytes_of 3 len ++ (bytes_of 4 time ++ (bytes_of 4 stream ++ bytes_of 1 flags)))

-- "Thirteen bytes, then the body"
unfoldable pub record_of : ℕ → ℕ → ℕ → ℕ → List ℕ → List ℕ
record_of kind time stream flags body = header kind (length body) time stream flags ++ body

-- ---- "Only media sends may set bit 1; only start records set bit 0."
abbrev pub plain : ℕ
plain = 0

abbrev pub uncompressed : ℕ
uncompressed = 1

abbrev pub dropping : Bool → ℕ
dropping d = pick d 2 0

-- ---- protocol control: set chunk size, window, peer bandwidth (dynamic), and user control events
unfoldable pub chunk_size_record : ℕ → List ℕ
chunk_size_record n = record_of 1 0 0 uncompressed (bytes_of 4 n)

unfoldable pub window_size_record : ℕ → List ℕ
window_size_record n = record_of 5 0 0 uncompressed (bytes_of 4 n)

unfoldable pub peer_bandwidth_record : ℕ → List ℕ
peer_bandwidth_record n = record_of 6 0 0 uncompressed (bytes_of 4 n ++ bytes_of 1 2)

unfoldable pub user_control : ℕ → ℕ → ℕ → ℕ → ℕ → List ℕ
user_control event x time stream flags = record_of 4 time stream flags (bytes_of 2 event ++ bytes_of 4 x)

-- "StreamBegin": event 0 with the stream; on that stream, and at start on stream 0
abbrev pub stream_begin : ℕ → ℕ → ℕ → List ℕ
stream_begin stream time flags = user_control 0 stream time stream flags

-- "A ping request is event 6 with the record's own timestamp as its four bytes"
abbrev pub ping_request : ℕ → List ℕ
ping_request time = user_control 6 time time 0 plain

-- "event 6 is answered by event 7 with the same four bytes"
abbrev pub ping_response : ℕ → ℕ → List ℕ
ping_response x time = user_control 7 x time 0 plain

-- ---- commands (type 20) and data (type 18) as rows of AMF0 values

unfoldable pub command : ℕ → ℕ → ℕ → Row → List ℕ
command time stream flags vs = record_of 20 time stream flags (encode_of vs)

unfoldable pub data_record : ℕ → ℕ → Row → List ℕ
data_record time stream vs = record_of 18 time stream plain (encode_of vs)

-- "Objects are written in this order: level, code, description (then objectEncoding on connect)"
abbrev pub status_object : List ℕ → List ℕ → List ℕ → Properties → Properties
status_object level code description more =
    property (text "level") (string level) (property (text "code") (string code) (property (text "description") (string description) more))

-- a name, a transaction, null, and a status object
unfoldable pub status_row : List ℕ → ℕ → List ℕ → List ℕ → List ℕ → Row
status_row name transaction level code description = value (string name) (value (number transaction) (value null (value (object (status_object level code description none)) done)))

unfoldable pub status_record : List ℕ → List ℕ → ℕ → ℕ → List ℕ
status_record code description time stream = command time stream plain (status_row the_status 0 level_status code description)

-- "Error record: _error, transaction, null, status object of level error, on the message's stream."
unfoldable pub error_record : ℕ → List ℕ → List ℕ → ℕ → ℕ → List ℕ
error_record transaction code description time stream = command time stream plain (status_row the_error transaction level_error code description)

-- a name, a transaction, null and a number
unfoldable pub number_row : List ℕ → ℕ → ℕ → Row
number_row name transaction n = value (string name) (value (number transaction) (value null (value (number n) done)))

-- "answers _result, the transaction, null, the number, on stream 0"
unfoldable pub stream_created : ℕ → ℕ → ℕ → List ℕ
stream_created transaction n time = command time 0 plain (number_row the_result transaction (double_of n))

-- "With onBWDone (8192, 40C0000000000000)"
unfoldable pub bw_done : List ℕ
bw_done = command 0 0 uncompressed (number_row the_bWDone 0 0x40C0000000000000)

-- "command object fmsVer, capabilities 31"
unfoldable pub connected_row : ℕ → List ℕ → List ℕ → ℕ → Row
connected_row transaction version app encoding =
    value (string the_result)
    (value (number transaction)
    (value (object (property (text "fmsVer") (string version) (property (text "capabilities") (number 0x403F000000000000) none)))
    (value (object (status_object level_status connect_success (connected_on ++ app) (property (text "objectEncoding") (number encoding) none))) done)))

unfoldable pub connect_accepted : ℕ → List ℕ → List ℕ → ℕ → ℕ → List ℕ
connect_accepted transaction version app encoding time = command time 0 plain (connected_row transaction version app encoding)

unfoldable pub sample_access : ℕ → ℕ → List ℕ
sample_access time stream = data_record time stream (value (string the_sample_access) (value (boolean false) (value (boolean false) done)))

unfoldable pub data_started : ℕ → ℕ → List ℕ
data_started time stream = data_record time stream (value (string the_status) (value (object (property (text "code") (string data_start) none)) done))

-- ---- the records of an answer, one after the other

-- set chunk size, window, StreamBegin, peer bandwidth
unfoldable pub four_records : ℕ → ℕ → ℕ → List ℕ
four_records chunk window bandwidth = chunk_size_record chunk ++ (window_size_record window ++ (stream_begin 0 0 uncompressed ++ peer_bandwidth_record bandwidth))

-- and onBWDone where it is asked for
unfoldable pub start_records : ℕ → ℕ → ℕ → Bool → List ℕ
start_records chunk window bandwidth finish = four_records chunk window bandwidth ++ pick finish bw_done []

-- "Accepted publish: StreamBegin, onStatus."
unfoldable pub publish_accepted : List ℕ → ℕ → ℕ → List ℕ
publish_accepted key time stream = stream_begin stream time plain ++ status_record publish_start (publishing_on ++ key) time stream

-- "Accepted play: Reset, StreamBegin, Start, |RtmpSampleAccess, data onStatus."
unfoldable pub play_first : List ℕ → ℕ → ℕ → List ℕ
play_first key time stream = status_record play_reset reset_stream time stream ++ (stream_begin stream time plain ++ status_record play_start (playing_on ++ key) time stream)

unfoldable pub play_data : ℕ → ℕ → List ℕ
play_data time stream = sample_access time stream ++ data_started time stream

unfoldable pub play_accepted : List ℕ → ℕ → ℕ → List ℕ
play_accepted key time stream = play_first key time stream ++ play_data time stream

unfoldable pub play_finished : List ℕ → ℕ → ℕ → List ℕ
play_finished key time stream = status_record play_complete (completed_for ++ key) time stream

-- "The video send is send_audio_data with type 9"
unfoldable pub media : ℕ → ℕ → ℕ → Bool → List ℕ → List ℕ
media kind time stream droppable body = record_of kind time stream (dropping droppable) body
