-- Refusal 12: nothing is written, or all of it; and the lengths of what an answer sends.
use mathlib.Core.Path.{◌≡◌, sym, ap, ◌∙◌}
use Prim.Native.Nat.{ℕ, ◌+◌, ◌≤◌, ◌<◌}
use native.Mathlib.Omega.{arith}
use Rattle.std.specs.Prelude.{Option, Some, None}
use mathlib.Core.Bool.{Bool, true, false}
use mathlib.Core.List.{List, [], ◌++◌, append-nil, append_assoc}
use lib.ListN.{length, length-append}
use borrow.Author.Tests.{lt-ltb, le-ltb}
use Rattle.numbers.specs.Choose.{pick}
use Rattle.numbers.specs.Fields.{bytes_of, front, over}
use Rattle.numbers.specs.Whole.{double_of}
use Rattle.numbers.proofs.FieldsLaws.{front_two, length_bytes_of, over_zero}
use Rattle.text.specs.Words.{text}
use Rattle.amf0.specs.Grammar.{boolean, done, none, object, property, string, value}
use Rattle.amf0.specs.Writing.{encode_of, room}
use Rattle.amf0.proofs.WriteTheorems.{length_encode_of}
use Rattle.record.specs.Records.{bw_done, chunk_size_record, command, connect_accepted, connected_row, data_record, data_started, dropping, error_record, four_records, media, number_row, peer_bandwidth_record, play_accepted, play_data, play_finished, play_first, publish_accepted, record_of, sample_access, start_records, status_record, status_row, stream_created, user_control, window_size_record}
use Rattle.answers.specs.Sending.{sent}
use Rattle.record.specs.Texts.{completed_for, data_start, level_error, level_status, play_complete, play_reset, play_start, playing_on, publish_start, publishing_on, reset_stream, the_bWDone, the_error, the_result, the_sample_access, the_status}
use Rattle.record.proofs.RecordLaws.{length_record, two_lengths}
use Rattle.record.proofs.StatusLaws.{length_number, length_status}
use Rattle.record.proofs.ConnectLaws.{length_connected}

pub sent_no : (records out : List ℕ) (n : ℕ) → length records ≡ n → length out < n → ◌≡◌ {A = Option ℕ × List ℕ} (None, out) (sent records out)
unfolding sent
sent_no records out n l h = let g : length out < length records = omega arith in simp (lt-ltb (length out) (length records) g)

pub sent_yes : (records out after : List ℕ) (n : ℕ) → after ≡ front records out → length records ≡ n → n ≤ length out → ◌≡◌ {A = Option ℕ × List ℕ} (Some n, after) (sent records out)
unfolding sent
sent_yes records out after n f l h =
    let g : length records ≤ length out = omega arith in
    ap (λ (x : ℕ). (Some x, after)) (sym l) ∙ ap (λ (y : List ℕ). (Some (length records), y)) f ∙ simp (le-ltb (length out) (length records) g)

-- ---- lengths
pub length_control : (event x time stream flags : ℕ) → length (user_control event x time stream flags) ≡ 19
unfolding user_control
length_control event x time stream flags = length_record 4 time stream flags (bytes_of 2 event ++ bytes_of 4 x) ∙ (omega (arith, two_lengths 2 4 event x))

pub length_size : (kind n : ℕ) → length (record_of kind 0 0 1 (bytes_of 4 n)) ≡ 17
length_size kind n = length_record kind 0 0 1 (bytes_of 4 n) ∙ (omega (arith, length_bytes_of 4 n))

pub length_bandwidth : (n : ℕ) → length (record_of 6 0 0 1 (bytes_of 4 n ++ bytes_of 1 2)) ≡ 18
length_bandwidth n = length_record 6 0 0 1 (bytes_of 4 n ++ bytes_of 1 2) ∙ (omega (arith, two_lengths 4 1 n 2))

pub four_pieces : (chunk window bandwidth : ℕ)
    → ((record_of 1 0 0 1 (bytes_of 4 chunk) ++ record_of 5 0 0 1 (bytes_of 4 window)) ++ user_control 0 0 0 0 1) ++ record_of 6 0 0 1 (bytes_of 4 bandwidth ++ bytes_of 1 2) ≡ four_records chunk window bandwidth
unfolding four_records chunk_size_record window_size_record peer_bandwidth_record
four_pieces chunk window bandwidth = simp append_assoc

pub length_four : (chunk window bandwidth : ℕ) → length (four_records chunk window bandwidth) ≡ 71
length_four chunk window bandwidth = ap length (sym (four_pieces chunk window bandwidth)) ∙ (simp length-append (omega (arith, length_size 1 chunk, length_size 5 window, length_control 0 0 0 0 1, length_bandwidth bandwidth)))

pub length_answer : (time stream flags : ℕ) (name : List ℕ) (transaction n : ℕ) → length (command time stream flags (number_row name transaction n)) ≡ 35 + length name
unfolding command
length_answer time stream flags name transaction n = length_record 20 time stream flags (encode_of (number_row name transaction n)) ∙ (omega (arith, length_number name transaction n))

pub length_status_record : (time stream : ℕ) (name : List ℕ) (transaction : ℕ) (level code description : List ℕ)
    → length (command time stream 0 (status_row name transaction level code description)) ≡ 65 + length name + length level + length code + length description
unfolding command
length_status_record time stream name transaction level code description =
    length_record 20 time stream 0 (encode_of (status_row name transaction level code description)) ∙ (omega (arith, length_status name transaction level code description))

pub length_created : (transaction n time : ℕ) → length (stream_created transaction n time) ≡ 42
unfolding stream_created
length_created transaction n time = length_answer time 0 0 the_result transaction (double_of n)

pub length_error : (transaction : ℕ) (code description : List ℕ) (time stream : ℕ) → length (error_record transaction code description time stream) ≡ 76 + length code + length description
unfolding error_record
length_error transaction code description time stream = length_status_record time stream the_error transaction level_error code description

pub length_start : (chunk window bandwidth : ℕ) → (length (start_records chunk window bandwidth true) ≡ 114) × (length (start_records chunk window bandwidth false) ≡ 71)
unfolding start_records bw_done
length_start chunk window bandwidth =
    let f = length_four chunk window bandwidth in (
      length-append (four_records chunk window bandwidth) (command 0 0 1 (number_row the_bWDone 0 0x40C0000000000000)) ∙ (omega (arith, length_answer 0 0 1 the_bWDone 0 0x40C0000000000000)),
      ap length (append-nil (four_records chunk window bandwidth)) ∙ f,
    )

pub length_status_on : (code text key : List ℕ) (time stream : ℕ) → length (status_record code (text ++ key) time stream) ≡ 79 + length code + length text + length key
unfolding status_record
length_status_on code text key time stream = length_status_record time stream the_status 0 level_status code (text ++ key) ∙ (omega (arith, length-append text key))

pub length_publish : (key : List ℕ) (time stream : ℕ) → length (publish_accepted key time stream) ≡ 167 + length key
unfolding publish_accepted
length_publish key time stream =
    length-append (user_control 0 stream time stream 0) (status_record publish_start (publishing_on ++ key) time stream)
    ∙ (omega (arith, length_control 0 stream time stream 0, length_status_on publish_start publishing_on key time stream))

pub length_finished : (key : List ℕ) (time stream : ℕ) → length (play_finished key time stream) ≡ 135 + length key
unfolding play_finished
length_finished key time stream = length_status_on play_complete completed_for key time stream

pub length_sample : (time stream : ℕ) → length (sample_access time stream) ≡ 37
unfolding sample_access data_record room
length_sample time stream =
    let r = value (string the_sample_access) (value (boolean false) (value (boolean false) done)) in
    length_record 18 time stream 0 (encode_of r) ∙ (omega (arith, length_encode_of r))

pub length_data_started : (time stream : ℕ) → length (data_started time stream) ≡ 57
unfolding data_started data_record room
length_data_started time stream =
    let r = value (string the_status) (value (object (property (text "code") (string data_start) none)) done) in
    length_record 18 time stream 0 (encode_of r) ∙ (omega (arith, length_encode_of r))

pub length_connect : (transaction : ℕ) (version app : List ℕ) (encoding time : ℕ) → length (connect_accepted transaction version app encoding time) ≡ 200 + length version + length app
unfolding connect_accepted command
length_connect transaction version app encoding time =
    length_record 20 time 0 0 (encode_of (connected_row transaction version app encoding)) ∙ (omega (arith, length_connected app encoding transaction version))

pub length_reset : (time stream : ℕ) → length (status_record play_reset reset_stream time stream) ≡ 111
unfolding status_record
length_reset time stream = length_status_record time stream the_status 0 level_status play_reset reset_stream

pub play_pieces : (key : List ℕ) (time stream : ℕ)
    → (command time stream 0 (status_row the_status 0 level_status play_reset (reset_stream ++ [])) ++ user_control 0 stream time stream 0) ++ command time stream 0 (status_row the_status 0 level_status play_start (playing_on ++ key)) ≡ play_first key time stream
unfolding play_first status_record
play_pieces key time stream = append_assoc (command time stream 0 (status_row the_status 0 level_status play_reset reset_stream)) (user_control 0 stream time stream 0) (command time stream 0 (status_row the_status 0 level_status play_start (playing_on ++ key)))

pub length_first : (key : List ℕ) (time stream : ℕ) → length (play_first key time stream) ≡ 273 + length key
unfolding play_first
length_first key time stream =
    simp length-append (omega (arith, length_reset time stream, length_control 0 stream time stream 0, length_status_on play_start playing_on key time stream))

pub length_data : (time stream : ℕ) → length (play_data time stream) ≡ 94
unfolding play_data
length_data time stream = simp length-append (omega (arith, length_sample time stream, length_data_started time stream))

pub length_play : (key : List ℕ) (time stream : ℕ) → length (play_accepted key time stream) ≡ 367 + length key
unfolding play_accepted
length_play key time stream = simp length-append (omega (arith, length_first key time stream, length_data time stream))

pub length_media : (kind time stream : ℕ) (d : Bool) (body : List ℕ) → length (media kind time stream d body) ≡ 13 + length body
unfolding media
length_media kind time stream d body = length_record kind time stream (dropping d) body

-- what is sent for a text is sent for what the text is
pub sent_of : (records : List ℕ → List ℕ) (t u out : List ℕ) (x : Option ℕ × List ℕ) → x ≡ sent (records t) out → t ≡ u → x ≡ sent (records u) out
sent_of records t u out x h e = h ∙ ap (λ (y : List ℕ). sent (records y) out) e

-- ---- what the code wrote is what the answer sends
pub created_by : (transaction n time : ℕ) (bits : ℕ) (d e : List ℕ) → e ≡ front (command time 0 0 (number_row the_result transaction bits)) d → bits ≡ double_of n → e ≡ front (stream_created transaction n time) d
unfolding stream_created
created_by transaction n time bits d e h q = h ∙ ap (λ (b : ℕ). front (command time 0 0 (number_row the_result transaction b)) d) q

pub error_by : (transaction : ℕ) (code description : List ℕ) (time stream : ℕ) (d e : List ℕ) → e ≡ front (command time stream 0 (status_row the_error transaction level_error code (description ++ []))) d
    → e ≡ front (error_record transaction code description time stream) d
unfolding error_record
error_by transaction code description time stream d e h =
    h ∙ ap (λ (t : List ℕ). front (command time stream 0 (status_row the_error transaction level_error code t)) d) (append-nil description)

pub media_by : (kind time stream : ℕ) (b : Bool) (flags : ℕ) (body d e : List ℕ) → e ≡ front (record_of kind time stream flags body) d → flags ≡ dropping b → e ≡ front (media kind time stream b body) d
unfolding media
media_by kind time stream b flags body d e h q = h ∙ ap (λ (f : ℕ). front (record_of kind time stream f body) d) q

-- ---- start, with and without onBWDone
module _ (chunk window bandwidth : ℕ) (b : Bool) where
  pub start_long : b ≡ true → length (start_records chunk window bandwidth b) ≡ 114
  start_long e = ap (λ (x : Bool). length (start_records chunk window bandwidth x)) e ∙ (length_start chunk window bandwidth).0

  pub start_short : b ≡ false → length (start_records chunk window bandwidth b) ≡ 71
  start_short e = ap (λ (x : Bool). length (start_records chunk window bandwidth x)) e ∙ (length_start chunk window bandwidth).1

  pub start_five : (d e f : List ℕ) → b ≡ true → e ≡ front (four_records chunk window bandwidth) d → f ≡ over 71 (command 0 0 1 (number_row the_bWDone 0 0x40C0000000000000)) e → 71 ≤ length d
      → f ≡ front (start_records chunk window bandwidth b) d
  unfolding start_records bw_done
  start_five d e f q h g l =
      front_two 71 (four_records chunk window bandwidth) (command 0 0 1 (number_row the_bWDone 0 0x40C0000000000000)) d e f (h ∙ sym (over_zero (four_records chunk window bandwidth) d)) g (length_four chunk window bandwidth) l
      ∙ ap (λ (x : Bool). front (four_records chunk window bandwidth ++ pick x (command 0 0 1 (number_row the_bWDone 0 0x40C0000000000000)) []) d) (sym q)

  pub start_four : (d e : List ℕ) → b ≡ false → e ≡ front (four_records chunk window bandwidth) d → e ≡ front (start_records chunk window bandwidth b) d
  unfolding start_records
  start_four d e q h =
      h ∙ ap (λ (l : List ℕ). front l d) (sym (append-nil (four_records chunk window bandwidth)))
      ∙ ap (λ (x : Bool). front (four_records chunk window bandwidth ++ pick x bw_done []) d) (sym q)
