-- The calls of a trace, each with its fields read from an entry; the text for it, and the next session.
use Rattle.std.specs.Prelude.{ℕ, ◌+◌, ◌/◌, ◌%◌, Bool, List, Option, Some, None, Result, Ok, Err, eqb, Float, drop, take}
use Rattle.std.specs.Float.{binary32, binary64}
use Rattle.std.specs.Float.Ieee.{of_bits}
use Rattle.numbers.specs.Choose.{pick}
use Rattle.numbers.specs.Fields.{field_at}
use Rattle.numbers.specs.Single.{convert, recode}
use Rattle.std.specs.Option.{unwrap_or}
use Rattle.text.specs.Names.{empty_name, name_read}
use Rattle.text.specs.Words.{text}
use Rattle.text.specs.declared.ids.RequestId.{RequestId}
use Rattle.text.specs.declared.ids.StreamId.{StreamId}
use Rattle.text.specs.declared.names.Name.{Name}
use Rattle.metadata.specs.declared.metadata.StreamMetadata.{StreamMetadata}
use Rattle.session.specs.declared.session.Session.{Session}
use Rattle.sending.specs.Sends.{sends_media, sends_metadata, sends_ping}
use Rattle.sending.specs.declared.sends.PingSent.{PingSent}
use Rattle.wishes.specs.declared.outcome.Refusal.{Refusal}
use Rattle.replies.specs.declared.answer.Answer.{Answer}
use Rattle.messages.specs.Messages.{handle_message}
use Rattle.calls.specs.Calls.{accepting, finishes, rejecting, starting}
use Rattle.spelling.specs.Text.{put_all}
use Rattle.reports.specs.AnswerLine.{answer_text, ping_line, send_text}
use Rattle.plays.specs.declared.turns.Turn.{Turn}

abbrev pub stays : Session → ℕ → Turn
stays s count = record { session = s; count = count }

-- the next session, with the text that was put
unfoldable pub turn_of : Session → ℕ × List ℕ → Turn × List ℕ
turn_of s p = (stays s p.0, p.1)

abbrev pub said : List ℕ → List ℕ → ℕ × List ℕ
said t line = put_all t (0, line)

unfoldable pub answer_turn : List ℕ → ℕ → Answer × List ℕ → List ℕ → Turn × List ℕ
answer_turn name len p line = turn_of p.0.session (said (answer_text name p.0.outcome p.0.event p.0.app p.0.key p.0.metadata len p.0.count p.1) line)

abbrev pub stream : ℕ → StreamId
stream n = record { 0 = n }

abbrev pub request : ℕ → RequestId
request n = record { 0 = n }

-- n bytes of the entry
abbrev pub part : List ℕ → ℕ → ℕ → List ℕ
part e at n = take n (drop at e)

-- 01: "chunk_size u32, window_ack_size u32, peer_bandwidth u32, on_bw_done u8 (0 or 1), clock u64, room u32, n u16, fms_version (n bytes)"
unfoldable pub start_played : List ℕ → List ℕ → List ℕ → Turn × List ℕ
start_played e out line = answer_turn (text "start") 0 (starting (field_at 4 e 1) (field_at 4 e 5) (field_at 4 e 9) (eqb (field_at 1 e 13) 1) (part e 28 (field_at 2 e 26)) (field_at 8 e 14) out) line

-- 02: "type u8, stream u32, timestamp u32, clock u64, room u32, n u32, body (n bytes)"
unfoldable pub message_played : Session → List ℕ → List ℕ → List ℕ → Turn × List ℕ
message_played s e out line = answer_turn (text "message") (field_at 4 e 22) (handle_message s (field_at 1 e 1) (stream (field_at 4 e 2)) (field_at 4 e 6) (field_at 8 e 10) (part e 26 (field_at 4 e 22)) out) line

-- 03: "request u32, clock u64, room u32"
unfoldable pub accept_played : Session → List ℕ → List ℕ → List ℕ → Turn × List ℕ
accept_played s e out line = answer_turn (text "accept") 0 (accepting s (request (field_at 4 e 1)) (field_at 8 e 5) out) line

-- 04: "request u32, clock u64, room u32, n u16, code (n bytes), m u16, description (m bytes)"
unfoldable pub reject_played : Session → List ℕ → List ℕ → List ℕ → Turn × List ℕ
reject_played s e out line =
    let n = field_at 2 e 17 in
    answer_turn (text "reject") 0 (rejecting s (request (field_at 4 e 1)) (part e 19 n) (part e (21 + n) (field_at 2 e (19 + n))) (field_at 8 e 5) out) line

-- 05: "stream u32, clock u64, room u32"
unfoldable pub finish_played : Session → List ℕ → List ℕ → List ℕ → Turn × List ℕ
finish_played s e out line = answer_turn (text "finish") 0 (finishes s (stream (field_at 4 e 1)) (field_at 8 e 5) out) line

-- ---- 06: "stream u32, clock u64, room u32, set u16 (bit i: field i of document 01's list is set, bit 0 width), width u32, .., stereo u8, n u16, encoder (n bytes)"
unfoldable pub bit : List ℕ → ℕ → Bool
bit e power = eqb (field_at 2 e 17 / power % 2) 1

-- "An encoder of more than 128 bytes is handed over as its first 128 bytes with the length n."
unfoldable pub encoder_in : List ℕ → Name
encoder_in e = record { bytes = (unwrap_or (name_read (take 128 (part e 58 (field_at 2 e 56)))) empty_name).bytes; len = field_at 2 e 56 }

-- "framerate u32 (the single's bits)"
unfoldable pub rate_in : List ℕ → Float
rate_in e = convert binary32 (of_bits binary64 (recode binary32 binary64 (field_at 4 e 35)))

abbrev pub number_in : List ℕ → ℕ → ℕ → Option ℕ
number_in e power at = pick (bit e power) (Some (field_at 4 e at)) None

unfoldable pub metadata_in : List ℕ → StreamMetadata
metadata_in e =
    record {
      video_width = number_in e 1 19;
      video_height = number_in e 2 23;
      video_codec_id = number_in e 4 27;
      video_bitrate_kbps = number_in e 8 31;
      video_frame_rate = pick (bit e 16) (Some (rate_in e)) None;
      audio_codec_id = number_in e 32 39;
      audio_bitrate_kbps = number_in e 64 43;
      audio_sample_rate = number_in e 128 47;
      audio_channels = number_in e 256 51;
      audio_is_stereo = pick (bit e 512) (Some (eqb (field_at 1 e 55) 1)) None;
      encoder = pick (bit e 1024) (Some (encoder_in e)) None;
    }

abbrev pub send_line : List ℕ → Result ℕ Refusal × List ℕ → List ℕ
send_line name p = send_text name p.0 p.1

unfoldable pub metadata_line : Session → List ℕ → List ℕ → List ℕ
metadata_line s e out = send_line (text "metadata") (sends_metadata s (stream (field_at 4 e 1)) (metadata_in e) (field_at 8 e 5) out)

-- 07: "type u8 (8 or 9), stream u32, timestamp u32, droppable u8, room u32, n u32, body (n bytes)"
unfoldable pub media_line : Session → List ℕ → List ℕ → List ℕ
media_line s e out = send_line (text "media") (sends_media (pick (eqb (field_at 1 e 1) 8) 8 9) s (stream (field_at 4 e 2)) (field_at 4 e 6) (eqb (field_at 1 e 10) 1) (part e 19 (field_at 4 e 15)) out)

-- 08: "clock u64, room u32"
abbrev pub pinged : Result PingSent Refusal × List ℕ → List ℕ
pinged (Ok a, out) = ping_line (Ok a.count) a.timestamp out
pinged (Err r, out) = ping_line (Err r) 0 out

unfoldable pub pinged_line : Session → List ℕ → List ℕ → List ℕ
pinged_line s e out = pinged (sends_ping s (field_at 8 e 1) out)
