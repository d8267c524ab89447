-- The metadata of an object: "width, height, videocodecid, videodatarate, framerate, audiocodecid, audiodatarate, audiosamplerate, audiochannels (numbers), stereo (boolean), encoder (string). A wrong type leaves that field unset"
use Rattle.std.specs.Prelude.{ℕ, Bool, Float, List, take, drop, Option, Some, None, Result, Ok, Err}
use Rattle.std.specs.Float.{binary32, binary64}
use Rattle.std.specs.Float.Ieee.{of_bits}
use Rattle.numbers.specs.Single.{convert}
use Rattle.numbers.specs.Whole.{u32_of}
use Rattle.text.specs.Names.{name_read}
use Rattle.text.specs.Words.{text}
use Rattle.text.specs.declared.names.Name.{Name}
use Rattle.amf0.specs.Plain.{property_at}
use Rattle.amf0.specs.declared.plain.Plain.{Plain}
use Rattle.amf0.specs.declared.plain.Plain.TheVariants.{Bits, Boolean, Text}
use Rattle.metadata.specs.declared.metadata.StreamMetadata.{StreamMetadata}
use Rattle.metadata.specs.declared.reading.LongEncoder.{LongEncoder}

-- ---- what a property says as a field of each type

-- "the other numbers as u32"
abbrev pub whole_in : Option Plain → Option ℕ
whole_in (Some (Bits b)) = Some (u32_of b)
whole_in p = None

-- "`framerate` is held as a single"
abbrev pub rate_in : Option Plain → Option Float
rate_in (Some (Bits b)) = Some (convert binary32 (of_bits binary64 b))
rate_in p = None

abbrev pub flag_in : Option Plain → Option Bool
flag_in (Some (Boolean t)) = Some t
flag_in p = None

-- an encoder over 128 bytes is none, and told apart
abbrev pub named_as : Option Name → StreamMetadata → Result StreamMetadata LongEncoder
named_as (Some e) m = Ok (record m { encoder = Some e })
named_as None m = Err (record { rest = m })

abbrev pub with_encoder : List ℕ → Option Plain → StreamMetadata → Result StreamMetadata LongEncoder
with_encoder s (Some (Text start len)) m = named_as (name_read (take len (drop start s))) m
with_encoder s p m = Ok m

-- ---- the eleven. "If a name occurs twice, the last one alone counts, whatever its type": as `property_at` has it

-- all but the encoder
unfoldable pub rest_at : List ℕ → ℕ → StreamMetadata
rest_at s at =
    record {
      video_width = whole_in (property_at s at (text "width"));
      video_height = whole_in (property_at s at (text "height"));
      video_codec_id = whole_in (property_at s at (text "videocodecid"));
      video_bitrate_kbps = whole_in (property_at s at (text "videodatarate"));
      video_frame_rate = rate_in (property_at s at (text "framerate"));
      audio_codec_id = whole_in (property_at s at (text "audiocodecid"));
      audio_bitrate_kbps = whole_in (property_at s at (text "audiodatarate"));
      audio_sample_rate = whole_in (property_at s at (text "audiosamplerate"));
      audio_channels = whole_in (property_at s at (text "audiochannels"));
      audio_is_stereo = flag_in (property_at s at (text "stereo"));
      encoder = None;
    }

unfoldable pub metadata_at : List ℕ → ℕ → Result StreamMetadata LongEncoder
metadata_at s at = with_encoder s (property_at s at (text "encoder")) (rest_at s at)
