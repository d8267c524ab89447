-- The record of metadata: "`send_metadata` writes set fields in the order listed above."
use Rattle.std.specs.Prelude.{ℕ, Bool, Float, List, [], ◌∷◌, ◌++◌, Option, Some, None, option_map}
use Rattle.std.specs.List.{flat_map}
use Rattle.std.specs.Float.{binary64}
use Rattle.std.specs.Float.Ieee.{to_bits}
use Rattle.numbers.specs.Whole.{double_of}
use Rattle.text.specs.Names.{text_of}
use Rattle.text.specs.Words.{text}
use Rattle.text.specs.declared.names.Name.{Name}
use Rattle.amf0.specs.Grammar.{Properties, Row, Value, boolean, counted, done, none, number, object, property, string, value}
use Rattle.amf0.specs.Writing.{encode}
use Rattle.record.specs.Records.{data_record}
use Rattle.metadata.specs.declared.metadata.StreamMetadata.{StreamMetadata}
use Rattle.metadata.specs.declared.writing.Property.{Property}
use Rattle.metadata.specs.declared.writing.PropertyValue.{PropertyValue}
use Rattle.metadata.specs.declared.writing.PropertyValue.TheVariants.{Number, Boolean, Text}

-- a property's name, and its value where the field is set
abbrev pub Listed : Type 0
Listed = List ℕ × Option Value

-- "Single to double is exact; NaN gives 7FF8000000000000": as `to_bits` has it
abbrev pub whole : Option ℕ → Option Value
whole = option_map (λ n. number (double_of n))

abbrev pub rate : Option Float → Option Value
rate = option_map (λ x. number (to_bits binary64 x))

abbrev pub flag : Option Bool → Option Value
flag = option_map boolean

abbrev pub named : Option Name → Option Value
named = option_map (λ e. string (text_of e))

-- "Metadata: width, height, .."
unfoldable pub listed : StreamMetadata → List Listed
listed m =
    (text "width", whole m.video_width)
    ∷ (text "height", whole m.video_height)
    ∷ (text "videocodecid", whole m.video_codec_id)
    ∷ (text "videodatarate", whole m.video_bitrate_kbps)
    ∷ (text "framerate", rate m.video_frame_rate)
    ∷ (text "audiocodecid", whole m.audio_codec_id)
    ∷ (text "audiodatarate", whole m.audio_bitrate_kbps)
    ∷ (text "audiosamplerate", whole m.audio_sample_rate)
    ∷ (text "audiochannels", whole m.audio_channels)
    ∷ (text "stereo", flag m.audio_is_stereo)
    ∷ (text "encoder", named m.encoder)
    ∷ []

abbrev pub set_then : Listed → Properties → Properties
set_then (w, Some v) ps = property w v ps
set_then (w, None) ps = ps

-- those that are set, in their order
unfoldable pub set_ones : List Listed → Properties
set_ones [] = none
set_ones (x ∷ xs) = set_then x (set_ones xs)

unfoldable pub metadata_row : StreamMetadata → Row
metadata_row m = value (string (text "onMetaData")) (value (object (set_ones (listed m))) done)

unfoldable pub metadata_record : StreamMetadata → ℕ → ℕ → List ℕ
metadata_record m time stream = data_record time stream (metadata_row m)

-- ---- the bytes of one property, and of several
unfoldable pub piece : Listed → List ℕ
piece (w, Some v) = counted 2 w ++ encode v
piece (w, None) = []

abbrev pub pieces : List Listed → List ℕ
pieces = flat_map piece

-- ---- a property of the code's table, as it is listed
abbrev pub value_of : PropertyValue → Value
value_of (Number bits) = number bits
value_of (Boolean b) = boolean b
value_of (Text t) = string t.now

abbrev pub listing : Property → Listed
listing p = (p.0.now, option_map value_of p.1)
