-- "with empty metadata if the third value is no object": a value that is no object has no property, so nothing is set.
use mathlib.Core.Path.{◌≡◌, refl, ap}
use Prim.Native.Nat.{ℕ, ◌+◌}
use mathlib.Core.List.{List}
use Rattle.std.specs.Prelude.{Option, Some, None, Ok, option_and_then, option_map}
use Rattle.numbers.specs.Fields.{field_at}
use Rattle.text.specs.Words.{text}
use Rattle.amf0.specs.Plain.{plain, plain_at, property_at}
use Rattle.amf0.specs.Properties.{inside, last_property}
use Rattle.amf0.specs.Reading.{extent, extent_at, reach, read_at}
use Rattle.amf0.specs.declared.plain.Plain.TheVariants.{Object}
use Rattle.amf0.specs.declared.value.Amf0Value.{Amf0Value}
use Rattle.amf0.specs.declared.value.Amf0Value.TheVariants.{Number, Boolean, Text, Object as ObjectRead, Null, Undefined, EcmaArray, StrictArray, Date, LongText}
use Rattle.amf0.specs.declared.value.Read.{Read}
use Rattle.metadata.specs.Metadata.{no_metadata}
use Rattle.metadata.specs.Reading.{flag_in, metadata_at, rate_in, rest_at, whole_in, with_encoder}

told_nothing : (v : Amf0Value) (bits next : ℕ) (go : ℕ → Option ℕ) → (Some (plain v bits) ≡ Some Object → ⊥) → inside (Ok (extent v next)) go ≡ None
told_nothing (Number x) bits next go n = refl
told_nothing (Boolean b) bits next go n = refl
told_nothing (Text p l) bits next go n = refl
told_nothing (ObjectRead p) bits next go n = absurd (n refl)
told_nothing Null bits next go n = refl
told_nothing Undefined bits next go n = refl
told_nothing (EcmaArray p) bits next go n = refl
told_nothing (StrictArray p) bits next go n = refl
told_nothing Date bits next go n = refl
told_nothing (LongText p l) bits next go n = refl

holds_nothing : (r : Option Read) (bits : ℕ) (go : ℕ → Option ℕ) → (option_map (λ (x : Read). plain x.value bits) r ≡ Some Object → ⊥) → inside (reach r) go ≡ None
holds_nothing None bits go n = refl
holds_nothing (Some r) bits go n = told_nothing r.value bits r.next go n

module _ (s : List ℕ) (at : ℕ) (n : plain_at s at ≡ Some Object → ⊥) where
  no_property : (w : List ℕ) → property_at s at w ≡ None
  unfolding property_at last_property extent_at plain_at
  no_property w = ap (option_and_then (plain_at s)) (holds_nothing (read_at s at) (field_at 8 s (at + 1)) _ n)

  nothing_set : rest_at s at ≡ no_metadata
  unfolding rest_at
  nothing_set = λ i. record {
    video_width = whole_in (no_property (text "width") i);
    video_height = whole_in (no_property (text "height") i);
    video_codec_id = whole_in (no_property (text "videocodecid") i);
    video_bitrate_kbps = whole_in (no_property (text "videodatarate") i);
    video_frame_rate = rate_in (no_property (text "framerate") i);
    audio_codec_id = whole_in (no_property (text "audiocodecid") i);
    audio_bitrate_kbps = whole_in (no_property (text "audiodatarate") i);
    audio_sample_rate = whole_in (no_property (text "audiosamplerate") i);
    audio_channels = whole_in (no_property (text "audiochannels") i);
    audio_is_stereo = flag_in (no_property (text "stereo") i);
    encoder = None;
  }

  pub no_object_no_metadata : metadata_at s at ≡ Ok no_metadata
  unfolding metadata_at
  no_object_no_metadata = λ i. with_encoder s (no_property (text "encoder") i) (nothing_set i)
