-- The fields of metadata, each from the value that it is read from.
use mathlib.Core.Path.{◌≡◌}
use Prim.Native.Nat.{ℕ}
use mathlib.Core.Bool.{Bool}
use mathlib.Core.List.{List}
use lib.Ieee.{Float}
use Rattle.std.specs.Prelude.{Option, None}
use Rattle.text.specs.Words.{text}
use Rattle.amf0.specs.Plain.{property_at}
use Rattle.amf0.specs.declared.plain.Plain.{Plain}
use Rattle.metadata.specs.Reading.{flag_in, metadata_at, rate_in, rest_at, whole_in, with_encoder}

-- each field is that of its property
module _ (s : List ℕ) (at : ℕ) where
  pub eleven : (width height videocodecid videodatarate : Option ℕ) (framerate : Option Float) (audiocodecid audiodatarate audiosamplerate audiochannels : Option ℕ) (stereo : Option Bool) (encoder : Option Plain)
      → width ≡ whole_in (property_at s at (text "width"))
      → height ≡ whole_in (property_at s at (text "height"))
      → videocodecid ≡ whole_in (property_at s at (text "videocodecid"))
      → videodatarate ≡ whole_in (property_at s at (text "videodatarate"))
      → framerate ≡ rate_in (property_at s at (text "framerate"))
      → audiocodecid ≡ whole_in (property_at s at (text "audiocodecid"))
      → audiodatarate ≡ whole_in (property_at s at (text "audiodatarate"))
      → audiosamplerate ≡ whole_in (property_at s at (text "audiosamplerate"))
      → audiochannels ≡ whole_in (property_at s at (text "audiochannels"))
      → stereo ≡ flag_in (property_at s at (text "stereo"))
      → encoder ≡ property_at s at (text "encoder")
      → with_encoder s encoder (record { video_width = width; video_height = height; video_codec_id = videocodecid; video_bitrate_kbps = videodatarate; video_frame_rate = framerate; audio_codec_id = audiocodecid; audio_bitrate_kbps = audiodatarate; audio_sample_rate = audiosamplerate; audio_channels = audiochannels; audio_is_stereo = stereo; encoder = None }) ≡ metadata_at s at
  unfolding metadata_at rest_at
  eleven _ _ _ _ _ _ _ _ _ _ _ a b c d e f g h k l m =
      λ i. with_encoder s (m i) (record { video_width = a i; video_height = b i; video_codec_id = c i; video_bitrate_kbps = d i; video_frame_rate = e i; audio_codec_id = f i; audio_bitrate_kbps = g i; audio_sample_rate = h i; audio_channels = k i; audio_is_stereo = l i; encoder = None })
