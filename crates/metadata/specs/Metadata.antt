-- Metadata: none of it, and what of it counts.
use Rattle.std.specs.Prelude.{◌≤◌, ◌<◌, T, None, IfSome, length, option_map}
use Rattle.std.specs.Float.{binary32}
use Rattle.std.specs.Float.Ieee.{fits}
use Rattle.text.specs.Names.{name_of, text_of}
use Rattle.metadata.specs.declared.metadata.StreamMetadata.{StreamMetadata}

abbrev pub no_metadata : StreamMetadata
no_metadata =
    record {
      video_width = None;
      video_height = None;
      video_codec_id = None;
      video_bitrate_kbps = None;
      video_frame_rate = None;
      audio_codec_id = None;
      audio_bitrate_kbps = None;
      audio_sample_rate = None;
      audio_channels = None;
      audio_is_stereo = None;
      encoder = None;
    }

-- the same fields; zeros stand past the encoder's text
unfoldable pub tidy : StreamMetadata → StreamMetadata
tidy m = record m { encoder = option_map (λ e. name_of (text_of e)) m.encoder }

-- what the types of the fields that are set say, and that an encoder is a name's
pub record Held (m : StreamMetadata) : Type 0 where
  pub video_width_fits : IfSome m.video_width (λ n. n < 4294967296)
  pub video_height_fits : IfSome m.video_height (λ n. n < 4294967296)
  pub video_codec_id_fits : IfSome m.video_codec_id (λ n. n < 4294967296)
  pub video_bitrate_kbps_fits : IfSome m.video_bitrate_kbps (λ n. n < 4294967296)
  pub rate : IfSome m.video_frame_rate (λ x. T (fits binary32 x))
  pub audio_codec_id_fits : IfSome m.audio_codec_id (λ n. n < 4294967296)
  pub audio_bitrate_kbps_fits : IfSome m.audio_bitrate_kbps (λ n. n < 4294967296)
  pub audio_sample_rate_fits : IfSome m.audio_sample_rate (λ n. n < 4294967296)
  pub audio_channels_fits : IfSome m.audio_channels (λ n. n < 4294967296)
  pub encoder : IfSome m.encoder (λ e. length (text_of e) ≤ 128)
