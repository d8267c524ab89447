use Rattle.std.specs.Prelude.{None}
use Rattle.metadata.specs.Reading.{rest_at}
use Rattle.metadata.proofs.reading.read_rest.Goals as goal

pub returns : goal.returns
unfolding rest_at
returns c = λ i. record {
  video_width = c.whole_property.ensures i;
  video_height = c.whole_property-2.ensures i;
  video_codec_id = c.whole_property-3.ensures i;
  video_bitrate_kbps = c.whole_property-4.ensures i;
  video_frame_rate = c.rate_property.ensures i;
  audio_codec_id = c.whole_property-5.ensures i;
  audio_bitrate_kbps = c.whole_property-6.ensures i;
  audio_sample_rate = c.whole_property-7.ensures i;
  audio_channels = c.whole_property-8.ensures i;
  audio_is_stereo = c.flag_property.ensures i;
  encoder = None;
}
