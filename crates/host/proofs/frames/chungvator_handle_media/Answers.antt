use Rattle.host.proofs.FramesLaws.{media_done, media_refused}
use Rattle.host.proofs.frames.chungvator_handle_media.Goals as goal

pub returns-then-not-image_sound : goal.returns-then-not-image_sound
returns-then-not-image_sound c = let a = c.args in media_refused a.facts.now a.streams.now a.requests.now a.names.now a.kind (record { 0 = a.stream }) a.timestamp _ c.image_sound.ensures _ c.if-not-image_sound.true c.show_nothing.ensures

pub returns : goal.returns
returns c = let a = c.args in media_done a.facts.now a.streams.now a.requests.now a.names.now a.kind (record { 0 = a.stream }) a.timestamp _ c.image_sound.ensures _ c.if-not-image_sound.false c.show_frame.ensures
