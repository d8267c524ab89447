use mathlib.Core.List.{[], ◌∷◌}
use Rattle.text.specs.Words.{text}
use Rattle.metadata.specs.Writing.{listed}
use Rattle.metadata.proofs.writing.properties.Goals as goal

pub returns-clause-listed : goal.returns-clause-listed
unfolding listed
returns-clause-listed c = λ i.
    (text "width", c.whole.ensures i)
    ∷ (text "height", c.whole-2.ensures i)
    ∷ (text "videocodecid", c.whole-3.ensures i)
    ∷ (text "videodatarate", c.whole-4.ensures i)
    ∷ (text "framerate", c.rate.ensures i)
    ∷ (text "audiocodecid", c.whole-5.ensures i)
    ∷ (text "audiodatarate", c.whole-6.ensures i)
    ∷ (text "audiosamplerate", c.whole-7.ensures i)
    ∷ (text "audiochannels", c.whole-8.ensures i)
    ∷ (text "stereo", c.flag.ensures i)
    ∷ (text "encoder", c.named.ensures.value i)
    ∷ []
