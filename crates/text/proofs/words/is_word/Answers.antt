use mathlib.Core.Path.{◌∙◌}
use Rattle.text.proofs.WordsLaws.{same_pointwise}
use Rattle.text.proofs.words.is_word.Goals as goal

pub returns : goal.returns
returns c = c.eq.ensures ∙ same_pointwise c.args.part.now c.args.word.now
