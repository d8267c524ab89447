use Rattle.text.proofs.WordsLaws.{which_here, which_none, which_past}
use Rattle.text.proofs.words.mode_of.Goals as goal

pub returns-then-is_word : goal.returns-then-is_word
returns-then-is_word c = which_here _ _ _ _ _ _ c.is_word.ensures c.if-is_word.true

pub returns-then-is_word-2 : goal.returns-then-is_word-2
returns-then-is_word-2 c = which_past _ _ _ _ _ _ c.is_word.ensures c.if-is_word.false _ (which_here _ _ _ _ _ _ c.is_word-2.ensures c.if-is_word-2.true)

pub returns-then-is_word-3 : goal.returns-then-is_word-3
returns-then-is_word-3 c = which_past _ _ _ _ _ _ c.is_word.ensures c.if-is_word.false _ (which_past _ _ _ _ _ _ c.is_word-2.ensures c.if-is_word-2.false _ (which_here _ _ _ _ _ _ c.is_word-3.ensures c.if-is_word-3.true))

pub returns : goal.returns
returns c = which_past _ _ _ _ _ _ c.is_word.ensures c.if-is_word.false _ (which_past _ _ _ _ _ _ c.is_word-2.ensures c.if-is_word-2.false _ (which_past _ _ _ _ _ _ c.is_word-3.ensures c.if-is_word-3.false _ (which_none _ _)))
