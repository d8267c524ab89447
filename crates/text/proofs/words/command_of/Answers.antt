use Rattle.text.proofs.WordsLaws.{which_here, which_none, which_past}
use Rattle.text.proofs.words.command_of.Goals as goal

pub returns-then-is_word : goal.returns-then-is_word
returns-then-is_word c = which_here _ _ _ _ _ _ c.is_word.ensures c.if-is_word.true

pub returns-then-is_word-2 : goal.returns-then-is_word-2
returns-then-is_word-2 c = which_past _ _ _ _ _ _ c.is_word.ensures c.if-is_word.false _ (which_here _ _ _ _ _ _ c.is_word-2.ensures c.if-is_word-2.true)

pub returns-then-is_word-3 : goal.returns-then-is_word-3
returns-then-is_word-3 c = which_past _ _ _ _ _ _ c.is_word.ensures c.if-is_word.false _ (which_past _ _ _ _ _ _ c.is_word-2.ensures c.if-is_word-2.false _ (which_here _ _ _ _ _ _ c.is_word-3.ensures c.if-is_word-3.true))

pub returns-then-is_word-4 : goal.returns-then-is_word-4
returns-then-is_word-4 c = which_past _ _ _ _ _ _ c.is_word.ensures c.if-is_word.false _ (which_past _ _ _ _ _ _ c.is_word-2.ensures c.if-is_word-2.false _ (which_past _ _ _ _ _ _ c.is_word-3.ensures c.if-is_word-3.false _ (which_here _ _ _ _ _ _ c.is_word-4.ensures c.if-is_word-4.true)))

pub returns-then-is_word-5 : goal.returns-then-is_word-5
returns-then-is_word-5 c = which_past _ _ _ _ _ _ c.is_word.ensures c.if-is_word.false _ (which_past _ _ _ _ _ _ c.is_word-2.ensures c.if-is_word-2.false _ (which_past _ _ _ _ _ _ c.is_word-3.ensures c.if-is_word-3.false _ (which_past _ _ _ _ _ _ c.is_word-4.ensures c.if-is_word-4.false _ (which_here _ _ _ _ _ _ c.is_word-5.ensures c.if-is_word-5.true))))

pub returns-then-is_word-6 : goal.returns-then-is_word-6
returns-then-is_word-6 c = which_past _ _ _ _ _ _ c.is_word.ensures c.if-is_word.false _ (which_past _ _ _ _ _ _ c.is_word-2.ensures c.if-is_word-2.false _ (which_past _ _ _ _ _ _ c.is_word-3.ensures c.if-is_word-3.false _ (which_past _ _ _ _ _ _ c.is_word-4.ensures c.if-is_word-4.false _ (which_past _ _ _ _ _ _ c.is_word-5.ensures c.if-is_word-5.false _ (which_here _ _ _ _ _ _ c.is_word-6.ensures c.if-is_word-6.true)))))

pub returns : goal.returns
returns c = which_past _ _ _ _ _ _ c.is_word.ensures c.if-is_word.false _ (which_past _ _ _ _ _ _ c.is_word-2.ensures c.if-is_word-2.false _ (which_past _ _ _ _ _ _ c.is_word-3.ensures c.if-is_word-3.false _ (which_past _ _ _ _ _ _ c.is_word-4.ensures c.if-is_word-4.false _ (which_past _ _ _ _ _ _ c.is_word-5.ensures c.if-is_word-5.false _ (which_past _ _ _ _ _ _ c.is_word-6.ensures c.if-is_word-6.false _ (which_none _ _))))))
