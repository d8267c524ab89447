use lib.ListN.{length}
use Rattle.replay.proofs.NextLaws.{good_is}
use Rattle.replay.proofs.next.next_entry.Goals as goal

-- said out loud, so that another session is refused here
pub returns : goal.returns
returns c = let a = c.args in good_is a.session a.rest.now a.entry (length a.space.now) a.line.now _ c.may_stand.ensures c.if-not-may_stand.false _ c.entry_length-taken.ensures c.play_entry-turn.result _ _ c.text_of.ensures c.play_entry-turn.ensures
