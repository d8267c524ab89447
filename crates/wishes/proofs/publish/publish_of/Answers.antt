use Rattle.wishes.proofs.WishLaws.{need_missing}
use Rattle.wishes.proofs.publish.publish_of.Goals as goal

pub returns-then-is_none : goal.returns-then-is_none
returns-then-is_none c = need_missing _ _ _ _ c.is_none.ensures c.if-is_none.true
