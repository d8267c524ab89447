-- What a wish leads to, by its case.
use mathlib.Core.Path.{◌≡◌, sym, ap, ◌∙◌}
use Rattle.text.specs.declared.ids.StreamId.{StreamId}
use Rattle.wishes.specs.declared.wish.Wish.{Wish}
use Rattle.session.specs.declared.decision.Decision.{Decision}
use Rattle.session.specs.declared.desk.Desk.{Desk}
use Rattle.steps.specs.Deciding.{decide}

pub want_told : (v w : Wish) (d : Desk) (x : StreamId) (a : Decision) → a ≡ decide d x w → v ≡ w → a ≡ decide d x v
want_told v w d x a e q = e ∙ ap (decide d x) (sym q)
