-- What is asked of a session, and what it decides.
use Rattle.std.specs.Prelude.{ℕ, List, Result, eqb}
use Rattle.numbers.specs.Choose.{pick}
use Rattle.wishes.specs.Commands.{command_wish}
use Rattle.wishes.specs.Control.{control_wish}
use Rattle.wishes.specs.DataFrame.{data_wish}
use Rattle.wishes.specs.declared.outcome.Refusal.{Refusal}
use Rattle.wishes.specs.declared.wish.Wish.{Wish}
use Rattle.session.specs.declared.decision.Decision.{Decision}
use Rattle.session.specs.declared.session.Session.{Session}
use Rattle.steps.specs.Deciding.{decided}
use Rattle.decisions.specs.Answers.{accepted, finished_on, rejected}
use Rattle.replies.specs.Replies.{short}
use Rattle.desks.specs.declared.asked.Asked.{Asked}
use Rattle.desks.specs.declared.asked.Asked.TheVariants.{Said, Accept, Reject, Finish}

-- of the types that are read: 4 user control, 18 data, 20 command
unfoldable pub wish_of : ℕ → List ℕ → Result Wish Refusal
wish_of type body = pick (eqb type 4) (control_wish body) (pick (eqb type 18) (data_wish body) (command_wish body))

-- the body is a message's, the code and the description are a reject's
abbrev pub decision_of : Asked → Session → List ℕ → List ℕ → List ℕ → Decision
decision_of (Said type x) s code description body = decided s x (wish_of type body)
decision_of (Accept id) s code description body = accepted s id
decision_of (Reject id) s code description body = rejected s id (short code description)
decision_of (Finish id) s code description body = finished_on s id
