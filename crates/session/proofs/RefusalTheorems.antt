-- "Every refusal leaves session and out buffer unchanged and raises nothing; only 11 from an accept removes the request."
use mathlib.Core.Path.{◌≡◌}
use mathlib.Core.Bool.{Bool, true, false}
use Rattle.numbers.specs.Choose.{pick}
use Rattle.std.specs.Prelude.{Ok}
use Rattle.wishes.specs.declared.outcome.Refusal.{Refusal}
use Rattle.session.specs.Decisions.{refusing}
use Rattle.session.specs.declared.decision.Decision.{Decision}

-- a decision is done, or it is a refusal that changes nothing
pub data Fate (d : Decision) : Type 0 where
  done : d.outcome ≡ Ok tt → Fate d
  kept : (r : Refusal) → d ≡ refusing r → Fate d

pub either : (b : Bool) (d e : Decision) → Fate d → Fate e → Fate (pick b d e)
either true d e f g = f
either false d e f g = g
