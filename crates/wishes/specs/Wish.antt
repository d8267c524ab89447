-- The tests of a whole body, and rules in the order in which they are tested.
use Rattle.std.specs.Prelude.{ℕ, Bool, true, false, List, Option, Some, None, Result, Ok, Err, ltb, length}
use Rattle.numbers.specs.Choose.{pick}
use Rattle.amf0.specs.Bodies.{checked}
use Rattle.amf0.specs.declared.error.BodyError.{BodyError}
use Rattle.wishes.specs.Outcome.{Outcome, refusal_of}
use Rattle.wishes.specs.declared.outcome.Refusal.{Refusal}
use Rattle.wishes.specs.declared.outcome.Refusal.TheVariants.{BodyTooLong}

-- the test, else the fault that stands beside it
abbrev pub unless : {A E : Type 0} → Bool → E → Result A E → Result A E
unless true fault next = next
unless false fault next = Err fault

-- what has to be there, else the fault that stands beside it
abbrev pub need : {A B E : Type 0} → Option A → E → (A → Result B E) → Result B E
need (Some a) fault next = next a
need None fault next = Err fault

-- what a test of a body says as a refusal
abbrev pub if_whole : Result (Unit {0}) BodyError → Outcome
if_whole (Ok u) = Ok u
if_whole (Err b) = Err (refusal_of b)

-- "body over 4,096 bytes in types 4, 18, 20"; then "2 or 3, whichever byte is further left": as `checked` has it
unfoldable pub whole_body : List ℕ → Outcome
whole_body s = pick (ltb 4096 (length s)) (Err BodyTooLong) (if_whole (checked s))

-- what follows where that is done
abbrev pub and_then : {A : Type 0} → Outcome → Result A Refusal → Result A Refusal
and_then (Ok u) next = next
and_then (Err r) next = Err r
