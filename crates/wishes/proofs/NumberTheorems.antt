-- A number of document 01 tells its outcome, with the action and the stream that 11 names: to name a case is to name its number.
use mathlib.Core.Path.{◌≡◌, refl, sym, ◌∙◌}
use Prim.Native.Nat.{ℕ}
use lib.Dec.{eqb}
use Rattle.numbers.specs.Choose.{pick}
use Rattle.text.specs.declared.ids.StreamId.{StreamId}
use Rattle.std.specs.Prelude.{Ok, Err}
use Rattle.wishes.specs.Outcome.{Outcome, number_of}
use Rattle.wishes.specs.declared.outcome.Action.{Action}
use Rattle.wishes.specs.declared.outcome.Action.TheVariants.{Publish}
use Rattle.wishes.specs.declared.outcome.Refusal.TheVariants.{BodyTooLong, NotAmf0, TooDeep, NoCommand, NoApp, NameTooLong, RequestsFull, NumbersUsedUp, StreamsFull, NoSuchRequest, WrongStream, NoRoom, TextTooLong, BadConfig, BadSession}

-- what 11 names; of any other outcome nothing, which is publish on stream 0 here
abbrev pub named : Outcome → Action × StreamId
named (Ok u) = (Publish, record { 0 = 0 })
named (Err BodyTooLong) = (Publish, record { 0 = 0 })
named (Err NotAmf0) = (Publish, record { 0 = 0 })
named (Err TooDeep) = (Publish, record { 0 = 0 })
named (Err NoCommand) = (Publish, record { 0 = 0 })
named (Err NoApp) = (Publish, record { 0 = 0 })
named (Err NameTooLong) = (Publish, record { 0 = 0 })
named (Err RequestsFull) = (Publish, record { 0 = 0 })
named (Err NumbersUsedUp) = (Publish, record { 0 = 0 })
named (Err StreamsFull) = (Publish, record { 0 = 0 })
named (Err NoSuchRequest) = (Publish, record { 0 = 0 })
named (Err (WrongStream action stream)) = (action, stream)
named (Err NoRoom) = (Publish, record { 0 = 0 })
named (Err TextTooLong) = (Publish, record { 0 = 0 })
named (Err BadConfig) = (Publish, record { 0 = 0 })
named (Err BadSession) = (Publish, record { 0 = 0 })

-- the outcome of a number
abbrev outcome_of : ℕ → Action × StreamId → Outcome
outcome_of n p =
    pick (eqb n 0) (Ok tt) (pick (eqb n 1) (Err BodyTooLong) (pick (eqb n 2) (Err NotAmf0) (pick (eqb n 3) (Err TooDeep) (pick (eqb n 4) (Err NoCommand) (pick (eqb n 5) (Err NoApp)
    (pick (eqb n 6) (Err NameTooLong) (pick (eqb n 7) (Err RequestsFull) (pick (eqb n 8) (Err NumbersUsedUp) (pick (eqb n 9) (Err StreamsFull) (pick (eqb n 10) (Err NoSuchRequest)
    (pick (eqb n 11) (Err (WrongStream p.0 p.1)) (pick (eqb n 12) (Err NoRoom) (pick (eqb n 13) (Err TextTooLong) (pick (eqb n 14) (Err BadConfig) (Err BadSession)))))))))))))))

back : (o : Outcome) → outcome_of (number_of o) (named o) ≡ o
back (Ok u) = refl
back (Err BodyTooLong) = refl
back (Err NotAmf0) = refl
back (Err TooDeep) = refl
back (Err NoCommand) = refl
back (Err NoApp) = refl
back (Err NameTooLong) = refl
back (Err RequestsFull) = refl
back (Err NumbersUsedUp) = refl
back (Err StreamsFull) = refl
back (Err NoSuchRequest) = refl
back (Err (WrongStream action stream)) = refl
back (Err NoRoom) = refl
back (Err TextTooLong) = refl
back (Err BadConfig) = refl
back (Err BadSession) = refl

pub number_tells : (a b : Outcome) → number_of a ≡ number_of b → named a ≡ named b → a ≡ b
number_tells a b e f = sym (back a) ∙ ((λ i. outcome_of (e i) (f i)) ∙ back b)
