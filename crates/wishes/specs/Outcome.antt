-- "Refusal numbers": what became of a call, and document 01's number of each outcome.
use Rattle.std.specs.Prelude.{ℕ, Result, Ok, Err}
use Rattle.amf0.specs.declared.error.BodyError.{BodyError}
use Rattle.amf0.specs.declared.error.BodyError.TheVariants.{NotAmf0 as BodyNotAmf0, TooDeep as BodyTooDeep}
use Rattle.wishes.specs.declared.outcome.Refusal.{Refusal}
use Rattle.wishes.specs.declared.outcome.Refusal.TheVariants.{BodyTooLong, NotAmf0, TooDeep, NoCommand, NoApp, NameTooLong, RequestsFull, NumbersUsedUp, StreamsFull, NoSuchRequest, WrongStream, NoRoom, TextTooLong, BadConfig, BadSession}

abbrev pub Outcome : Type 0
Outcome = Result (Unit {0}) Refusal

abbrev pub number_of : Outcome → ℕ
number_of (Ok _) = 0
number_of (Err BodyTooLong) = 1
number_of (Err NotAmf0) = 2
number_of (Err TooDeep) = 3
number_of (Err NoCommand) = 4
number_of (Err NoApp) = 5
number_of (Err NameTooLong) = 6
number_of (Err RequestsFull) = 7
number_of (Err NumbersUsedUp) = 8
number_of (Err StreamsFull) = 9
number_of (Err NoSuchRequest) = 10
number_of (Err (WrongStream action stream)) = 11
number_of (Err NoRoom) = 12
number_of (Err TextTooLong) = 13
number_of (Err BadConfig) = 14
number_of (Err BadSession) = 15

-- "body is not whole AMF0 values end to end"; "a container (03, 08, 0A) lies inside eight others"
abbrev pub refusal_of : BodyError → Refusal
refusal_of BodyNotAmf0 = NotAmf0
refusal_of BodyTooDeep = TooDeep
