-- A run: a start, then calls. A list of calls has the NEWEST FIRST.
use Rattle.std.specs.Prelude.{ℕ, Bool, List, [], ◌∷◌}
use Rattle.session.specs.declared.session.Session.{Session}
use Rattle.replies.specs.declared.answer.Answer.{Answer}
use Rattle.calls.specs.Calls.{starting}
use Rattle.story.specs.Steps.{Call, Response, step}

-- the arguments of a start
pub record Start : Type 0 where
  pub chunk : ℕ
  pub window : ℕ
  pub bandwidth : ℕ
  pub finish : Bool
  pub version : List ℕ
  pub clock : ℕ
  pub out : List ℕ

abbrev pub start_of : Start → Answer × List ℕ
start_of b = starting b.chunk b.window b.bandwidth b.finish b.version b.clock b.out

-- the session after a run. A refused start hands a fresh session back too, so that what follows asks for no accepted one
unfoldable pub after : Start → List Call → Session
after b [] = (start_of b).0.session
after b (c ∷ cs) = (step (after b cs) c).1

-- a step as it is told: the call and its answer
pub record Told : Type 0 where
  pub call : Call
  pub answer : Response

unfoldable pub told : Start → List Call → List Told
told b [] = []
told b (c ∷ cs) = record { call = c; answer = (step (after b cs) c).0 } ∷ told b cs
