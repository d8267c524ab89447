-- The answers of calls. What a case does not use is empty.
use Rattle.std.specs.Prelude.{ℕ, List, Option, Some, None, Ok, Err}
use Rattle.text.specs.Names.{empty_name}
use Rattle.metadata.specs.Metadata.{no_metadata}
use Rattle.answers.specs.Sending.{sent}
use Rattle.wishes.specs.Outcome.{Outcome}
use Rattle.wishes.specs.declared.outcome.Refusal.{Refusal}
use Rattle.wishes.specs.declared.outcome.Refusal.TheVariants.{NoRoom}
use Rattle.session.specs.Changes.{applied}
use Rattle.session.specs.declared.decision.Decision.{Decision}
use Rattle.session.specs.declared.session.Session.{Session}
use Rattle.replies.specs.declared.answer.Answer.{Answer}

-- "Every refusal leaves session and out buffer unchanged and raises nothing"
abbrev pub refusal : Refusal → Session → Answer
refusal why s = record { outcome = Err why; event = None; app = empty_name; key = empty_name; metadata = no_metadata; count = 0; session = s }

-- done, with no event
abbrev pub idle : Session → ℕ → Answer
idle s n = record { outcome = Ok tt; event = None; app = empty_name; key = empty_name; metadata = no_metadata; count = n; session = s }

-- of an outcome alone: done with nothing written, or refused
abbrev pub concluded : Outcome → Session → Answer
concluded (Ok _) s = idle s 0
concluded (Err why) s = refusal why s

abbrev pub answer_with : Session → Decision → ℕ → Answer
answer_with next d n = record { outcome = d.outcome; event = d.event; app = d.app; key = d.key; metadata = d.metadata; count = n; session = next }

-- the session is the one after what was decided
abbrev pub answer_of : Session → Decision → ℕ → Answer
answer_of s d n = answer_with (applied s d.change) d n

-- 12 stands between the decision and its records: "Removing a request before the out buffer is known to suffice" can't happen
abbrev pub closed : Session → Decision → Option ℕ → Answer
closed s d (Some n) = answer_of s d n
closed s d None = refusal NoRoom s

-- the answer and the buffer, of a decision and its records
unfoldable pub answered : Session → Decision → List ℕ → List ℕ → Answer × List ℕ
answered s d records out = (closed s d (sent records out).0, (sent records out).1)
