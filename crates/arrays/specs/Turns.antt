-- A call over the host's arrays: the session that stands in them, the call, and what is left in the arrays.
use Rattle.std.specs.Prelude.{ℕ, Bool, ◌||◌, List, None, Err, eqb}
use Rattle.numbers.specs.Choose.{pick}
use Rattle.text.specs.Names.{empty_name}
use Rattle.metadata.specs.Metadata.{no_metadata}
use Rattle.wishes.specs.Outcome.{Outcome, number_of}
use Rattle.wishes.specs.declared.outcome.Refusal.TheVariants.{BadSession}
use Rattle.session.specs.Changes.{applied}
use Rattle.session.specs.declared.changes.Change.{Change}
use Rattle.session.specs.declared.session.Session.{Session}
use Rattle.replies.specs.declared.answer.Answer.{Answer}
use Rattle.image.specs.Image.{Arrays, readable_at, session_at}
use Rattle.written.specs.Kept.{image_of, kept_at}
use Rattle.parts.specs.Parts.{Shown}
use Rattle.parts.specs.Told.{told_of}

-- the session that stands in the arrays
abbrev pub session_in : Arrays → Session
session_in a = session_at a.0 a.1.0 a.1.1.0 a.1.1.1

-- the session is written back where something was done, and with one more number that a call may name: "only 11 from an accept removes the request"
abbrev pub keeps : ℕ → ℕ → Bool
keeps also number = eqb number 0 || eqb number also

unfoldable pub kept : ℕ → Arrays → Answer → Arrays
kept also before a = pick (keeps also (number_of a.outcome)) (kept_at before a.session) before

-- the number and the parts of an answer
abbrev pub told : Answer → ℕ × Shown
told a = told_of a.outcome a.event a.app a.key a.metadata a.count

-- of arrays that hold no session
abbrev pub unread : ℕ × Shown
unread = told_of (Err BadSession) None empty_name empty_name no_metadata 0

-- the same of a change that was decided
abbrev pub changed_by : ℕ → Arrays → Outcome → Change → Arrays
changed_by also before outcome change = pick (keeps also (number_of outcome)) (kept_at before (applied (session_in before) change)) before

-- what a call leaves in the arrays, what it tells, and the out buffer
abbrev pub turned : ℕ → Arrays → Answer × List ℕ → (Arrays × (ℕ × Shown)) × List ℕ
turned also before r = ((kept also before r.0, told r.0), r.1)

-- a call: 15 where a number of the arrays names nothing, else what the session's call says
unfoldable pub hosted : ℕ → Arrays → List ℕ → (Session → Answer × List ℕ) → (Arrays × (ℕ × Shown)) × List ℕ
hosted also before out call = pick (readable_at before.0 before.1.0 before.1.1.0) (turned also before (call (session_in before))) ((before, unread), out)

-- a start reads nothing of the arrays; all of them are written, also where it is refused
unfoldable pub started : Answer × List ℕ → (Arrays × (ℕ × Shown)) × List ℕ
started a = ((image_of a.0.session, told a.0), a.1)
