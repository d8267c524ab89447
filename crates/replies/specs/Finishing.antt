-- The records of a decision, and the answer.
use Rattle.std.specs.Prelude.{ℕ, List}
use Rattle.record.specs.Clock.{time_of}
use Rattle.session.specs.declared.decision.Decision.{Decision}
use Rattle.session.specs.declared.session.Session.{Session}
use Rattle.replies.specs.Answers.{answered}
use Rattle.replies.specs.Replies.{reply_records}
use Rattle.replies.specs.declared.answer.Answer.{Answer}

-- the timestamp is "read once per call"
unfoldable pub finishing : Session → Decision → List ℕ → List ℕ → ℕ → List ℕ → Answer × List ℕ
finishing s d code description clock out = answered s d (reply_records d.reply d.name s.version s.encoding code description (time_of s.start clock)) out
