-- The application's decisions and the start: the door, then decide and write.
use Rattle.std.specs.Prelude.{ℕ, Bool, ◌||◌, List, [], Option, Some, None, eqb, ltb, length}
use Rattle.numbers.specs.Choose.{pick}
use Rattle.text.specs.Names.{empty_name, name_of}
use Rattle.text.specs.declared.ids.RequestId.{RequestId}
use Rattle.text.specs.declared.ids.StreamId.{StreamId}
use Rattle.text.specs.declared.names.Name.{Name}
use Rattle.record.specs.Records.{start_records}
use Rattle.answers.specs.Sending.{sent}
use Rattle.wishes.specs.declared.outcome.Refusal.TheVariants.{BadConfig, NoRoom}
use Rattle.session.specs.State.{fresh_session}
use Rattle.session.specs.declared.session.Session.{Session}
use Rattle.decisions.specs.Answers.{accepted, finished_on, rejected}
use Rattle.replies.specs.Answers.{idle, refusal}
use Rattle.replies.specs.Finishing.{finishing}
use Rattle.replies.specs.Replies.{short}
use Rattle.replies.specs.declared.answer.Answer.{Answer}
use Rattle.messages.specs.Messages.{guarded}

-- ---- decisions
abbrev pub accepting : Session → RequestId → ℕ → List ℕ → Answer × List ℕ
accepting s id clock out = guarded s out (finishing s (accepted s id) [] [] clock out)

abbrev pub rejecting : Session → RequestId → List ℕ → List ℕ → ℕ → List ℕ → Answer × List ℕ
rejecting s id code description clock out = guarded s out (finishing s (rejected s id (short code description)) code description clock out)

abbrev pub finishes : Session → StreamId → ℕ → List ℕ → Answer × List ℕ
finishes s id clock out = guarded s out (finishing s (finished_on s id) [] [] clock out)

-- ---- start
-- 14: "chunk size 0 or over 2,147,483,647; or fms_version over 128"
abbrev pub bad_config : ℕ → List ℕ → Bool
bad_config chunk version = eqb chunk 0 || (ltb 2147483647 chunk || ltb 128 (length version))

-- "A refused start hands back the session of a start at clock 0 with empty fms_version."
abbrev pub blank_session : Session
blank_session = fresh_session 0 empty_name

abbrev pub opened : ℕ → Name → Option ℕ → Answer
opened clock version (Some n) = idle (fresh_session clock version) n
opened clock version None = refusal NoRoom blank_session

unfoldable pub starting : ℕ → ℕ → ℕ → Bool → List ℕ → ℕ → List ℕ → Answer × List ℕ
starting chunk window bandwidth finish version clock out =
    pick (bad_config chunk version) (refusal BadConfig blank_session, out)
    (opened clock (name_of version) (sent (start_records chunk window bandwidth finish) out).0, (sent (start_records chunk window bandwidth finish) out).1)
