-- The next entry of a trace, from what is left of it: played, or the line that ends the run.
use Rattle.std.specs.Prelude.{ℕ, Bool, true, false, ◌&&◌, List, ◌++◌, eqb, take}
use Rattle.numbers.specs.Choose.{pick}
use Rattle.text.specs.Words.{text}
use Rattle.session.specs.declared.session.Session.{Session}
use Rattle.entries.specs.Entries.{begins_trace, entry_length, good_entry}
use Rattle.spelling.specs.Text.{number_field}
use Rattle.plays.specs.Plays.{said}
use Rattle.plays.specs.declared.turns.Turn.{Turn}
use Rattle.replay.specs.Replay.{played}
use Rattle.replay.specs.declared.next.Next.{Next}

-- "The first entry is a start (anything else is `bad trace at 1`)"; entries are "counted from 1"
unfoldable pub may_stand : ℕ → List ℕ → Bool
may_stand entry rest = pick (eqb entry 1) (begins_trace rest && good_entry rest) (good_entry rest)

-- "ends the run with the line `bad trace at ENTRY`"
unfoldable pub bad_text : ℕ → List ℕ
bad_text entry = number_field (text "bad trace at ") entry ++ text "\n"

abbrev pub ended : Session → ℕ × List ℕ → Next × List ℕ
ended s p = (record { more = false; session = s; taken = 0; count = p.0 }, p.1)

abbrev pub going : ℕ → Turn × List ℕ → Next × List ℕ
going taken t = (record { more = true; session = t.0.session; taken = taken; count = t.0.count }, t.1)

-- "A trace is entries end to end": the entry is the front of what is left
unfoldable pub next_played : Session → List ℕ → ℕ → ℕ → List ℕ → Next × List ℕ
next_played s rest entry space line =
    pick (may_stand entry rest) (going (entry_length rest) (played s (take (entry_length rest) rest) space line)) (ended s (said (bad_text entry) line))
