-- The words of a trace for the cases of modes, starts, durations and flags.
use Rattle.std.specs.Prelude.{ℕ, Bool, true, false, List, Option, Some, None}
use Rattle.numbers.specs.declared.play.PlayStartValue.{PlayStartValue}
use Rattle.numbers.specs.declared.play.PlayStartValue.TheVariants.{LiveOrRecorded, LiveOnly, StartTimeInSeconds}
use Rattle.text.specs.Words.{text}
use Rattle.text.specs.declared.words.PublishMode.{PublishMode}
use Rattle.text.specs.declared.words.PublishMode.TheVariants.{Live, Append, Record}
use Rattle.spelling.specs.Text.{decimal_text}

-- "mode is `live`, `append` or `record`."
abbrev pub mode_text : PublishMode → List ℕ
mode_text Live = text "live"
mode_text Append = text "append"
mode_text Record = text "record"

-- "start is `live-or-recorded`, `live-only` or a number"
abbrev pub start_text : PlayStartValue → List ℕ
start_text LiveOrRecorded = text "live-or-recorded"
start_text LiveOnly = text "live-only"
start_text (StartTimeInSeconds n) = decimal_text n

-- "duration is `none` or a number"
abbrev pub duration_text : Option ℕ → List ℕ
duration_text None = text "none"
duration_text (Some n) = decimal_text n

-- "reset and stereo are 0 or 1"
abbrev pub flag_text : Bool → List ℕ
flag_text true = text "1"
flag_text false = text "0"
