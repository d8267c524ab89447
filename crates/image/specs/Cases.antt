-- The cases of a session's enums by number. A number that names no case is read as the last one; `readable` refuses it before.
use Rattle.std.specs.Prelude.{ℕ, Bool, true, false, eqb}
use Rattle.numbers.specs.Choose.{pick}
use Rattle.text.specs.declared.words.PublishMode.{PublishMode}
use Rattle.text.specs.declared.words.PublishMode.TheVariants.{Live, Append, Record}
use Rattle.tables.specs.declared.requests.RequestKind.{RequestKind}
use Rattle.tables.specs.declared.requests.RequestKind.TheVariants.{Connect, Publish, Play}
use Rattle.tables.specs.declared.streams.StreamState.{StreamState}
use Rattle.tables.specs.declared.streams.StreamState.TheVariants.{Created, Publishing, Playing, Completed}
use Rattle.session.specs.declared.session.SessionState.{SessionState}
use Rattle.session.specs.declared.session.SessionState.TheVariants.{Started, Connected}

-- 0 Created, 1 Publishing, 2 Playing, 3 Completed
abbrev pub state_number : StreamState → ℕ
state_number Created = 0
state_number Publishing = 1
state_number Playing = 2
state_number Completed = 3

unfoldable pub state_of : ℕ → StreamState
state_of n = pick (eqb n 0) Created (pick (eqb n 1) Publishing (pick (eqb n 2) Playing Completed))

-- 0 Live, 1 Append, 2 Record
abbrev pub mode_number : PublishMode → ℕ
mode_number Live = 0
mode_number Append = 1
mode_number Record = 2

unfoldable pub mode_of : ℕ → PublishMode
mode_of n = pick (eqb n 0) Live (pick (eqb n 1) Append Record)

-- 0 Connect, 1 Publish, 2 Play
abbrev pub kind_number : RequestKind → ℕ
kind_number Connect = 0
kind_number Publish = 1
kind_number Play = 2

unfoldable pub kind_of : ℕ → RequestKind
kind_of n = pick (eqb n 0) Connect (pick (eqb n 1) Publish Play)

-- 0 Started, 1 Connected
abbrev pub session_state_number : SessionState → ℕ
session_state_number Started = 0
session_state_number Connected = 1

unfoldable pub session_state : ℕ → SessionState
session_state n = pick (eqb n 0) Started Connected

-- 0 no, 1 yes
abbrev pub flag_number : Bool → ℕ
flag_number true = 1
flag_number false = 0
