-- An entry, played: the call that its kind names, the text for it, and the next session.
use Rattle.std.specs.Prelude.{ℕ, List, ltb, replicate}
use Rattle.std.specs.Option.{option_map_or}
use Rattle.numbers.specs.Choose.{pick}
use Rattle.numbers.specs.Fields.{field_at}
use Rattle.text.specs.Words.{text}
use Rattle.session.specs.declared.session.Session.{Session}
use Rattle.entries.specs.Entries.{kind_in, room_of}
use Rattle.entries.specs.declared.kinds.Kind.{Kind}
use Rattle.entries.specs.declared.kinds.Kind.TheVariants.{Start, Message, Accept, Reject, Finish, Metadata, Media, Ping, State, Damage}
use Rattle.states.specs.State.{state_text}
use Rattle.damage.specs.Damage.{damaged}
use Rattle.plays.specs.Plays.{accept_played, finish_played, media_line, message_played, metadata_line, pinged_line, reject_played, said, start_played, turn_of}
use Rattle.plays.specs.declared.turns.Turn.{Turn}

-- 0A: "what u8, place u8, value u32"; "Kind 0A writes `damage` alone."
unfoldable pub damage_played : Session → List ℕ → List ℕ → Turn × List ℕ
damage_played s e line = turn_of (damaged s (field_at 1 e 1) (field_at 1 e 2) (field_at 4 e 3)) (said (text "damage\n") line)

-- sends, pings and a state leave the session
abbrev pub kind_played : Kind → Session → List ℕ → List ℕ → List ℕ → Turn × List ℕ
kind_played Start s e out line = start_played e out line
kind_played Message s e out line = message_played s e out line
kind_played Accept s e out line = accept_played s e out line
kind_played Reject s e out line = reject_played s e out line
kind_played Finish s e out line = finish_played s e out line
kind_played Metadata s e out line = turn_of s (said (metadata_line s e out) line)
kind_played Media s e out line = turn_of s (said (media_line s e out) line)
kind_played Ping s e out line = turn_of s (said (pinged_line s e out) line)
kind_played State s e out line = turn_of s (said (state_text s) line)
kind_played Damage s e out line = damage_played s e line

-- "The out buffer is filled with A5 before each call." A space that is shorter than the room plays nothing, nor does an unknown kind.
unfoldable pub played : Session → List ℕ → ℕ → List ℕ → Turn × List ℕ
played s e space line =
    pick (ltb space (room_of e)) (turn_of s (0, line)) (option_map_or (λ k. kind_played k s e (replicate (room_of e) 165) line) (kind_in e) (turn_of s (0, line)))
