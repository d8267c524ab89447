-- What a command wants.
use Rattle.std.specs.Prelude.{ℕ, List, Result, Ok}
use Rattle.text.specs.Words.{command_of}
use Rattle.text.specs.declared.words.Command.{Command}
use Rattle.text.specs.declared.words.Command.TheVariants.{Connect, CreateStream, CloseStream, DeleteStream, Publish, Play, Other}
use Rattle.wishes.specs.Connect.{connect_wish}
use Rattle.wishes.specs.Play.{play_wish}
use Rattle.wishes.specs.Publish.{publish_wish}
use Rattle.wishes.specs.Streams.{close_wish, delete_wish}
use Rattle.wishes.specs.Values.{bits_in, text_in, value_of}
use Rattle.wishes.specs.Wish.{and_then, need, whole_body}
use Rattle.wishes.specs.declared.outcome.Refusal.{Refusal}
use Rattle.wishes.specs.declared.outcome.Refusal.TheVariants.{NoCommand}
use Rattle.wishes.specs.declared.wish.Wish.{Wish}
use Rattle.wishes.specs.declared.wish.Wish.TheVariants.{CreateStream as MakeStream, Nothing}

-- "Commands known: `connect`, `createStream`, `closeStream`, `deleteStream`, `publish`, `play`; others do nothing."
abbrev pub known_command : List ℕ → ℕ → Command → Result Wish Refusal
known_command s transaction Connect = connect_wish s transaction
known_command s transaction CreateStream = Ok (MakeStream transaction)
known_command s transaction CloseStream = Ok (close_wish (value_of s 3))
known_command s transaction DeleteStream = Ok (delete_wish (value_of s 3))
known_command s transaction Publish = Ok (publish_wish s transaction)
known_command s transaction Play = Ok (play_wish s transaction)
known_command s transaction Other = Ok Nothing

-- "a command does not begin with string, number, any value; what follows these three are its arguments". The name is looked at only where they stand.
abbrev pub whole_command : List ℕ → Result Wish Refusal
whole_command s =
    need (text_in s (value_of s 0)) NoCommand λ name.
    need (bits_in (value_of s 1)) NoCommand λ transaction.
    need (value_of s 2) NoCommand λ _.
    known_command s transaction (command_of name)

unfoldable pub command_wish : List ℕ → Result Wish Refusal
command_wish s = and_then (whole_body s) (whole_command s)
