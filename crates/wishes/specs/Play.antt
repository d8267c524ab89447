-- What a play wants.
use Rattle.std.specs.Prelude.{ℕ, false, List, Option, Some, None, Result, Ok}
use Rattle.std.specs.Option.{option_and_then, unwrap_or}
use Rattle.numbers.specs.Play.{duration_of, start_of}
use Rattle.numbers.specs.declared.play.PlayStartValue.{PlayStartValue}
use Rattle.numbers.specs.declared.play.PlayStartValue.TheVariants.{LiveOrRecorded}
use Rattle.text.specs.Names.{name_read}
use Rattle.amf0.specs.declared.plain.Plain.{Plain}
use Rattle.wishes.specs.Values.{bits_in, text_in, truth_in, value_of}
use Rattle.wishes.specs.Wish.{need}
use Rattle.wishes.specs.declared.wish.PlayArguments.{PlayArguments}
use Rattle.wishes.specs.declared.wish.PlayFault.{PlayFault}
use Rattle.wishes.specs.declared.wish.PlayFault.TheVariants.{TooFew, KeyNoString}
use Rattle.wishes.specs.declared.wish.Wish.{Wish}
use Rattle.wishes.specs.declared.wish.Wish.TheVariants.{Play}

abbrev pub start_by : Option ℕ → PlayStartValue
start_by (Some b) = start_of b
start_by None = LiveOrRecorded

-- "anything else or absent LiveOrRecorded"
abbrev pub start_in : Option Plain → PlayStartValue
start_in v = start_by (bits_in v)

-- "Duration: at least 0 its u32, else none."
abbrev pub duration_in : Option Plain → Option ℕ
duration_in v = option_and_then duration_of (bits_in v)

-- "likewise one argument, connected, key a string"; the second, third and fourth argument; "Reset: a boolean, else false."
abbrev pub play_of : List ℕ → Option Plain → Result PlayArguments PlayFault
play_of s key =
    need key TooFew λ _.
    need (text_in s key) KeyNoString λ k.
    Ok (record { start = start_in (value_of s 4); duration = duration_in (value_of s 5); reset = unwrap_or (truth_in (value_of s 6)) false; key = name_read k })

abbrev pub play_wish : List ℕ → ℕ → Wish
play_wish s transaction = Play transaction (play_of s (value_of s 3))
