-- What a publish wants.
use Rattle.std.specs.Prelude.{ℕ, List, Option, Result, Ok}
use Rattle.text.specs.Names.{name_read}
use Rattle.text.specs.Words.{mode_of}
use Rattle.amf0.specs.declared.plain.Plain.{Plain}
use Rattle.wishes.specs.Values.{text_in, value_of}
use Rattle.wishes.specs.Wish.{need}
use Rattle.wishes.specs.declared.wish.PublishArguments.{PublishArguments}
use Rattle.wishes.specs.declared.wish.PublishFault.{PublishFault}
use Rattle.wishes.specs.declared.wish.PublishFault.TheVariants.{TooFew, KeyNoString, ModeNoString, ModeUnknown}
use Rattle.wishes.specs.declared.wish.Wish.{Wish}
use Rattle.wishes.specs.declared.wish.Wish.TheVariants.{Publish}

-- "tested in this order are two arguments, connected, key a string, mode a string, mode one of live, append, record"
abbrev pub publish_of : List ℕ → Option Plain → Option Plain → Result PublishArguments PublishFault
publish_of s key mode =
    need mode TooFew λ _.
    need (text_in s key) KeyNoString λ k.
    need (text_in s mode) ModeNoString λ w.
    need (mode_of w) ModeUnknown λ m.
    Ok (record { mode = m; key = name_read k })

abbrev pub publish_wish : List ℕ → ℕ → Wish
publish_wish s transaction = Publish transaction (publish_of s (value_of s 3) (value_of s 4))
