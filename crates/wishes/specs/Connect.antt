-- What a connect wants.
use Rattle.std.specs.Prelude.{ℕ, ◌-◌, List, Option, Result, Ok, length, take, drop}
use Rattle.std.specs.Option.{unwrap_or}
use Rattle.numbers.specs.Choose.{pick}
use Rattle.text.specs.Names.{name_read}
use Rattle.text.specs.Words.{same, text}
use Rattle.amf0.specs.Bodies.{place_of}
use Rattle.amf0.specs.Plain.{property_at}
use Rattle.amf0.specs.declared.plain.Plain.{Plain}
use Rattle.wishes.specs.Values.{bits_in, is_object, text_in, value_of}
use Rattle.wishes.specs.Wish.{need, unless}
use Rattle.wishes.specs.declared.outcome.Refusal.{Refusal}
use Rattle.wishes.specs.declared.outcome.Refusal.TheVariants.{NoApp}
use Rattle.wishes.specs.declared.wish.Wish.{Wish}
use Rattle.wishes.specs.declared.wish.Wish.TheVariants.{Connect}

-- "takes exactly one trailing slash off `app`"
unfoldable pub without_slash : List ℕ → List ℕ
without_slash t = pick (same (drop (length t - 1) t) (text "/")) (take (length t - 1) t) t

-- the last property of the third value
abbrev pub connect_property : List ℕ → List ℕ → Option Plain
connect_property s w = property_at s (place_of s 2) w

-- "sets the session's encoding from `objectEncoding` if a number, else 0": the bits of 0.0 are 0
abbrev pub connect_to : List ℕ → ℕ → List ℕ → Wish
connect_to s transaction app = Connect transaction (unwrap_or (bits_in (connect_property s (text "objectEncoding"))) 0) (name_read (without_slash app))

-- "connect: third value no object, or `app` absent or no string"
abbrev pub connect_wish : List ℕ → ℕ → Result Wish Refusal
connect_wish s transaction =
    unless (is_object (value_of s 2)) NoApp
    (need (text_in s (connect_property s (text "app"))) NoApp λ app.
    Ok (connect_to s transaction app))
