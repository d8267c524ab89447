-- Worked examples, computed: one table and one claim.
use Rattle.std.specs.Prelude.{◌≡◌, refl, ℕ, zero, suc, true, false, List, [], ◌∷◌, length, take, Option, Some, None, Result, Ok, Err}
use Rattle.numbers.specs.Fields.{bytes_of, field_at}
use Rattle.text.specs.Words.{same, text}
use Rattle.amf0.specs.Bodies.{checked, place_of, row_f}
use Rattle.amf0.specs.Grammar.{Value, array, boolean, count, date, done, long, none, null, number, object, property, strict, string, undefined, value}
use Rattle.amf0.specs.Properties.{better, last, last_f, last_property, pair_at}
use Rattle.amf0.specs.Reading.{by_marker, extent_at, name_at, past, read_at}
use Rattle.amf0.specs.Skipping.{pairs_f, skip_v, values_f}
use Rattle.amf0.specs.Writing.{encode, encode_of, size}
use Rattle.amf0.specs.declared.error.BodyError.{BodyError}
use Rattle.amf0.specs.declared.error.BodyError.TheVariants.{NotAmf0, TooDeep}

-- a value inside n objects
unfoldable pub nested : ℕ → Value → Value
nested zero v = v
nested (suc n) v = object (property (text "a") (nested n v) none)

-- one value of each marker
unfoldable pub each : List ℕ
each =
    encode_of
    (value (number 0x7FF8000000000001)
    (value (boolean true)
    (value (string (text "pin7"))
    (value (object (property (text "app") (string (text "live")) none))
    (value null
    (value undefined
    (value (array (property (text "stereo") (boolean false) none))
    (value (strict (value null (value (number 0) done)))
    (value (date 0 0)
    (value (long (text "long")) done))))))))))

-- an object with the name "a" twice, the first a null and the second a boolean
unfoldable pub twice : List ℕ
twice = encode (object (property (text "a") null (property (text "b") null (property (text "a") (boolean true) none))))

pub record Answers : Type 0 where
  pub bodies : List (Result Unit BodyError)
  pub places : List ℕ
  pub found : List (Option ℕ)

pub answers : Answers
answers =
    record {
      bodies =
          checked []
          ∷ checked each
          ∷ checked (encode (nested 8 null))
          ∷ checked (encode (nested 9 null))
          ∷ checked (take 33 (encode (nested 9 null)))
          ∷ checked (take 8 (encode (number 1)))
          ∷ checked (take 5 (encode (string (text "pin7"))))
          ∷ checked (0x0A ∷ 0xFF ∷ 0xFF ∷ 0xFF ∷ 0xFF ∷ 0x05 ∷ [])
          ∷ checked (0x03 ∷ 0x00 ∷ 0x00 ∷ 0x09 ∷ [])
          ∷ checked (0x03 ∷ 0x00 ∷ 0x00 ∷ 0x05 ∷ 0x00 ∷ 0x00 ∷ 0x09 ∷ [])
          ∷ checked (0x08 ∷ 0xFF ∷ 0xFF ∷ 0xFF ∷ 0xFF ∷ 0x00 ∷ 0x00 ∷ 0x09 ∷ [])
          ∷ checked (0x04 ∷ [])
          ∷ [];
      places = place_of each 3 ∷ place_of each 9 ∷ place_of each 10 ∷ length each ∷ [];
      found = last_property twice 0 (text "a") ∷ last_property twice 0 (text "b") ∷ last_property twice 0 (text "c") ∷ last_property (encode (array (property (text "a") null none))) 0 (text "a") ∷ [];
    }

pub answers_are : answers
    ≡ record {
      bodies = Ok tt ∷ Ok tt ∷ Ok tt ∷ Err TooDeep ∷ Err TooDeep ∷ Err NotAmf0 ∷ Err NotAmf0 ∷ Err NotAmf0 ∷ Ok tt ∷ Err NotAmf0 ∷ Ok tt ∷ Err NotAmf0 ∷ [];
      places = 18 ∷ 80 ∷ 89 ∷ 89 ∷ [];
      found = Some 12 ∷ Some 8 ∷ None ∷ None ∷ [];
    }
unfolding answers each twice nested checked place_of row_f last_property last last_f pair_at better same skip_v pairs_f values_f extent_at read_at by_marker past name_at field_at encode size count bytes_of
answers_are = refl
