-- A value as a step uses it: "Only marker 02 counts as a string, and only 03 has properties." "Number bits that are echoed (transaction, objectEncoding) stay the same bits."
use Rattle.std.specs.Prelude.{ℕ, ◌+◌, List, Option, option_map, option_and_then}
use Rattle.numbers.specs.Fields.{field_at}
use Rattle.amf0.specs.Properties.{last_property}
use Rattle.amf0.specs.Reading.{read_at}
use Rattle.amf0.specs.declared.plain.Plain.{Plain}
use Rattle.amf0.specs.declared.plain.Plain.TheVariants.{Bits, Boolean, Text, Object, Other}
use Rattle.amf0.specs.declared.value.Amf0Value.{Amf0Value}
use Rattle.amf0.specs.declared.value.Amf0Value.TheVariants.{Number, Boolean as BooleanRead, Text as TextRead, Object as ObjectRead}

-- a value, with the eight bytes behind its marker as a number
abbrev pub plain : Amf0Value → ℕ → Plain
plain (Number x) bits = Bits bits
plain (BooleanRead b) bits = Boolean b
plain (TextRead start len) bits = Text start len
plain (ObjectRead start) bits = Object
plain v bits = Other

-- the value that begins at a place
unfoldable pub plain_at : List ℕ → ℕ → Option Plain
plain_at s at = option_map (λ r. plain r.value (field_at 8 s (at + 1))) (read_at s at)

-- the value of the last property w of the value at `at`
unfoldable pub property_at : List ℕ → ℕ → List ℕ → Option Plain
property_at s at w = option_and_then (plain_at s) (last_property s at w)
