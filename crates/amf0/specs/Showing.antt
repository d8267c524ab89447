-- What the reading functions say of a value of the grammar.
use Rattle.std.specs.Prelude.{◌≡◌, ℕ, zero, suc, ◌+◌, List, ◌++◌, length, take, drop, Option, Some, None}
use Rattle.std.specs.Float.{binary64}
use Rattle.std.specs.Float.Ieee.{of_bits}
use Rattle.numbers.specs.Choose.{pick}
use Rattle.numbers.specs.Fields.{field_at}
use Rattle.text.specs.Words.{same}
use Rattle.amf0.specs.Grammar.{Properties, Row, Spells, Value, array, boolean, date, done, long, none, null, number, object, property, strict, string, undefined, value}
use Rattle.amf0.specs.declared.plain.Plain.{Plain}
use Rattle.amf0.specs.declared.plain.Plain.TheVariants.{Bits, Boolean as Truth, Text as Part, Object as Properly, Other}
use Rattle.amf0.specs.declared.value.Amf0Value.{Amf0Value}
use Rattle.amf0.specs.declared.value.Amf0Value.TheVariants.{Number, Boolean, Text, Object, Null, Undefined, EcmaArray, StrictArray, Date, LongText}

-- the case that `read_value` gives of a value that begins at `at`
abbrev pub shown : Value → ℕ → Amf0Value
shown (number n) at = Number (of_bits binary64 n)
shown (boolean t) at = Boolean t
shown (string t) at = Text (at + 1 + 2) (length t)
shown (object ps) at = Object (at + 1)
shown null at = Null
shown undefined at = Undefined
shown (array ps) at = EcmaArray (at + 1)
shown (strict vs) at = StrictArray (at + 1)
shown (date n z) at = Date
shown (long t) at = LongText (at + 1 + 4) (length t)

-- the case that `plain_at` gives of it
abbrev pub plain_shown : Value → ℕ → Plain
plain_shown (number n) at = Bits n
plain_shown (boolean t) at = Truth t
plain_shown (string t) at = Part (at + 1 + 2) (length t)
plain_shown (object ps) at = Properly
plain_shown v at = Other

-- and what stands at the places that it names: a number's bits, a text's bytes
abbrev pub Content : List ℕ → ℕ → Value → Type 0
Content s at (number n) = field_at 8 s (at + 1) ≡ n
Content s at (string t) = take (length t) (drop (at + 1 + 2) s) ≡ t
Content s at (long t) = take (length t) (drop (at + 1 + 4) s) ≡ t
Content s at v = Unit {0}

-- the n-th value of a row, counted from 0
unfoldable pub nth : ℕ → Row → Option Value
nth n done = None
nth zero (value v vs) = Some v
nth (suc n) (value v vs) = nth n vs

-- the value of the last property w, or what was found before
unfoldable pub last_of : List ℕ → Properties → Option Value → Option Value
last_of w none best = best
last_of w (property t v ps) best = last_of w ps (pick (same t w) (Some v) best)

-- the bytes at p stand for the value v
pub record Standing (s : List ℕ) (p : ℕ) (v : Value) : Type 0 where
  pub bytes : List ℕ
  pub rest : List ℕ
  pub spells : Spells v bytes
  pub here : drop p s ≡ bytes ++ rest

-- a place that was found is that of the value, or neither is there
abbrev pub Finds : List ℕ → Option ℕ → Option Value → Type 0
Finds s (Some p) (Some v) = Standing s p v
Finds s None None = Unit {0}
Finds s p v = ⊥
