-- What stands at a place of a body: document 01, "AMF0 values". "Big-endian throughout."
use Rattle.std.specs.Prelude.{ℕ, ◌+◌, not, List, length, get_or, leb, eqb, Option, Some, None, option_map, option_and_then, Result, Ok, Err}
use Rattle.std.specs.Float.{binary64}
use Rattle.std.specs.Float.Ieee.{of_bits}
use Rattle.numbers.specs.Choose.{pick}
use Rattle.numbers.specs.Fields.{field_at}
use Rattle.amf0.specs.declared.error.BodyError.{BodyError}
use Rattle.amf0.specs.declared.error.BodyError.TheVariants.{NotAmf0}
use Rattle.amf0.specs.declared.value.Amf0Value.{Amf0Value}
use Rattle.amf0.specs.declared.value.Amf0Value.TheVariants.{Number, Boolean, Text, Object, Null, Undefined, EcmaArray, StrictArray, Date, LongText}
use Rattle.amf0.specs.declared.value.Read.{Read}
use Rattle.amf0.specs.declared.value.Extent.{Extent}
use Rattle.amf0.specs.declared.value.Extent.TheVariants.{Ends, Pairs, CountedPairs, Values}
use Rattle.amf0.specs.declared.value.NameAt.{NameAt}
use Rattle.amf0.specs.declared.value.NameAt.TheVariants.{End, Value}

-- the place behind the n bytes from p on, if they are in the body
unfoldable pub past : List ℕ → ℕ → ℕ → Option ℕ
past s p n = pick (leb (p + n) (length s)) (Some (p + n)) None

-- what stands from a place on; where the body is cut before it, that is not AMF0
abbrev pub within : {X : Type 0} → Option ℕ → (ℕ → Result X BodyError) → Result X BodyError
within (Some p) f = f p
within None f = Err NotAmf0

-- the value v, if the n bytes from p on are in the body
abbrev pub held : List ℕ → ℕ → ℕ → Amf0Value → Option Read
held s p n v = option_map (λ next. record { value = v; next = next }) (past s p n)

-- "string (02, u16 length)", "long string (0C, u32 length)": a length of w bytes at p, and the text behind it
abbrev pub text_at : ℕ → (ℕ → ℕ → Amf0Value) → List ℕ → ℕ → Option Read
text_at w made s p = option_and_then (λ start. held s start (field_at w s p) (made start (field_at w s p))) (past s p w)

-- "A value is a number (00, 8 bytes), boolean (01, 1 byte, 0 is false), string (02, u16 length), object (03, pairs of name and value, then 00 00 09), null (05), undefined (06),
-- ECMA array (08, u32 count that is not trusted, pairs, 00 00 09), strict array (0A, u32 count, values), date (0B, 8 + 2 bytes), long string (0C, u32 length). Other markers are refusal 2"
unfoldable pub by_marker : List ℕ → ℕ → ℕ → Option Read
by_marker s p m =
    pick (eqb m 0x00) (held s p 8 (Number (of_bits binary64 (field_at 8 s p))))
    (pick (eqb m 0x01) (held s p 1 (Boolean (not (eqb (field_at 1 s p) 0))))
    (pick (eqb m 0x02) (text_at 2 Text s p)
    (pick (eqb m 0x03) (held s p 0 (Object p))
    (pick (eqb m 0x05) (held s p 0 Null)
    (pick (eqb m 0x06) (held s p 0 Undefined)
    (pick (eqb m 0x08) (held s p 0 (EcmaArray p))
    (pick (eqb m 0x0A) (held s p 0 (StrictArray p))
    (pick (eqb m 0x0B) (held s p 10 Date)
    (pick (eqb m 0x0C) (text_at 4 LongText s p)
    None)))))))))

unfoldable pub read_at : List ℕ → ℕ → Option Read
read_at s at = option_and_then (λ p. by_marker s p (get_or s at 0)) (past s at 1)

-- how far it goes. `next` is a value's end, or where what a container holds begins
abbrev pub extent : Amf0Value → ℕ → Extent
extent (Object p) next = Pairs next
extent (EcmaArray p) next = CountedPairs next
extent (StrictArray p) next = Values next
extent v next = Ends next

-- nothing read is not AMF0
abbrev pub reach : Option Read → Result Extent BodyError
reach (Some r) = Ok (extent r.value r.next)
reach None = Err NotAmf0

unfoldable pub extent_at : List ℕ → ℕ → Result Extent BodyError
extent_at s at = reach (read_at s at)

-- a name of two bytes of length and its bytes, or the end mark: "as is an empty property name not followed by 09"
unfoldable pub name_at : List ℕ → ℕ → Result NameAt BodyError
name_at s i =
    within (past s i 2)
    (λ v. pick (eqb (field_at 2 s i) 0)
    (within (past s v 1) (λ end. pick (eqb (get_or s v 0) 9) (Ok (End end)) (Err NotAmf0)))
    (within (past s v (field_at 2 s i)) (λ end. Ok (Value end))))
