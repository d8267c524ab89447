-- The values of a body by their number, and what each says. "Only marker 02 counts as a string, and only 03 has properties."
use Rattle.std.specs.Prelude.{ℕ, Bool, true, false, List, Option, Some, None, take, drop}
use Rattle.text.specs.Words.{same}
use Rattle.amf0.specs.Bodies.{place_of}
use Rattle.amf0.specs.Plain.{plain_at}
use Rattle.amf0.specs.declared.plain.Plain.{Plain}
use Rattle.amf0.specs.declared.plain.Plain.TheVariants.{Bits, Boolean, Text, Object, Other}

-- the k-th value, counted from 0; none where there are not so many
unfoldable pub value_of : List ℕ → ℕ → Option Plain
value_of s k = plain_at s (place_of s k)

abbrev pub is_object : Option Plain → Bool
is_object (Some (Bits b)) = false
is_object (Some (Boolean t)) = false
is_object (Some (Text start len)) = false
is_object (Some Object) = true
is_object (Some Other) = false
is_object None = false

-- a number's bits
abbrev pub bits_in : Option Plain → Option ℕ
bits_in (Some (Bits b)) = Some b
bits_in (Some (Boolean t)) = None
bits_in (Some (Text start len)) = None
bits_in (Some Object) = None
bits_in (Some Other) = None
bits_in None = None

-- a boolean
abbrev pub truth_in : Option Plain → Option Bool
truth_in (Some (Bits b)) = None
truth_in (Some (Boolean t)) = Some t
truth_in (Some (Text start len)) = None
truth_in (Some Object) = None
truth_in (Some Other) = None
truth_in None = None

-- a string's bytes
abbrev pub text_in : List ℕ → Option Plain → Option (List ℕ)
text_in s (Some (Bits b)) = None
text_in s (Some (Boolean t)) = None
text_in s (Some (Text start len)) = Some (take len (drop start s))
text_in s (Some Object) = None
text_in s (Some Other) = None
text_in s None = None

abbrev pub same_text : List ℕ → Option (List ℕ) → Bool
same_text w (Some t) = same t w
same_text w None = false

-- whether it is a string, and this word
abbrev pub says : List ℕ → Option Plain → List ℕ → Bool
says s v w = same_text w (text_in s v)
