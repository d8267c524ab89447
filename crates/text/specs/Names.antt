-- Names: "`String` becomes a name of 128 bytes with its length."
use Rattle.std.specs.Prelude.{ℕ, List, Option, Some, None, ltb, length, replicate, take}
use Rattle.numbers.specs.Choose.{pick}
use Rattle.numbers.specs.Fields.{front}
use Rattle.text.specs.declared.names.Name.{Name}

-- a name's text
abbrev pub text_of : Name → List ℕ
text_of n = take n.len n.bytes

-- the name of a text of at most 128 bytes: zeros stand past it
unfoldable pub name_of : List ℕ → Name
name_of t = record { bytes = front t (replicate 128 0); len = length t }

abbrev pub empty_name : Name
empty_name = record { bytes = replicate 128 0; len = 0 }

-- the name of any text, or none
unfoldable pub name_read : List ℕ → Option Name
name_read t = pick (ltb 128 (length t)) None (Some (name_of t))
