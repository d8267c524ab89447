-- Text in a lent buffer, and numbers, bytes and names as a trace writes them.
use Rattle.std.specs.Prelude.{ℕ, zero, suc, ◌+◌, ◌/◌, ◌%◌, List, [], ◌∷◌, ◌++◌, ltb, length, set}
use Rattle.io.specs.Digits.{last_digits, hex_digit_ascii as digit_glyph}
use Rattle.numbers.specs.Choose.{pick}
use Rattle.text.specs.Names.{text_of}
use Rattle.text.specs.declared.names.Name.{Name}

-- a byte goes behind those that stand; past the buffer's end nothing is put
unfoldable pub put_one : ℕ → ℕ × List ℕ → ℕ × List ℕ
put_one x p = pick (ltb p.0 (length p.1)) (p.0 + 1, set p.1 p.0 x) p

unfoldable pub put_all : List ℕ → ℕ × List ℕ → ℕ × List ℕ
put_all [] p = p
put_all (x ∷ t) p = put_all t (put_one x p)

-- a digit below 16, in lower case
abbrev pub glyph : ℕ → ℕ
glyph d = digit_glyph d

-- "lower-case hex"
unfoldable pub hex_of : List ℕ → List ℕ
hex_of [] = []
hex_of (x ∷ t) = glyph (x / 16 % 16) ∷ glyph (x % 16) ∷ hex_of t

-- "Names and texts are lower-case hex, and `-` where empty."
unfoldable pub hex_text : List ℕ → List ℕ
hex_text [] = 45 ∷ []
hex_text (x ∷ t) = hex_of (x ∷ t)

-- how many digits a number has, of at most k
abbrev pub width : ℕ → ℕ → ℕ
width zero n = 1
width (suc k) n = pick (ltb n 10) 1 (suc (width k (n / 10)))

-- "Numbers are decimal."
unfoldable pub decimal_text : ℕ → List ℕ
decimal_text n = last_digits 10 (width 20 n) n

unfoldable pub number_field : List ℕ → ℕ → List ℕ
number_field name n = name ++ decimal_text n

unfoldable pub name_field : List ℕ → Name → List ℕ
name_field field name = field ++ hex_text (text_of name)
