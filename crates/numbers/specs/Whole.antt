-- A double as a u32, and a u32 as a double.
use Rattle.std.specs.Prelude.{ℕ, ◌*◌, ◌/◌, false, pos, Float}
use Rattle.std.specs.Float.{nan, inf, fin, binary64}
use Rattle.std.specs.Float.Ieee.{up, down, is_nan, lt, le, of_bits, to_bits, of_int}
use Rattle.numbers.specs.Choose.{pick}

-- a number without its fraction. (`fin s m e` is m * 2 ^ e, and 2 ^ e is the fraction up e / down e.)
abbrev pub cut : Float → ℕ
cut nan = 0
cut (inf s) = 0
cut (fin s m e) = m * up e / down e

-- "Double to u32, as Rust's cast: NaN and anything below 1 give 0; 4,294,967,295 and above give 4,294,967,295; else the fraction is dropped."
unfoldable pub whole_of : Float → ℕ
whole_of x =
    pick (is_nan x) 0
    (pick (lt x (fin false 1 (pos 0))) 0
    (pick (le (fin false 4294967295 (pos 0)) x) 4294967295
    (cut x)))

-- the same of a double's bits
unfoldable pub u32_of : ℕ → ℕ
u32_of b = whole_of (of_bits binary64 b)

-- the bits of the double that a whole number is
abbrev pub double_of : ℕ → ℕ
double_of n = to_bits binary64 (of_int binary64 (pos n))
