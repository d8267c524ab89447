-- A double as a single, and a single as a double.
use Rattle.std.specs.Prelude.{ℕ, ◌+◌, ◌-◌, ◌*◌, ◌/◌, ◌%◌, ◌^◌, min, ltb, eqb, Float}
use Rattle.std.specs.Float.{nan, inf, fin, Format, binary64}
use Rattle.std.specs.Float.Ieee.{up, down, round, hid, top, of_bits, to_bits}
use Rattle.std.specs.Float.Ieee.Nearest.{closest}
use Rattle.numbers.specs.Choose.{pick}

-- ---- in the words of the kit's account of IEEE 754

-- a value in another format: "IEEE 754 nearest, ties to even, subnormals kept", as `round` has it for every sum and product
unfoldable pub convert : Format → Float → Float
convert f nan = nan
convert f (inf s) = inf s
convert f (fin s m e) = round f s (m * up e) (down e)

-- a pattern of the format g as one of the format f. `to_bits` writes "NaN gives 7FC00000" and "NaN gives 7FF8000000000000".
unfoldable pub recode : Format → Format → ℕ → ℕ
recode g f b = to_bits f (convert f (of_bits g b))

-- ---- the same by a pattern's fields: its magnitude is digits * 2 ^ places of the format's smallest value

abbrev pub field : Format → ℕ → ℕ
field f b = b % top f / hid f

-- a field of 0 has no leading digit, and the place of a field of 1
abbrev pub places : Format → ℕ → ℕ
places f b = field f b - 1

abbrev pub digits : Format → ℕ → ℕ
digits f b = pick (eqb (field f b) 0) 0 (hid f) + b % hid f

-- A magnitude of q * 2 ^ j smallest doubles, as a single's pattern. The smallest single is 2 ^ 925 smallest doubles, a double has 53 digits and a single 24.
-- So k = j - 896 places are dropped beyond those, and what is kept is the nearest whole number, a tie to the even one. k goes into the exponent's field, above the kept digits.
-- A carry out of the digits walks into that field, subnormals need no case, and from 7F800000 on all is the infinity's pattern.
abbrev pub single : ℕ → ℕ → ℕ
single q j = min ((j - 896) * 0x800000 + closest q (2 ^ (925 + (j - 896) - j))) 0x7F800000

-- "Double to single: IEEE 754 nearest, ties to even, subnormals kept; NaN gives 7FC00000."
unfoldable pub single_of : ℕ → ℕ
single_of b =
    pick (ltb 0x7FF0000000000000 (b % 0x8000000000000000)) 0x7FC00000
    (b / 0x8000000000000000 * 0x80000000 + single (digits binary64 b) (places binary64 b))
