-- A value that a format holds is converted to itself: once for both formats. So single to double is exact, and back again gives the same bits.
use mathlib.Core.Path.{◌≡◌, refl, sym, ap, ◌∙◌, subst}
use mathlib.Core.Logic.{inl, inr}
use Prim.Native.Nat.{ℕ, suc, ◌+◌, ◌-◌, ◌*◌, ◌%◌, ◌^◌, ◌≤◌, ◌<◌}
use native.Mathlib.Nat.{lt_of_lt_of_le, eq-or-lt_of_le, mul-one, div-lt_iff_lt-mul}
use native.Mathlib.Omega.{arith}
use mathlib.Core.Bool.{Bool, true, false, not, ◌&&◌, true≢false}
use lib.Dec.{T, leb}
use lib.IntN.{pos}
use lib.Pow.{pow_pos, pow_mono, shl_lt}
use lib.Ieee.{Float, nan, inf, fin, Format, binary32, binary64, prec, emax, low, up, down, round, hid, ones, top, of_bits, to_bits, fits, is_nan, ne, mul}
use lib.Ieee.Bits.{nan_bits_is, of_bits-to_bits, to_bits-of_bits, to_bits-lt, of_bits-fits}
use lib.Ieee.Compare.{differs_from_itself}
use lib.Ieee.Fits.{two, two-le_pos, round-fits, nan-fits, inf-fits, fits_widens, and_i}
use lib.Ieee.Exact.{HasValue, round_exact}
use Rattle.numbers.specs.Single.{field, places, digits, convert, recode}
use Rattle.numbers.proofs.RoundingLaws.{twice, emax_pos, bits_val}
use Rattle.numbers.proofs.PatternLaws.{le_or_lt, digits_lt, is_nan_lem, is_inf, is_finite, no_nan, convert_val}

-- two values of a format that are the same number with the same sign are the same
same_value : (f : Format) (v w : Float) (s : Bool) (a : ℕ) → T (fits f v) → T (fits f w) → HasValue v s a (2 ^ low f) → HasValue w s a (2 ^ low f) → v ≡ w
same_value f v w s a p q h k = sym (of_bits-to_bits f v p) ∙ ap (of_bits f) (bits_val f v s a h ∙ sym (bits_val f w s a k)) ∙ of_bits-to_bits f w q

keeps_nan : (f : Format) → convert f nan ≡ nan
keeps_nan f = unfold convert in refl

keeps_inf : (f : Format) (s : Bool) → convert f (inf s) ≡ inf s
keeps_inf f s = unfold convert in refl

reached : (p e x : ℕ) → 2 ≤ p → 0 < e → x < 2 * e + 1 → p + (x - 1) ≤ e + p - 2 + suc e
reached p e x a c b = omega arith

module _ (f : Format) (b : ℕ) (h : b < 2 * top f) where
  abbrev v : Float
  v = of_bits f b

  small : digits f b < 2 ^ prec f
  small = subst (λ (x : ℕ). digits f b < x) (sym (twice (prec f) (two-le_pos (prec f) (two f)))) (digits_lt f b)

  -- digits * 2 ^ places is below 2 ^ (emax + 1), in units
  under : b % top f < ones f * hid f → digits f b * 2 ^ places f b < 2 ^ (low f + suc (emax f))
  under l = lt_of_lt_of_le (shl_lt (prec f) (places f b) small) (pow_mono (reached (prec f) (emax f) (field f b) (two f) (emax_pos f) ((div-lt_iff_lt-mul (pow_pos (prec f - 1))).1 l)))

  converted : convert f v ≡ v
  converted = elim (le_or_lt (b % top f) (ones f * hid f)) [
    | inr n ↦ rw (is_nan_lem f b n) (keeps_nan f)
    | inl n ↦ elim (eq-or-lt_of_le n) [
      | inl e ↦ rw (is_inf f b h e) (keeps_inf f (leb (top f) b))
      | inr l ↦
          let s = leb (top f) b in
          let a = digits f b * 2 ^ places f b in
          convert_val f v s a (2 ^ low f) (pow_pos (low f)) (is_finite f b l) ∙ same_value f (round f s a (2 ^ low f)) v s a (round-fits f s a (2 ^ low f)) (of_bits-fits f b)
          (round_exact f s a (2 ^ low f) (digits f b) (places f b) (pow_pos (low f)) small (under l) refl) (is_finite f b l)
    ]
  ]

pub convert_fits : (f : Format) (v : Float) → T (fits f v) → convert f v ≡ v
convert_fits f v h = subst (λ (x : Float). convert f x ≡ x) (of_bits-to_bits f v h) (converted f (to_bits f v) (to_bits-lt f v h))

-- ---- cited at both formats
pub widened : (b : ℕ) → recode binary32 binary64 b ≡ to_bits binary64 (of_bits binary32 b)
unfolding recode
widened b = ap (to_bits binary64) (convert_fits binary64 (of_bits binary32 b) (fits_widens (of_bits binary32 b) (of_bits-fits binary32 b)))

-- exact: the double's value is the single's
pub widened_exact : (b : ℕ) → of_bits binary64 (recode binary32 binary64 b) ≡ of_bits binary32 b
widened_exact b = ap (of_bits binary64) (widened b) ∙ of_bits-to_bits binary64 (of_bits binary32 b) (fits_widens (of_bits binary32 b) (of_bits-fits binary32 b))

-- and back: the same bits, but for a NaN's
pub there_and_back : (b : ℕ) → b < 4294967296 → T (not (is_nan (of_bits binary32 b))) → recode binary64 binary32 (recode binary32 binary64 b) ≡ b
unfolding recode
there_and_back b h n = ap (λ (x : Float). to_bits binary32 (convert binary32 x)) (widened_exact b) ∙ ap (to_bits binary32) (convert_fits binary32 (of_bits binary32 b) (of_bits-fits binary32 b)) ∙ to_bits-of_bits binary32 b h n

-- ---- a conversion is the product with 1 that the language's `*` gives in that format
pub convert_mul : (f : Format) (x : Float) → convert f x ≡ mul f x (fin false 1 (pos 0))
unfolding convert mul
convert_mul f nan = refl
convert_mul f (inf true) = refl
convert_mul f (inf false) = refl
convert_mul f (fin true m e) = rw (mul-one (m * up e), mul-one (down e))
convert_mul f (fin false m e) = rw (mul-one (m * up e), mul-one (down e))

-- ---- what was written reads back as the value
convert_in : (f : Format) (v : Float) → T (fits f (convert f v))
unfolding convert
convert_in f nan = nan-fits f
convert_in f (inf s) = inf-fits f s
convert_in f (fin s m e) = round-fits f s (m * up e) (down e)

pub read_back : (g f : Format) (b s : ℕ) → s ≡ recode g f b → of_bits f s ≡ convert f (of_bits g b)
unfolding recode
read_back g f b s e = ap (of_bits f) e ∙ of_bits-to_bits f (convert f (of_bits g b)) (convert_in f (of_bits g b))

-- ---- no NaN
pub read_no_nan : (f : Format) (b : ℕ) → b % top f ≤ ones f * hid f → T (not (is_nan (of_bits f b)))
read_no_nan f b h = subst (λ (t : Bool). T (not t)) (nan_bits_is f b) (no_nan f b h)

pub single_widens : (b : ℕ) → b % 2147483648 ≤ 2139095040 → T (fits binary64 (of_bits binary32 b) && not (is_nan (of_bits binary32 b)))
single_widens b h = and_i (fits binary64 (of_bits binary32 b)) (not (is_nan (of_bits binary32 b))) (fits_widens (of_bits binary32 b) (of_bits-fits binary32 b)) (read_no_nan binary32 b h)

pub double_nan : to_bits binary64 nan ≡ 9221120237041090560
double_nan = unfold to_bits in refl

pub equals_itself : (x : Float) → ne x x ≡ false → T (not (is_nan x))
unfolding ne is_nan
equals_itself nan h = absurd (true≢false h)
equals_itself (inf s) h = tt
equals_itself (fin s m e) h = tt

pub itself_widens : (x : Float) → T (fits binary32 x) → ne x x ≡ false → T (fits binary64 x && not (is_nan x))
itself_widens x f h = and_i (fits binary64 x) (not (is_nan x)) (fits_widens x f) (equals_itself x h)

pub differs_bits : (x : Float) → ne x x ≡ true → 9221120237041090560 ≡ to_bits binary64 x
differs_bits x h = sym (ap (to_bits binary64) (differs_from_itself x (subst T (sym h) tt)) ∙ double_nan)

-- ---- a single that is held, written as a double and read again: the same value, a NaN too
pub single_back : (x : Float) → T (fits binary32 x) → convert binary32 (of_bits binary64 (to_bits binary64 x)) ≡ x
single_back x h = ap (convert binary32) (of_bits-to_bits binary64 x (fits_widens x h)) ∙ convert_fits binary32 x h

pub single_lt : (x : Float) → T (fits binary32 x) → to_bits binary64 x < 18446744073709551616
single_lt x h = to_bits-lt binary64 x (fits_widens x h)
