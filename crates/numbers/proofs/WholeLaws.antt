-- `whole_of`, document 01's sentence, is lib.Ieee's `to_unsigned 32`; and both are what the code finds by the order of the patterns.
use mathlib.Core.Path.{◌≡◌, refl, sym, ap, ◌∙◌}
use mathlib.Core.Logic.{inl, inr}
use Prim.Native.Nat.{ℕ, ◌+◌, ◌-◌, ◌*◌, ◌/◌, ◌%◌, ◌^◌, ◌≤◌, ◌<◌, min}
use native.Mathlib.Nat.{le_trans, le_of_eq, lt_of_lt_of_le, eq-or-lt_of_le, mul_assoc, mul-le-mul_right, div-eq_of_lt, le-div_iff_mul-le, div-lt_iff_lt-mul}
use native.Mathlib.Omega.{arith}
use mathlib.Core.Bool.{Bool, true, false, not, ◌&&◌, ◌||◌, cond}
use lib.Dec.{T, leb, ltb, eqb, le→leb}
use lib.IntN.{pos}
use lib.Pow.{pow-add, pow_pos, pow_mono, shl_lt, shr_lt}
use lib.Ieee.{Float, nan, inf, fin, binary64, up, down, lt, eq, le, is_nan, of_bits, of_int, to_unsigned, in_unsigned, in_float}
use lib.Ieee.Back.{unsigned_back}
use lib.Ieee.Bits.{of_bits-to_bits, to_bits-lt}
use lib.Ieee.Fits.{down_pos, of_int-fits}
use lib.Ieee.Exact.{HasValue}
use lib.Ieee.Nearest.{div_same}
use borrow.Author.Tests.{lt-ltb, le-ltb, le-leb, lt-leb, eq-eqb, ne_eqb}
use Rattle.numbers.specs.Choose.{pick}
use Rattle.numbers.specs.Single.{field, places, digits}
use Rattle.numbers.specs.Whole.{double_of, u32_of, whole_of}
use Rattle.numbers.proofs.PatternLaws.{le_or_lt, digits_lt, digits_ge, is_nan_lem, is_inf, is_finite}

-- ---- the sentence and lib.Ieee's words

at_most : (a b : ℕ) (t : Bool) → ltb a b || eqb a b && (true || t) ≡ leb a b
at_most a b t = elim (le_or_lt a b) [
  | inl h ↦ elim (eq-or-lt_of_le h) [
    | inl e ↦ rw (le-ltb a b (le_of_eq (sym e)), eq-eqb a b e, le-leb a b h)
    | inr l ↦ rw (lt-ltb a b l, le-leb a b h)
  ]
  | inr h ↦ let n : a ≡ b → ⊥ = λ e. omega arith in let g : b ≤ a = omega arith in rw (le-ltb a b g, ne_eqb a b n, lt-leb a b h)
]

-- the three answers of m / d
whole_by : (m d : ℕ) → 0 < d → pick (ltb m d) 0 (pick (leb (4294967295 * d) m) 4294967295 (m / d)) ≡ min (m / d) 4294967295
whole_by m d D = elim (le_or_lt d m) [
  | inr l ↦ rw (lt-ltb m d l, div-eq_of_lt l)
  | inl g ↦ rw (le-ltb m d g) (elim (le_or_lt (4294967295 * d) m) [
    | inl h ↦ rw (le-leb (4294967295 * d) m h) (omega (arith, (le-div_iff_mul-le D).1 h))
    | inr h ↦ rw (lt-leb (4294967295 * d) m h) (omega (arith, (div-lt_iff_lt-mul D).1 h))
  ])
]

pub whole_ieee : (x : Float) → whole_of x ≡ to_unsigned 32 x
unfolding whole_of is_nan lt le eq to_unsigned
whole_ieee nan = refl
whole_ieee (inf true) = refl
whole_ieee (inf false) = refl
whole_ieee (fin true m e) = let h : 0 < m * up e * 1 + 1 * 1 * down e = omega (arith, down_pos e) in rw (lt-ltb 0 (m * up e * 1 + 1 * 1 * down e) h)
whole_ieee (fin false m e) =
    let a : m * up e * 1 ≡ m * up e = omega arith in
    let b : 1 * 1 * down e ≡ down e = omega arith in
    let d : 4294967295 * 1 * down e ≡ 4294967295 * down e = omega arith in
    rw (at_most (4294967295 * 1 * down e) (m * up e * 1) true, a, b, d) (whole_by (m * up e) (down e) (down_pos e))

-- ---- the whole part of q * 2 ^ j / 2 ^ 1074
part_zero : (q j : ℕ) → q < 9007199254740992 → j ≤ 1021 → q * 2 ^ j / 2 ^ 1074 ≡ 0
part_zero q j h l = let e : 53 + j ≤ 1074 = omega arith in div-eq_of_lt (lt_of_lt_of_le (shl_lt 53 j h) (pow_mono e))

part_mid : (q j : ℕ) → j ≤ 1074 → q / 2 ^ (1074 - j) ≡ q * 2 ^ j / 2 ^ 1074
part_mid q j h =
    let e : 1074 ≡ j + (1074 - j) = omega arith in
    div_same q (2 ^ (1074 - j)) (q * 2 ^ j) (2 ^ 1074) (pow_pos (1074 - j)) (pow_pos 1074)
    (ap (λ (x : ℕ). q * 2 ^ x) e ∙ ap (λ (x : ℕ). q * x) (pow-add 2 j (1074 - j)) ∙ sym (mul_assoc q (2 ^ j) (2 ^ (1074 - j))))

part_big : (q j : ℕ) → 4503599627370496 ≤ q → 1054 ≤ j → 4294967296 ≤ q * 2 ^ j / 2 ^ 1074
part_big q j h l =
    let e : 32 + 1074 ≤ 52 + j = omega arith in
    let a : 2 ^ 32 * 2 ^ 1074 ≤ q * 2 ^ j = le_trans (le_of_eq (sym (pow-add 2 32 1074))) (le_trans (pow_mono e) (le_trans (le_of_eq (pow-add 2 52 j)) (mul-le-mul_right (2 ^ j) h))) in
    (le-div_iff_mul-le (pow_pos 1074)).1 a

capped : (a : ℕ) → 4294967296 ≤ a → 4294967295 ≡ min a 4294967295
capped a h = omega arith

-- below 2 ^ 32, where 21 places at least are dropped
part_lt : (q n : ℕ) → q < 9007199254740992 → 21 ≤ n → q / 2 ^ n < 4294967296
part_lt q n h l = let e : 53 ≤ 32 + n = omega arith in shr_lt 32 n (lt_of_lt_of_le h (pow_mono e))

-- ---- by a pattern's order

unsigned_val : (w : ℕ) (v : Float) (s : Bool) (a c : ℕ) → 0 < c → HasValue v s a c → to_unsigned w v ≡ cond s 0 (min (a / c) (2 ^ w - 1))
unfolding to_unsigned
unsigned_val w nan s a c C h = absurd h
unsigned_val w (inf t) s a c C h = absurd h
unsigned_val w (fin t m e) s a c C h = rw (h.0, div_same (m * up e) (down e) a c (down_pos e) C h.1)

unsigned_nan : to_unsigned 32 nan ≡ 0
unsigned_nan = unfold to_unsigned in refl

unsigned_inf : (s : Bool) → to_unsigned 32 (inf s) ≡ cond s 0 4294967295
unsigned_inf s = unfold to_unsigned in refl

module _ (b : ℕ) where
  u32_is : (v : Float) → of_bits binary64 b ≡ v → u32_of b ≡ to_unsigned 32 v
  unfolding u32_of
  u32_is v e = whole_ieee (of_bits binary64 b) ∙ ap (to_unsigned 32) e

  -- digits and places as whole units of 1
  abbrev part : ℕ
  part = digits binary64 b * 2 ^ places binary64 b / 2 ^ 1074

  signed : b % 0x8000000000000000 < 0x7FF0000000000000 → u32_of b ≡ cond (leb 0x8000000000000000 b) 0 (min part 4294967295)
  signed h =
      u32_is (of_bits binary64 b) refl
      ∙ unsigned_val 32 (of_bits binary64 b) (leb 0x8000000000000000 b) (digits binary64 b * 2 ^ places binary64 b) (2 ^ 1074) (pow_pos 1074) (is_finite binary64 b h)

  plain : b < 0x7FF0000000000000 → u32_of b ≡ min part 4294967295
  plain h = rw (signed (omega arith), lt-leb 0x8000000000000000 b (omega arith))

  pub whole_below : b < 0x3FF0000000000000 → 0 ≡ u32_of b
  whole_below h = rw (plain (omega arith), part_zero (digits binary64 b) (places binary64 b) (digits_lt binary64 b) (omega arith))

  pub cut_lt : (r : ℕ) → b < 0x41F0000000000000 → r ≡ (0x10000000000000 + b % 0x10000000000000) / 2 ^ (1075 - b / 0x10000000000000) → r < 4294967296
  cut_lt r h f = rw f (part_lt (0x10000000000000 + b % 0x10000000000000) (1075 - b / 0x10000000000000) (omega arith) (omega arith))

  pub whole_cut : (r : ℕ) → 0x3FF0000000000000 ≤ b → b < 0x41F0000000000000 → r ≡ (0x10000000000000 + b % 0x10000000000000) / 2 ^ (1075 - b / 0x10000000000000) → r ≡ u32_of b
  whole_cut r l h f =
      let d : 0x10000000000000 + b % 0x10000000000000 ≡ digits binary64 b = simp (ne_eqb (field binary64 b) 0 (omega arith)) in
      let k : 1075 - b / 0x10000000000000 ≡ 1074 - places binary64 b = omega arith in
      let p : r ≡ part = f ∙ ap (λ (y : ℕ). y / 2 ^ (1075 - b / 0x10000000000000)) d ∙ ap (λ (y : ℕ). digits binary64 b / 2 ^ y) k ∙ part_mid (digits binary64 b) (places binary64 b) (omega arith) in
      let s = cut_lt r h f in
      let m : r ≡ min r 4294967295 = omega arith in
      m ∙ ap (λ (y : ℕ). min y 4294967295) p ∙ sym (plain (omega arith))

  pub whole_above : 0x41F0000000000000 ≤ b → b ≤ 0x7FF0000000000000 → 4294967295 ≡ u32_of b
  whole_above l h = elim (eq-or-lt_of_le h) [
    | inl e ↦ sym (u32_is (inf (leb 0x8000000000000000 b)) (is_inf binary64 b (omega arith) (omega arith)) ∙ unsigned_inf (leb 0x8000000000000000 b) ∙ ap (λ (t : Bool). cond t 0 4294967295) (lt-leb 0x8000000000000000 b (omega arith)))
    | inr s ↦
        capped part (part_big (digits binary64 b) (places binary64 b) (digits_ge binary64 b (omega arith)) (omega arith)) ∙ sym (plain s)
  ]

  pub whole_other : b < 0x10000000000000000 → 0x7FF0000000000000 < b → 0 ≡ u32_of b
  whole_other w h = elim (le_or_lt (b % 0x8000000000000000) 0x7FF0000000000000) [
    | inr n ↦ sym (u32_is nan (is_nan_lem binary64 b n) ∙ unsigned_nan)
    | inl n ↦ let s = le-leb 0x8000000000000000 b (omega arith) in elim (eq-or-lt_of_le n) [
      | inl e ↦ sym (u32_is (inf (leb 0x8000000000000000 b)) (is_inf binary64 b w e) ∙ unsigned_inf (leb 0x8000000000000000 b) ∙ ap (λ (t : Bool). cond t 0 4294967295) s)
      | inr l ↦ rw (signed l, s)
    ]
  ]

-- ---- a whole number is no NaN
in_no_nan : (x : Float) → T (in_unsigned binary64 32 x) → T (not (is_nan x))
unfolding in_unsigned is_nan
in_no_nan nan t = absurd t
in_no_nan (inf s) t = tt
in_no_nan (fin s m k) t = tt

pub whole_no_nan : (n : ℕ) → n < 4294967296 → T (not (is_nan (of_int binary64 (pos n))))
unfolding in_float
whole_no_nan n h = in_no_nan (of_int binary64 (pos n)) (unsigned_back binary64 32 n (le→leb n 0x20000000000000 (omega arith)) h).0

-- ---- and as a double it is still the same number
pub whole_back : (n : ℕ) → n < 4294967296 → u32_of (double_of n) ≡ n
unfolding u32_of in_float
whole_back n h =
    let x = of_int binary64 (pos n) in
    ap whole_of (of_bits-to_bits binary64 x (of_int-fits binary64 (pos n))) ∙ whole_ieee x ∙ (unsigned_back binary64 32 n (le→leb n 0x20000000000000 (omega arith)) h).1

pub double_lt : (n : ℕ) → double_of n < 18446744073709551616
double_lt n = to_bits-lt binary64 (of_int binary64 (pos n)) (of_int-fits binary64 (pos n))
