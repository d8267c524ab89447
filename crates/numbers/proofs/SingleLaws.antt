-- `single_of`, which is about bit fields, is IEEE 754's conversion of a double to a single as lib.Ieee has it.
use mathlib.Core.Path.{◌≡◌, refl, sym, ap, ◌∙◌}
use mathlib.Core.Logic.{inl, inr}
use Prim.Native.Nat.{ℕ, suc, ◌+◌, ◌-◌, ◌*◌, ◌/◌, ◌%◌, ◌^◌, ◌≤◌, ◌<◌, min}
use native.Mathlib.Nat.{le_trans, le_of_eq, lt_of_lt_of_le, eq-or-lt_of_le, mul_assoc, mul-le-mul_right, mul-pos, div-lt_iff_lt-mul, le-div_iff_mul-le}
use native.Mathlib.Omega.{arith}
use mathlib.Core.Bool.{Bool, cond}
use lib.Dec.{leb, lit≤}
use lib.Pow.{pow-add, pow_pos, pow_mono, shl_lt}
use lib.Ieee.{Float, nan, inf, binary32, binary64, size, of_bits, to_bits}
use lib.Ieee.Digits.{size-le}
use lib.Ieee.Exact.{HasValue}
use lib.Ieee.Nearest.{closest, closest_same}
use lib.Ieee.Order.{drop}
use borrow.Author.Tests.{lt-ltb, le-ltb, le-leb, lt-leb}
use Rattle.numbers.specs.Single.{places, digits, convert, recode, single, single_of}
use Rattle.numbers.proofs.RoundingLaws.{size_exact, round_bits}
use Rattle.numbers.proofs.PatternLaws.{le_or_lt, digits_lt, digits_ge, is_nan_lem, is_inf, is_finite, convert_val}

three : (a b c : ℕ) → 2 ^ a * 2 ^ b * 2 ^ c ≡ 2 ^ (a + b + c)
three a b c = ap (λ (x : ℕ). x * 2 ^ c) (sym (pow-add 2 a b)) ∙ sym (pow-add 2 (a + b) c)

moved : (q j l L k z : ℕ) → j + l + z ≡ L + k → q * 2 ^ j * 2 ^ l * 2 ^ z ≡ q * (2 ^ L * 2 ^ k)
moved q j l L k z e = ap (λ (x : ℕ). x * 2 ^ z) (mul_assoc q (2 ^ j) (2 ^ l)) ∙ mul_assoc q (2 ^ j * 2 ^ l) (2 ^ z) ∙ ap (λ (x : ℕ). q * x) (three j l z ∙ ap (λ (x : ℕ). 2 ^ x) e ∙ pow-add 2 L k)

-- places that a format of p digits drops of q * 2 ^ j / 2 ^ L, in units of 2 ^ -l, where q has g digits: none up to j = c, from there on one for each
module _ (p g l L c : ℕ) (P : 0 < p) (few : p ≤ g) (at : g + c + l ≡ p + L) (q j : ℕ) (small : q < 2 ^ g) where
  abbrev n : ℕ
  n = q * 2 ^ j * 2 ^ l

  drop_none : j ≤ c → drop p n (2 ^ L) ≡ 0
  drop_none h =
      let e : g + j + l ≤ p + L = omega arith in
      let a : n < 2 ^ p * 2 ^ L = lt_of_lt_of_le (shl_lt (g + j) l (shl_lt g j small)) (le_trans (pow_mono e) (le_of_eq (pow-add 2 p L))) in
      let b : size (n / 2 ^ L) ≤ p = size-le (n / 2 ^ L) p ((div-lt_iff_lt-mul (pow_pos L)).1 a) in
      omega arith

  drop_some : c < j → 2 ^ (g - 1) ≤ q → drop p n (2 ^ L) ≡ j - c
  drop_some h lead = let a = p - 1 + (j - c) in let e : a + L ≡ g - 1 + j + l = omega arith in let f : g + j + l ≡ suc a + L = omega arith in let lo : 2 ^ a * 2 ^ L ≤ n = le_trans (le_of_eq (sym (pow-add 2 a L) ∙ ap (λ (x : ℕ). 2 ^ x) e ∙ sym (three (g - 1) j l))) (mul-le-mul_right (2 ^ l) (mul-le-mul_right (2 ^ j) lead)) in
      let hi : n < 2 ^ suc a * 2 ^ L = lt_of_lt_of_le (shl_lt (g + j) l (shl_lt g j small)) (le_of_eq (ap (λ (x : ℕ). 2 ^ x) f ∙ pow-add 2 (suc a) L)) in
      let z : size (n / 2 ^ L) ≡ suc a = size_exact a (n / 2 ^ L) ((le-div_iff_mul-le (pow_pos L)).1 lo) ((div-lt_iff_lt-mul (pow_pos L)).1 hi) in
      omega arith

drops : (q j : ℕ) → q < 2 ^ 53 → (0 < j → 2 ^ 52 ≤ q) → drop 24 (q * 2 ^ j * 2 ^ 149) (2 ^ 1074) ≡ j - 896
drops q j h l = elim (le_or_lt j 896) [
  | inl a ↦ drop_none 24 53 149 1074 896 (lit≤ tt) (lit≤ tt) refl q j h a ∙ (let e : 0 ≡ j - 896 = omega arith in e)
  | inr a ↦ drop_some 24 53 149 1074 896 (lit≤ tt) (lit≤ tt) refl q j h a (let k : 0 < j = omega arith in l k)
]

pub narrowed : (v : Float) (s : Bool) (q j : ℕ) → q < 2 ^ 53 → (0 < j → 2 ^ 52 ≤ q) → HasValue v s (q * 2 ^ j) (2 ^ 1074) → to_bits binary32 (convert binary32 v) ≡ cond s 2147483648 0 + single q j
narrowed v s q j h l val =
    let k = j - 896 in
    let z = 925 + k - j in
    ap (to_bits binary32) (convert_val binary32 v s (q * 2 ^ j) (2 ^ 1074) (pow_pos 1074) val) ∙ round_bits binary32 s (q * 2 ^ j) (2 ^ 1074) k (drops q j h l) ∙ ap (λ (x : ℕ). cond s 2147483648 0 + min (k * 8388608 + x) 2139095040)
    (closest_same (q * 2 ^ j * 2 ^ 149) (2 ^ 1074 * 2 ^ k) q (2 ^ z) (mul-pos (pow_pos 1074) (pow_pos k)) (pow_pos z) (moved q j 149 1074 k z (omega arith)))

sign : (b : ℕ) → b < 18446744073709551616 → cond (leb 9223372036854775808 b) 2147483648 0 ≡ b / 9223372036854775808 * 2147483648
sign b h = elim (le_or_lt 9223372036854775808 b) [
  | inl a ↦ rw (le-leb 9223372036854775808 b a) (omega arith)
  | inr a ↦ rw (lt-leb 9223372036854775808 b a) (omega arith)
]

capped : (a k : ℕ) → 255 ≤ k → min (k * 8388608 + a) 2139095040 ≡ 2139095040
capped a k h = omega arith

-- ---- the theorem
bits_nan : to_bits binary32 (convert binary32 nan) ≡ 2143289344
unfolding to_bits convert
bits_nan = refl

keeps_inf : (s : Bool) → to_bits binary32 (convert binary32 (inf s)) ≡ cond s 2147483648 0 + 2139095040
unfolding to_bits convert
keeps_inf s = refl

pub single_ieee : (b : ℕ) → b < 18446744073709551616 → single_of b ≡ recode binary64 binary32 b
unfolding single_of recode
single_ieee b h = elim (le_or_lt (b % 9223372036854775808) 9218868437227405312) [
  | inr n ↦ rw (lt-ltb 9218868437227405312 (b % 9223372036854775808) n, is_nan_lem binary64 b n) (sym bits_nan)
  | inl n ↦ rw (le-ltb 9218868437227405312 (b % 9223372036854775808) n) (elim (eq-or-lt_of_le n) [
    | inl e ↦
        let j : 255 ≤ places binary64 b - 896 = omega arith in
        let x = closest (digits binary64 b) (2 ^ (925 + (places binary64 b - 896) - places binary64 b)) in
        ap (λ (z : ℕ). z + single (digits binary64 b) (places binary64 b)) (sym (sign b h))
        ∙ ap (λ (z : ℕ). cond (leb 9223372036854775808 b) 2147483648 0 + z) (capped x (places binary64 b - 896) j) ∙ sym (ap (λ (v : Float). to_bits binary32 (convert binary32 v)) (is_inf binary64 b h e) ∙ keeps_inf (leb 9223372036854775808 b))
    | inr l ↦ ap (λ (z : ℕ). z + single (digits binary64 b) (places binary64 b)) (sym (sign b h)) ∙ sym (narrowed (of_bits binary64 b) (leb 9223372036854775808 b) (digits binary64 b) (places binary64 b) (digits_lt binary64 b) (digits_ge binary64 b) (is_finite binary64 b l))
  ])
]

-- ---- the cases of the code
pub single_nan : (b : ℕ) → 9218868437227405312 < b % 9223372036854775808 → 2143289344 ≡ single_of b
unfolding single_of
single_nan b h = simp (lt-ltb 9218868437227405312 (b % 9223372036854775808) h)

pub single_done : (b j k q n v : ℕ) → b % 9223372036854775808 ≤ 9218868437227405312 → j ≡ places binary64 b → k ≡ j - 896 → q ≡ digits binary64 b → n ≡ closest q (2 ^ (925 + k - j)) → v ≡ min (k * 8388608 + n) 2139095040 → b / 9223372036854775808 * 2147483648 + v ≡ single_of b
unfolding single_of
single_done b j k q n v h e f g m w = rw (w, m, f, g, e, le-ltb 9218868437227405312 (b % 9223372036854775808) h)
