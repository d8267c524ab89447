-- What a pattern stands for, once for both formats: a NaN, an infinity, or its digits times a power of two.
use mathlib.Core.Path.{◌≡◌, refl, sym, ap, ◌∙◌, subst}
use mathlib.Core.Logic.{◌⊎◌, inl, inr}
use Prim.Native.Nat.{ℕ, zero, suc, ◌+◌, ◌-◌, ◌*◌, ◌%◌, ◌^◌, ◌≤◌, ◌<◌}
use native.Mathlib.Nat.{mod-lt, zero-add, div-lt_iff_lt-mul, mod-eq-sub-mod, mod-eq_of_lt, sub-lt_left_of_lt-add, add-sub_of_le}
use native.Mathlib.Omega.{arith}
use mathlib.Core.Bool.{Bool, true, false, not}
use lib.Dec.{T, leb, eqb, leb→le, nleb→lt, eqb-suc-zero}
use lib.Pow.{pow_pos}
use lib.Ieee.{Float, nan, inf, fin, Format, prec, low, up, down, round, hid, ones, top, of_fields, of_bits, is_nan, nan_bits}
use lib.Ieee.Bits.{nan_bits_above, nan_bits_is, of_bits-to_bits}
use lib.Ieee.Fits.{down_pos, inf-fits}
use lib.Ieee.Exact.{HasValue, odd_sign}
use lib.Ieee.Scale.{round_same}
use borrow.Author.Tests.{lt-ltb, le-ltb, ne_eqb}
use Rattle.numbers.proofs.RoundingLaws.{bits_inf}
use Rattle.numbers.specs.Choose.{pick}
use Rattle.numbers.specs.Single.{field, places, digits, convert}

pub le_or_lt : (a b : ℕ) → (a ≤ b) ⊎ (b < a)
le_or_lt a b = go (leb a b) (leb→le a b) (nleb→lt a b)
  where
    go : (t : Bool) → (T t → a ≤ b) → (T (not t) → b < a) → (a ≤ b) ⊎ (b < a)
    go true h k = inl (h tt)
    go false h k = inr (k tt)

nan_only : (x : Float) → is_nan x ≡ true → x ≡ nan
unfolding is_nan
nan_only nan e = refl
nan_only (inf s) e = let z : false ≡ true = e in absurd (subst T (sym z) tt)
nan_only (fin s m k) e = let z : false ≡ true = e in absurd (subst T (sym z) tt)

pub is_nan_lem : (f : Format) (b : ℕ) → ones f * hid f < b % top f → of_bits f b ≡ nan
is_nan_lem f b h = nan_only (of_bits f b) (sym (nan_bits_is f b) ∙ nan_bits_above f b ∙ lt-ltb (ones f * hid f) (b % top f) h)

pub no_nan : (f : Format) (b : ℕ) → b % top f ≤ ones f * hid f → T (not (nan_bits f b))
no_nan f b h = subst (λ (t : Bool). T (not t)) (sym (nan_bits_above f b ∙ le-ltb (ones f * hid f) (b % top f) h)) tt

pub is_inf : (f : Format) (b : ℕ) → b < 2 * top f → b % top f ≡ ones f * hid f → of_bits f b ≡ inf (leb (top f) b)
is_inf f b h e = go (leb (top f) b) (leb→le (top f) b) (nleb→lt (top f) b)
  where
    pattern : (t b r : ℕ) → b < 2 * t → t ≤ b → b % t ≡ r → t + r ≡ b
    pattern t b r h l e =
        let k : b < t + t = omega arith in
        ap (λ (x : ℕ). t + x) (sym e ∙ mod-eq-sub-mod l ∙ mod-eq_of_lt (sub-lt_left_of_lt-add l k)) ∙ add-sub_of_le l

    go : (s : Bool) → (T s → top f ≤ b) → (T (not s) → b < top f) → of_bits f b ≡ inf s
    go true l k = ap (of_bits f) (sym (bits_inf f true ∙ pattern (top f) b (ones f * hid f) h (l tt) e)) ∙ of_bits-to_bits f (inf true) (inf-fits f true)
    go false l k = ap (of_bits f) (sym (bits_inf f false ∙ zero-add (ones f * hid f) ∙ sym e ∙ mod-eq_of_lt (k tt))) ∙ of_bits-to_bits f (inf false) (inf-fits f false)

finite : (f : Format) (s : Bool) (x t : ℕ) → x < ones f → HasValue (of_fields f s x t) s ((pick (eqb x 0) 0 (hid f) + t) * 2 ^ (x - 1)) (2 ^ low f)
unfolding of_fields
finite f s zero t h = rw (zero-add t) (odd_sign (prec f) s t 0 (low f))
finite f s (suc x) t h =
    let e : suc x - 1 ≡ x = omega arith in
    let n : suc x ≡ ones f → ⊥ = λ q. absurd (omega arith) in
    rw (ne_eqb (suc x) (ones f) n, eqb-suc-zero x, e) (odd_sign (prec f) s (hid f + t) x (low f))

pub is_finite : (f : Format) (b : ℕ) → b % top f < ones f * hid f → HasValue (of_bits f b) (leb (top f) b) (digits f b * 2 ^ places f b) (2 ^ low f)
unfolding of_bits
is_finite f b h = finite f (leb (top f) b) (field f b) (b % hid f) ((div-lt_iff_lt-mul (pow_pos (prec f - 1))).1 h)

pub digits_lt : (f : Format) (b : ℕ) → digits f b < 2 * hid f
digits_lt f b = go (field f b) (mod-lt b (pow_pos (prec f - 1)))
  where
    go : (x : ℕ) → b % hid f < hid f → pick (eqb x 0) 0 (hid f) + b % hid f < 2 * hid f
    go zero h = omega arith
    go (suc x) h = rw (eqb-suc-zero x) (omega arith)

pub digits_ge : (f : Format) (b : ℕ) → 0 < places f b → hid f ≤ digits f b
digits_ge f b = go (field f b)
  where
    go : (x : ℕ) → 0 < x - 1 → hid f ≤ pick (eqb x 0) 0 (hid f) + b % hid f
    go zero p = absurd (omega arith)
    go (suc x) p = rw (eqb-suc-zero x) (omega arith)

pub convert_val : (f : Format) (v : Float) (s : Bool) (a c : ℕ) → 0 < c → HasValue v s a c → convert f v ≡ round f s a c
unfolding convert
convert_val f nan s a c C h = absurd h
convert_val f (inf t) s a c C h = absurd h
convert_val f (fin t m e) s a c C h = rw h.0 (round_same f s (m * up e) (down e) a c (down_pos e) C h.1)
