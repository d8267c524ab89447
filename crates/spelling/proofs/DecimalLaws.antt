-- The kit's digits of a number are those of its decimal text.
use mathlib.Core.Path.{◌≡◌, refl, ap, ◌∙◌, subst}
use Prim.Native.Nat.{ℕ, zero, suc, ◌-◌, ◌*◌, ◌/◌, ◌^◌, ◌≤◌, ◌<◌}
use native.Mathlib.Omega.{arith}
use native.Mathlib.Nat.{one-le-pow, pow-le-pow_right, pow-succ'}
use mathlib.Core.Bool.{Bool, true, false}
use mathlib.Core.List.{List}
use lib.Dec.{ltb}
use borrow.Author.Tests.{lt-ltb, le-ltb, ltb-false, ltb-true}
use Rattle.io.specs.Digits.{IsDigitCount, last_digits}
use Rattle.spelling.specs.Text.{decimal_text, put_all, width}

-- a number below ten times m has a tenth below m
tenth_below : (n m : ℕ) → n < 10 * m → n / 10 < m
tenth_below n m h = omega arith

tenth_above : (n m : ℕ) → 10 * m ≤ n → m ≤ n / 10
tenth_above n m h = omega arith

ten_more : (k : ℕ) → 10 ^ suc k ≡ 10 * 10 ^ k
ten_more k = pow-succ' 10 k

-- suc k digits hold n, and no fewer do
width_is : (k f n : ℕ) → n < 10 ^ suc k → (0 < k → 10 ^ k ≤ n) → k ≤ f → suc k ≡ width f n
width_is zero zero n a b h = refl
width_is zero (suc f) n a b h = simp (lt-ltb n 10 (omega (arith, a)))
width_is (suc k) zero n a b h = absurd (omega arith)
width_is (suc k) (suc f) n a b h =
    let low : 10 * 10 ^ k ≤ n = omega (arith, b (omega arith), ten_more k) in
    let big : 10 ≤ n = omega (arith, one-le-pow k 10 (omega arith)) in
    ap suc (width_is k f (n / 10) (tenth_below n (10 ^ suc k) (omega (arith, ten_more (suc k)))) (λ p. tenth_above n (10 ^ k) low) (omega arith))
    ∙ simp (le-ltb n 10 big)

-- twenty digits hold a u64
few : (n k : ℕ) → n < 18446744073709551616 → (0 < k → 10 ^ k ≤ n) → k ≤ 20
few n k h low = by_size (ltb 20 k) refl
  where
    by_size : (t : Bool) → ltb 20 k ≡ t → k ≤ 20
    by_size true e = absurd (omega (arith, low (omega (arith, ltb-true 20 k e)), pow-le-pow_right {n = 10} (omega arith) {i = 20} {j = k} (omega (arith, ltb-true 20 k e))))
    by_size false e = ltb-false 20 k e

one_less : (k : ℕ) → suc k - 1 ≡ k
one_less k = omega arith

from : (n k : ℕ) → n < 18446744073709551616 → IsDigitCount 10 1 n (suc k) → suc k ≡ width 20 n
from n k h f =
    let low : 0 < k → 10 ^ k ≤ n = λ p. subst (λ (j : ℕ). 10 ^ j ≤ n) (one_less k) (f.2 (omega arith)) in
    width_is k 20 n f.1 low (few n k h low)

pub decimal_is : (n k : ℕ) (text : List ℕ) (p q : ℕ × List ℕ) → n < 18446744073709551616 → IsDigitCount 10 1 n k → text ≡ last_digits 10 k n → q ≡ put_all text p → q ≡ put_all (decimal_text n) p
unfolding decimal_text
decimal_is n zero text p q h f d e = absurd (omega (arith, f.0))
decimal_is n (suc k) text p q h f d e = e ∙ ap (λ (t : List ℕ). put_all t p) (d ∙ ap (λ (j : ℕ). last_digits 10 j n) (from n k h f))
