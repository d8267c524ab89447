-- Laws of a whole body: one value, and then the others; and the steps of the functions that go through it.
use mathlib.Core.Path.{◌≡◌, refl, sym, ap, ◌∙◌}
use Prim.Native.Nat.{ℕ, zero, suc, ◌+◌, ◌≤◌, ◌<◌}
use native.Mathlib.Omega.{arith}
use mathlib.Core.List.{List}
use lib.ListN.{length}
use lib.Dec.{leb}
use borrow.Author.Tests.{le-leb, lt-leb}
use Rattle.std.specs.Prelude.{Ok, Err}
use Rattle.std.specs.Result.{result_unwrap_or}
use Rattle.numbers.specs.Choose.{pick}
use Rattle.amf0.specs.Bodies.{checked, place_after, place_of, row, row_f, verdict}
use Rattle.amf0.specs.Skipping.{Skip, after_value, skip_v, values_f}
use Rattle.amf0.specs.declared.error.BodyError.{BodyError}
use Rattle.amf0.proofs.SkippingLaws.{Moves, Past, after_same, moves, next_value, skip_past, values_snoc}

module _ (s : List ℕ) (f : ℕ → Skip) (m : Moves s f) where
  row_at_end : (k i : ℕ) → length s ≤ i → Ok i ≡ row_f f s k i
  unfolding row_f
  row_at_end zero i h = refl
  row_at_end (suc k) i h = simp (le-leb (length s) i h)

  same_count : (k l i : ℕ) → length s ≤ i + k → length s ≤ i + l → row_f f s k i ≡ row_f f s l i
  unfolding row_f
  same_count zero l i h g = row_at_end l i (omega arith)
  same_count (suc k) zero i h g = sym (row_at_end (suc k) i (omega arith))
  same_count (suc k) (suc l) i h g =
      ap (λ (r : Skip). pick (leb (length s) i) (Ok i) r) (after_same (Past s i) (f i) (row_f f s k) (row_f f s l) (m i) (λ b q. same_count k l b (omega arith) (omega arith)))

-- one value, and then the others
pub row_step : (s : List ℕ) (i : ℕ) → i < length s → row s i ≡ after_value (skip_v s 8 i) (row s)
unfolding row_f
row_step s i h = same_count s (skip_v s 8) (moves s 8) (length s) (suc (length s)) i (omega arith) (omega arith) ∙ simp (lt-leb (length s) i h)

pub row_end : (s : List ℕ) (i : ℕ) → length s ≤ i → Ok i ≡ row s i
row_end s i h = row_at_end s (skip_v s 8) (moves s 8) (length s) i h

-- ---- the function that checks a body stands at i, and what is left gives the verdict
module _ (s : List ℕ) (i : ℕ) (so : verdict (row s i) ≡ checked s) where
  check_by : (r : Skip) → skip_v s 8 i ≡ r → i < length s → verdict (after_value r (row s)) ≡ checked s
  check_by r e h = ap (λ (x : Skip). verdict (after_value x (row s))) (sym e) ∙ ap verdict (sym (row_step s i h)) ∙ so

  pub check_on : (a : ℕ) → skip_v s 8 i ≡ Ok a → i < length s → verdict (row s a) ≡ checked s
  check_on a = check_by (Ok a)

  pub check_fault : (b : BodyError) → skip_v s 8 i ≡ Err b → i < length s → Err b ≡ checked s
  check_fault b = check_by (Err b)

  pub check_end : length s ≤ i → Ok tt ≡ checked s
  check_end h = ap verdict (row_end s i h) ∙ so

-- what `check_body` cites
pub ruleset checks = (next_value, check_on, check_fault, check_end)

-- ---- the cursor: the (n + 1)-th value begins after the n-th
pub place_next : (s : List ℕ) (n : ℕ) → place_of s (suc n) ≡ place_after s (place_of s n)
unfolding place_of place_after
place_next s n = let z : suc n ≡ n + 1 = omega arith in ap (place_of s) z ∙ ap (λ (x : Skip). result_unwrap_or x (length s)) (values_snoc (skip_v s 8) n 0) ∙ go (values_f (skip_v s 8) n 0)
  where
    past : result_unwrap_or (skip_v s 8 (length s)) (length s) ≡ length s
    past = ap (λ (x : Skip). result_unwrap_or x (length s)) (sym (skip_past s 8 (length s) (omega arith)))

    go : (r : Skip) → result_unwrap_or (after_value r (skip_v s 8)) (length s) ≡ result_unwrap_or (skip_v s 8 (result_unwrap_or r (length s))) (length s)
    go (Ok a) = refl
    go (Err e) = sym past

pub place_first : (s : List ℕ) → place_of s 0 ≡ 0
unfolding place_of values_f
place_first s = refl
