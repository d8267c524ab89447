-- Laws of the last property: one pair, and then the others; and the steps of the function that looks for it.
use mathlib.Core.Path.{◌≡◌, refl, sym, ap, ◌∙◌}
use Prim.Native.Nat.{ℕ, zero, suc, ◌+◌, ◌-◌, ◌≤◌, ◌<◌}
use native.Mathlib.Omega.{arith}
use mathlib.Core.Bool.{true, false}
use mathlib.Core.List.{List}
use lib.ListN.{length, take, drop}
use Rattle.std.specs.Prelude.{Option, Some, None, option_map, Result, Ok, Err}
use Rattle.std.specs.Result.{result_ok}
use Rattle.text.specs.Words.{same}
use Rattle.amf0.specs.Properties.{better, inside, last, last_f, last_property, on_pair, pair_at, pair_of}
use Rattle.amf0.specs.Reading.{extent_at}
use Rattle.amf0.specs.Skipping.{Skip, skip_v}
use Rattle.amf0.specs.declared.error.BodyError.{BodyError}
use Rattle.amf0.specs.declared.value.Extent.{Extent}
use Rattle.amf0.specs.declared.value.NameAt.{NameAt}
use Rattle.amf0.proofs.ReadingLaws.{name_cut}
use Rattle.amf0.proofs.SkippingLaws.{Lands, Moves, Past, moves, name_cases}

-- where a pair's value stands, and where the next pair
abbrev pub Paired : List ℕ → ℕ → ℕ → ℕ → Type 0
Paired s i v a = ((i + 2 < v) × (v ≤ length s)) × ((i < a) × (a ≤ length s))

module _ (s : List ℕ) (f : ℕ → Skip) (m : Moves s f) where
  -- every pair is one of these
  pair_cases : (i : ℕ) (P : Option (ℕ × ℕ) → Type 0) → P None → ((v a : ℕ) → Paired s i v a → P (Some (v, a))) → P (pair_at f s i)
  unfolding pair_at
  pair_cases i P none some = name_cases s i (λ (x : Result NameAt BodyError). P (pair_of f x)) none (λ n h. none) (λ v h. go v h (f v) (m v))
    where
      go : (v : ℕ) → (i + 2 < v) × (v ≤ length s) → (r : Skip) → Lands (Past s v) r → P (option_map (λ next. (v, next)) (result_ok r))
      go v h (Ok a) l = some v a (omega arith)
      go v h (Err e) l = none

  pub pair_none : (i : ℕ) → length s ≤ i → None ≡ pair_at f s i
  unfolding pair_at
  pair_none i h = ap (pair_of f) (name_cut s i (omega arith))

  module _ (w : List ℕ) where
    same_count : (k l i : ℕ) (best : Option ℕ) → length s ≤ i + k → length s ≤ i + l → last_f f s w k i best ≡ last_f f s w l i best
    unfolding last_f
    same_count zero zero i best h g = refl
    same_count zero (suc l) i best h g = ap (λ (x : Option (ℕ × ℕ)). on_pair x (λ v a. last_f f s w l a (better s w i v best)) best) (pair_none i (omega arith))
    same_count (suc k) zero i best h g = sym (ap (λ (x : Option (ℕ × ℕ)). on_pair x (λ v a. last_f f s w k a (better s w i v best)) best) (pair_none i (omega arith)))
    same_count (suc k) (suc l) i best h g =
        pair_cases i
        (λ (x : Option (ℕ × ℕ)). on_pair x (λ v a. last_f f s w k a (better s w i v best)) best ≡ on_pair x (λ v a. last_f f s w l a (better s w i v best)) best)
        refl
        (λ v a p. same_count k l a (better s w i v best) (omega arith) (omega arith))

pub pair_past : (s : List ℕ) (i v a : ℕ) → pair_at (skip_v s 8) s i ≡ Some (v, a) → Paired s i v a
pair_past s i = pair_cases s (skip_v s 8) (moves s 8) i (λ (x : Option (ℕ × ℕ)). (v a : ℕ) → x ≡ Some (v, a) → Paired s i v a) (λ v a e. cc) (λ v a p w b e. let q : ◌≡◌ {A = ℕ × ℕ} (v, a) (w, b) = cc in omega (arith, ap (λ (x : ℕ × ℕ). x.0) q, ap (λ (x : ℕ × ℕ). x.1) q))

-- ---- the function began at `at` with `first` and stands at i with `best`, and what is left gives the answer
module _ (s w : List ℕ) (i at : ℕ) (best first : Option ℕ) (so : last s w i best ≡ last s w at first) where
  last_by : (x : Option (ℕ × ℕ)) → pair_at (skip_v s 8) s i ≡ x → on_pair x (λ v a. last s w a (better s w i v best)) best ≡ last s w at first
  unfolding last last_f
  last_by x e =
      ap (λ (y : Option (ℕ × ℕ)). on_pair y (λ v a. last s w a (better s w i v best)) best) (sym e)
      ∙ sym (same_count s (skip_v s 8) (moves s 8) w (length s) (suc (length s)) i best (omega arith) (omega arith))
      ∙ so

  pub last_end : pair_at (skip_v s 8) s i ≡ None → best ≡ last s w at first
  last_end e = last_by None e

  module _ (v a : ℕ) (e : pair_at (skip_v s 8) s i ≡ Some (v, a)) where
    pub last_pair : last s w a (better s w i v best) ≡ last s w at first
    last_pair = last_by (Some (v, a)) e

    pub last_named : same (take (v - (i + 2)) (drop (i + 2) s)) w ≡ true → last s w a (Some v) ≡ last s w at first
    unfolding better
    last_named q = simp q at last_pair

    pub last_other : same (take (v - (i + 2)) (drop (i + 2) s)) w ≡ false → last s w a best ≡ last s w at first
    unfolding better
    last_other q = simp q at last_pair

-- ---- in a value
pub property_in : (s : List ℕ) (at : ℕ) (w : List ℕ) (x : Result Extent BodyError) (r : Option ℕ) → r ≡ inside x (λ p. last s w p None) → extent_at s at ≡ x → r ≡ last_property s at w
unfolding last_property
property_in s at w x r e f = e ∙ ap (λ (y : Result Extent BodyError). inside y (λ p. last s w p None)) (sym f)

-- what `last_pair` cites
pub ruleset lasts = (pair_past, last_end, last_named, last_other)
