-- Rows that are filled from the left, and no metadata.
use mathlib.Core.Path.{◌≡◌, refl, sym, ap, ◌∙◌}
use Prim.Native.Nat.{ℕ, suc, ◌+◌, ◌-◌, ◌<◌}
use native.Mathlib.Numerals.{add-one}
use native.Mathlib.Omega.{arith}
use mathlib.Core.List.{List, [], ◌∷◌, ◌++◌, map}
use lib.ListN.{get_or, length, length-map, replicate, set, take}
use lib.Seq.{append_snoc, length-take-le, set_at, take-suc}
use Rattle.metadata.specs.Metadata.{no_metadata}
use Rattle.parts.specs.Parts.{field_numbers, metadata_rows}

-- no metadata is zeros
pub no_rows : replicate 2 (replicate 11 0) ≡ metadata_rows no_metadata
unfolding metadata_rows field_numbers
no_rows = refl

-- one place more
module _ {A : Type 0} (f : A → ℕ) (l : List A) (n : ℕ) (long : length l ≡ n) where
  map_snoc : (xs : List A) (x : A) → map f (xs ++ (x ∷ [])) ≡ map f xs ++ (f x ∷ [])
  map_snoc [] x = refl
  map_snoc (y ∷ xs) x = ap (λ (t : List ℕ). f y ∷ t) (map_snoc xs x)

  pub filled :
      (i : ℕ) (t : List ℕ) (d : A) → t ≡ map f (take i l) ++ replicate (n - i) 0 → i < n → (e : ℕ) → e ≡ f (get_or l i d)
      → set t i e ≡ map f (take (i + 1) l) ++ replicate (n - (i + 1)) 0
  filled i t d inv h e k =
      let r : ℕ = n - (i + 1) in
      let m : n - i ≡ suc r = omega arith in
      ap (λ (u : List ℕ). set u i e) inv
      ∙ ap (λ (j : ℕ). set (map f (take i l) ++ replicate j 0) i e) m
      ∙ set_at (map f (take i l)) 0 (replicate r 0) e i (length-map (take i l) f ∙ length-take-le i l (omega (arith, long)))
      ∙ ap (λ (x : ℕ). map f (take i l) ++ x ∷ replicate r 0) k
      ∙ sym (append_snoc (map f (take i l)) (f (get_or l i d)) (replicate r 0))
      ∙ ap (λ (u : List ℕ). u ++ replicate r 0) (sym (map_snoc (take i l) (get_or l i d)) ∙ ap (map f) (sym (take-suc l i d (omega (arith, long))) ∙ ap (λ (j : ℕ). take j l) (sym (add-one i))))
