-- `same` tells exactly whether two texts are the same list, and `which` goes down its table.
use mathlib.Core.Path.{◌≡◌, refl, sym, ap, ap₂, ◌∙◌, subst}
use Prim.Native.Nat.{ℕ}
use mathlib.Core.Bool.{Bool, true, false, ◌&&◌}
use mathlib.Core.List.{List, [], ◌∷◌}
use lib.Dec.{T, eqb}
use lib.Pointwise.{pointwise}
use borrow.Author.Tests.{eqb-true, eq-eqb}
use Rattle.numbers.specs.Choose.{pick}
use Rattle.text.specs.Words.{same, which}

-- ---- the same list

and_left : (a b : Bool) → a && b ≡ true → a ≡ true
and_left true b e = refl
and_left false b e = e

and_right : (a b : Bool) → a && b ≡ true → b ≡ true
and_right true b e = e
and_right false b e = absurd (subst T (sym e) tt)

pub same_eq : (a b : List ℕ) → same a b ≡ true → a ≡ b
unfolding same
same_eq [] [] e = refl
same_eq [] (y ∷ ys) e = absurd (subst T (sym e) tt)
same_eq (x ∷ xs) [] e = absurd (subst T (sym e) tt)
same_eq (x ∷ xs) (y ∷ ys) e = ap₂ (λ (u : ℕ) (v : List ℕ). u ∷ v) (eqb-true x y (and_left (eqb x y) _ e)) (same_eq xs ys (and_right (eqb x y) _ e))

pub same_refl : (a : List ℕ) → same a a ≡ true
unfolding same
same_refl [] = refl
same_refl (x ∷ xs) = simp (eq-eqb x x refl, same_refl xs)

pub same_not : (a b : List ℕ) → (a ≡ b → ⊥) → false ≡ same a b
same_not a b n = go (same a b) refl
  where
    go : (t : Bool) → same a b ≡ t → false ≡ t
    go true e = absurd (n (same_eq a b e))
    go false e = refl

-- std's comparison of two slices says the same
pub same_pointwise : (a b : List ℕ) → pointwise eqb a b ≡ same a b
unfolding same
same_pointwise [] [] = refl
same_pointwise [] (y ∷ ys) = refl
same_pointwise (x ∷ xs) [] = refl
same_pointwise (x ∷ xs) (y ∷ ys) = ap (λ (t : Bool). eqb x y && t) (same_pointwise xs ys)

-- ---- a table of words; r is the test of its first word
module _ {X : Type 0} (s w : List ℕ) (r : Bool) (x other : X) (ws : List (List ℕ × X)) (e : r ≡ same s w) where
  pub which_here : r ≡ true → x ≡ which ((w, x) ∷ ws) other s
  unfolding which
  which_here h = rw (sym e, h)

  pub which_past : r ≡ false → (y : X) → y ≡ which ws other s → y ≡ which ((w, x) ∷ ws) other s
  unfolding which
  which_past h y f = f ∙ ap (λ (t : Bool). pick t x (which ws other s)) (sym h ∙ e)

pub which_none : {X : Type 0} (s : List ℕ) (other : X) → other ≡ which [] other s
unfolding which
which_none s other = refl
