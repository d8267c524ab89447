-- What holds of both ways of a choice holds of the choice, with what the test says.
use mathlib.Core.Path.{◌≡◌, refl}
use Prim.Native.Nat.{ℕ, ◌≤◌, ◌<◌}
use mathlib.Core.Bool.{Bool, true, false}
use lib.Dec.{leb, ltb, eqb}
use borrow.Author.Tests.{leb-true, leb-false, ltb-true, ltb-false, eqb-true, eqb-false}
use Rattle.numbers.specs.Choose.{pick}

module _ {ℓ} {X : Type ℓ} (P : X → Type 0) (x y : X) where
  pub pick_elim : (b : Bool) → (b ≡ true → P x) → (b ≡ false → P y) → P (pick b x y)
  pick_elim true f g = f refl
  pick_elim false f g = g refl

  pub pick_le : (a b : ℕ) → (a ≤ b → P x) → (b < a → P y) → P (pick (leb a b) x y)
  pick_le a b f g = pick_elim (leb a b) (λ e. f (leb-true a b e)) (λ e. g (leb-false a b e))

  pub pick_lt : (a b : ℕ) → (a < b → P x) → (b ≤ a → P y) → P (pick (ltb a b) x y)
  pick_lt a b f g = pick_elim (ltb a b) (λ e. f (ltb-true a b e)) (λ e. g (ltb-false a b e))

  pub pick_eq : (a b : ℕ) → (a ≡ b → P x) → ((a ≡ b → ⊥) → P y) → P (pick (eqb a b) x y)
  pick_eq a b f g = pick_elim (eqb a b) (λ e. f (eqb-true a b e)) (λ e. g (eqb-false a b e))
