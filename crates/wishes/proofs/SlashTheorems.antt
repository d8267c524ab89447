-- "takes exactly one trailing slash off `app`": what stands before a slash at the end is left, and any other text stays as it was.
use mathlib.Core.Path.{◌≡◌, refl, sym, ap, ◌∙◌}
use Prim.Native.Nat.{ℕ, ◌-◌}
use native.Mathlib.Omega.{arith}
use mathlib.Core.List.{List, [], ◌∷◌, ◌++◌}
use lib.ListN.{length, drop, length-append}
use lib.Seq.{drop_at, take_at}
use Rattle.text.specs.Words.{same, text}
use Rattle.text.proofs.WordsLaws.{same_not, same_refl}
use Rattle.wishes.specs.Connect.{without_slash}
use mathlib.Core.Bool.{Bool, true, false}
use Rattle.numbers.specs.Choose.{pick}

-- the choice by a test t that was made of b
module _ {X : Type 0} (t b : Bool) (x y z : X) (e : t ≡ b) where
  pick_here : t ≡ true → z ≡ x → z ≡ pick b x y
  pick_here h f = f ∙ ap (λ (q : Bool). pick q x y) (sym h ∙ e)

  pick_past : t ≡ false → z ≡ y → z ≡ pick b x y
  pick_past h f = f ∙ ap (λ (q : Bool). pick q x y) (sym h ∙ e)

-- t, and one byte behind it
module _ (t : List ℕ) (b : ℕ) where
  last : length t ≡ length (t ++ b ∷ []) - 1
  last = simp length-append (omega arith)

  told : same (b ∷ []) (text "/") ≡ same (drop (length (t ++ b ∷ []) - 1) (t ++ b ∷ [])) (text "/")
  told = ap (λ (q : List ℕ). same q (text "/")) (sym (drop_at t (b ∷ []) _ last))

  pub slash_taken : b ∷ [] ≡ text "/" → without_slash (t ++ b ∷ []) ≡ t
  unfolding without_slash
  slash_taken h = sym (pick_here _ _ _ _ t told (ap (λ (q : List ℕ). same q (text "/")) h ∙ same_refl (text "/")) (sym (take_at t (b ∷ []) _ last)))

  pub other_stays : (b ∷ [] ≡ text "/" → ⊥) → without_slash (t ++ b ∷ []) ≡ t ++ b ∷ []
  unfolding without_slash
  other_stays n = sym (pick_past _ _ _ _ _ told (sym (same_not (b ∷ []) (text "/") n)) refl)
