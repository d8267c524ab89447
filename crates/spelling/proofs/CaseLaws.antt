-- What is put for the case that was found is put for the value.
use mathlib.Core.Path.{◌≡◌, sym, ap, ◌∙◌}
use Prim.Native.Nat.{ℕ}
use mathlib.Core.Bool.{Bool, true, false}
use mathlib.Core.List.{List}
use Rattle.numbers.specs.Choose.{pick}
use Rattle.spelling.specs.Text.{put_all}

pub at_case : {K : Type 0} (f : K → List ℕ) (k y : K) (p q : ℕ × List ℕ) → q ≡ put_all (f y) p → k ≡ y → q ≡ put_all (f k) p
at_case f k y p q e h = e ∙ ap (λ z. put_all (f z) p) (sym h)

-- by a flag
pub if_set : (b : Bool) (s t : List ℕ) (p q : ℕ × List ℕ) → q ≡ put_all s p → b ≡ true → q ≡ put_all (pick b s t) p
if_set b s t p q e h = e ∙ ap (λ (c : Bool). put_all (pick c s t) p) (sym h)

pub if_unset : (b : Bool) (s t : List ℕ) (p q : ℕ × List ℕ) → q ≡ put_all t p → b ≡ false → q ≡ put_all (pick b s t) p
if_unset b s t p q e h = e ∙ ap (λ (c : Bool). put_all (pick c s t) p) (sym h)
