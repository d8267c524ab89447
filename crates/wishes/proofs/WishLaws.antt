-- The tests of a whole body, and what follows them.
use mathlib.Core.Path.{◌≡◌, refl, sym, ap, ◌∙◌}
use mathlib.Core.Bool.{Bool, true, not, true≢false}
use Prim.Native.Nat.{ℕ, ◌≤◌, ◌<◌}
use mathlib.Core.List.{List}
use lib.ListN.{length}
use borrow.Author.Tests.{lt-ltb, le-ltb}
use Rattle.std.specs.Prelude.{Option, Some, None, Result, Err}
use Rattle.std.specs.Option.{is_some}
use Rattle.amf0.specs.Bodies.{checked}
use Rattle.amf0.specs.declared.error.BodyError.{BodyError}
use Rattle.wishes.specs.Wish.{and_then, if_whole, need, whole_body}
use Rattle.wishes.specs.declared.outcome.Refusal.{Refusal}
use Rattle.wishes.specs.declared.outcome.Refusal.TheVariants.{BodyTooLong}

-- what a whole body gives is w
module _ {A : Type 0} (s : List ℕ) (w r : Result A Refusal) where
  pub body_long : 4096 < length s → r ≡ Err BodyTooLong → r ≡ and_then (whole_body s) w
  unfolding whole_body
  body_long h e = e ∙ simp (lt-ltb 4096 (length s) h)

  pub body_told : length s ≤ 4096 → (k l : Result (Unit {0}) BodyError) → r ≡ and_then (if_whole l) w → k ≡ checked s → k ≡ l → r ≡ and_then (whole_body s) w
  unfolding whole_body
  body_told h k l e f g = e ∙ ap (λ (q : Result (Unit {0}) BodyError). and_then (if_whole q) w) (sym g ∙ f) ∙ simp (le-ltb 4096 (length s) h)

-- what is not there gives its fault
pub need_missing : {A B E : Type 0} (o : Option A) (b : Bool) (fault : E) (next : A → Result B E) → is_some o ≡ not b → b ≡ true → Err fault ≡ need o fault next
need_missing None b fault next e h = refl
need_missing (Some a) b fault next e h = absurd (true≢false (e ∙ ap not h))
