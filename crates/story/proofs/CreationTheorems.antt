-- "and so do all creations among themselves": a creation belongs to the stream that it makes, so that equal orders on every stream are equal orders of creations.
use mathlib.Core.Path.{◌≡◌, refl, sym, ap, ap₂, ◌∙◌}
use Prim.Native.Nat.{ℕ, zero, suc, ◌+◌, ◌≤◌}
use native.Mathlib.Omega.{arith}
use mathlib.Core.List.{List, [], ◌∷◌, ◌++◌}
use borrow.Author.Tests.{eq-eqb, ne_eqb}
use Rattle.std.specs.Prelude.{Option, Some, Result, Ok}
use Rattle.numbers.proofs.ChooseLaws.{pick_elim}
use Rattle.text.specs.declared.ids.StreamId.{StreamId}
use Rattle.wishes.specs.declared.outcome.Refusal.{Refusal}
use Rattle.wishes.specs.declared.wish.Wish.{Wish}
use Rattle.wishes.specs.declared.wish.Wish.TheVariants.{CreateStream}
use Rattle.session.specs.declared.session.Session.{Session}
use Rattle.story.specs.Doings.{Doing, Wants, doing}
use Rattle.story.specs.History.{makes}
use Rattle.story.specs.Orders.{Accept, Act, Permuted, Plain, Premises, Reject, Tagged, creates, creating, creations_in, keep, made_by, mine, nil, owner, owner_of, owner_of_want, owns, swap, trans}

-- ---- a step creates nothing, or one stream, which is its own
data Makes (n : ℕ) (o : Option ℕ) (next : ℕ) : Type 0 where
  nothing : n ≡ 0 → Makes n o next
  one : n ≡ 1 → o ≡ Some next → Makes n o next

want_makes : (next : ℕ) (x : StreamId) (v : Result Wish Refusal) → Makes (makes v) (owner_of_want next x v) next
want_makes next x (Ok (CreateStream t)) = one refl refl
want_makes next x other = nothing refl

doing_makes : (next : ℕ) (g : Doing) → Makes (made_by g) (owner_of next g) next
doing_makes next (Wants x w) = want_makes next x w
doing_makes next other = nothing refl

act_makes : (s : Session) (older : List (Tagged Act)) (act : Act) → Makes (creates act) (owner s older act) (s.next_stream + creations_in older)
act_makes s older (Plain c) = doing_makes _ (doing c)
act_makes s older (Accept r clock out) = nothing refl
act_makes s older (Reject r code description clock out) = nothing refl

-- ---- the creations of x's own steps
module _ (s : Session) where
  abbrev own : ℕ → List (Tagged Act) → List (Tagged Act)
  own k l = creating (mine s (s.next_stream + k) l)

  skip : (p : Tagged Act) (l : List (Tagged Act)) → creates p.held ≡ 0 → creating (p ∷ l) ≡ creating l
  unfolding creating
  skip p l e = rw e

  take_one : (p : Tagged Act) (l : List (Tagged Act)) → creates p.held ≡ 1 → creating (p ∷ l) ≡ p ∷ creating l
  unfolding creating
  take_one p l e = rw e

  own_skip : (p : Tagged Act) (older : List (Tagged Act)) (k : ℕ) → creates p.held ≡ 0 → own k (p ∷ older) ≡ own k older
  unfolding mine
  own_skip p older k e =
      pick_elim (λ (r : List (Tagged Act)). creating r ≡ own k older) _ _ (owns (s.next_stream + k) (owner s older p.held))
      (λ b. skip p (mine s (s.next_stream + k) older) e) (λ b. refl)

  module _ (p : Tagged Act) (older : List (Tagged Act)) (o : owner s older p.held ≡ Some (s.next_stream + creations_in older)) where
    own_here : creates p.held ≡ 1 → own (creations_in older) (p ∷ older) ≡ p ∷ own (creations_in older) older
    unfolding mine
    own_here e = rw (o, eq-eqb (s.next_stream + creations_in older) (s.next_stream + creations_in older) refl) (take_one p _ e)

    own_past : (k : ℕ) → (creations_in older ≡ k → ⊥) → own k (p ∷ older) ≡ own k older
    unfolding mine
    own_past k n = rw (o, ne_eqb (s.next_stream + creations_in older) (s.next_stream + k) (λ z. n (omega arith)))

  -- none past the number of creations
  own_none : (l : List (Tagged Act)) (k : ℕ) → creations_in l ≤ k → own k l ≡ []
  unfolding creating creations_in mine
  own_none [] k h = refl
  own_none (p ∷ older) k h = at (act_makes s older p.held) (own_none older k (omega arith))
    where
      at : Makes (creates p.held) (owner s older p.held) (s.next_stream + creations_in older) → own k older ≡ [] → own k (p ∷ older) ≡ []
      at (nothing e) i = own_skip p older k e ∙ i
      at (one e o) i = own_past p older o k (λ z. omega arith) ∙ i

  -- all creations, stream by stream
  abbrev spread : List (Tagged Act) → ℕ → List (Tagged Act)
  spread l zero = []
  spread l (suc k) = own k l ++ spread l k

  spread_skip : (p : Tagged Act) (older : List (Tagged Act)) → creates p.held ≡ 0 → (n : ℕ) → spread (p ∷ older) n ≡ spread older n
  spread_skip p older e zero = refl
  spread_skip p older e (suc k) = ap₂ (λ (a b : List (Tagged Act)). a ++ b) (own_skip p older k e) (spread_skip p older e k)

  spread_past : (p : Tagged Act) (older : List (Tagged Act)) → owner s older p.held ≡ Some (s.next_stream + creations_in older) → (n : ℕ) → n ≤ creations_in older → spread (p ∷ older) n ≡ spread older n
  spread_past p older o zero h = refl
  spread_past p older o (suc k) h = ap₂ (λ (a b : List (Tagged Act)). a ++ b) (own_past p older o k (λ z. omega arith)) (spread_past p older o k (omega arith))

  all_spread : (l : List (Tagged Act)) → creating l ≡ spread l (creations_in l)
  unfolding creating creations_in
  all_spread [] = refl
  all_spread (p ∷ older) = at (act_makes s older p.held) (all_spread older)
    where
      at : Makes (creates p.held) (owner s older p.held) (s.next_stream + creations_in older) → creating older ≡ spread older (creations_in older)
          → creating (p ∷ older) ≡ spread (p ∷ older) (creations_in older + creates p.held)
      at (nothing e) i =
          let z : creations_in older + creates p.held ≡ creations_in older = omega arith in
          skip p older e ∙ i ∙ sym (spread_skip p older e (creations_in older)) ∙ ap (spread (p ∷ older)) (sym z)
      at (one e o) i =
          let z : creations_in older + creates p.held ≡ suc (creations_in older) = omega arith in
          let a : own (creations_in older) (p ∷ older) ≡ p ∷ [] = own_here p older o e ∙ ap (λ (r : List (Tagged Act)). p ∷ r) (own_none older (creations_in older) (omega arith)) in
          take_one p older e ∙ ap (λ (r : List (Tagged Act)). p ∷ r) (i ∙ sym (spread_past p older o (creations_in older) (omega arith)))
          ∙ sym (ap (λ (r : List (Tagged Act)). r ++ spread (p ∷ older) (creations_in older)) a) ∙ ap (spread (p ∷ older)) (sym z)

  spread_same : (l m : List (Tagged Act)) → ((x : ℕ) → mine s x l ≡ mine s x m) → (n : ℕ) → spread l n ≡ spread m n
  spread_same l m q zero = refl
  spread_same l m q (suc k) = ap₂ (λ (a b : List (Tagged Act)). a ++ b) (ap creating (q (s.next_stream + k))) (spread_same l m q k)

-- ---- as many in both
same_count : {l m : List (Tagged Act)} → Permuted l m → creations_in l ≡ creations_in m
unfolding creations_in
same_count nil = refl
same_count (keep p q) = ap (λ (n : ℕ). n + creates p.held) (same_count q)
same_count (swap p q l) = omega arith
same_count (trans a b) = same_count a ∙ same_count b

pub creations_keep_order : (s : Session) (l m : List (Tagged Act)) → Premises s l m → creating l ≡ creating m
creations_keep_order s l m w =
    all_spread s l ∙ spread_same s l m w.same_order (creations_in l) ∙ ap (spread s m) (same_count w.same_steps) ∙ sym (all_spread s m)
