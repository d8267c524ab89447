-- An edit of a column of the arrays, rows or names, leaves what is kept of the table after the change.
use mathlib.Core.Path.{◌≡◌, refl, sym, ap, ◌∙◌}
use mathlib.Core.Logic.{◌⊎◌, inl, inr}
use Prim.Native.Nat.{ℕ, zero, suc, ◌+◌, ◌-◌, ◌≤◌, ◌<◌, max, min}
use native.Mathlib.Omega.{arith}
use mathlib.Core.List.{List, [], ◌∷◌, ◌++◌, map, append_assoc}
use Rattle.std.specs.Prelude.{None}
use lib.ListN.{get_or-append, drop, get_or, length, length-append, length-drop, length-map, length-replicate, length-set, replicate, set, take, take-append-drop}
use lib.Seq.{append_snoc, drop_at, length-take-le, set-append_left, set_at, set_out, set_split, take-append-add, take-append-le, take_at, take-set-lt, take-take}
use borrow.Author.Tests.{le-leb, lt-leb}
use Rattle.numbers.proofs.ChooseLaws.{pick_eq}
use Rattle.numbers.proofs.PatternLaws.{le_or_lt}
use Rattle.tables.specs.Tables.{changed, look, removed, shifted}
use Rattle.tables.proofs.TablesLaws.{Stands, changed_at, changed_missing, look_no, removed_at, removed_missing}
use Rattle.session.specs.State.{one_more}
use Rattle.written.specs.Edits.{edited, place_in}
use Rattle.written.specs.Kept.{onto}
use Rattle.written.specs.declared.edits.Edit.TheVariants.{Put, Cut}
use Rattle.written.proofs.EditsLaws.{cut_in, cut_out, put_in, put_out}

-- ---- the place of a number
module _ {A : Type 0} (number : A → ℕ) (id : ℕ) where
  abbrev Found : List A → ℕ → Type 0
  Found l p = (p < length l) × ((look number id (take p l) ≡ None) × ((d : A) → number (get_or l p d) ≡ id))

  abbrev Lost : List A → ℕ → Type 0
  Lost l p = (p ≡ length l) × (look number id l ≡ None)

  place_cases : (l : List A) → Found l (place_in number id l) ⊎ Lost l (place_in number id l)
  unfolding place_in look
  place_cases [] = inr (refl, refl)
  place_cases (x ∷ xs) =
      pick_eq (λ (p : ℕ). Found (x ∷ xs) p ⊎ Lost (x ∷ xs) p) 0 (suc (place_in number id xs)) (number x) id
      (λ e. inl (omega arith, (refl, λ d. e)))
      (λ no. elim (place_cases xs) [
        | inl f ↦ inl (omega (arith, f.0), (look_no number id x (take (place_in number id xs) xs) no ∙ f.1.0, f.1.1))
        | inr f ↦ inr (ap suc f.0, look_no number id x xs no ∙ f.1)
      ])

-- ---- a map goes through every edit
module _ {A B : Type 0} (g : A → B) where
  pub map_append : (xs ys : List A) → map g (xs ++ ys) ≡ map g xs ++ map g ys
  map_append [] ys = refl
  map_append (x ∷ xs) ys = ap (λ (t : List B). g x ∷ t) (map_append xs ys)

  map_take : (n : ℕ) (xs : List A) → map g (take n xs) ≡ take n (map g xs)
  map_take zero xs = refl
  map_take (suc n) [] = refl
  map_take (suc n) (x ∷ xs) = ap (λ (t : List B). g x ∷ t) (map_take n xs)

  pub map_drop : (n : ℕ) (xs : List A) → map g (drop n xs) ≡ drop n (map g xs)
  map_drop zero xs = refl
  map_drop (suc n) [] = refl
  map_drop (suc n) (x ∷ xs) = map_drop n xs

  map_set : (xs : List A) (i : ℕ) (x : A) → map g (set xs i x) ≡ set (map g xs) i (g x)
  map_set [] i x = refl
  map_set (y ∷ xs) zero x = refl
  map_set (y ∷ xs) (suc i) x = ap (λ (t : List B). g y ∷ t) (map_set xs i x)

-- ---- a table whose first n places are in use, with blanks behind them, and a column of it
module _ {A B : Type 0} (g : A → B) (blank : A) (t : List A) (l : List B) (n : ℕ) (hl : length l ≡ 16) (hn : n ≤ 16) (ht : length t ≡ n) (back : map g t ≡ take n l) where
  abbrev whole : List A
  whole = t ++ replicate (16 - n) blank

  whole_length : length whole ≡ 16
  whole_length = omega (arith, length-append t (replicate (16 - n) blank), length-replicate (16 - n) blank, ht, hn)

  front : take n whole ≡ t
  front = take_at t (replicate (16 - n) blank) n ht

  count : n ≡ min n (length whole)
  count = omega (arith, whole_length, hn)

  -- as many as stand in front are written over
  onto_some : (k : ℕ) (new : List B) → length new ≡ k → onto new l ≡ new ++ drop k l
  onto_some k new e = ap (λ (j : ℕ). new ++ drop j l) e

  onto_same : (k : ℕ) → k ≤ 16 → onto (take k l) l ≡ l
  onto_same k h = onto_some k (take k l) (length-take-le k l (omega (arith, hl))) ∙ take-append-drop k l

  stays : l ≡ onto (map g (take n whole)) l
  stays = sym (ap (λ (u : List A). onto (map g u) l) front ∙ ap (λ (u : List B). onto u l) back ∙ onto_same n hn)

  -- ---- none; what was in use, or is now, is as many
  most : max n n ≡ n
  most = omega arith

  pub kept_same : l ≡ onto (map g (take (max n n) (t ++ replicate (16 - n) blank))) l
  kept_same = stays ∙ ap (λ (k : ℕ). onto (map g (take k whole)) l) (sym most)

  -- ---- one more
  pub kept_add : (e : A) → set l n (g e) ≡ onto (map g (take (max n (one_more n)) (set (t ++ replicate (16 - n) blank) n e))) l
  kept_add e = sym (elim (le_or_lt 16 n) [
    | inl h ↦
        let one : one_more n ≡ n = simp (le-leb 16 n h) in
        let more : max n (one_more n) ≡ n = omega (arith, one) in
        (λ i. onto (map g (take (more i) (set_out whole n e (omega (arith, whole_length, h)) i))) l) ∙ sym stays ∙ sym (set_out l n (g e) (omega (arith, hl, h)))
    | inr h ↦
        let next : one_more n ≡ n + 1 = simp (lt-leb 16 n h) in
        let more : max n (one_more n) ≡ n + 1 = omega (arith, next) in
        let k : ℕ = 15 - n in
        let m : 16 - n ≡ suc k = omega (arith, h) in
        let placed : set whole n e ≡ t ++ e ∷ replicate k blank = ap (λ (j : ℕ). set (t ++ replicate j blank) n e) m ∙ set_at t blank (replicate k blank) e n ht in
        let one : take (n + 1) (t ++ e ∷ replicate k blank) ≡ t ++ (e ∷ []) = ap (λ (j : ℕ). take (j + 1) (t ++ e ∷ replicate k blank)) (sym ht) ∙ take-append-add t (e ∷ replicate k blank) 1 in
        let new : map g (t ++ (e ∷ [])) ≡ take n l ++ (g e ∷ []) = map_append g t (e ∷ []) ∙ ap (λ (u : List B). u ++ (g e ∷ [])) back in
        let long : length (take n l ++ (g e ∷ [])) ≡ suc n = omega (arith, length-append (take n l) (g e ∷ []), length-take-le n l (omega (arith, hl, h))) in
        (λ i. onto (map g (take (more i) (placed i))) l)
        ∙ ap (λ (u : List A). onto (map g u) l) one
        ∙ ap (λ (u : List B). onto u l) new
        ∙ onto_some (suc n) (take n l ++ (g e ∷ [])) long
        ∙ append_snoc (take n l) (g e) (drop (suc n) l)
        ∙ sym (set_split l n (g e) (omega (arith, hl, h)))
  ])

  module _ (number : A → ℕ) where
    stands : (id p : ℕ) (d : A) → Found number id t p → Stands number id n whole d p
    stands id p d f =
        (omega (arith, f.0, ht), (ap (look number id) (take-append-le p t (replicate (16 - n) blank) (omega (arith, f.0))) ∙ f.1.0, ap number (get_or-append t (replicate (16 - n) blank) d p f.0) ∙ f.1.1 d))

    lost : (id p : ℕ) → Lost number id t p → look number id (take n whole) ≡ None
    lost id p f = ap (look number id) front ∙ f.1

    -- ---- another one in its place
    pub kept_put : (e : A) → edited (g blank) (Put (place_in number (number e) t)) n (g e) l ≡ onto (map g (take (max n n) (changed number e n (t ++ replicate (16 - n) blank)))) l
    kept_put e = sym (ap (λ (k : ℕ). onto (map g (take k (changed number e n whole))) l) most ∙ elim (place_cases number (number e) t) [
      | inl f ↦
          let p : ℕ = place_in number (number e) t in
          let h : p < n = omega (arith, f.0, ht) in
          ap (λ (u : List A). onto (map g (take n u)) l) (sym (changed_at number whole n n count e p e (stands (number e) p e f)))
          ∙ ap (λ (u : List A). onto (map g u) l) (take-set-lt n whole p e h ∙ ap (λ (u : List A). set u p e) front)
          ∙ ap (λ (u : List B). onto u l) (map_set g t p e ∙ ap (λ (u : List B). set u p (g e)) back)
          ∙ onto_some n (set (take n l) p (g e)) (length-set (take n l) p (g e) ∙ length-take-le n l (omega (arith, hl, hn)))
          ∙ sym (set-append_left (take n l) (drop n l) p (g e) (omega (arith, h, length-take-le n l (omega (arith, hl, hn)))))
          ∙ ap (λ (u : List B). set u p (g e)) (take-append-drop n l)
          ∙ put_in (g blank) n (g e) l p h
      | inr f ↦
          ap (λ (u : List A). onto (map g (take n u)) l) (sym (changed_missing number whole n n count e (lost (number e) (place_in number (number e) t) f)))
          ∙ sym stays ∙ put_out (g blank) n (g e) l (place_in number (number e) t) (omega (arith, f.0, ht))
    ])

    -- ---- one gone
    pub kept_cut : (id : ℕ) (x : B) → edited (g blank) (Cut (place_in number id t)) n x l ≡ onto (map g (take (max n (n - 1)) (removed number blank id n (t ++ replicate (16 - n) blank)))) l
    unfolding shifted
    kept_cut id x =
        let least : max n (n - 1) ≡ n = omega arith in
        sym (ap (λ (k : ℕ). onto (map g (take k (removed number blank id n whole))) l) least ∙ elim (place_cases number id t) [
          | inl f ↦
              let p : ℕ = place_in number id t in
              let h : p < n = omega (arith, f.0, ht) in
              let rest : List A = drop (p + 1) t in
              let all : shifted blank p n whole ≡ (take p t ++ (rest ++ (blank ∷ []))) ++ replicate (16 - n) blank =
              (λ i. take-append-le p t (replicate (16 - n) blank) (omega (arith, f.0)) i ++ (drop (p + 1) (front i) ++ blank ∷ drop_at t (replicate (16 - n) blank) n ht i))
              ∙ sym (append_assoc (take p t) (rest ++ (blank ∷ [])) (replicate (16 - n) blank) ∙ ap (λ (u : List A). take p t ++ u) (append_snoc rest blank (replicate (16 - n) blank))) in
              let many : length (take p t ++ (rest ++ (blank ∷ []))) ≡ n =
              omega (arith, length-append (take p t) (rest ++ (blank ∷ [])), length-append rest (blank ∷ []), length-take-le p t (omega (arith, f.0)), length-drop (p + 1) t, f.0, ht) in
              let new : map g (take p t ++ (rest ++ (blank ∷ []))) ≡ take p l ++ (drop (p + 1) (take n l) ++ (g blank ∷ [])) =
              map_append g (take p t) (rest ++ (blank ∷ []))
              ∙ (λ i. (map_take g p t ∙ ap (take p) back ∙ take-take p n l (omega (arith, h))) i ++ (map_append g rest (blank ∷ []) ∙ ap (λ (u : List B). u ++ (g blank ∷ [])) (map_drop g (p + 1) t ∙ ap (drop (p + 1)) back)) i) in
              let long : length (take p l ++ (drop (p + 1) (take n l) ++ (g blank ∷ []))) ≡ n = ap length (sym new) ∙ length-map (take p t ++ (rest ++ (blank ∷ []))) g ∙ many in
              ap (λ (u : List A). onto (map g (take n u)) l) (sym (removed_at number whole n n count id p blank (stands id p blank f) blank (shifted blank p n whole) refl) ∙ all)
              ∙ ap (λ (u : List A). onto (map g u) l) (take_at (take p t ++ (rest ++ (blank ∷ []))) (replicate (16 - n) blank) n many)
              ∙ ap (λ (u : List B). onto u l) new
              ∙ onto_some n (take p l ++ (drop (p + 1) (take n l) ++ (g blank ∷ []))) long
              ∙ append_assoc (take p l) (drop (p + 1) (take n l) ++ (g blank ∷ [])) (drop n l)
              ∙ ap (λ (u : List B). take p l ++ u) (append_snoc (drop (p + 1) (take n l)) (g blank) (drop n l))
              ∙ cut_in (g blank) n x l p (shifted (g blank) p n l) refl h
          | inr f ↦
              ap (λ (u : List A). onto (map g (take n u)) l) (sym (removed_missing number whole n n count id blank (lost id (place_in number id t) f)))
              ∙ sym stays
              ∙ cut_out (g blank) n x l (place_in number id t) (omega (arith, f.0, ht))
        ])
