-- Laws of tables, over any type of entry and any number of places: a search, a change, a removal.
use mathlib.Core.Path.{◌≡◌, refl, sym, ap, ◌∙◌}
use mathlib.Core.Logic.{inl, inr}
use Prim.Native.Nat.{ℕ, suc, ◌+◌, ◌-◌, ◌≤◌, ◌<◌, min}
use native.Mathlib.Numerals.{add-one}
use native.Mathlib.Omega.{arith}
use mathlib.Core.List.{List, [], ◌∷◌, ◌++◌, append_assoc, append-nil}
use mathlib.Core.Bool.{Bool, true, false, ◌||◌, cond}
use lib.Dec.{eqb, ltb}
use Rattle.std.specs.Prelude.{Option, Some, None, position}
use Rattle.std.specs.List.{copy_within, list_any}
use Rattle.std.proofs.lemmas.List.{drop-take}
use Rattle.std.proofs.lemmas.List.Quantifiers.{position-Some}
use Rattle.std.proofs.lemmas.List.Sums.{fails_before_first}
use Rattle.numbers.specs.Choose.{pick}
use lib.ListN.{length, take, drop, set, get_or, length-append, length-drop, length-take, drop_of_length-le, take-append-drop}
use lib.Seq.{append_snoc, drop-append-le, drop-cons, drop-set-lt, get_or-take, length-take-le, set_at, set_split, take_all, take-suc, take-suc-set, take-set-lt, take-take}
use borrow.Author.Tests.{eq-eqb, eqb-true, ltb-false, ne_eqb}
use Rattle.numbers.proofs.ChooseLaws.{pick_eq}
use Rattle.numbers.proofs.PatternLaws.{le_or_lt}
use Rattle.tables.specs.Tables.{change, changed, closed, has, look, remove, removed, shifted}

-- ---- the first n places
module _ {A : Type 0} (l : List A) where
  -- the next entry, out of those that are left
  pub next_entry : (n i : ℕ) (d : A) → i < n → n ≤ length l → drop i (take n l) ≡ get_or l i d ∷ drop (i + 1) (take n l)
  next_entry n i d h g =
      drop-cons (take n l) i d (omega (arith, length-take-le n l g))
      ∙ ap (λ (x : A). x ∷ drop (suc i) (take n l)) (get_or-take n l i d h)
      ∙ ap (λ (m : ℕ). get_or l i d ∷ drop m (take n l)) (sym (add-one i))

  pub no_entry : (n i : ℕ) → n ≤ i → drop i (take n l) ≡ []
  no_entry n i h = drop_of_length-le (take n l) {i = i} (omega (arith, length-take n l))

  -- around the place p
  pub around : (n p : ℕ) (d : A) → p < n → n ≤ length l → take n l ≡ take p l ++ (get_or l p d ∷ drop (p + 1) (take n l))
  around n p d h g =
      sym (take-append-drop p (take n l))
      ∙ ap (λ (t : List A). t ++ drop p (take n l)) (take-take p n l (omega arith))
      ∙ ap (λ (t : List A). take p l ++ t) (next_entry n p d h g)

  pub behind : (n p : ℕ) → p < n → n ≤ length l → drop (p + 1) (take n l) ++ drop n l ≡ drop (p + 1) l
  behind n p h g = sym (drop-append-le (p + 1) (take n l) (drop n l) (omega (arith, length-take-le n l g))) ∙ ap (drop (p + 1)) (take-append-drop n l)

  -- a count past the places is that of a full table
  module _ (c n : ℕ) (q : n ≡ min c (length l)) where
    pub take_in : take n l ≡ take c l
    take_in = elim (le_or_lt c (length l)) [
      | inl h ↦ let e : n ≡ c = omega arith in ap (λ (m : ℕ). take m l) e
      | inr h ↦ take_all n l (omega arith) ∙ sym (take_all c l (omega arith))
    ]

    pub drop_in : drop n l ≡ drop c l
    drop_in = elim (le_or_lt c (length l)) [
      | inl h ↦ let e : n ≡ c = omega arith in ap (λ (m : ℕ). drop m l) e
      | inr h ↦ drop_of_length-le l {i = n} (omega arith) ∙ sym (drop_of_length-le l {i = c} (omega arith))
    ]

none_at : (b : Bool) (a : ℕ) → cond b (Some a) None ≡ None → b ≡ false
none_at true a e = let z : ◌≡◌ {A = ℕ} 0 1 = cc in absurd (omega arith)
none_at false a e = refl

past_end : (a b : ℕ) → cond (ltb a b) (Some a) None ≡ None → b ≤ a
past_end a b e = ltb-false a b (none_at (ltb a b) a e)

-- ---- the first entry of a number
module _ {A : Type 0} (number : A → ℕ) where
  pub look_yes : (id : ℕ) (x : A) (xs : List A) → number x ≡ id → look number id (x ∷ xs) ≡ Some x
  unfolding look
  look_yes id x xs e = simp (eq-eqb (number x) id e)

  pub look_no : (id : ℕ) (x : A) (xs : List A) → (number x ≡ id → ⊥) → look number id (x ∷ xs) ≡ look number id xs
  unfolding look
  look_no id x xs n = simp (ne_eqb (number x) id n)

  -- not the first, and not among the others
  pub look_none : (id : ℕ) (x : A) (xs : List A) → look number id (x ∷ xs) ≡ None → (number x ≡ id → ⊥) × (look number id xs ≡ None)
  unfolding look
  look_none id x xs =
      pick_eq (λ (r : Option A). r ≡ None → (number x ≡ id → ⊥) × (look number id xs ≡ None)) (Some x) (look number id xs) (number x) id
      (λ h e. let z : ◌≡◌ {A = ℕ} 0 1 = cc in absurd (omega arith)) (λ n e. (n, e))

  pub look_past : (id : ℕ) (us bs : List A) → look number id us ≡ None → look number id (us ++ bs) ≡ look number id bs
  look_past id [] bs e = refl
  look_past id (x ∷ us) bs e = let g = look_none id x us e in look_no id x (us ++ bs) g.0 ∙ look_past id us bs g.1

  pub change_past : (y : A) (us bs : List A) → look number (number y) us ≡ None → change number y (us ++ bs) ≡ us ++ change number y bs
  unfolding change
  change_past y [] bs e = refl
  change_past y (x ∷ us) bs e = let g = look_none (number y) x us e in simp (ne_eqb (number x) (number y) g.0) (ap (λ (t : List A). x ∷ t) (change_past y us bs g.1))

  pub remove_past : (id : ℕ) (us bs : List A) → look number id us ≡ None → remove number id (us ++ bs) ≡ us ++ remove number id bs
  unfolding remove
  remove_past id [] bs e = refl
  remove_past id (x ∷ us) bs e = let g = look_none id x us e in simp (ne_eqb (number x) id g.0) (ap (λ (t : List A). x ∷ t) (remove_past id us bs g.1))

  -- ---- what std's words for a search say
  any_by : (b r q : Bool) → r ≡ q → b || r ≡ pick b true q
  any_by true r q e = refl
  any_by false r q e = e

  pub has_is_any : (id : ℕ) (xs : List A) → list_any (λ x. eqb (number x) id) xs ≡ has number id xs
  unfolding has
  has_is_any id [] = refl
  has_is_any id (x ∷ xs) = any_by (eqb (number x) id) _ _ (has_is_any id xs)

  none_of : (id : ℕ) (d : A) (xs : List A) → ((k : ℕ) → k < length xs → eqb (number (get_or xs k d)) id ≡ false) → look number id xs ≡ None
  unfolding look
  none_of id d [] f = refl
  none_of id d (x ∷ xs) f = simp (f 0 (omega arith), none_of id d xs (λ k h. f (suc k) (omega arith)))

  -- the first entry of a number, among the first n, stands at p
  abbrev pub Stands : ℕ → ℕ → List A → A → ℕ → Type 0
  Stands id n l d p = (p < n) × ((look number id (take p l) ≡ None) × (number (get_or l p d) ≡ id))

  module _ (l : List A) (c id : ℕ) (d : A) (m : ℕ) (q : m ≡ id) (r : Option ℕ) (so : r ≡ position (λ x. eqb (number x) m) (take c l)) where
    abbrev test : A → Bool
    test x = eqb (number x) id

    found : position test (take c l) ≡ r
    found = ap (λ (k : ℕ). position (λ x. eqb (number x) k) (take c l)) (sym q) ∙ sym so

    pub stands : (p : ℕ) → r ≡ Some p → Stands id (min c (length l)) l d p
    stands p e =
        let s = position-Some test (take c l) p d (found ∙ e) in
        let h : p < min c (length l) = omega (arith, s.0, length-take c l) in
        let t : take p (take c l) ≡ take p l = take-take p c l (omega arith) in
        let none : look number id (take p (take c l)) ≡ None =
        none_of id d (take p (take c l)) (λ k g. let z : k < p = omega (arith, g, length-take p (take c l)) in ap test (get_or-take p (take c l) k d z) ∙ s.2 k z) in
        (h, (ap (look number id) (sym t) ∙ none, ap number (sym (get_or-take c l p d (omega arith))) ∙ eqb-true _ _ s.1))

    pub missing : r ≡ None → look number id (take (min c (length l)) l) ≡ None
    missing e =
        ap (look number id) (take_in l c (min c (length l)) refl)
        ∙ none_of id d (take c l) (λ k h. fails_before_first test (take c l) k d (omega (arith, h, past_end _ _ (found ∙ e))))

  -- ---- a search that stands at i, and has found nothing yet
  pub seek_next : (l : List A) (id i : ℕ) (d : A) → i < length l → look number id (take i l) ≡ None → (number (get_or l i d) ≡ id → ⊥) → look number id (take (i + 1) l) ≡ None
  unfolding look
  seek_next l id i d h e n =
      ap (λ (m : ℕ). look number id (take m l)) (add-one i) ∙ ap (look number id) (take-suc l i d h)
      ∙ look_past id (take i l) (get_or l i d ∷ []) e ∙ look_no id (get_or l i d) [] n

  pub seek_done : (l : List A) (id i n : ℕ) → look number id (take i l) ≡ None → i ≡ n → look number id (take n l) ≡ None
  seek_done l id i n e q = ap (λ (m : ℕ). look number id (take m l)) (sym q) ∙ e

  -- ---- what the place says: c is the count, n as many as are in use
  module _ (l : List A) (c n : ℕ) (q : n ≡ min c (length l)) where
    module _ (id p : ℕ) (d : A) (s : Stands id n l d p) where
      here : look number id (take n l) ≡ Some (get_or l p d)
      here = ap (look number id) (around l n p d s.0 (omega arith)) ∙ look_past id (take p l) (get_or l p d ∷ drop (p + 1) (take n l)) s.1.0 ∙ look_yes id (get_or l p d) (drop (p + 1) (take n l)) s.1.1

      pub look_at : look number id (take c l) ≡ Some (get_or l p d)
      look_at = ap (look number id) (sym (take_in l c n q)) ∙ here

      pub removed_at : (blank : A) (r : List A) → r ≡ shifted blank p n l → r ≡ removed number blank id c l
      unfolding removed remove shifted
      removed_at blank r e =
          let rest = drop (p + 1) (take n l) in
          let t : remove number id (take n l) ≡ take p l ++ rest =
          ap (remove number id) (around l n p d s.0 (omega arith)) ∙ remove_past id (take p l) (get_or l p d ∷ rest) s.1.0 ∙ ap (λ (u : List A). take p l ++ u) (simp (eq-eqb (number (get_or l p d)) id s.1.1)) in
          e ∙ sym (append_assoc (take p l) rest (blank ∷ drop n l))
          ∙ ap (λ (u : List A). u ++ blank ∷ drop n l) (sym t)
          ∙ ap (closed number blank (remove number id (take n l)) (drop n l) l) (sym here)
          ∙ (λ i. closed number blank (remove number id (take_in l c n q i)) (drop_in l c n q i) l (look number id (take_in l c n q i)))

    pub look_missing : (id : ℕ) → look number id (take n l) ≡ None → look number id (take c l) ≡ None
    look_missing id e = ap (look number id) (sym (take_in l c n q)) ∙ e

    pub removed_missing : (id : ℕ) (blank : A) → look number id (take n l) ≡ None → l ≡ removed number blank id c l
    unfolding removed
    removed_missing id blank e = ap (closed number blank (remove number id (take c l)) (drop c l) l) (sym (look_missing id e))

    pub changed_at : (y : A) (p : ℕ) (d : A) → Stands (number y) n l d p → set l p y ≡ changed number y c l
    unfolding changed change
    changed_at y p d s =
        let rest = drop (p + 1) (take n l) in
        let t : change number y (take n l) ≡ take p l ++ y ∷ rest =
        ap (change number y) (around l n p d s.0 (omega arith)) ∙ change_past y (take p l) (get_or l p d ∷ rest) s.1.0
        ∙ ap (λ (u : List A). take p l ++ u) (simp (eq-eqb (number (get_or l p d)) (number y) s.1.1)) in
        set_split l p y (omega arith)
        ∙ ap (λ (j : ℕ). take p l ++ y ∷ drop j l) (sym (add-one p))
        ∙ ap (λ (u : List A). take p l ++ y ∷ u) (sym (behind l n p s.0 (omega arith)))
        ∙ sym (append_assoc (take p l) (y ∷ rest) (drop n l))
        ∙ ap (λ (u : List A). u ++ drop n l) (sym t)
        ∙ (λ i. change number y (take_in l c n q i) ++ drop_in l c n q i)

    pub changed_missing : (y : A) → look number (number y) (take n l) ≡ None → l ≡ changed number y c l
    unfolding changed change
    changed_missing y e =
        sym (take-append-drop n l)
        ∙ ap (λ (u : List A). u ++ drop n l) (sym (append-nil (take n l)) ∙ sym (change_past y (take n l) [] e) ∙ ap (change number y) (append-nil (take n l)))
        ∙ (λ i. change number y (take_in l c n q i) ++ drop_in l c n q i)

-- ---- a removal by one copy
module _ {A : Type 0} (blank : A) (n : ℕ) (l : List A) where
  pub shift_copied : (p : ℕ) → p < n → n ≤ length l → set (copy_within l (p + 1) n p) (n - 1) blank ≡ shifted blank p n l
  unfolding shifted
  shift_copied p h g =
      let j : ℕ = p + (n - (p + 1)) in
      let moved : List A = take (n - (p + 1)) (drop (p + 1) l) in
      let past : drop j l ≡ get_or l j blank ∷ drop n l = let z : suc j ≡ n = omega arith in drop-cons l j blank (omega arith) ∙ ap (λ (k : ℕ). get_or l j blank ∷ drop k l) z in
      let size : length (take p l ++ moved) ≡ n - 1 = omega (arith, length-append (take p l) moved, length-take p l, length-take (n - (p + 1)) (drop (p + 1) l), length-drop (p + 1) l) in
      let same : moved ≡ drop (p + 1) (take n l) = let z : p + 1 + (n - (p + 1)) ≡ n = omega arith in sym (drop-take (p + 1) (n - (p + 1)) l) ∙ ap (λ (k : ℕ). drop (p + 1) (take k l)) z in
      ap (λ (t : List A). set ((take p l ++ moved) ++ t) (n - 1) blank) past
      ∙ set_at (take p l ++ moved) (get_or l j blank) (drop n l) blank (n - 1) size
      ∙ append_assoc (take p l) moved (blank ∷ drop n l)
      ∙ ap (λ (t : List A). take p l ++ (t ++ blank ∷ drop n l)) same

-- ---- a removal that has come to i, with what is left to do
module _ {A : Type 0} (blank : A) (n : ℕ) (l : List A) where
  pub shift_next : (i : ℕ) (d : A) (r : List A) → shifted blank i n l ≡ r → i + 1 < n → n ≤ length l → shifted blank (i + 1) n (set l i (get_or l (i + 1) d)) ≡ r
  unfolding shifted
  shift_next i d r so h g =
      let x : A = get_or l (i + 1) d in
      let m : List A = set l i x in
      let a : take (i + 1) m ≡ take i l ++ (x ∷ []) = ap (λ (j : ℕ). take j m) (add-one i) ∙ take-suc-set l i x (omega arith) in
      let b : drop (i + 1 + 1) (take n m) ≡ drop (i + 1 + 1) (take n l) = ap (drop (i + 1 + 1)) (take-set-lt n l i x (omega arith)) ∙ drop-set-lt (i + 1 + 1) (take n l) i x (omega arith) in
      let e : drop n m ≡ drop n l = drop-set-lt n l i x (omega arith) in
      let f : drop (i + 1) (take n l) ≡ x ∷ drop (i + 1 + 1) (take n l) = next_entry l n (i + 1) d h g in
      ap (λ (t : List A). t ++ (drop (i + 1 + 1) (take n m) ++ blank ∷ drop n m)) a
      ∙ ap (λ (t : List A). (take i l ++ (x ∷ [])) ++ (t ++ blank ∷ drop n m)) b
      ∙ ap (λ (t : List A). (take i l ++ (x ∷ [])) ++ (drop (i + 1 + 1) (take n l) ++ blank ∷ t)) e
      ∙ append_snoc (take i l) x (drop (i + 1 + 1) (take n l) ++ blank ∷ drop n l)
      ∙ ap (λ (t : List A). take i l ++ (t ++ blank ∷ drop n l)) (sym f)
      ∙ so

  pub shift_done : (i : ℕ) (r : List A) (b : A) → shifted blank i n l ≡ r → b ≡ blank → n ≡ i + 1 → n ≤ length l → set l i b ≡ r
  unfolding shifted
  shift_done i r b so q h g =
      let no : drop (i + 1) (take n l) ≡ [] = no_entry l n (i + 1) (omega arith) in
      let z : suc i ≡ n = omega arith in
      ap (set l i) q
      ∙ set_split l i blank (omega arith)
      ∙ ap (λ (j : ℕ). take i l ++ blank ∷ drop j l) z
      ∙ ap (λ (t : List A). take i l ++ (t ++ blank ∷ drop n l)) (sym no)
      ∙ so
