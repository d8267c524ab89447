-- What is found under a number after an append, a change and a removal. Over any type of entry.
use mathlib.Core.Path.{◌≡◌, refl, sym, ap, ◌∙◌}
use Prim.Native.Nat.{ℕ, ◌+◌, ◌-◌, ◌≤◌, ◌<◌}
use native.Mathlib.Numerals.{add-one}
use native.Mathlib.Omega.{arith}
use mathlib.Core.Bool.{Bool, true, false, not, true≢false}
use mathlib.Core.List.{List, [], ◌∷◌, ◌++◌}
use Rattle.std.specs.Prelude.{Option, Some, None}
use lib.Dec.{leb, ltb}
use lib.ListN.{length, take, drop, set, length-append, length-drop}
use lib.Seq.{length-take-le, take-append_seam, take-suc-set}
use borrow.Author.Tests.{leb-true, ltb-true, not-true}
use Rattle.numbers.proofs.ChooseLaws.{pick_eq}
use Rattle.text.specs.declared.names.Name.{Name}
use Rattle.tables.specs.Tables.{change, changed, closed, has, look, remove, removed, sound, table_sound}
use Rattle.tables.proofs.SoundLaws.{both}
use Rattle.tables.proofs.KeptTheorems.{length_change, length_remove}
use Rattle.tables.proofs.TablesLaws.{look_no, look_past, look_yes}

pub not_none : {A : Type 0} (o : Option A) (a : A) → o ≡ Some a → o ≡ None → ⊥
not_none o a p q = cc

pub same_found : {A : Type 0} (o : Option A) (a b : A) → o ≡ Some a → o ≡ Some b → a ≡ b
same_found o a b p q = cc

-- by whether two numbers are the same
pub same_or : (a b : ℕ) (P : Type 0) → (a ≡ b → P) → ((a ≡ b → ⊥) → P) → P
same_or a b P f g = pick_eq (λ (u : Unit {0}). P) tt tt a b f g

module _ {A : Type 0} (number : A → ℕ) where
  -- ---- an append
  pub look_append_same : (e : A) (l : List A) → look number (number e) l ≡ None → look number (number e) (l ++ e ∷ []) ≡ Some e
  look_append_same e l h = look_past number (number e) l (e ∷ []) h ∙ look_yes number (number e) e [] refl

  pub look_append_other : (id : ℕ) (e : A) (l : List A) → (number e ≡ id → ⊥) → look number id (l ++ e ∷ []) ≡ look number id l
  unfolding look
  look_append_other id e [] n = look_no number id e [] n
  look_append_other id e (x ∷ xs) n =
      pick_eq (λ (o : Option A). o ≡ look number id (x ∷ xs)) (Some x) (look number id (xs ++ e ∷ [])) (number x) id
      (λ q. sym (look_yes number id x xs q)) (λ q. look_append_other id e xs n ∙ sym (look_no number id x xs q))

  -- ---- a change
  pub look_change_same : (y old : A) (l : List A) → look number (number y) l ≡ Some old → look number (number y) (change number y l) ≡ Some y
  unfolding look change
  look_change_same y old [] h = absurd cc
  look_change_same y old (x ∷ xs) h =
      pick_eq (λ (r : List A). look number (number y) r ≡ Some y) (y ∷ xs) (x ∷ change number y xs) (number x) (number y)
      (λ q. look_yes number (number y) y xs refl)
      (λ q. look_no number (number y) x (change number y xs) q ∙ look_change_same y old xs (sym (look_no number (number y) x xs q) ∙ h))

  pub look_change_other : (id : ℕ) (y : A) (l : List A) → (number y ≡ id → ⊥) → look number id (change number y l) ≡ look number id l
  unfolding look change
  look_change_other id y [] n = refl
  look_change_other id y (x ∷ xs) n =
      pick_eq (λ (r : List A). look number id r ≡ look number id (x ∷ xs)) (y ∷ xs) (x ∷ change number y xs) (number x) (number y)
      (λ q. look_no number id y xs n ∙ sym (look_no number id x xs (λ z. n (sym q ∙ z))))
      (λ q. pick_eq (λ (o : Option A). o ≡ look number id (x ∷ xs)) (Some x) (look number id (change number y xs)) (number x) id
      (λ z. sym (look_yes number id x xs z)) (λ z. look_change_other id y xs n ∙ sym (look_no number id x xs z)))

  -- ---- a removal
  pub look_remove_other : (id k : ℕ) (l : List A) → (k ≡ id → ⊥) → look number id (remove number k l) ≡ look number id l
  unfolding look remove
  look_remove_other id k [] n = refl
  look_remove_other id k (x ∷ xs) n =
      pick_eq (λ (r : List A). look number id r ≡ look number id (x ∷ xs)) xs (x ∷ remove number k xs) (number x) k
      (λ q. sym (look_no number id x xs (λ z. n (sym q ∙ z))))
      (λ q. pick_eq (λ (o : Option A). o ≡ look number id (x ∷ xs)) (Some x) (look number id (remove number k xs)) (number x) id
      (λ z. sym (look_yes number id x xs z)) (λ z. look_remove_other id k xs n ∙ sym (look_no number id x xs z)))

  hasn't : (id : ℕ) (l : List A) → has number id l ≡ false → look number id l ≡ None
  unfolding has look
  hasn't id [] h = refl
  hasn't id (x ∷ xs) h =
      pick_eq (λ (b : Bool). b ≡ false → look number id (x ∷ xs) ≡ None) true (has number id xs) (number x) id
      (λ q e. absurd (true≢false e)) (λ q e. look_no number id x xs q ∙ hasn't id xs e) h

  module _ (name : A → Name) (next : ℕ) where
    record Head (x : A) (xs : List A) : Type 0 where
      under : number x < next
      once : look number (number x) xs ≡ None
      rest : sound number name next xs ≡ true

    head : (x : A) (xs : List A) → sound number name next (x ∷ xs) ≡ true → Head x xs
    unfolding sound
    head x xs e =
        let a = both (leb (name x).len 128) _ e in
        let b = both (ltb (number x) next) _ a.1 in
        let c = both (not (has number (number x) xs)) _ b.1 in
        record { under = ltb-true (number x) next b.0; once = hasn't (number x) xs (not-true (has number (number x) xs) c.0); rest = c.1 }

    pub look_remove_same : (id : ℕ) (l : List A) → sound number name next l ≡ true → look number id (remove number id l) ≡ None
    unfolding look remove
    look_remove_same id [] h = refl
    look_remove_same id (x ∷ xs) h =
        let s = head x xs h in
        pick_eq (λ (r : List A). look number id r ≡ None) xs (x ∷ remove number id xs) (number x) id
        (λ q. ap (λ (k : ℕ). look number k xs) (sym q) ∙ s.once) (λ q. look_no number id x (remove number id xs) q ∙ look_remove_same id xs s.rest)

    pub look_below : (id : ℕ) (l : List A) (e : A) → sound number name next l ≡ true → look number id l ≡ Some e → id < next
    unfolding look
    look_below id [] e h f = absurd cc
    look_below id (x ∷ xs) e h f =
        let s = head x xs h in
        pick_eq (λ (o : Option A). o ≡ Some e → id < next) (Some x) (look number id xs) (number x) id
        (λ q u. omega (arith, s.under)) (λ q u. look_below id xs e s.rest u) f

    pub look_absent : (id : ℕ) (l : List A) → sound number name next l ≡ true → next ≤ id → look number id l ≡ None
    unfolding look
    look_absent id [] h g = refl
    look_absent id (x ∷ xs) h g = let s = head x xs h in look_no number id x xs (λ q. omega (arith, s.under)) ∙ look_absent id xs s.rest g

    -- ---- an array of which the first n places are in use
    module _ (n : ℕ) (l : List A) (h : table_sound number name next n l ≡ true) where
      pub in_places : n ≤ length l
      unfolding table_sound
      in_places = leb-true n (length l) (both (leb n (length l)) _ h).0

      pub in_order : sound number name next (take n l) ≡ true
      unfolding table_sound
      in_order = (both (leb n (length l)) _ h).1

      pub take_set : (e : A) → n < length l → take (n + 1) (set l n e) ≡ take n l ++ e ∷ []
      take_set e g = ap (λ (i : ℕ). take i (set l n e)) (add-one n) ∙ take-suc-set l n e g

      pub take_changed : (y : A) → take n (changed number y n l) ≡ change number y (take n l)
      unfolding changed
      take_changed y =
          let q : length (change number y (take n l)) ≡ n = length_change number name y (take n l) ∙ length-take-le n l in_places in
          ap (λ (k : ℕ). take k (change number y (take n l) ++ drop n l)) (sym q) ∙ take-append_seam (change number y (take n l)) (drop n l)

      pub length_changed : (y : A) → length (changed number y n l) ≡ length l
      unfolding changed
      length_changed y = omega (arith, length-append (change number y (take n l)) (drop n l), length_change number name y (take n l), length-take-le n l in_places, length-drop n l, in_places)

      module _ (blank : A) (id : ℕ) (e : A) (f : look number id (take n l) ≡ Some e) where
        removed_is : removed number blank id n l ≡ remove number id (take n l) ++ blank ∷ drop n l
        unfolding removed
        removed_is = ap (closed number blank (remove number id (take n l)) (drop n l) l) f

        size : length (remove number id (take n l)) + 1 ≡ n
        size = omega (arith, length_remove number name id (take n l) e f, length-take-le n l in_places)

        pub take_removed : take (n - 1) (removed number blank id n l) ≡ remove number id (take n l)
        take_removed =
            let q : n - 1 ≡ length (remove number id (take n l)) = omega (arith, size) in
            ap (take (n - 1)) removed_is ∙ ap (λ (k : ℕ). take k (remove number id (take n l) ++ blank ∷ drop n l)) q ∙ take-append_seam (remove number id (take n l)) (blank ∷ drop n l)

        pub length_removed : length (removed number blank id n l) ≡ length l
        length_removed = ap length removed_is ∙ (omega (arith, length-append (remove number id (take n l)) (blank ∷ drop n l), size, length-drop n l, in_places))

        pub count_removed : n - 1 + 1 ≡ n
        count_removed = omega (arith, size)
