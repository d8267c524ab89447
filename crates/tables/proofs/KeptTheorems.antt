-- A table that passes the tests of refusal 15 passes them after an append, a change and a removal.
use mathlib.Core.Path.{◌≡◌, refl, sym, ap, ◌∙◌, subst}
use Prim.Native.Nat.{ℕ, suc, ◌+◌, ◌-◌, ◌≤◌, ◌<◌}
use native.Mathlib.Numerals.{add-one}
use native.Mathlib.Omega.{arith}
use mathlib.Core.Bool.{Bool, true, false, not, true≢false}
use mathlib.Core.List.{List, [], ◌∷◌, ◌++◌}
use Rattle.std.specs.Prelude.{Option, Some}
use lib.Dec.{leb, ltb}
use lib.ListN.{length, take, drop, set, length-append, length-set}
use lib.Seq.{length-take-le, take-append_seam, take-suc-set}
use borrow.Author.Tests.{eq-eqb, ne_eqb, le-leb, lt-ltb, leb-true, ltb-true, not-true}
use Rattle.numbers.proofs.ChooseLaws.{pick_eq}
use Rattle.text.specs.declared.names.Name.{Name}
use Rattle.tables.specs.Tables.{change, changed, closed, has, look, remove, removed, sound, table_sound}
use Rattle.tables.proofs.SoundLaws.{both}
use Rattle.tables.proofs.TablesLaws.{look_no}

module _ {A : Type 0} (number : A → ℕ) (name : A → Name) where
  -- what one entry passes, and the rest
  record Sound (next : ℕ) (x : A) (xs : List A) : Type 0 where
    short : (name x).len ≤ 128
    under : number x < next
    once : has number (number x) xs ≡ false
    rest : sound number name next xs ≡ true

  passes : (next : ℕ) (x : A) (xs : List A) → sound number name next (x ∷ xs) ≡ true → Sound next x xs
  unfolding sound
  passes next x xs e =
      let a = both (leb (name x).len 128) _ e in
      let b = both (ltb (number x) next) _ a.1 in
      let c = both (not (has number (number x) xs)) _ b.1 in
      record { short = leb-true (name x).len 128 a.0; under = ltb-true (number x) next b.0; once = not-true (has number (number x) xs) c.0; rest = c.1 }

  passing : (next : ℕ) (x : A) (xs : List A) → Sound next x xs → sound number name next (x ∷ xs) ≡ true
  unfolding sound
  passing next x xs s = simp (le-leb (name x).len 128 s.short, lt-ltb (number x) next s.under, s.once, s.rest)

  has_yes : (id : ℕ) (x : A) (xs : List A) → number x ≡ id → has number id (x ∷ xs) ≡ true
  unfolding has
  has_yes id x xs e = simp (eq-eqb (number x) id e)

  has_no : (id : ℕ) (x : A) (xs : List A) → (number x ≡ id → ⊥) → has number id (x ∷ xs) ≡ has number id xs
  unfolding has
  has_no id x xs n = simp (ne_eqb (number x) id n)

  hasn't : (id : ℕ) (x : A) (xs : List A) → has number id (x ∷ xs) ≡ false → (number x ≡ id → ⊥) × (has number id xs ≡ false)
  unfolding has
  hasn't id x xs =
      pick_eq (λ (r : Bool). r ≡ false → (number x ≡ id → ⊥) × (has number id xs ≡ false)) true (has number id xs) (number x) id
      (λ h e. absurd (true≢false e)) (λ n e. (n, e))

  -- ---- an append under the next number
  has_snoc : (id : ℕ) (xs : List A) (e : A) → has number id xs ≡ false → (number e ≡ id → ⊥) → has number id (xs ++ e ∷ []) ≡ false
  unfolding has
  has_snoc id [] e h n = has_no id e [] n
  has_snoc id (x ∷ xs) e h n = let g = hasn't id x xs h in has_no id x (xs ++ e ∷ []) g.0 ∙ has_snoc id xs e g.1 n

  pub sound_snoc : (next : ℕ) (xs : List A) (e : A) → sound number name next xs ≡ true → number e ≡ next → (name e).len ≤ 128 → sound number name (next + 1) (xs ++ e ∷ []) ≡ true
  unfolding sound has
  sound_snoc next [] e h q k = passing (next + 1) e [] (record { short = k; under = omega arith; once = refl; rest = refl })
  sound_snoc next (x ∷ xs) e h q k =
      let s = passes next x xs h in
      passing (next + 1) x (xs ++ e ∷ [])
      (record {
        short = s.short;
        under = omega (arith, s.under);
        once = has_snoc (number x) xs e s.once (λ z. omega (arith, s.under));
        rest = sound_snoc next xs e s.rest q k;
      })

  -- ---- a change keeps every number
  has_change : (id : ℕ) (y : A) (xs : List A) → has number id xs ≡ false → has number id (change number y xs) ≡ false
  unfolding change
  has_change id y [] h = h
  has_change id y (x ∷ xs) h =
      let g = hasn't id x xs h in
      pick_eq (λ (l : List A). has number id l ≡ false) (y ∷ xs) (x ∷ change number y xs) (number x) (number y)
      (λ q. has_no id y xs (λ z. g.0 (q ∙ z)) ∙ g.1) (λ n. has_no id x (change number y xs) g.0 ∙ has_change id y xs g.1)

  pub sound_change : (next : ℕ) (y : A) (xs : List A) → sound number name next xs ≡ true → (name y).len ≤ 128 → sound number name next (change number y xs) ≡ true
  unfolding change
  sound_change next y [] h k = h
  sound_change next y (x ∷ xs) h k =
      let s = passes next x xs h in
      pick_eq (λ (l : List A). sound number name next l ≡ true) (y ∷ xs) (x ∷ change number y xs) (number x) (number y)
      (λ q. passing next y xs (record { short = k; under = omega (arith, s.under); once = ap (λ (n : ℕ). has number n xs) (sym q) ∙ s.once; rest = s.rest }))
      (λ n. passing next x (change number y xs) (record { short = s.short; under = s.under; once = has_change (number x) y xs s.once; rest = sound_change next y xs s.rest k }))

  -- ---- a removal leaves some
  has_remove : (k id : ℕ) (xs : List A) → has number k xs ≡ false → has number k (remove number id xs) ≡ false
  unfolding remove
  has_remove k id [] h = h
  has_remove k id (x ∷ xs) h =
      let g = hasn't k x xs h in
      pick_eq (λ (l : List A). has number k l ≡ false) xs (x ∷ remove number id xs) (number x) id (λ q. g.1) (λ n. has_no k x (remove number id xs) g.0 ∙ has_remove k id xs g.1)

  pub sound_remove : (next id : ℕ) (xs : List A) → sound number name next xs ≡ true → sound number name next (remove number id xs) ≡ true
  unfolding remove
  sound_remove next id [] h = h
  sound_remove next id (x ∷ xs) h =
      let s = passes next x xs h in
      pick_eq (λ (l : List A). sound number name next l ≡ true) xs (x ∷ remove number id xs) (number x) id
      (λ q. s.rest) (λ n. passing next x (remove number id xs) (record { short = s.short; under = s.under; once = has_remove (number x) id xs s.once; rest = sound_remove next id xs s.rest }))

  -- ---- what is found has a short name
  pub found_short : (next id : ℕ) (xs : List A) (e : A) → sound number name next xs ≡ true → look number id xs ≡ Some e → (name e).len ≤ 128
  unfolding look
  found_short next id [] e h f = let z : ◌≡◌ {A = ℕ} 0 1 = cc in absurd (omega arith)
  found_short next id (x ∷ xs) e h f =
      let s = passes next x xs h in
      pick_eq (λ (o : Option A). o ≡ Some e → (name e).len ≤ 128) (Some x) (look number id xs) (number x) id
      (λ q u. let z : x ≡ e = cc in subst (λ (y : A). (name y).len ≤ 128) z s.short) (λ n u. found_short next id xs e s.rest u) f

  -- and the number that was looked for
  pub found_number : (id : ℕ) (xs : List A) (e : A) → look number id xs ≡ Some e → number e ≡ id
  unfolding look
  found_number id [] e f = let z : ◌≡◌ {A = ℕ} 0 1 = cc in absurd (omega arith)
  found_number id (x ∷ xs) e f =
      pick_eq (λ (o : Option A). o ≡ Some e → number e ≡ id) (Some x) (look number id xs) (number x) id
      (λ q u. let z : x ≡ e = cc in subst (λ (y : A). number y ≡ id) z q) (λ n u. found_number id xs e u) f

  -- ---- lengths
  pub length_change : (y : A) (xs : List A) → length (change number y xs) ≡ length xs
  unfolding change
  length_change y [] = refl
  length_change y (x ∷ xs) = pick_eq (λ (l : List A). length l ≡ length (x ∷ xs)) (y ∷ xs) (x ∷ change number y xs) (number x) (number y) (λ q. refl) (λ n. ap suc (length_change y xs))

  pub length_remove : (id : ℕ) (xs : List A) (e : A) → look number id xs ≡ Some e → suc (length (remove number id xs)) ≡ length xs
  unfolding remove look
  length_remove id [] e h = let z : ◌≡◌ {A = ℕ} 0 1 = cc in absurd (omega arith)
  length_remove id (x ∷ xs) e h =
      pick_eq (λ (l : List A). suc (length l) ≡ suc (length xs)) xs (x ∷ remove number id xs) (number x) id (λ q. refl) (λ n. ap suc (length_remove id xs e (sym (look_no number id x xs n) ∙ h)))

  -- ---- the whole table
  module _ (next n : ℕ) (l : List A) where
    counted : table_sound number name next n l ≡ true → (n ≤ length l) × (sound number name next (take n l) ≡ true)
    unfolding table_sound
    counted e = let a = both (leb n (length l)) _ e in (leb-true n (length l) a.0, a.1)

    again : (m : ℕ) (next' : ℕ) (xs ys : List A) → length xs ≡ m → sound number name next' xs ≡ true → table_sound number name next' m (xs ++ ys) ≡ true
    unfolding table_sound
    again m next' xs ys q h =
        let t : take m (xs ++ ys) ≡ xs = ap (λ (k : ℕ). take k (xs ++ ys)) (sym q) ∙ take-append_seam xs ys in
        let k : m ≤ length (xs ++ ys) = omega (arith, length-append xs ys) in
        simp (le-leb m (length (xs ++ ys)) k, t, h)

    pub found_in : (id : ℕ) (e : A) → table_sound number name next n l ≡ true → look number id (take n l) ≡ Some e → (name e).len ≤ 128
    found_in id e h f = found_short next id (take n l) e (counted h).1 f

    pub append_sound : (e : A) → table_sound number name next n l ≡ true → n < length l → number e ≡ next → (name e).len ≤ 128 → table_sound number name (next + 1) (n + 1) (set l n e) ≡ true
    unfolding table_sound
    append_sound e h g q k =
        let c = counted h in
        let t : take (n + 1) (set l n e) ≡ take n l ++ e ∷ [] = ap (λ (i : ℕ). take i (set l n e)) (add-one n) ∙ take-suc-set l n e g in
        let z : n + 1 ≤ length (set l n e) = omega (arith, length-set l n e) in
        simp (le-leb (n + 1) (length (set l n e)) z, t, sound_snoc next (take n l) e c.1 q k)

    pub change_sound : (y : A) → table_sound number name next n l ≡ true → (name y).len ≤ 128 → table_sound number name next n (changed number y n l) ≡ true
    unfolding changed
    change_sound y h k =
        let c = counted h in
        again n next (change number y (take n l)) (drop n l) (length_change y (take n l) ∙ length-take-le n l c.0) (sound_change next y (take n l) c.1 k)

    pub remove_sound : (blank : A) (id : ℕ) (e : A) → table_sound number name next n l ≡ true → look number id (take n l) ≡ Some e → table_sound number name next (n - 1) (removed number blank id n l) ≡ true
    unfolding removed
    remove_sound blank id e h f =
        let c = counted h in
        let m : length (remove number id (take n l)) ≡ n - 1 = omega (arith, length_remove id (take n l) e f, length-take-le n l c.0) in
        ap (λ (o : Option A). table_sound number name next (n - 1) (closed number blank (remove number id (take n l)) (drop n l) l o)) f
        ∙ again (n - 1) next (remove number id (take n l)) (blank ∷ drop n l) m (sound_remove next id (take n l) c.1)
