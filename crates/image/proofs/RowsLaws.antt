-- Rows read one by one, and rows found.
use mathlib.Core.Path.{◌≡◌, refl, sym, ap, ◌∙◌}
use Prim.Native.Nat.{ℕ, zero, suc, ◌+◌, ◌-◌, ◌≤◌, ◌<◌, min}
use native.Mathlib.Numerals.{add-one}
use native.Mathlib.Omega.{arith}
use mathlib.Core.Logic.{inl, inr}
use mathlib.Core.List.{List, [], ◌∷◌, ◌++◌, append-nil}
use mathlib.Core.Bool.{cond, not}
use lib.Dec.{eqb, ltb}
use Rattle.std.specs.Prelude.{Option, Some, None, position}
use Rattle.std.specs.List.{position_or_len}
use lib.ListN.{length, length-append, length-replicate, take, drop, set, get_or, length-drop, length-take, replicate}
use lib.Seq.{append_snoc, length-take-le, set_at, take_at, take-suc, take-take}
use Rattle.numbers.proofs.PatternLaws.{le_or_lt}
use Rattle.tables.specs.Tables.{look}
use Rattle.tables.proofs.TablesLaws.{look_at, look_missing, missing, stands, take_in}
use Rattle.image.specs.Image.{Wide, joined}

-- ---- rows joined with their names
module _ {R A : Type 0} (f : R → List ℕ → A) where
  pub joined_at : (rows : List R) (names : List (List ℕ)) (i : ℕ) (r : R) (d : A) → i < length rows → i < length names → get_or (joined f rows names) i d ≡ f (get_or rows i r) (get_or names i [])
  unfolding joined
  joined_at [] names i r d h g = absurd (omega arith)
  joined_at (x ∷ rows) [] i r d h g = absurd (omega arith)
  joined_at (x ∷ rows) (n ∷ names) zero r d h g = refl
  joined_at (x ∷ rows) (n ∷ names) (suc i) r d h g = joined_at rows names i r d (omega arith) (omega arith)

  pub joined_length : (rows : List R) (names : List (List ℕ)) → length rows ≡ length names → length (joined f rows names) ≡ length rows
  unfolding joined
  joined_length [] names e = refl
  joined_length (r ∷ rows) [] e = absurd (omega (arith, e))
  joined_length (r ∷ rows) (n ∷ names) e = ap suc (joined_length rows names (omega (arith, e)))

-- ---- sixteen names from a place on
pub part_length : (b : ℕ) (names : List (List ℕ)) → b + 16 ≤ length names → length (take 16 (drop b names)) ≡ 16
part_length b names h = length-take-le 16 (drop b names) (omega (arith, length-drop b names))

pub all_length : {A : Type 0} (f : List ℕ → List ℕ → A) (rows names : List (List ℕ)) (b : ℕ) → length rows ≡ 16 → b + 16 ≤ length names → length (joined f rows (take 16 (drop b names))) ≡ 16
all_length f rows names b h g = joined_length f rows (take 16 (drop b names)) (h ∙ sym (part_length b names g)) ∙ h

-- ---- a table whose places past the count are blank
module _ {A : Type 0} (l : List A) (h : length l ≡ 16) (blank : A) (c : ℕ) where
  pub used_front : take c (take c l ++ replicate (16 - c) blank) ≡ take c l
  used_front = elim (le_or_lt c 16) [
    | inl g ↦ take_at (take c l) (replicate (16 - c) blank) c (length-take-le c l (omega (arith, h)))
    | inr g ↦
        let z : 16 - c ≡ 0 = omega (arith, g) in
        ap (λ (j : ℕ). take c (take c l ++ replicate j blank)) z ∙ ap (take c) (append-nil (take c l)) ∙ take-take c c l (omega arith)
  ]

  pub used_length : c ≤ 16 → length (take c l ++ replicate (16 - c) blank) ≡ 16
  used_length g = omega (arith, length-append (take c l) (replicate (16 - c) blank), length-take-le c l (omega (arith, h)), length-replicate (16 - c) blank)

  pub used_counted : (n : ℕ) → n ≡ min c 16 → take n l ++ replicate (16 - n) blank ≡ take c l ++ replicate (16 - c) blank
  used_counted n q =
      let m : 16 - n ≡ 16 - c = omega (arith, q) in
      λ j. take_in l c n (omega (arith, q, h)) j ++ replicate (m j) blank

-- ---- rows, and the entries that are made of them
module _ {R A : Type 0} (f : R → List ℕ → A) (rows : List R) (names : List (List ℕ)) (h : length rows ≡ 16) (g : length names ≡ 16) where
  abbrev all : List A
  all = joined f rows names

  all_sixteen : length (joined f rows names) ≡ 16
  all_sixteen = joined_length f rows names (h ∙ sym g) ∙ h

  pub read_none : (blank b : A) → b ≡ blank → replicate 16 b ≡ take 0 (joined f rows names) ++ replicate (16 - 0) blank
  read_none blank b e = ap (replicate 16) e

  -- one row more is read, over a blank place
  pub read_step :
      (blank : A) (t : List A) (i : ℕ) (r : R) → t ≡ take i (joined f rows names) ++ replicate (16 - i) blank → i < 16 → r ≡ get_or rows i r → (e : A) → e ≡ f r (get_or names i [])
      → set t i e ≡ take (i + 1) (joined f rows names) ++ replicate (16 - (i + 1)) blank
  read_step blank t i r inv q y e z =
      let k : ℕ = 16 - (i + 1) in
      let m : 16 - i ≡ suc k = omega arith in
      ap (λ (u : List A). set u i e) inv
      ∙ ap (λ (j : ℕ). set (take i all ++ replicate j blank) i e) m
      ∙ set_at (take i all) blank (replicate k blank) e i (length-take-le i all (omega (arith, all_sixteen)))
      ∙ ap (λ (x : A). take i all ++ x ∷ replicate k blank) (z ∙ ap (λ (v : R). f v (get_or names i [])) y ∙ sym (joined_at f rows names i r e (omega (arith, h)) (omega (arith, g))))
      ∙ sym (append_snoc (take i all) (get_or all i e) (replicate k blank))
      ∙ ap (λ (u : List A). u ++ replicate k blank) (sym (take-suc all i e (omega (arith, all_sixteen))) ∙ ap (λ (j : ℕ). take j all) (sym (add-one i)))

  pub read_all : (blank : A) (t : List A) (c n : ℕ) → n ≡ min c 16 → t ≡ take n (joined f rows names) ++ replicate (16 - n) blank → t ≡ take c (joined f rows names) ++ replicate (16 - c) blank
  read_all blank t c n q e = e ∙ used_counted all all_sixteen blank c n q

  -- ---- the entry of a number: the first row of that number
  module _ (number : A → ℕ) (row_number : R → ℕ) (numbered : (row : R) (bytes : List ℕ) → number (f row bytes) ≡ row_number row) (id c : ℕ) (p : Option ℕ) (so : p ≡ position (λ r. eqb (row_number r) id) (take c rows)) where
    same_place : (c : ℕ) (rows : List R) (names : List (List ℕ)) → length rows ≡ length names → position_or_len (λ r. eqb (row_number r) id) (take c rows) ≡ position_or_len (λ x. eqb (number x) id) (take c (joined f rows names))
    unfolding joined
    same_place zero rows names e = refl
    same_place (suc c) [] names e = refl
    same_place (suc c) (r ∷ rows) [] e = absurd (omega (arith, e))
    same_place (suc c) (r ∷ rows) (n ∷ names) e =
        let k = same_place c rows names (omega (arith, e)) in
        let m = sym (numbered r n) in
        λ i. cond (not (eqb (m i) id)) (1 + k i) 0

    among_all : p ≡ position (λ x. eqb (number x) id) (take c (joined f rows names))
    among_all =
        let k = same_place c rows names (h ∙ sym g) in
        let m : length (take c rows) ≡ length (take c all) = omega (arith, length-take c rows, length-take c all, h, all_sixteen) in
        so ∙ (λ i. cond (ltb (k i) (m i)) (Some (k i)) None)

    pub entry_none : (d : A) → p ≡ None → None ≡ look number id (take c (joined f rows names))
    entry_none d e = sym (look_missing number all c _ refl id (missing number all c id d id refl p among_all e))

    pub entry_found : (k : ℕ) (r : R) → p ≡ Some k → r ≡ get_or rows k r → (e : A) → e ≡ f r (get_or names k []) → Some e ≡ look number id (take c (joined f rows names))
    entry_found k r e y x z =
        let s = stands number all c id x id refl p among_all k e in
        let q : k < 16 = omega (arith, s.0, all_sixteen) in
        ap Some (z ∙ ap (λ (v : R). f v (get_or names k [])) y ∙ sym (joined_at f rows names k r x (omega (arith, h)) (omega (arith, g)))) ∙ sym (look_at number all c _ refl id k x s)

-- ---- each row is as wide as its type says
pub wide : (k : ℕ) (rows : List (List ℕ)) → ((i : ℕ) → i < length rows → length (get_or rows i []) ≡ k) → Wide k rows
unfolding Wide
wide k [] e = tt
wide k (r ∷ rows) e = (e 0 (omega arith), wide k rows (λ i h. e (suc i) (omega (arith, h))))
