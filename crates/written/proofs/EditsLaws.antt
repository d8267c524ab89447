-- What the code does, step by step.
use mathlib.Core.Path.{◌≡◌, refl, sym, ap, ◌∙◌}
use mathlib.Core.Logic.{inl, inr}
use Prim.Native.Nat.{ℕ, suc, ◌+◌, ◌-◌, ◌≤◌, ◌<◌}
use native.Mathlib.Omega.{arith}
use mathlib.Core.Bool.{Bool, true, false, cond, not}
use mathlib.Core.List.{List, [], ◌∷◌, ◌++◌, append_assoc, append-nil}
use lib.Dec.{eqb, ltb}
use lib.ListN.{drop, drop_of_length-le, get_or, length, length-append, length-drop, length-set, length-take, set, take}
use lib.Seq.{drop-cons, drop_at, length-take-le, set_at, take_at}
use borrow.Author.Tests.{le-ltb, lt-ltb, ltb-false}
use Rattle.std.specs.List.{copy_within, position, position_or_len}
use Rattle.std.specs.Option.{unwrap_or}
use Rattle.std.specs.Prelude.{Option, Some, None}
use Rattle.std.proofs.lemmas.List.{drop-take}
use Rattle.std.proofs.lemmas.List.Sums.{prefix_len-le-length}
use Rattle.numbers.specs.Choose.{pick}
use Rattle.numbers.proofs.PatternLaws.{le_or_lt}
use Rattle.tables.specs.Entries.{no_request, no_stream}
use Rattle.tables.specs.Tables.{shifted}
use Rattle.session.specs.declared.changes.Change.{Change}
use Rattle.image.specs.Image.{Arrays, cell, keys_of, titles_of}
use Rattle.written.specs.Kept.{blank_bytes, key_bytes, request_row, stream_row, title_bytes}
use Rattle.written.specs.Edits.{app_after, applied_at, edited, edited_by, facts_after, in_use, names_after, place_in, request_edit, request_place, row_id, stream_edit, stream_place}
use Rattle.written.specs.declared.edits.Edit.{Edit}
use Rattle.written.specs.declared.edits.Edit.TheVariants.{Same, Add, Put, Cut}

-- ---- a search
first_or_all : {A : Type 0} (number : A → ℕ) (id : ℕ) (l : List A) → position_or_len (λ x. eqb (number x) id) l ≡ place_in number id l
unfolding place_in
first_or_all number id [] = refl
first_or_all number id (x ∷ l) = by_test (eqb (number x) id) (first_or_all number id l)
  where
    by_test : (b : Bool) → position_or_len (λ y. eqb (number y) id) l ≡ place_in number id l → cond (not b) (1 + position_or_len (λ y. eqb (number y) id) l) 0 ≡ pick b 0 (suc (place_in number id l))
    by_test true e = refl
    by_test false e = omega (arith, e)

found_or_all : {A : Type 0} (number : A → ℕ) (id : ℕ) (l : List A) → unwrap_or (position (λ x. eqb (number x) id) l) (length l) ≡ place_in number id l
found_or_all number id l = by_test (ltb (position_or_len (λ x. eqb (number x) id) l) (length l)) refl
  where
    by_test : (b : Bool) → ltb (position_or_len (λ x. eqb (number x) id) l) (length l) ≡ b → unwrap_or (cond b (Some (position_or_len (λ x. eqb (number x) id) l)) None) (length l) ≡ place_in number id l
    by_test true e = first_or_all number id l
    by_test false e = omega (arith, ltb-false _ _ e, first_or_all number id l, prefix_len-le-length (λ x. not (eqb (number x) id)) l)

pub place_is : {A : Type 0} (number : A → ℕ) (id : ℕ) (l : List A) (n : ℕ) → n ≡ length l → (r : Option ℕ) → r ≡ position (λ x. eqb (number x) id) l → unwrap_or r n ≡ place_in number id l
place_is number id l n k r e = (λ i. unwrap_or (e i) (k i)) ∙ found_or_all number id l

-- ---- an edit, by what the code found
shifted_length : {A : Type 0} (y : A) (p n : ℕ) (l : List A) → p < n → n ≤ length l → length (shifted y p n l) ≡ length l
unfolding shifted
shifted_length y p n l h g =
    omega (arith, length-append (take p l) (drop (p + 1) (take n l) ++ y ∷ drop n l), length-append (drop (p + 1) (take n l)) (y ∷ drop n l), length-take-le p l (omega arith), length-take-le n l g, length-drop (p + 1) (take n l), length-drop n l)

module _ {A : Type 0} (blank : A) (n : ℕ) (x : A) (l : List A) where
  module _ (p : ℕ) where
    pub put_in : p < n → set l p x ≡ edited blank (Put p) n x l
    put_in h = simp (lt-ltb p n h)

    pub put_out : n ≤ p → l ≡ edited blank (Put p) n x l
    put_out h = simp (le-ltb p n h)

    pub cut_in : (r : List A) → r ≡ shifted blank p n l → p < n → r ≡ edited blank (Cut p) n x l
    cut_in r e h = e ∙ simp (lt-ltb p n h)

    pub cut_out : n ≤ p → l ≡ edited blank (Cut p) n x l
    cut_out h = simp (le-ltb p n h)

-- a removal by one copy
pub shift_copied : {A : Type 0} (blank : A) (n : ℕ) (l : List A) (p : ℕ) → p < n → n ≤ length l → set (copy_within l (p + 1) n p) (n - 1) blank ≡ shifted blank p n l
unfolding shifted
shift_copied {A} blank n l p h g =
    let j : ℕ = p + (n - (p + 1)) in
    let moved : List A = take (n - (p + 1)) (drop (p + 1) l) in
    let past : drop j l ≡ get_or l j blank ∷ drop n l = let z : suc j ≡ n = omega arith in drop-cons l j blank (omega arith) ∙ ap (λ (k : ℕ). get_or l j blank ∷ drop k l) z in
    let size : length (take p l ++ moved) ≡ n - 1 = omega (arith, length-append (take p l) moved, length-take p l, length-take (n - (p + 1)) (drop (p + 1) l), length-drop (p + 1) l) in
    let same : moved ≡ drop (p + 1) (take n l) = let z : p + 1 + (n - (p + 1)) ≡ n = omega arith in sym (drop-take (p + 1) (n - (p + 1)) l) ∙ ap (λ (k : ℕ). drop (p + 1) (take k l)) z in
    ap (λ (t : List A). set ((take p l ++ moved) ++ t) (n - 1) blank) past
    ∙ set_at (take p l ++ moved) (get_or l j blank) (drop n l) blank (n - 1) size
    ∙ append_assoc (take p l) moved (blank ∷ drop n l)
    ∙ ap (λ (t : List A). take p l ++ (t ++ blank ∷ drop n l)) same

-- an edit keeps the length
pub edited_length : {A : Type 0} (blank : A) (e : Edit) (n : ℕ) (x : A) (l : List A) → n ≤ length l → length (edited blank e n x l) ≡ length l
edited_length blank Same n x l h = refl
edited_length blank Add n x l h = length-set l n x
edited_length blank (Put p) n x l h = elim (le_or_lt n p) [
  | inl g ↦ ap length (sym (put_out blank n x l p g))
  | inr g ↦ ap length (sym (put_in blank n x l p g)) ∙ length-set l p x
]
edited_length blank (Cut p) n x l h = elim (le_or_lt n p) [
  | inl g ↦ ap length (sym (cut_out blank n x l p g))
  | inr g ↦ ap length (sym (cut_in blank n x l p (shifted blank p n l) refl g)) ∙ shifted_length blank p n l g h
]

-- ---- the names: those of the streams, then those of the requests
module _ {A : Type 0} (keys : List A) (k : length keys ≡ 16) where
  titles_stand : (names : List A) → length names ≡ 34 → drop 18 (take 2 names ++ (keys ++ drop 16 (drop 2 names))) ≡ drop 18 names
  titles_stand [] h = absurd (omega (arith, h))
  titles_stand (x ∷ []) h = absurd (omega (arith, h))
  titles_stand (x ∷ y ∷ rest) h = drop_at keys (drop 16 rest) 16 k

  fronts : (names : List A) → length names ≡ 34 → take 18 (take 2 names ++ (keys ++ drop 16 (drop 2 names))) ≡ take 2 names ++ keys
  fronts [] h = absurd (omega (arith, h))
  fronts (x ∷ []) h = absurd (omega (arith, h))
  fronts (x ∷ y ∷ rest) h = ap (λ (t : List A). x ∷ y ∷ t) (take_at keys (drop 16 rest) 16 k)

  module _ (names : List A) (h : length names ≡ 34) (between : List A) (e : between ≡ take 2 names ++ (keys ++ drop 16 (drop 2 names))) where
    pub titles_between : take 16 (drop 18 between) ≡ take 16 (drop 18 names)
    titles_between = ap (λ (t : List A). take 16 (drop 18 t)) e ∙ ap (take 16) (titles_stand names h)

    pub parts_edited : (titles new : List A) → new ≡ titles → take 18 between ++ (new ++ drop 16 (drop 18 between)) ≡ take 2 names ++ (keys ++ titles)
    parts_edited titles new q =
        let none : drop 16 (drop 18 names) ≡ [] = drop_of_length-le (drop 18 names) {i = 16} (omega (arith, length-drop 18 names, h)) in
        ap (λ (t : List A). take 18 t ++ (new ++ drop 16 (drop 18 t))) e
        ∙ (λ j. fronts names h j ++ (q j ++ drop 16 (titles_stand names h j)))
        ∙ ap (λ (t : List A). (take 2 names ++ keys) ++ (titles ++ t)) none
        ∙ ap (λ (t : List A). (take 2 names ++ keys) ++ t) (append-nil titles)
        ∙ append_assoc (take 2 names) keys titles

-- and the app's
pub app_edited :
    (f : List ℕ → List ℕ) (names keys titles : List (List ℕ)) → length names ≡ 34 → (between last : List (List ℕ)) → between ≡ take 2 names ++ (keys ++ titles) → last ≡ set between 1 (f (get_or between 1 []))
    → last ≡ names_after names (f (get_or names 1 [])) keys titles
app_edited f [] keys titles h between last e q = absurd (omega (arith, h))
app_edited f (x ∷ []) keys titles h between last e q = absurd (omega (arith, h))
app_edited f (x ∷ y ∷ rest) keys titles h between last e q = q ∙ ap (λ (t : List (List ℕ)). set t 1 (f (get_or t 1 []))) e

-- ---- all of a change, from its steps
module _
    (a : Arrays) (c : Change) (n m p q : ℕ) (e f : Edit) (kn : n ≡ in_use (cell a.0 8)) (km : m ≡ in_use (cell a.0 9)) (kp : p ≡ place_in row_id c.stream.id.0 (take n a.1.0))
    (kq : q ≡ place_in row_id c.request.id.0 (take m a.1.1.0)) (ke : e ≡ stream_edit c.effect p) (kf : f ≡ request_edit c.effect q) where
  all_steps : edited_by e f n m a c ≡ applied_at a c
  unfolding applied_at
  all_steps =
      let pp : p ≡ stream_place a c = kp ∙ ap (λ (j : ℕ). place_in row_id c.stream.id.0 (take j a.1.0)) kn in
      let qq : q ≡ request_place a c = kq ∙ ap (λ (j : ℕ). place_in row_id c.request.id.0 (take j a.1.1.0)) km in
      λ i. edited_by ((ke ∙ ap (stream_edit c.effect) pp) i) ((kf ∙ ap (request_edit c.effect) qq) i) (kn i) (km i) a c

  pub applied_as :
      (row line facts : List ℕ) (streams requests names : List (List ℕ)) → row ≡ stream_row c.stream → line ≡ request_row c.request
      → facts ≡ facts_after c.effect c.request.name.len a.0 → streams ≡ edited (stream_row no_stream) e n row a.1.0 → requests ≡ edited (request_row no_request) f m line a.1.1.0
      → names ≡ names_after a.1.1.1 (app_after c.effect (title_bytes c.request) (get_or a.1.1.1 1 [])) (edited blank_bytes e n (key_bytes c.stream) (keys_of a.1.1.1)) (edited blank_bytes f m (title_bytes c.request) (titles_of a.1.1.1))
      → ◌≡◌ {A = Arrays} (facts, (streams, (requests, names))) (applied_at a c)
  applied_as row line facts streams requests names kr kl k0 k1 k2 k3 =
      let z : ◌≡◌ {A = Arrays} (facts, (streams, (requests, names))) (edited_by e f n m a c) =
      λ i. (k0 i, ((k1 ∙ ap (λ (t : List ℕ). edited (stream_row no_stream) e n t a.1.0) kr) i, ((k2 ∙ ap (λ (t : List ℕ). edited (request_row no_request) f m t a.1.1.0) kl) i, k3 i))) in
      z ∙ all_steps
