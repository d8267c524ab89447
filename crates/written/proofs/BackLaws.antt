-- What is read from a row is written as that row.
use mathlib.Core.Path.{◌≡◌, refl, sym, ap, ◌∙◌}
use Prim.Native.Nat.{ℕ, zero, suc, ◌%◌, ◌<◌}
use native.Mathlib.Nat.{mod-eq_of_lt}
use native.Mathlib.Omega.{arith}
use mathlib.Core.Bool.{Bool, true}
use mathlib.Core.List.{List, [], ◌∷◌, map}
use lib.Dec.{eqb, ltb}
use lib.ListN.{length, take}
use borrow.Author.Tests.{ltb-true}
use Rattle.numbers.specs.Choose.{pick}
use Rattle.tables.proofs.SoundLaws.{both}
use Rattle.image.specs.Cases.{flag_number, kind_number, kind_of, mode_number, mode_of, session_state, session_state_number, state_number, state_of}
use Rattle.std.specs.List.{list_all}
use Rattle.image.specs.Image.{Wide, cell, joined, request_of, request_readable, stream_of, stream_readable}
use Rattle.written.specs.Edits.{place_in, row_id}
use Rattle.written.specs.Kept.{request_row, stream_row}

-- ---- each number that names a case
state_back : (n : ℕ) → n < 4 → state_number (state_of n) ≡ n
unfolding state_of
state_back zero h = refl
state_back (suc zero) h = refl
state_back (suc (suc zero)) h = refl
state_back (suc (suc (suc zero))) h = refl
state_back (suc (suc (suc (suc n)))) h = absurd (omega (arith, h))

mode_back : (n : ℕ) → n < 3 → mode_number (mode_of n) ≡ n
unfolding mode_of
mode_back zero h = refl
mode_back (suc zero) h = refl
mode_back (suc (suc zero)) h = refl
mode_back (suc (suc (suc n))) h = absurd (omega (arith, h))

kind_back : (n : ℕ) → n < 3 → kind_number (kind_of n) ≡ n
unfolding kind_of
kind_back zero h = refl
kind_back (suc zero) h = refl
kind_back (suc (suc zero)) h = refl
kind_back (suc (suc (suc n))) h = absurd (omega (arith, h))

pub session_back : (n : ℕ) → n < 2 → session_state_number (session_state n) ≡ n
unfolding session_state
session_back zero h = refl
session_back (suc zero) h = refl
session_back (suc (suc n)) h = absurd (omega (arith, h))

pub flag_back : (n : ℕ) → n < 2 → flag_number (eqb n 1) ≡ n
flag_back zero h = refl
flag_back (suc zero) h = refl
flag_back (suc (suc n)) h = absurd (omega (arith, h))

-- ---- each row
four : (row : List ℕ) → length row ≡ 4 → row ≡ cell row 0 ∷ cell row 1 ∷ cell row 2 ∷ cell row 3 ∷ []
four (a ∷ b ∷ c ∷ d ∷ []) h = refl
four [] h = absurd (omega (arith, h))
four (a ∷ []) h = absurd (omega (arith, h))
four (a ∷ b ∷ []) h = absurd (omega (arith, h))
four (a ∷ b ∷ c ∷ []) h = absurd (omega (arith, h))
four (a ∷ b ∷ c ∷ d ∷ e ∷ row) h = absurd (omega (arith, h))

six : (row : List ℕ) → length row ≡ 6 → row ≡ cell row 0 ∷ cell row 1 ∷ cell row 2 ∷ cell row 3 ∷ cell row 4 ∷ cell row 5 ∷ []
six (a ∷ b ∷ row) h = let g : length row ≡ 4 = omega (arith, h) in ap (λ (t : List ℕ). a ∷ b ∷ t) (four row g)
six [] h = absurd (omega (arith, h))
six (a ∷ []) h = absurd (omega (arith, h))

pub ten : (row : List ℕ) → length row ≡ 10 → row ≡ cell row 0 ∷ cell row 1 ∷ cell row 2 ∷ cell row 3 ∷ cell row 4 ∷ cell row 5 ∷ cell row 6 ∷ cell row 7 ∷ cell row 8 ∷ cell row 9 ∷ []
ten (a ∷ b ∷ c ∷ d ∷ row) h = let g : length row ≡ 6 = omega (arith, h) in ap (λ (t : List ℕ). a ∷ b ∷ c ∷ d ∷ t) (six row g)
ten [] h = absurd (omega (arith, h))
ten (a ∷ []) h = absurd (omega (arith, h))
ten (a ∷ b ∷ []) h = absurd (omega (arith, h))
ten (a ∷ b ∷ c ∷ []) h = absurd (omega (arith, h))

pub stream_back : (row bytes : List ℕ) → stream_readable row ≡ true → length row ≡ 4 → stream_row (stream_of row bytes) ≡ row
unfolding stream_readable
stream_back row bytes e h =
    let a = both (ltb (cell row 0) 4294967296) _ e in
    let b = both (ltb (cell row 1) 4) _ a.1 in
    let p : cell row 0 % 4294967296 ≡ cell row 0 = mod-eq_of_lt (ltb-true (cell row 0) 4294967296 a.0) in
    let q = state_back (cell row 1) (ltb-true (cell row 1) 4 b.0) in
    let r = mode_back (cell row 2) (ltb-true (cell row 2) 3 b.1) in
    (λ i. p i ∷ q i ∷ r i ∷ cell row 3 ∷ []) ∙ sym (four row h)

pub request_back : (row bytes : List ℕ) → request_readable row ≡ true → length row ≡ 6 → request_row (request_of row bytes) ≡ row
unfolding request_readable
request_back row bytes e h =
    let a = both (ltb (cell row 0) 4294967296) _ e in
    let b = both (ltb (cell row 1) 3) _ a.1 in
    let c = both (ltb (cell row 2) 4294967296) _ b.1 in
    let p : cell row 0 % 4294967296 ≡ cell row 0 = mod-eq_of_lt (ltb-true (cell row 0) 4294967296 a.0) in
    let q = kind_back (cell row 1) (ltb-true (cell row 1) 3 b.0) in
    let r : cell row 2 % 4294967296 ≡ cell row 2 = mod-eq_of_lt (ltb-true (cell row 2) 4294967296 c.0) in
    let s = mode_back (cell row 3) (ltb-true (cell row 3) 3 c.1) in
    (λ i. p i ∷ q i ∷ r i ∷ s i ∷ cell row 4 ∷ cell row 5 ∷ []) ∙ sym (six row h)

-- ---- the rows in use, their names, and the place of a number among them
module _ {A : Type 0} (f : List ℕ → List ℕ → A) where
  pub rows_back :
      (row_of : A → List ℕ) (readable : List ℕ → Bool) (k : ℕ) → ((row bytes : List ℕ) → readable row ≡ true → length row ≡ k → row_of (f row bytes) ≡ row)
      → (n : ℕ) (rows names : List (List ℕ)) → length rows ≡ length names → list_all readable (take n rows) ≡ true → Wide k rows → map row_of (take n (joined f rows names)) ≡ take n rows
  unfolding Wide joined
  rows_back row_of readable k back zero rows names h e w = refl
  rows_back row_of readable k back (suc n) [] names h e w = refl
  rows_back row_of readable k back (suc n) (row ∷ rows) [] h e w = absurd (omega (arith, h))
  rows_back row_of readable k back (suc n) (row ∷ rows) (bytes ∷ names) h e w =
      let a = both (readable row) _ e in
      λ i. back row bytes a.0 w.0 i ∷ rows_back row_of readable k back n rows names (omega (arith, h)) a.1 w.1 i

  pub names_back :
      (bytes_of : A → List ℕ) → ((row bytes : List ℕ) → bytes_of (f row bytes) ≡ bytes)
      → (n : ℕ) (rows names : List (List ℕ)) → length rows ≡ length names → map bytes_of (take n (joined f rows names)) ≡ take n names
  unfolding joined
  names_back bytes_of back zero rows names h = refl
  names_back bytes_of back (suc n) [] [] h = refl
  names_back bytes_of back (suc n) [] (bytes ∷ names) h = absurd (omega (arith, h))
  names_back bytes_of back (suc n) (row ∷ rows) [] h = absurd (omega (arith, h))
  names_back bytes_of back (suc n) (row ∷ rows) (bytes ∷ names) h = λ i. back row bytes i ∷ names_back bytes_of back n rows names (omega (arith, h)) i

  pub place_joined :
      (number : A → ℕ) (id : ℕ) → ((row bytes : List ℕ) → number (f row bytes) ≡ row_id row)
      → (n : ℕ) (rows names : List (List ℕ)) → length rows ≡ length names → place_in number id (take n (joined f rows names)) ≡ place_in row_id id (take n rows)
  unfolding joined place_in
  place_joined number id says zero rows names h = refl
  place_joined number id says (suc n) [] names h = refl
  place_joined number id says (suc n) (row ∷ rows) [] h = absurd (omega (arith, h))
  place_joined number id says (suc n) (row ∷ rows) (bytes ∷ names) h =
      λ i. pick (eqb (says row bytes i) id) 0 (suc (place_joined number id says n rows names (omega (arith, h)) i))
