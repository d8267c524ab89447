-- Tables: a list of places, of which the first n are in use. Over any type of entry, and any number of places.
use Rattle.std.specs.Prelude.{ℕ, ◌+◌, Bool, true, false, not, ◌&&◌, List, [], ◌∷◌, ◌++◌, Option, Some, None, eqb, leb, ltb, length, take, drop}
use Rattle.numbers.specs.Choose.{pick}
use Rattle.text.specs.declared.names.Name.{Name}

module _ {A : Type 0} (number : A → ℕ) where
  -- the first entry of a number
  unfoldable pub look : ℕ → List A → Option A
  look id [] = None
  look id (x ∷ xs) = pick (eqb (number x) id) (Some x) (look id xs)

  -- with that entry in the place of the first of its number
  unfoldable pub change : A → List A → List A
  change y [] = []
  change y (x ∷ xs) = pick (eqb (number x) (number y)) (y ∷ xs) (x ∷ change y xs)

  -- without the first entry of a number
  unfoldable pub remove : ℕ → List A → List A
  remove id [] = []
  remove id (x ∷ xs) = pick (eqb (number x) id) xs (x ∷ remove id xs)

  -- ---- the same of an array of which the first n places are in use
  unfoldable pub changed : A → ℕ → List A → List A
  changed y n l = change y (take n l) ++ drop n l

  abbrev pub closed : A → List A → List A → List A → Option A → List A
  closed blank rest past l (Some x) = rest ++ blank ∷ past
  closed blank rest past l None = l

  -- a removal moves the later ones up and leaves a blank place behind them
  unfoldable pub removed : A → ℕ → ℕ → List A → List A
  removed blank id n l = closed blank (remove id (take n l)) (drop n l) l (look id (take n l))

  -- ---- refusal 15
  unfoldable pub has : ℕ → List A → Bool
  has id [] = false
  has id (x ∷ xs) = pick (eqb (number x) id) true (has id xs)

  module _ (name : A → Name) (next : ℕ) where
    -- "a name length over 128", "a number twice in one table, or a number not below the next one": none of these
    unfoldable pub sound : List A → Bool
    sound [] = true
    sound (x ∷ xs) = leb (name x).len 128 && (ltb (number x) next && (not (has (number x) xs) && sound xs))

    -- "a table count over its 16 places"
    unfoldable pub table_sound : ℕ → List A → Bool
    table_sound n l = leb n (length l) && sound (take n l)

    -- the same where the numbers rise, from `low` on
    unfoldable pub rises_from : ℕ → List A → Bool
    rises_from low [] = true
    rises_from low (x ∷ xs) = leb low (number x) && (ltb (number x) next && (leb (name x).len 128 && rises_from (number x + 1) xs))

-- the first n without the one at p: the later ones moved up, and a blank behind them
unfoldable pub shifted : {A : Type 0} → A → ℕ → ℕ → List A → List A
shifted blank p n l = take p l ++ (drop (p + 1) (take n l) ++ blank ∷ drop n l)
