-- Laws of skipping. A value that is skipped moves the place on, and stays within the body; so pairs can be taken one by one, with no count.
use mathlib.Core.Path.{◌≡◌, refl, sym, ap, ◌∙◌, subst}
use Prim.Native.Nat.{ℕ, zero, suc, ◌+◌, ◌-◌, ◌≤◌, ◌<◌}
use native.Mathlib.Numerals.{sub-one}
use native.Mathlib.Omega.{arith}
use mathlib.Core.List.{List}
use lib.ListN.{length, get_or}
use Rattle.std.specs.Prelude.{Option, Some, None, IfOk, Result, Ok, Err}
use Rattle.numbers.specs.Fields.{field_at}
use Rattle.amf0.specs.Reading.{extent, extent_at, name_at, past, reach, read_at, within}
use Rattle.amf0.specs.Skipping.{Skip, after_name, after_value, opened, pairs, pairs_f, shut, skip_v, values_f}
use Rattle.amf0.specs.declared.error.BodyError.{BodyError}
use Rattle.amf0.specs.declared.error.BodyError.TheVariants.{NotAmf0, TooDeep}
use Rattle.amf0.specs.declared.value.Amf0Value.{Amf0Value}
use Rattle.amf0.specs.declared.value.Amf0Value.TheVariants.{Text, Object, EcmaArray, StrictArray, LongText}
use Rattle.amf0.specs.declared.value.Read.{Read}
use Rattle.amf0.specs.declared.value.Extent.{Extent}
use Rattle.amf0.specs.declared.value.Extent.TheVariants.{Ends, Pairs, CountedPairs, Values}
use Rattle.amf0.specs.declared.value.NameAt.{NameAt}
use Rattle.amf0.specs.declared.value.NameAt.TheVariants.{End, Value}
use Rattle.amf0.proofs.ReadingLaws.{extent_read, name_cut, name_kinds, past_kinds, past_no, read_end, read_kinds}

-- a place past i and within s
abbrev pub Past : List ℕ → ℕ → ℕ → Type 0
Past s i n = (i < n) × (n ≤ length s)

-- every name is one of these
pub name_cases : (s : List ℕ) (i : ℕ) (P : Result NameAt BodyError → Type 0) → P (Err NotAmf0) → ((n : ℕ) → Past s i n → P (Ok (End n)))
    → ((v : ℕ) → (i + 2 < v) × (v ≤ length s) → P (Ok (Value v))) → P (name_at s i)
name_cases s i P cut end val = name_kinds s i P cut (λ e k m. end (i + 3) (omega arith)) (λ e k. val (i + 2 + field_at 2 s i) (omega arith))

-- every read is nothing, or ends past its marker and within the body
pub read_cases : (s : List ℕ) (at : ℕ) (P : Option Read → Type 0) → P None → ((v : Amf0Value) (n : ℕ) → Past s at n → P (Some (record { value = v; next = n }))) → P (read_at s at)
read_cases s at P none some =
    let fixed : (m n : ℕ) (v : Amf0Value) → get_or s at 0 ≡ m → at + 1 + n ≤ length s → P (Some (record { value = v; next = at + 1 + n })) = λ m n v e h. some v (at + 1 + n) (omega arith) in
    let texts : (w : ℕ) (made : ℕ → ℕ → Amf0Value) → at + 1 + w + field_at w s (at + 1) ≤ length s → P (Some (record { value = made (at + 1 + w) (field_at w s (at + 1)); next = at + 1 + w + field_at w s (at + 1) }))
    = λ w made h. some (made (at + 1 + w) (field_at w s (at + 1))) (at + 1 + w + field_at w s (at + 1)) (omega arith) in
    read_kinds s at P none (fixed 0x00 8 _) (fixed 0x01 1 _) (λ e h. texts 2 Text h) (fixed 0x03 0 _) (fixed 0x05 0 _) (fixed 0x06 0 _) (fixed 0x08 0 _) (fixed 0x0A 0 _) (fixed 0x0B 10 _) (λ e h. texts 4 LongText h)

pub read_inside : (s : List ℕ) (at : ℕ) (r : Read) → read_at s at ≡ Some r → at < length s
read_inside s at = read_cases s at (λ (o : Option Read). (r : Read) → o ≡ Some r → at < length s) (λ r e. cc) (λ v n h r e. omega arith)

-- every extent is one of these
pub extent_cases : (s : List ℕ) (at : ℕ) (P : Result Extent BodyError → Type 0) → P (Err NotAmf0) → ((n : ℕ) → Past s at n → P (Ok (Ends n))) → ((p : ℕ) → Past s at p → P (Ok (Pairs p)))
    → ((p : ℕ) → Past s at p → P (Ok (CountedPairs p))) → ((p : ℕ) → Past s at p → P (Ok (Values p))) → P (extent_at s at)
unfolding extent_at
extent_cases s at P wrong ends prs counted values = read_cases s at (λ (r : Option Read). P (reach r)) wrong go
  where
    go : (v : Amf0Value) (n : ℕ) → Past s at n → P (Ok (extent v n))
    go (Object p) n h = prs n h
    go (EcmaArray p) n h = counted n h
    go (StrictArray p) n h = values n h
    go v n h = ends n h

-- ---- where a skip lands
abbrev pub Lands : (ℕ → Type 0) → Skip → Type 0
Lands P r = IfOk r P

pub landed : (P : ℕ → Type 0) (r : Skip) (n : ℕ) → Lands P r → r ≡ Ok n → P n
landed P r n l e = subst (Lands P) e l

pub lands_more : (P Q : ℕ → Type 0) → ((n : ℕ) → P n → Q n) → (r : Skip) → Lands P r → Lands Q r
lands_more P Q f (Ok n) l = f n l
lands_more P Q f (Err e) l = tt

pub lands_after : (P Q : ℕ → Type 0) (r : Skip) (go : ℕ → Skip) → Lands P r → ((n : ℕ) → P n → Lands Q (go n)) → Lands Q (after_value r go)
lands_after P Q (Ok n) go l f = f n l
lands_after P Q (Err e) go l f = tt

-- what starts behind n more bytes, if they are there
pub lands_within : (Q : ℕ → Type 0) (s : List ℕ) (p n : ℕ) (go : ℕ → Skip) → (p + n ≤ length s → Lands Q (go (p + n))) → Lands Q (within (past s p n) go)
lands_within Q s p n go f = past_kinds s p n (λ (o : Option ℕ). Lands Q (within o go)) f tt

pub after_same : (P : ℕ → Type 0) (r : Skip) (g h : ℕ → Skip) → Lands P r → ((n : ℕ) → P n → g n ≡ h n) → after_value r g ≡ after_value r h
after_same P (Ok n) g h l f = f n l
after_same P (Err e) g h l f = refl

-- f moves on
abbrev pub Moves : List ℕ → (ℕ → Skip) → Type 0
Moves s f = (a : ℕ) → Lands (Past s a) (f a)

module _ (s : List ℕ) (f : ℕ → Skip) (m : Moves s f) where
  pairs_move : (k i : ℕ) → Lands (Past s i) (pairs_f f s k i)
  unfolding pairs_f
  pairs_move zero i = tt
  pairs_move (suc k) i =
      name_cases s i (λ (x : Result NameAt BodyError). Lands (Past s i) (after_name x f (pairs_f f s k))) tt (λ n h. h)
      (λ v h. lands_after (Past s v) (Past s i) (f v) (pairs_f f s k) (m v) (λ b g. lands_more (Past s b) (Past s i) (λ n e. omega arith) (pairs_f f s k b) (pairs_move k b)))

  values_move : (k i : ℕ) → i ≤ length s → Lands (λ n. (i ≤ n) × (n ≤ length s)) (values_f f k i)
  unfolding values_f
  values_move zero i h = omega arith
  values_move (suc k) i h =
      lands_after (Past s i) (λ n. (i ≤ n) × (n ≤ length s)) (f i) (values_f f k) (m i)
      (λ b g. lands_more (λ n. (b ≤ n) × (n ≤ length s)) (λ n. (i ≤ n) × (n ≤ length s)) (λ n e. omega arith) (values_f f k b) (values_move k b g.1))

  -- pairs: how many may be taken does not matter, if they are as many as the bytes left
  same_count : (k l i : ℕ) → length s ≤ i + k → length s ≤ i + l → pairs_f f s k i ≡ pairs_f f s l i
  unfolding pairs_f
  same_count zero zero i h g = refl
  same_count zero (suc l) i h g = ap (λ (x : Result NameAt BodyError). after_name x f (pairs_f f s l)) (name_cut s i (omega arith))
  same_count (suc k) zero i h g = sym (ap (λ (x : Result NameAt BodyError). after_name x f (pairs_f f s k)) (name_cut s i (omega arith)))
  same_count (suc k) (suc l) i h g =
      name_cases s i (λ (x : Result NameAt BodyError). after_name x f (pairs_f f s k) ≡ after_name x f (pairs_f f s l)) refl (λ n p. refl)
      (λ v p. after_same (Past s v) (f v) (pairs_f f s k) (pairs_f f s l) (m v) (λ b q. same_count k l b (omega arith) (omega arith)))

  -- one pair, and then the others
  pub pairs_step : (i : ℕ) → pairs f s i ≡ after_name (name_at s i) f (pairs f s)
  unfolding pairs_f
  pairs_step i = same_count (length s) (suc (length s)) i (omega arith) (omega arith)

-- a value that is skipped moves on, at any depth
pub moves : (s : List ℕ) (left : ℕ) → Moves s (skip_v s left)
unfolding skip_v
moves s zero at = extent_cases s at (λ (x : Result Extent BodyError). Lands (Past s at) (shut x)) tt (λ n h. h) (λ p h. tt) (λ p h. tt) (λ p h. tt)
moves s (suc left) at =
    let f : ℕ → Skip = skip_v s left in
    let m : Moves s f = moves s left in
    extent_cases s at (λ (x : Result Extent BodyError). Lands (Past s at) (opened f s x)) tt (λ n h. h)
    (λ p h. lands_more (Past s p) (Past s at) (λ n e. omega arith) (pairs f s p) (pairs_move s f m (length s) p))
    (λ p h. lands_within (Past s at) s p 4 (pairs f s) (λ k. lands_more (Past s (p + 4)) (Past s at) (λ n e. omega arith) (pairs f s (p + 4)) (pairs_move s f m (length s) (p + 4))))
    (λ p h. lands_within (Past s at) s p 4 (values_f f (field_at 4 s p))
    (λ k. lands_more (λ n. (p + 4 ≤ n) × (n ≤ length s)) (Past s at) (λ n e. omega arith) (values_f f (field_at 4 s p) (p + 4)) (values_move s f m (field_at 4 s p) (p + 4) k)))

pub next_value : (s : List ℕ) (left i a : ℕ) → skip_v s left i ≡ Ok a → Past s i a
next_value s left i a e = landed (Past s i) (skip_v s left i) a (moves s left i) e

-- ---- places that the code meets

-- a name's value stands past its length and its first byte
pub name_past : (s : List ℕ) (i v : ℕ) → name_at s i ≡ Ok (Value v) → (i + 2 < v) × (v ≤ length s)
name_past s i v e = subst Named e (name_cases s i Named tt (λ n h. tt) (λ v h. h))
  where
    Named : Result NameAt BodyError → Type 0
    Named (Ok (Value v)) = (i + 2 < v) × (v ≤ length s)
    Named x = Unit {0}

-- a value after a name: where the next name stands
pub next_name : (s : List ℕ) (left i v a : ℕ) → name_at s i ≡ Ok (Value v) → skip_v s left v ≡ Ok a → Past s i a
next_name s left i v a e k = omega (arith, name_past s i v e, next_value s left v a k)

-- ---- a row of values

-- some, and then the others
values_more : (f : ℕ → Skip) (m k i : ℕ) → values_f f (k + m) i ≡ after_value (values_f f k i) (values_f f m)
unfolding values_f
values_more f m zero i = let z : 0 + m ≡ m = omega arith in ap (λ (n : ℕ). values_f f n i) z
values_more f m (suc k) i = let z : suc k + m ≡ suc (k + m) = omega arith in ap (λ (n : ℕ). values_f f n i) z ∙ go (f i) (λ a. values_more f m k a)
  where
    go : (r : Skip) → ((a : ℕ) → values_f f (k + m) a ≡ after_value (values_f f k a) (values_f f m)) → after_value r (values_f f (k + m)) ≡ after_value (after_value r (values_f f k)) (values_f f m)
    go (Ok a) h = h a
    go (Err e) h = refl

values_one : (f : ℕ → Skip) (i : ℕ) → values_f f 1 i ≡ f i
unfolding values_f
values_one f i = go (f i)
  where
    go : (r : Skip) → after_value r (λ a. Ok a) ≡ r
    go (Ok a) = refl
    go (Err e) = refl

-- one more at its end
pub values_snoc : (f : ℕ → Skip) (k i : ℕ) → values_f f (k + 1) i ≡ after_value (values_f f k i) f
values_snoc f k i = values_more f 1 k i ∙ go (values_f f k i)
  where
    go : (r : Skip) → after_value r (values_f f 1) ≡ after_value r f
    go (Ok a) = values_one f a
    go (Err e) = refl

-- ---- the steps of a function that skips pairs from `at` on, and stands at i
module _ (s : List ℕ) (left i at : ℕ) (so : pairs (skip_v s left) s i ≡ pairs (skip_v s left) s at) where
  pairs_by : (x : Result NameAt BodyError) → name_at s i ≡ x → after_name x (skip_v s left) (pairs (skip_v s left) s) ≡ pairs (skip_v s left) s at
  pairs_by x e = sym (ap (λ (y : Result NameAt BodyError). after_name y (skip_v s left) (pairs (skip_v s left) s)) e) ∙ sym (pairs_step s (skip_v s left) (moves s left) i) ∙ so

  pub pairs_cut : (b : BodyError) → name_at s i ≡ Err b → Err b ≡ pairs (skip_v s left) s at
  pairs_cut b e = pairs_by (Err b) e

  pub pairs_end : (n : ℕ) → name_at s i ≡ Ok (End n) → Ok n ≡ pairs (skip_v s left) s at
  pairs_end n e = pairs_by (Ok (End n)) e

  module _ (v : ℕ) (e : name_at s i ≡ Ok (Value v)) where
    pub pairs_fault : (b : BodyError) → skip_v s left v ≡ Err b → Err b ≡ pairs (skip_v s left) s at
    pairs_fault b k = ap (λ (y : Skip). after_value y (pairs (skip_v s left) s)) (sym k) ∙ pairs_by (Ok (Value v)) e

    pub pairs_next : (a : ℕ) → skip_v s left v ≡ Ok a → pairs (skip_v s left) s a ≡ pairs (skip_v s left) s at
    pairs_next a k = ap (λ (y : Skip). after_value y (pairs (skip_v s left) s)) (sym k) ∙ pairs_by (Ok (Value v)) e

-- ---- the steps of a function that skips count values from `at` on, of which k are skipped, up to i
module _ (s : List ℕ) (left k count at : ℕ) where
  -- one more
  pub values_on : (i a : ℕ) → values_f (skip_v s left) k at ≡ Ok i → skip_v s left i ≡ Ok a → values_f (skip_v s left) (k + 1) at ≡ Ok a
  values_on i a e h = values_snoc (skip_v s left) k at ∙ ap (λ (r : Skip). after_value r (skip_v s left)) e ∙ h

  -- a fault is that of the whole row
  pub values_fault : (i : ℕ) (b : BodyError) → values_f (skip_v s left) k at ≡ Ok i → skip_v s left i ≡ Err b → k < count → Err b ≡ values_f (skip_v s left) count at
  values_fault i b e h l =
      let z : count ≡ k + 1 + (count - (k + 1)) = omega arith in
      let o : values_f (skip_v s left) (k + 1) at ≡ Err b = values_snoc (skip_v s left) k at ∙ ap (λ (r : Skip). after_value r (skip_v s left)) e ∙ h in
      sym (ap (λ (n : ℕ). values_f (skip_v s left) n at) z ∙ values_more (skip_v s left) (count - (k + 1)) (k + 1) at ∙ ap (λ (r : Skip). after_value r (values_f (skip_v s left) (count - (k + 1)))) o)

-- ---- a value, by its extent
module _ (s : List ℕ) (left at : ℕ) (x : Result Extent BodyError) (e : extent_at s at ≡ x) where
  -- where containers may not nest any more, and where they may
  pub skip_shut : left ≡ 0 → shut x ≡ skip_v s left at
  unfolding skip_v
  skip_shut z = rw z (sym (ap shut e))

  pub skip_open : (left ≡ 0 → ⊥) → opened (skip_v s (left - 1)) s x ≡ skip_v s left at
  unfolding skip_v
  skip_open = go left
    where
      go : (l : ℕ) → (l ≡ 0 → ⊥) → opened (skip_v s (l - 1)) s x ≡ skip_v s l at
      go zero z = absurd (z refl)
      go (suc l) z = rw sub-one (sym (ap (opened (skip_v s l) s) e))

-- a container where none may nest any more
pub skip_deep : (s : List ℕ) (left at : ℕ) (x : Extent) → extent_at s at ≡ Ok x → ((n : ℕ) → x ≡ Ends n → ⊥) → left ≡ 0 → Err TooDeep ≡ skip_v s left at
skip_deep s left at (Ends n) e o z = absurd (o n refl)
skip_deep s left at x e o z = skip_shut s left at (Ok x) e z

pub skip_ends : (s : List ℕ) (left at n : ℕ) → extent_at s at ≡ Ok (Ends n) → Ok n ≡ skip_v s left at
unfolding skip_v
skip_ends s zero at n e = sym (ap shut e)
skip_ends s (suc l) at n e = sym (ap (opened (skip_v s l) s) e)

pub skip_wrong : (s : List ℕ) (left at : ℕ) (b : BodyError) → extent_at s at ≡ Err b → Err b ≡ skip_v s left at
unfolding skip_v
skip_wrong s zero at b e = sym (ap shut e)
skip_wrong s (suc l) at b e = sym (ap (opened (skip_v s l) s) e)

-- past the body's end stands no value
pub skip_past : (s : List ℕ) (left at : ℕ) → length s ≤ at → Err NotAmf0 ≡ skip_v s left at
skip_past s left at h = skip_wrong s left at NotAmf0 (sym (extent_read s at None (read_end s at h)))

-- a count that is cut
module _ (s : List ℕ) (left at p : ℕ) (z : left ≡ 0 → ⊥) where
  pub skip_array_cut : extent_at s at ≡ Ok (CountedPairs p) → length s < p + 4 → Err NotAmf0 ≡ skip_v s left at
  skip_array_cut e h = ap (λ (o : Option ℕ). within o (pairs (skip_v s (left - 1)) s)) (past_no s p 4 h) ∙ skip_open s left at (Ok (CountedPairs p)) e z

  pub skip_strict_cut : extent_at s at ≡ Ok (Values p) → length s < p + 4 → Err NotAmf0 ≡ skip_v s left at
  skip_strict_cut e h = ap (λ (o : Option ℕ). within o (values_f (skip_v s (left - 1)) (field_at 4 s p))) (past_no s p 4 h) ∙ skip_open s left at (Ok (Values p)) e z

-- what the three functions that skip cite
pub ruleset skips = (next_name, pairs_cut, pairs_end, pairs_fault, pairs_next, values_on, values_fault, skip_open, skip_deep, skip_ends, skip_wrong)
