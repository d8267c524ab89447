-- The cases of what stands at a place, each from the tests that lead to it; and what can stand there at all.
use mathlib.Core.Path.{◌≡◌, sym, ap, ◌∙◌, subst}
use Prim.Native.Nat.{ℕ, ◌+◌, ◌≤◌, ◌<◌}
use native.Mathlib.Omega.{arith}
use mathlib.Core.Bool.{not}
use mathlib.Core.List.{List}
use lib.ListN.{length, get_or}
use lib.Dec.{eqb}
use lib.Ieee.{binary64, of_bits}
use borrow.Author.Tests.{le-leb, lt-leb, ne_eqb}
use Rattle.std.specs.Prelude.{Option, Some, None, option_map, option_and_then, Result, Ok, Err}
use Rattle.numbers.specs.Choose.{pick}
use Rattle.numbers.specs.Fields.{field_at}
use Rattle.numbers.proofs.ChooseLaws.{pick_eq, pick_le}
use Rattle.amf0.specs.Reading.{by_marker, extent_at, held, name_at, past, reach, read_at, text_at, within}
use Rattle.amf0.specs.declared.error.BodyError.{BodyError}
use Rattle.amf0.specs.declared.error.BodyError.TheVariants.{NotAmf0}
use Rattle.amf0.specs.declared.value.Amf0Value.{Amf0Value}
use Rattle.amf0.specs.declared.value.Amf0Value.TheVariants.{Number, Boolean, Text, Object, Null, Undefined, EcmaArray, StrictArray, Date, LongText}
use Rattle.amf0.specs.declared.value.Read.{Read}
use Rattle.amf0.specs.declared.value.NameAt.{NameAt}
use Rattle.amf0.specs.declared.value.NameAt.TheVariants.{End, Value}

-- ---- bytes that are in the body, and those that are not
module _ (s : List ℕ) (p n : ℕ) where
  pub past_yes : p + n ≤ length s → Some (p + n) ≡ past s p n
  unfolding past
  past_yes h = simp (le-leb (p + n) (length s) h)

  pub past_no : length s < p + n → None ≡ past s p n
  unfolding past
  past_no h = simp (lt-leb (p + n) (length s) h)

  pub past_kinds : (P : Option ℕ → Type 0) → (p + n ≤ length s → P (Some (p + n))) → P None → P (past s p n)
  unfolding past
  past_kinds P f g = pick_le P _ _ (p + n) (length s) f (λ h. g)

  pub past_in : (q : ℕ) → past s p n ≡ Some q → (q ≡ p + n) × (p + n ≤ length s)
  past_in = past_kinds (λ (x : Option ℕ). (q : ℕ) → x ≡ Some q → (q ≡ p + n) × (p + n ≤ length s)) (λ h q e. let z : q ≡ p + n = cc in (z, h)) (λ q e. cc)

pub within_in : {X : Type 0} (s : List ℕ) (p n : ℕ) (f : ℕ → Result X BodyError) → p + n ≤ length s → within (past s p n) f ≡ f (p + n)
within_in s p n f h = sym (ap (λ (o : Option ℕ). within o f) (past_yes s p n h))

pub held_yes : (s : List ℕ) (p n : ℕ) (v : Amf0Value) → p + n ≤ length s → Some (record { value = v; next = p + n }) ≡ held s p n v
held_yes s p n v h = ap (option_map (λ (q : ℕ). record { value = v; next = q })) (past_yes s p n h)

-- ---- a text after a length of w bytes
pub text_in : (w : ℕ) (made : ℕ → ℕ → Amf0Value) (s : List ℕ) (p : ℕ) → p + w ≤ length s → held s (p + w) (field_at w s p) (made (p + w) (field_at w s p)) ≡ text_at w made s p
text_in w made s p h = ap (option_and_then (λ (q : ℕ). held s q (field_at w s p) (made q (field_at w s p)))) (past_yes s p w h)

-- ---- no marker of the list
pub record Other (m : ℕ) : Type 0 where
  pub n0 : m ≡ 0 → ⊥
  pub n1 : m ≡ 1 → ⊥
  pub n2 : m ≡ 2 → ⊥
  pub n3 : m ≡ 3 → ⊥
  pub n5 : m ≡ 5 → ⊥
  pub n6 : m ≡ 6 → ⊥
  pub n8 : m ≡ 8 → ⊥
  pub n10 : m ≡ 10 → ⊥
  pub n11 : m ≡ 11 → ⊥
  pub n12 : m ≡ 12 → ⊥

pub other_marker : (s : List ℕ) (p m : ℕ) (r : Option Read) → r ≡ None → Other m → r ≡ by_marker s p m
unfolding by_marker
other_marker s p m r e o =
    e
    ∙ simp (ne_eqb m 0 o.n0, ne_eqb m 1 o.n1, ne_eqb m 2 o.n2, ne_eqb m 3 o.n3, ne_eqb m 5 o.n5, ne_eqb m 6 o.n6, ne_eqb m 8 o.n8, ne_eqb m 10 o.n10, ne_eqb m 11 o.n11, ne_eqb m 12 o.n12)

-- ---- at a place
module _ (s : List ℕ) (at : ℕ) where
  pub read_in : at < length s → by_marker s (at + 1) (get_or s at 0) ≡ read_at s at
  unfolding read_at
  read_in h = let k : at + 1 ≤ length s = omega arith in ap (option_and_then (λ (p : ℕ). by_marker s p (get_or s at 0))) (past_yes s at 1 k)

  pub read_end : length s ≤ at → None ≡ read_at s at
  unfolding read_at
  read_end h = let k : length s < at + 1 = omega arith in ap (option_and_then (λ (p : ℕ). by_marker s p (get_or s at 0))) (past_no s at 1 k)

  pub extent_read : (r : Option Read) → r ≡ read_at s at → reach r ≡ extent_at s at
  unfolding extent_at
  extent_read r e = ap reach e

-- ---- a name
module _ (s : List ℕ) (i : ℕ) where
  pub name_cut : length s < i + 2 → Err NotAmf0 ≡ name_at s i
  unfolding name_at
  name_cut h = simp (← past_no s i 2 h)

  pub name_bare : field_at 2 s i ≡ 0 → i + 2 ≡ length s → Err NotAmf0 ≡ name_at s i
  unfolding name_at
  name_bare e h =
      let a : i + 2 ≤ length s = omega arith in
      let b : length s < i + 2 + 1 = omega arith in
      simp (← past_yes s i 2 a, ← past_no s (i + 2) 1 b, e)

  pub name_odd : field_at 2 s i ≡ 0 → i + 2 < length s → (get_or s (i + 2) 0 ≡ 9 → ⊥) → Err NotAmf0 ≡ name_at s i
  unfolding name_at
  name_odd e h m =
      let a : i + 2 ≤ length s = omega arith in
      let b : i + 2 + 1 ≤ length s = omega arith in
      simp (← past_yes s i 2 a, ← past_yes s (i + 2) 1 b, e, ne_eqb (get_or s (i + 2) 0) 9 m)

  pub name_end : field_at 2 s i ≡ 0 → i + 2 < length s → get_or s (i + 2) 0 ≡ 9 → Ok (End (i + 3)) ≡ name_at s i
  unfolding name_at
  name_end e h m =
      let a : i + 2 ≤ length s = omega arith in
      let b : i + 2 + 1 ≤ length s = omega arith in
      let z : i + 3 ≡ i + 2 + 1 = omega arith in
      simp (← past_yes s i 2 a, ← past_yes s (i + 2) 1 b, e, m, z)

  pub name_value : (n : ℕ) → field_at 2 s i ≡ n → 0 < n → i + 2 + n ≤ length s → Ok (Value (i + 2 + n)) ≡ name_at s i
  unfolding name_at
  name_value n e z h =
      let a : i + 2 ≤ length s = omega arith in
      let o : n ≡ 0 → ⊥ = λ q. omega arith in
      simp (← past_yes s i 2 a, ← past_yes s (i + 2) n h, e, ne_eqb n 0 o)

-- ---- what can stand at a place, with what the tests say of it
module _ (s : List ℕ) (at : ℕ) (P : Option Read → Type 0) (none : P None) where
  abbrev Fixed : ℕ → ℕ → Amf0Value → Type 0
  Fixed m n v = get_or s at 0 ≡ m → at + 1 + n ≤ length s → P (Some (record { value = v; next = at + 1 + n }))

  -- a text behind its length of w bytes
  abbrev Counted : ℕ → ℕ → (ℕ → ℕ → Amf0Value) → Type 0
  Counted m w made = get_or s at 0 ≡ m → at + 1 + w + field_at w s (at + 1) ≤ length s → P (Some (record { value = made (at + 1 + w) (field_at w s (at + 1)); next = at + 1 + w + field_at w s (at + 1) }))

  fixed : (m n : ℕ) (v : Amf0Value) → Fixed m n v → get_or s at 0 ≡ m → P (held s (at + 1) n v)
  fixed m n v f e = past_kinds s (at + 1) n (λ (o : Option ℕ). P (option_map (λ (q : ℕ). record { value = v; next = q }) o)) (f e) none

  texts : (m w : ℕ) (made : ℕ → ℕ → Amf0Value) → Counted m w made → get_or s at 0 ≡ m → P (text_at w made s (at + 1))
  texts m w made f e =
      let n : ℕ = field_at w s (at + 1) in
      past_kinds s (at + 1) w (λ (o : Option ℕ). P (option_and_then (λ (q : ℕ). held s q n (made q n)) o))
      (λ h. past_kinds s (at + 1 + w) n (λ (o : Option ℕ). P (option_map (λ (q : ℕ). record { value = made (at + 1 + w) n; next = q }) o)) (f e) none)
      none

  pub read_kinds : Fixed 0x00 8 (Number (of_bits binary64 (field_at 8 s (at + 1)))) → Fixed 0x01 1 (Boolean (not (eqb (field_at 1 s (at + 1)) 0))) → Counted 0x02 2 Text
      → Fixed 0x03 0 (Object (at + 1)) → Fixed 0x05 0 Null → Fixed 0x06 0 Undefined → Fixed 0x08 0 (EcmaArray (at + 1)) → Fixed 0x0A 0 (StrictArray (at + 1)) → Fixed 0x0B 10 Date
      → Counted 0x0C 4 LongText → P (read_at s at)
  unfolding read_at by_marker
  read_kinds num boo txt obj nul und ecm str dat lng =
      let m : ℕ = get_or s at 0 in
      past_kinds s at 1 (λ (o : Option ℕ). P (option_and_then (λ (p : ℕ). by_marker s p m) o))
      (λ h. pick_eq P _ _ m 0x00 (fixed 0x00 8 _ num)
      (λ n. pick_eq P _ _ m 0x01 (fixed 0x01 1 _ boo)
      (λ n. pick_eq P _ _ m 0x02 (texts 0x02 2 Text txt)
      (λ n. pick_eq P _ _ m 0x03 (fixed 0x03 0 _ obj)
      (λ n. pick_eq P _ _ m 0x05 (fixed 0x05 0 _ nul)
      (λ n. pick_eq P _ _ m 0x06 (fixed 0x06 0 _ und)
      (λ n. pick_eq P _ _ m 0x08 (fixed 0x08 0 _ ecm)
      (λ n. pick_eq P _ _ m 0x0A (fixed 0x0A 0 _ str)
      (λ n. pick_eq P _ _ m 0x0B (fixed 0x0B 10 _ dat)
      (λ n. pick_eq P _ _ m 0x0C (texts 0x0C 4 LongText lng)
      (λ n. none)))))))))))
      none

pub name_kinds : (s : List ℕ) (i : ℕ) (P : Result NameAt BodyError → Type 0) → P (Err NotAmf0) → (field_at 2 s i ≡ 0 → i + 2 < length s → get_or s (i + 2) 0 ≡ 9 → P (Ok (End (i + 3))))
    → ((field_at 2 s i ≡ 0 → ⊥) → i + 2 + field_at 2 s i ≤ length s → P (Ok (Value (i + 2 + field_at 2 s i)))) → P (name_at s i)
unfolding name_at
name_kinds s i P cut end val =
    let n : ℕ = field_at 2 s i in
    let v : ℕ = i + 2 in
    let on_end : ℕ → Result NameAt BodyError = λ q. pick (eqb (get_or s v 0) 9) (Ok (End q)) (Err NotAmf0) in
    let z : i + 3 ≡ v + 1 = omega arith in
    past_kinds s i 2 (λ (o : Option ℕ). P (within o (λ (q : ℕ). pick (eqb n 0) (within (past s q 1) (λ (e : ℕ). pick (eqb (get_or s q 0) 9) (Ok (End e)) (Err NotAmf0))) (within (past s q n) (λ (e : ℕ). Ok (Value e))))))
    (λ h. pick_eq P _ _ n 0
    (λ e. past_kinds s v 1 (λ (o : Option ℕ). P (within o on_end)) (λ k. pick_eq P _ _ (get_or s v 0) 9 (λ m. subst (λ (q : ℕ). P (Ok (End q))) z (end e (omega arith) m)) (λ m. cut)) cut)
    (λ e. past_kinds s v n (λ (o : Option ℕ). P (within o (λ (q : ℕ). Ok (Value q)))) (val e) cut))
    cut
