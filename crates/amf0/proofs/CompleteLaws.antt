-- What the grammar spells, the reader accepts: bytes that stand for a value that nests at most `left` deep are skipped, to their end.
use mathlib.Core.Path.{◌≡◌, refl, sym, ap, ◌∙◌, subst}
use Prim.Native.Nat.{ℕ, zero, suc, ◌+◌, ◌-◌, ◌*◌, ◌^◌, ◌≤◌, ◌<◌}
use native.Mathlib.Omega.{arith}
use mathlib.Core.Bool.{not}
use mathlib.Core.List.{List, [], ◌∷◌, ◌++◌, append_assoc}
use lib.ListN.{length, take, drop, length-append}
use lib.Seq.{take-append_seam}
use lib.Dec.{eqb, lit≤}
use lib.Ieee.{binary64, of_bits}
use Rattle.std.specs.Prelude.{Some, Result, Ok}
use Rattle.numbers.specs.Fields.{bytes_of, field_at}
use Rattle.numbers.proofs.FieldsLaws.{length_bytes_of}
use Rattle.numbers.proofs.PlaceLaws.{byte_in, byte_is, byte_next, field_is, length_at, rest_at}
use Rattle.amf0.specs.Grammar.{Properties, Row, Spells, SpellsProperties, SpellsRow, Value, array, boolean, count, counted, date, depth, depth_in, depth_of, done, long, none, null, number, object, property, strict, string, undefined, value}
use Rattle.amf0.specs.Reading.{by_marker, extent, extent_at, held, name_at, read_at, text_at}
use Rattle.amf0.specs.Skipping.{Skip, after_name, after_value, opened, pairs, skip_v, values_f}
use Rattle.amf0.specs.declared.error.BodyError.{BodyError}
use Rattle.amf0.specs.declared.value.Amf0Value.{Amf0Value}
use Rattle.amf0.specs.declared.value.Amf0Value.TheVariants.{Number, Boolean, Text, Object, Null, Undefined, EcmaArray, StrictArray, Date, LongText}
use Rattle.amf0.specs.declared.value.Extent.TheVariants.{Ends}
use Rattle.amf0.specs.declared.value.NameAt.{NameAt}
use Rattle.amf0.specs.declared.value.NameAt.TheVariants.{End, Value as ValueAt}
use Rattle.amf0.proofs.ReadingLaws.{extent_read, held_yes, name_end, name_value, read_in, text_in, within_in}
use Rattle.amf0.proofs.SkippingLaws.{moves, pairs_step, skip_ends}

-- ---- what stands behind a marker
module _ (s c : List ℕ) (at m : ℕ) (e : drop at s ≡ m ∷ c) where
  -- the value is read whole, if its bytes are in the body
  pub read_is : (p n : ℕ) (v : Amf0Value) → by_marker s (at + 1) m ≡ held s p n v → p + n ≤ length s → read_at s at ≡ Some (record { value = v; next = p + n })
  read_is p n v k h = sym (read_in s at (byte_in s c at m e)) ∙ ap (by_marker s (at + 1)) (byte_is s c at m e) ∙ k ∙ sym (held_yes s p n v h)

  pub extent_is : (p n : ℕ) (v : Amf0Value) → by_marker s (at + 1) m ≡ held s p n v → p + n ≤ length s → extent_at s at ≡ Ok (extent v (p + n))
  extent_is p n v k h = sym (extent_read s at (Some (record { value = v; next = p + n })) (sym (read_is p n v k h)))

  -- a text of length t behind its length of w bytes
  pub text_is : (w : ℕ) (made : ℕ → ℕ → Amf0Value) (t r : List ℕ) → 0 < w → length t < 2 ^ (8 * w) → by_marker s (at + 1) m ≡ text_at w made s (at + 1) → c ≡ counted w t ++ r
      → (by_marker s (at + 1) m ≡ held s (at + 1 + w) (length t) (made (at + 1 + w) (length t))) × (at + 1 + w + length t ≤ length s)
  text_is w made t r z h k q =
      let d : drop (at + 1) s ≡ bytes_of w (length t) ++ (t ++ r) = byte_next s c at m e ∙ q ∙ append_assoc (bytes_of w (length t)) t r in
      let f : field_at w s (at + 1) ≡ length t = field_is w (length t) s (t ++ r) (at + 1) z h d in
      let l = length_at s (bytes_of w (length t)) (t ++ r) (at + 1) d in
      let n = length_bytes_of w (length t) in
      let o = length-append t r in
      let i : at + 1 + w ≤ length s = omega arith in
      let j : at + 1 + w + length t ≤ length s = omega arith in
      (k ∙ sym (text_in w made s (at + 1) i) ∙ ap (λ (n : ℕ). held s (at + 1 + w) n (made (at + 1 + w) n)) f, j)

-- ---- a value by its marker m and the bytes behind it
module _ (s r : List ℕ) (left at : ℕ) where
  abbrev Skipped : List ℕ → Type 0
  Skipped b = drop at s ≡ b ++ r → skip_v s left at ≡ Ok (at + length b)

  -- n bytes in any case
  leaf_skips : (m n : ℕ) (v : Amf0Value) (c : List ℕ) → by_marker s (at + 1) m ≡ held s (at + 1) n v → extent v (at + 1 + n) ≡ Ends (at + 1 + n) → length c ≡ n → Skipped (m ∷ c)
  leaf_skips m n v c k x q e =
      let l = length_at s (m ∷ c) r at e in
      let h : at + 1 + n ≤ length s = omega arith in
      let z : at + 1 + n ≡ at + length (m ∷ c) = omega arith in
      sym (skip_ends s left at (at + 1 + n) (extent_is s (c ++ r) at m e (at + 1) n v k h ∙ ap Ok x)) ∙ ap Ok z

  -- a text
  text_skips : (m w : ℕ) (made : ℕ → ℕ → Amf0Value) (t : List ℕ) → by_marker s (at + 1) m ≡ text_at w made s (at + 1) → ((p n : ℕ) → extent (made p n) (p + n) ≡ Ends (p + n))
      → 0 < w → length t < 2 ^ (8 * w) → Skipped (m ∷ counted w t)
  text_skips m w made t k x z h e =
      let g = text_is s (counted w t ++ r) at m e w made t r z h k refl in
      let n = length_bytes_of w (length t) in
      let o = length-append (bytes_of w (length t)) t in
      let q : at + 1 + w + length t ≡ at + length (m ∷ counted w t) = omega arith in
      sym (skip_ends s left at (at + 1 + w + length t) (extent_is s (counted w t ++ r) at m e (at + 1 + w) (length t) (made (at + 1 + w) (length t)) g.0 g.1 ∙ ap Ok (x (at + 1 + w) (length t)))) ∙ ap Ok q

-- ---- containers, by what they hold
module _ (s r : List ℕ) (left at : ℕ) where
  -- what a container's marker says
  pub holds : (m : ℕ) (v : Amf0Value) (c : List ℕ) → by_marker s (at + 1) m ≡ held s (at + 1) 0 v → drop at s ≡ m ∷ c → skip_v s (suc left) at ≡ opened (skip_v s left) s (Ok (extent v (at + 1)))
  unfolding skip_v
  holds m v c k e =
      let z : at + 1 + 0 ≡ at + 1 = omega arith in
      let h : at + 1 + 0 ≤ length s = omega (arith, byte_in s c at m e) in
      ap (opened (skip_v s left) s) (extent_is s c at m e (at + 1) 0 v k h ∙ ap (λ (n : ℕ). Ok (extent v n)) z)

  object_skips : (c : List ℕ) → (drop (at + 1) s ≡ c ++ r → pairs (skip_v s left) s (at + 1) ≡ Ok (at + 1 + length c)) → Skipped s r (suc left) at (0x03 ∷ c)
  unfolding by_marker
  object_skips c f e =
      let z : at + 1 + length c ≡ at + length (0x03 ∷ c) = omega arith in
      holds 0x03 (Object (at + 1)) (c ++ r) refl e ∙ f (byte_next s (c ++ r) at 0x03 e) ∙ ap Ok z

  -- four bytes of count and what follows
  module _ (m n : ℕ) (c : List ℕ) (e : drop at s ≡ (m ∷ (bytes_of 4 n ++ c)) ++ r) where
    pub count_at : drop (at + 1) s ≡ bytes_of 4 n ++ (c ++ r)
    count_at = byte_next s ((bytes_of 4 n ++ c) ++ r) at m e ∙ append_assoc (bytes_of 4 n) c r

    pub after_count : drop (at + 1 + 4) s ≡ c ++ r
    after_count = let q : at + 1 + 4 ≡ at + 1 + length (bytes_of 4 n) = omega (arith, length_bytes_of 4 n) in ap (λ (i : ℕ). drop i s) q ∙ rest_at s (bytes_of 4 n) (c ++ r) (at + 1) count_at

    pub count_room : at + 1 + 4 ≤ length s
    count_room = omega (arith, length_at s (bytes_of 4 n) (c ++ r) (at + 1) count_at, length_bytes_of 4 n)

    counted_end : at + 1 + 4 + length c ≡ at + length (m ∷ (bytes_of 4 n ++ c))
    counted_end = omega (arith, length-append (bytes_of 4 n) c, length_bytes_of 4 n)

  array_skips : (n : ℕ) (c : List ℕ) → (drop (at + 1 + 4) s ≡ c ++ r → pairs (skip_v s left) s (at + 1 + 4) ≡ Ok (at + 1 + 4 + length c)) → Skipped s r (suc left) at (0x08 ∷ (bytes_of 4 n ++ c))
  unfolding by_marker
  array_skips n c f e =
      holds 0x08 (EcmaArray (at + 1)) ((bytes_of 4 n ++ c) ++ r) refl e
      ∙ within_in s (at + 1) 4 (pairs (skip_v s left) s) (count_room 0x08 n c e)
      ∙ f (after_count 0x08 n c e)
      ∙ ap Ok (counted_end 0x08 n c e)

  strict_skips : (n : ℕ) (c : List ℕ) → n < 2 ^ 32 → (drop (at + 1 + 4) s ≡ c ++ r → values_f (skip_v s left) n (at + 1 + 4) ≡ Ok (at + 1 + 4 + length c)) → Skipped s r (suc left) at (0x0A ∷ (bytes_of 4 n ++ c))
  unfolding by_marker
  strict_skips n c h f e =
      let q : field_at 4 s (at + 1) ≡ n = field_is 4 n s (c ++ r) (at + 1) (lit≤ tt) h (count_at 0x0A n c e) in
      holds 0x0A (StrictArray (at + 1)) ((bytes_of 4 n ++ c) ++ r) refl e
      ∙ within_in s (at + 1) 4 (values_f (skip_v s left) (field_at 4 s (at + 1))) (count_room 0x0A n c e)
      ∙ ap (λ (k : ℕ). values_f (skip_v s left) k (at + 1 + 4)) q
      ∙ f (after_count 0x0A n c e)
      ∙ ap Ok (counted_end 0x0A n c e)

-- ---- pairs
module _ (s r : List ℕ) (left at : ℕ) where
  pub pairs_by : (x : Result NameAt BodyError) → name_at s at ≡ x → pairs (skip_v s left) s at ≡ after_name x (skip_v s left) (pairs (skip_v s left) s)
  pairs_by x e = pairs_step s (skip_v s left) (moves s left) at ∙ ap (λ (y : Result NameAt BodyError). after_name y (skip_v s left) (pairs (skip_v s left) s)) e

  pub none_is : drop at s ≡ (0x00 ∷ 0x00 ∷ 0x09 ∷ []) ++ r → name_at s at ≡ Ok (End (at + 3))
  unfolding bytes_of
  none_is e =
      let f : field_at 2 s at ≡ 0 = field_is 2 0 s (0x09 ∷ r) at (lit≤ tt) (lit≤ tt) e in
      let n : drop (at + 2) s ≡ 0x09 ∷ r = rest_at s (bytes_of 2 0) (0x09 ∷ r) at e in
      sym (name_end s at f (byte_in s r (at + 2) 0x09 n) (byte_is s r (at + 2) 0x09 n))

  -- a name, its value and the other pairs
  module _ (t c d : List ℕ) (e : drop at s ≡ (counted 2 t ++ (c ++ d)) ++ r) where
    abbrev v : ℕ
    v = at + 2 + length t

    named : drop at s ≡ counted 2 t ++ (c ++ (d ++ r))
    named = e ∙ append_assoc (counted 2 t) (c ++ d) r ∙ ap (λ (l : List ℕ). counted 2 t ++ l) (append_assoc c d r)

    pub value_at : drop v s ≡ c ++ (d ++ r)
    value_at =
        let q : v ≡ at + length (counted 2 t) = omega (arith, length-append (bytes_of 2 (length t)) t, length_bytes_of 2 (length t)) in
        ap (λ (i : ℕ). drop i s) q ∙ rest_at s (counted 2 t) (c ++ (d ++ r)) at named

    pub pairs_at : drop (v + length c) s ≡ d ++ r
    pairs_at = rest_at s c (d ++ r) v value_at

    pub name_is : 0 < length t → length t < 2 ^ 16 → name_at s at ≡ Ok (ValueAt v)
    name_is z h =
        let a = append_assoc (bytes_of 2 (length t)) t (c ++ (d ++ r)) in
        let f : field_at 2 s at ≡ length t = field_is 2 (length t) s (t ++ (c ++ (d ++ r))) at (lit≤ tt) h (named ∙ a) in
        let l = length_at s (counted 2 t) (c ++ (d ++ r)) at named in
        let o = length-append (bytes_of 2 (length t)) t in
        let n = length_bytes_of 2 (length t) in
        sym (name_value s at (length t) f z (omega arith))

    pub name_text : take (v - (at + 2)) (drop (at + 2) s) ≡ t
    name_text =
        let q : at + 2 ≡ at + length (bytes_of 2 (length t)) = omega (arith, length_bytes_of 2 (length t)) in
        let a = append_assoc (bytes_of 2 (length t)) t (c ++ (d ++ r)) in
        let p : drop (at + 2) s ≡ t ++ (c ++ (d ++ r)) = ap (λ (i : ℕ). drop i s) q ∙ rest_at s (bytes_of 2 (length t)) (t ++ (c ++ (d ++ r))) at (named ∙ a) in
        let n : v - (at + 2) ≡ length t = omega arith in
        ap (λ (i : ℕ). take i (drop (at + 2) s)) n ∙ ap (take (length t)) p ∙ take-append_seam t (c ++ (d ++ r))

    pub property_ends : v + length c + length d ≡ at + length (counted 2 t ++ (c ++ d))
    property_ends = omega (arith, length-append (counted 2 t) (c ++ d), length-append c d, length-append (bytes_of 2 (length t)) t, length_bytes_of 2 (length t))

-- ---- the theorem: every value, every row of pairs, every row of values
mutual
  unfolding Spells depth by_marker values_f count

  pub complete : (x : Value) (s r b : List ℕ) (left at : ℕ) → Spells x b → depth x ≤ left → drop at s ≡ b ++ r → skip_v s left at ≡ Ok (at + length b)
  complete (number n) s r b left at (h, q) d = subst (Skipped s r left at) (sym q) (leaf_skips s r left at 0x00 8 (Number (of_bits binary64 (field_at 8 s (at + 1)))) (bytes_of 8 n) refl refl (length_bytes_of 8 n))
  complete (boolean t) s r b left at (x, (h, q)) d = subst (Skipped s r left at) (sym q) (leaf_skips s r left at 0x01 1 (Boolean (not (eqb (field_at 1 s (at + 1)) 0))) (x ∷ []) refl refl refl)
  complete (string t) s r b left at (h, q) d = subst (Skipped s r left at) (sym q) (text_skips s r left at 0x02 2 Text t refl (λ p n. refl) (lit≤ tt) h)
  complete (object ps) s r b zero at (c, (p, q)) d = absurd (omega arith)
  complete (object ps) s r b (suc left) at (c, (p, q)) d = subst (Skipped s r (suc left) at) (sym q) (object_skips s r left at c (complete_in ps s r c left (at + 1) p (omega arith)))
  complete null s r b left at q d = subst (Skipped s r left at) (sym q) (leaf_skips s r left at 0x05 0 Null [] refl refl refl)
  complete undefined s r b left at q d = subst (Skipped s r left at) (sym q) (leaf_skips s r left at 0x06 0 Undefined [] refl refl refl)
  complete (array ps) s r b zero at (n, (h, (c, (p, q)))) d = absurd (omega arith)
  complete (array ps) s r b (suc left) at (n, (h, (c, (p, q)))) d = subst (Skipped s r (suc left) at) (sym q) (array_skips s r left at n c (complete_in ps s r c left (at + 1 + 4) p (omega arith)))
  complete (strict vs) s r b zero at (h, (c, (p, q))) d = absurd (omega arith)
  complete (strict vs) s r b (suc left) at (h, (c, (p, q))) d = subst (Skipped s r (suc left) at) (sym q) (strict_skips s r left at (count vs) c h (λ g. complete_of vs s r c left (at + 1 + 4) p (omega arith) g))
  complete (date n z) s r b left at (h, (g, q)) d = subst (Skipped s r left at) (sym q) (leaf_skips s r left at 0x0B 10 Date (bytes_of 8 n ++ bytes_of 2 z) refl refl (omega (arith, length-append (bytes_of 8 n) (bytes_of 2 z), length_bytes_of 8 n, length_bytes_of 2 z)))
  complete (long t) s r b left at (h, q) d = subst (Skipped s r left at) (sym q) (text_skips s r left at 0x0C 4 LongText t refl (λ p n. refl) (lit≤ tt) h)

  pub complete_in : (ps : Properties) (s r b : List ℕ) (left at : ℕ) → SpellsProperties ps b → depth_in ps ≤ left → drop at s ≡ b ++ r → pairs (skip_v s left) s at ≡ Ok (at + length b)
  complete_in none s r b left at q d = subst (λ (y : List ℕ). drop at s ≡ y ++ r → pairs (skip_v s left) s at ≡ Ok (at + length y)) (sym q) (λ g. pairs_by s r left at (Ok (End (at + 3))) (none_is s r left at g))
  complete_in (property t v ps) s r b left at (z, (h, (c, (p, (e, (k, q)))))) d =
      subst (λ (y : List ℕ). drop at s ≡ y ++ r → pairs (skip_v s left) s at ≡ Ok (at + length y)) (sym q)
      (λ g. pairs_by s r left at (Ok (ValueAt (at + 2 + length t))) (name_is s r left at t c e g z h)
      ∙ ap (λ (y : Skip). after_value y (pairs (skip_v s left) s)) (complete v s (e ++ r) c left (at + 2 + length t) p (omega arith) (value_at s r left at t c e g))
      ∙ complete_in ps s r e left (at + 2 + length t + length c) k (omega arith) (pairs_at s r left at t c e g)
      ∙ ap Ok (property_ends s r left at t c e g))

  pub complete_of : (vs : Row) (s r b : List ℕ) (left at : ℕ) → SpellsRow vs b → depth_of vs ≤ left → drop at s ≡ b ++ r → values_f (skip_v s left) (count vs) at ≡ Ok (at + length b)
  complete_of done s r b left at q d e = let z : at ≡ at + length b = omega (arith, ap length q) in ap Ok z
  complete_of (value v vs) s r b left at (c, (p, (f, (k, q)))) d e =
      let a : drop at s ≡ c ++ (f ++ r) = e ∙ ap (λ (y : List ℕ). y ++ r) q ∙ append_assoc c f r in
      let z : at + length c + length f ≡ at + length b = omega (arith, ap length q, length-append c f) in
      ap (λ (y : Skip). after_value y (values_f (skip_v s left) (count vs))) (complete v s (f ++ r) c left at p (omega arith) a)
      ∙ complete_of vs s r f left (at + length c) k (omega arith) (rest_at s c (f ++ r) at a)
      ∙ ap Ok z
