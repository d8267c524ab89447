-- Refusal 3: bytes that stand for a value that nests deeper than they may are refused as too deep, and not as bad.
use mathlib.Core.Path.{◌≡◌, refl, ap, ◌∙◌}
use mathlib.Core.Logic.{inl, inr}
use Prim.Native.Nat.{ℕ, zero, suc, ◌+◌, ◌<◌}
use native.Mathlib.Omega.{arith}
use mathlib.Core.List.{List, ◌∷◌, ◌++◌, append_assoc}
use lib.ListN.{length, drop}
use lib.Dec.{lit≤}
use Rattle.std.specs.Prelude.{Ok, Err}
use Rattle.numbers.specs.Fields.{bytes_of, field_at}
use Rattle.numbers.proofs.PatternLaws.{le_or_lt}
use Rattle.numbers.proofs.PlaceLaws.{byte_in, byte_next, field_is, rest_at}
use Rattle.amf0.specs.Bodies.{checked, row, verdict}
use Rattle.amf0.specs.Grammar.{Properties, Row, Spells, SpellsProperties, SpellsRow, Value, array, count, counted, depth, depth_in, depth_of, done, none, object, property, strict, value}
use Rattle.amf0.specs.Reading.{by_marker, extent, held}
use Rattle.amf0.specs.Skipping.{Skip, after_value, pairs, shut, skip_v, values_f}
use Rattle.amf0.specs.declared.error.BodyError.TheVariants.{NotAmf0, TooDeep}
use Rattle.amf0.specs.declared.value.Amf0Value.{Amf0Value}
use Rattle.amf0.specs.declared.value.Amf0Value.TheVariants.{Object, EcmaArray, StrictArray}
use Rattle.amf0.specs.declared.value.NameAt.TheVariants.{Value as ValueAt}
use Rattle.amf0.proofs.BodiesLaws.{row_step}
use Rattle.amf0.proofs.CompleteLaws.{after_count, complete, count_at, count_room, extent_is, holds, name_is, pairs_at, pairs_by, value_at}
use Rattle.amf0.proofs.ReadingLaws.{within_in}
use Rattle.amf0.proofs.SkippingLaws.{next_value, skip_past}

-- where no container may follow, its marker alone decides
at_marker : (s c : List ℕ) (at m : ℕ) (v : Amf0Value) → by_marker s (at + 1) m ≡ held s (at + 1) 0 v → shut (Ok (extent v (at + 1 + 0))) ≡ Err TooDeep → drop at s ≡ m ∷ c → skip_v s 0 at ≡ Err TooDeep
unfolding skip_v
at_marker s c at m v k q e = ap shut (extent_is s c at m e (at + 1) 0 v k (omega (arith, byte_in s c at m e))) ∙ q

mutual
  unfolding Spells depth by_marker values_f count

  pub deep : (x : Value) (s r b : List ℕ) (left at : ℕ) → Spells x b → left < depth x → drop at s ≡ b ++ r → skip_v s left at ≡ Err TooDeep
  deep (object ps) s r b zero at (c, (p, q)) d e = at_marker s (c ++ r) at 0x03 (Object (at + 1)) refl refl (e ∙ ap (λ (y : List ℕ). y ++ r) q)
  deep (object ps) s r b (suc left) at (c, (p, q)) d e =
      let h : drop at s ≡ 0x03 ∷ (c ++ r) = e ∙ ap (λ (y : List ℕ). y ++ r) q in
      holds s r left at 0x03 (Object (at + 1)) (c ++ r) refl h ∙ deep_in ps s r c left (at + 1) p (omega arith) (byte_next s (c ++ r) at 0x03 h)
  deep (array ps) s r b zero at (n, (h, (c, (p, q)))) d e = at_marker s ((bytes_of 4 n ++ c) ++ r) at 0x08 (EcmaArray (at + 1)) refl refl (e ∙ ap (λ (y : List ℕ). y ++ r) q)
  deep (array ps) s r b (suc left) at (n, (h, (c, (p, q)))) d e =
      let g : drop at s ≡ (0x08 ∷ (bytes_of 4 n ++ c)) ++ r = e ∙ ap (λ (y : List ℕ). y ++ r) q in
      holds s r left at 0x08 (EcmaArray (at + 1)) ((bytes_of 4 n ++ c) ++ r) refl g
      ∙ within_in s (at + 1) 4 (pairs (skip_v s left) s) (count_room s r left at 0x08 n c g)
      ∙ deep_in ps s r c left (at + 1 + 4) p (omega arith) (after_count s r left at 0x08 n c g)
  deep (strict vs) s r b zero at (h, (c, (p, q))) d e = at_marker s ((bytes_of 4 (count vs) ++ c) ++ r) at 0x0A (StrictArray (at + 1)) refl refl (e ∙ ap (λ (y : List ℕ). y ++ r) q)
  deep (strict vs) s r b (suc left) at (h, (c, (p, q))) d e =
      let n : ℕ = count vs in
      let g : drop at s ≡ (0x0A ∷ (bytes_of 4 n ++ c)) ++ r = e ∙ ap (λ (y : List ℕ). y ++ r) q in
      let k : field_at 4 s (at + 1) ≡ n = field_is 4 n s (c ++ r) (at + 1) (lit≤ tt) h (count_at s r left at 0x0A n c g) in
      holds s r left at 0x0A (StrictArray (at + 1)) ((bytes_of 4 n ++ c) ++ r) refl g
      ∙ within_in s (at + 1) 4 (values_f (skip_v s left) (field_at 4 s (at + 1))) (count_room s r left at 0x0A n c g)
      ∙ ap (λ (j : ℕ). values_f (skip_v s left) j (at + 1 + 4)) k
      ∙ deep_of vs s r c left (at + 1 + 4) p (omega arith) (after_count s r left at 0x0A n c g)
  deep x s r b left at p d e = absurd (omega arith)

  pub deep_in : (ps : Properties) (s r b : List ℕ) (left at : ℕ) → SpellsProperties ps b → left < depth_in ps → drop at s ≡ b ++ r → pairs (skip_v s left) s at ≡ Err TooDeep
  deep_in none s r b left at p d e = absurd (omega arith)
  deep_in (property t v ps) s r b left at (z, (h, (c, (p, (f, (k, q)))))) d e =
      let g : drop at s ≡ (counted 2 t ++ (c ++ f)) ++ r = e ∙ ap (λ (y : List ℕ). y ++ r) q in
      let a : ℕ = at + 2 + length t in
      let here = value_at s r left at t c f g in
      pairs_by s r left at (Ok (ValueAt a)) (name_is s r left at t c f g z h)
      ∙ elim (le_or_lt (depth v) left) [
        | inl l ↦
            ap (λ (y : Skip). after_value y (pairs (skip_v s left) s)) (complete v s (f ++ r) c left a p l here)
            ∙ deep_in ps s r f left (a + length c) k (omega arith) (pairs_at s r left at t c f g)
        | inr l ↦ ap (λ (y : Skip). after_value y (pairs (skip_v s left) s)) (deep v s (f ++ r) c left a p l here)
      ]

  pub deep_of : (vs : Row) (s r b : List ℕ) (left at : ℕ) → SpellsRow vs b → left < depth_of vs → drop at s ≡ b ++ r → values_f (skip_v s left) (count vs) at ≡ Err TooDeep
  deep_of done s r b left at p d e = absurd (omega arith)
  deep_of (value v vs) s r b left at (c, (p, (f, (k, q)))) d e =
      let a : drop at s ≡ c ++ (f ++ r) = e ∙ ap (λ (y : List ℕ). y ++ r) q ∙ append_assoc c f r in
      elim (le_or_lt (depth v) left) [
        | inl l ↦
            ap (λ (y : Skip). after_value y (values_f (skip_v s left) (count vs))) (complete v s (f ++ r) c left at p l a)
            ∙ deep_of vs s r f left (at + length c) k (omega arith) (rest_at s c (f ++ r) at a)
        | inr l ↦ ap (λ (y : Skip). after_value y (values_f (skip_v s left) (count vs))) (deep v s (f ++ r) c left at p l a)
      ]

-- a whole body
in_body : (s : List ℕ) (at : ℕ) → skip_v s 8 at ≡ Err TooDeep → at < length s
in_body s at e = elim (le_or_lt (length s) at) [
  | inl l ↦ let b : Err NotAmf0 ≡ skip_v s 8 at = skip_past s 8 at l in cc
  | inr l ↦ l
]

deep_from : (vs : Row) (s b : List ℕ) (at : ℕ) → SpellsRow vs b → 8 < depth_of vs → drop at s ≡ b → verdict (row s at) ≡ Err TooDeep
unfolding SpellsRow depth_of
deep_from done s b at p d e = absurd (omega arith)
deep_from (value v vs) s b at (c, (p, (f, (k, q)))) d e = elim (le_or_lt (depth v) 8) [
  | inl l ↦
      let n : skip_v s 8 at ≡ Ok (at + length c) = complete v s f c 8 at p l (e ∙ q) in
      let h = next_value s 8 at (at + length c) n in
      ap verdict (row_step s at (omega arith) ∙ ap (λ (y : Skip). after_value y (row s)) n) ∙ deep_from vs s f (at + length c) k (omega arith) (rest_at s c f at (e ∙ q))
  | inr l ↦
      let n : skip_v s 8 at ≡ Err TooDeep = deep v s f c 8 at p l (e ∙ q) in
      ap verdict (row_step s at (in_body s at n) ∙ ap (λ (y : Skip). after_value y (row s)) n)
]

pub deep_refused : (vs : Row) (s : List ℕ) → SpellsRow vs s → 8 < depth_of vs → checked s ≡ Err TooDeep
unfolding checked
deep_refused vs s p d = deep_from vs s s 0 p d refl
