-- The values of an accepted body are those that the reading functions give.
use mathlib.Core.Path.{◌≡◌, refl, sym, ap, ◌∙◌, subst}
use Prim.Native.Nat.{ℕ, zero, suc, ◌+◌, ◌*◌, ◌^◌, ◌≤◌, ◌<◌}
use native.Mathlib.Omega.{arith}
use mathlib.Core.Bool.{Bool, true, false, not}
use mathlib.Core.List.{List, [], ◌∷◌, ◌++◌, append_assoc}
use lib.ListN.{length, take, drop, length-append, length-drop}
use lib.Seq.{take-append_seam}
use lib.Dec.{eqb, lit≤}
use lib.Ieee.{binary64, of_bits}
use Rattle.std.specs.Prelude.{Option, Some, None, option_map, Result, Ok}
use Rattle.std.specs.Result.{result_ok, result_unwrap_or}
use Rattle.numbers.specs.Choose.{pick}
use Rattle.numbers.specs.Fields.{bytes_of, field_at}
use Rattle.numbers.proofs.FieldsLaws.{field_byte, length_bytes_of}
use Rattle.numbers.proofs.PlaceLaws.{byte_is, byte_next, field_is, length_at, rest_at}
use Rattle.text.specs.Words.{same}
use Rattle.amf0.specs.Bodies.{place_of}
use Rattle.amf0.specs.Grammar.{Properties, Row, Spells, SpellsProperties, SpellsRow, Value, array, boolean, count, counted, date, depth, depth_in, depth_of, done, long, none, null, number, object, property, strict, string, undefined, value}
use Rattle.amf0.specs.Properties.{better, inside, last, last_property, pair_at, pair_of}
use Rattle.amf0.specs.Reading.{by_marker, extent_at, held, read_at, text_at}
use Rattle.amf0.specs.Showing.{Content, Finds, Standing, last_of, nth, shown}
use Rattle.amf0.specs.Skipping.{Skip, after_value, skip_v, values_f}
use Rattle.amf0.specs.declared.error.BodyError.{BodyError}
use Rattle.amf0.specs.declared.value.Amf0Value.{Amf0Value}
use Rattle.amf0.specs.declared.value.Amf0Value.TheVariants.{Number, Boolean, Text, Object, Null, Undefined, EcmaArray, StrictArray, Date, LongText}
use Rattle.amf0.specs.declared.value.Extent.{Extent}
use Rattle.amf0.specs.declared.value.Extent.TheVariants.{Pairs}
use Rattle.amf0.proofs.CompleteLaws.{complete, extent_is, name_is, name_text, none_is, pairs_at, read_is, text_is, value_at}
use Rattle.amf0.proofs.PropertyLaws.{last_end, last_pair}
use Rattle.amf0.proofs.SkippingLaws.{next_value, skip_past}

-- ---- a value at its place

-- what `read_value` says of it, and what stands where it points
pub record Shows (s : List ℕ) (at : ℕ) (v : Value) : Type 0 where
  pub next : ℕ
  pub case : read_at s at ≡ Some (record { value = shown v at; next = next })
  pub content : Content s at v

module _ (s r : List ℕ) (at m : ℕ) where
  -- n bytes behind the marker
  fixed_shows : (n : ℕ) (v : Amf0Value) (c : List ℕ) → by_marker s (at + 1) m ≡ held s (at + 1) n v → length c ≡ n → drop at s ≡ (m ∷ c) ++ r → read_at s at ≡ Some (record { value = v; next = at + 1 + n })
  fixed_shows n v c k l e =
      let h : at + 1 + n ≤ length s = omega (arith, length_at s (m ∷ c) r at e) in
      read_is s (c ++ r) at m e (at + 1) n v k h

  -- a container, of which only the marker is read
  marker_shows : (v : Amf0Value) (c : List ℕ) → by_marker s (at + 1) m ≡ held s (at + 1) 0 v → drop at s ≡ m ∷ c → read_at s at ≡ Some (record { value = v; next = at + 1 + 0 })
  marker_shows v c k e =
      let h : at + 1 + 0 ≤ length s = omega (arith, length_at s (m ∷ []) c at e) in
      read_is s c at m e (at + 1) 0 v k h

  text_shows : (w : ℕ) (made : ℕ → ℕ → Amf0Value) (t : List ℕ) → by_marker s (at + 1) m ≡ text_at w made s (at + 1) → 0 < w → length t < 2 ^ (8 * w) → drop at s ≡ (m ∷ counted w t) ++ r
      → (read_at s at ≡ Some (record { value = made (at + 1 + w) (length t); next = at + 1 + w + length t })) × (take (length t) (drop (at + 1 + w) s) ≡ t)
  text_shows w made t k z h e =
      let g = text_is s (counted w t ++ r) at m e w made t r z h k refl in
      let d : drop (at + 1) s ≡ bytes_of w (length t) ++ (t ++ r) = byte_next s (counted w t ++ r) at m e ∙ append_assoc (bytes_of w (length t)) t r in
      let q : at + 1 + w ≡ at + 1 + length (bytes_of w (length t)) = omega (arith, length_bytes_of w (length t)) in
      let p : drop (at + 1 + w) s ≡ t ++ r = ap (λ (i : ℕ). drop i s) q ∙ rest_at s (bytes_of w (length t)) (t ++ r) (at + 1) d in
      (read_is s (counted w t ++ r) at m e (at + 1 + w) (length t) (made (at + 1 + w) (length t)) g.0 g.1, ap (take (length t)) p ∙ take-append_seam t r)

pub shows : (x : Value) (s r b : List ℕ) (at : ℕ) → Spells x b → drop at s ≡ b ++ r → Shows s at x
unfolding Spells by_marker
shows (number n) s r b at (h, q) e =
    let g : drop at s ≡ (0x00 ∷ bytes_of 8 n) ++ r = e ∙ ap (λ (y : List ℕ). y ++ r) q in
    let f : field_at 8 s (at + 1) ≡ n = field_is 8 n s r (at + 1) (lit≤ tt) h (byte_next s (bytes_of 8 n ++ r) at 0x00 g) in
    record { next = at + 1 + 8; case = fixed_shows s r at 0x00 8 (Number (of_bits binary64 (field_at 8 s (at + 1)))) (bytes_of 8 n) refl (length_bytes_of 8 n) g ∙ ap (λ (y : ℕ). Some (record { value = Number (of_bits binary64 y); next = at + 1 + 8 })) f; content = f }
shows (boolean t) s r b at (x, (h, q)) e =
    let g : drop at s ≡ (0x01 ∷ x ∷ []) ++ r = e ∙ ap (λ (y : List ℕ). y ++ r) q in
    let f : field_at 1 s (at + 1) ≡ x = field_byte s (at + 1) ∙ byte_is s r (at + 1) x (byte_next s (x ∷ r) at 0x01 g) in
    record { next = at + 1 + 1; case = fixed_shows s r at 0x01 1 (Boolean (not (eqb (field_at 1 s (at + 1)) 0))) (x ∷ []) refl refl g ∙ ap (λ (y : ℕ). Some (record { value = Boolean (not (eqb y 0)); next = at + 1 + 1 })) f ∙ ap (λ (y : Bool). Some (record { value = Boolean y; next = at + 1 + 1 })) (sym h); content = tt }
shows (string t) s r b at (h, q) e = let g = text_shows s r at 0x02 2 Text t refl (lit≤ tt) h (e ∙ ap (λ (y : List ℕ). y ++ r) q) in record { next = _; case = g.0; content = g.1 }
shows (object ps) s r b at (c, (p, q)) e = record { next = at + 1 + 0; case = marker_shows s r at 0x03 (Object (at + 1)) (c ++ r) refl (e ∙ ap (λ (y : List ℕ). y ++ r) q); content = tt }
shows null s r b at q e = record { next = at + 1 + 0; case = fixed_shows s r at 0x05 0 Null [] refl refl (e ∙ ap (λ (y : List ℕ). y ++ r) q); content = tt }
shows undefined s r b at q e = record { next = at + 1 + 0; case = fixed_shows s r at 0x06 0 Undefined [] refl refl (e ∙ ap (λ (y : List ℕ). y ++ r) q); content = tt }
shows (array ps) s r b at (n, (h, (c, (p, q)))) e = record { next = at + 1 + 0; case = marker_shows s r at 0x08 (EcmaArray (at + 1)) ((bytes_of 4 n ++ c) ++ r) refl (e ∙ ap (λ (y : List ℕ). y ++ r) q); content = tt }
shows (strict vs) s r b at (h, (c, (p, q))) e = record { next = at + 1 + 0; case = marker_shows s r at 0x0A (StrictArray (at + 1)) ((bytes_of 4 (count vs) ++ c) ++ r) refl (e ∙ ap (λ (y : List ℕ). y ++ r) q); content = tt }
shows (date n z) s r b at (h, (g, q)) e =
    record {
      next = at + 1 + 10;
      case = fixed_shows s r at 0x0B 10 Date (bytes_of 8 n ++ bytes_of 2 z) refl (omega (arith, length-append (bytes_of 8 n) (bytes_of 2 z), length_bytes_of 8 n, length_bytes_of 2 z)) (e ∙ ap (λ (y : List ℕ). y ++ r) q);
      content = tt;
    }
shows (long t) s r b at (h, q) e = let g = text_shows s r at 0x0C 4 LongText t refl (lit≤ tt) h (e ∙ ap (λ (y : List ℕ). y ++ r) q) in record { next = _; case = g.0; content = g.1 }

-- ---- the n-th value of a body

module _ (s : List ℕ) where
  abbrev place_from : ℕ → ℕ → ℕ
  place_from n at = result_unwrap_or (values_f (skip_v s 8) n at) (length s)

  -- one value further
  place_on : (v : Value) (c f : List ℕ) (at n : ℕ) → Spells v c → depth v ≤ 8 → drop at s ≡ c ++ f → place_from (suc n) at ≡ place_from n (at + length c)
  unfolding values_f
  place_on v c f at n p d h = ap (λ (r : Skip). result_unwrap_or (after_value r (values_f (skip_v s 8) n)) (length s)) (complete v s f c 8 at p d h)

  nth_at : (vs : Row) (n : ℕ) (b : List ℕ) (at : ℕ) (x : Value) → SpellsRow vs b → depth_of vs ≤ 8 → drop at s ≡ b → nth n vs ≡ Some x → Standing s (place_from n at) x
  unfolding SpellsRow depth_of nth values_f
  nth_at done n b at x p d e g = cc
  nth_at (value v vs) zero b at x (c, (p, (f, (k, q)))) d e g = let z : v ≡ x = cc in subst (Standing s at) z (record { bytes = c; rest = f; spells = p; here = e ∙ q })
  nth_at (value v vs) (suc n) b at x (c, (p, (f, (k, q)))) d e g =
      subst (λ (i : ℕ). Standing s i x) (sym (place_on v c f at n p (omega arith) (e ∙ q))) (nth_at vs n f (at + length c) x k (omega arith) (rest_at s c f at (e ∙ q)) g)

  absent_at : (vs : Row) (n : ℕ) (b : List ℕ) (at : ℕ) → SpellsRow vs b → depth_of vs ≤ 8 → at ≤ length s → drop at s ≡ b → nth n vs ≡ None → place_from n at ≡ length s
  unfolding SpellsRow depth_of nth values_f
  absent_at done zero b at p d h e g = omega (arith, length-drop at s, ap length (e ∙ p))
  absent_at done (suc n) b at p d h e g =
      let l : length s ≤ at = omega (arith, length-drop at s, ap length (e ∙ p)) in
      ap (λ (r : Skip). result_unwrap_or (after_value r (values_f (skip_v s 8) n)) (length s)) (sym (skip_past s 8 at l))
  absent_at (value v vs) zero b at p d h e g = cc
  absent_at (value v vs) (suc n) b at (c, (p, (f, (k, q)))) d h e g =
      place_on v c f at n p (omega arith) (e ∙ q)
      ∙ absent_at vs n f (at + length c) k (omega arith) (next_value s 8 at (at + length c) (complete v s f c 8 at p (omega arith) (e ∙ q))).1 (rest_at s c f at (e ∙ q)) g

-- it stands at the place that `place_of` gives; where there are not so many, that is the body's end
pub nth_stands : (vs : Row) (n : ℕ) (s : List ℕ) (x : Value) → SpellsRow vs s → depth_of vs ≤ 8 → nth n vs ≡ Some x → Standing s (place_of s n) x
unfolding place_of
nth_stands vs n s x p d e = nth_at s vs n s 0 x p d refl e

pub nth_absent : (vs : Row) (n : ℕ) (s : List ℕ) → SpellsRow vs s → depth_of vs ≤ 8 → nth n vs ≡ None → place_of s n ≡ length s
unfolding place_of
nth_absent vs n s p d e = absent_at s vs n s 0 p d (omega arith) refl e

-- ---- the last property of a name

-- the choice that the code makes is the definition's
found_or : (s : List ℕ) (p : ℕ) (v : Value) (best : Option ℕ) (m : Option Value) (t : Bool) → Standing s p v → Finds s best m → Finds s (pick t (Some p) best) (pick t (Some v) m)
found_or s p v best m true i j = i
found_or s p v best m false i j = j

last_in : (ps : Properties) (s r c w : List ℕ) (at : ℕ) (best : Option ℕ) (m : Option Value) → SpellsProperties ps c → depth_in ps ≤ 8 → drop at s ≡ c ++ r → Finds s best m → Finds s (last s w at best) (last_of w ps m)
unfolding SpellsProperties depth_in last_of better pair_at
last_in none s r c w at best m q d e i =
    subst (λ (x : Option ℕ). Finds s x m) (last_end s w at at best best refl (ap (pair_of (skip_v s 8)) (none_is s r 8 at (e ∙ ap (λ (y : List ℕ). y ++ r) q)))) i
last_in (property t v ps) s r c w at best m (z, (h, (f, (p, (g, (k, q)))))) d e i =
    let a : ℕ = at + 2 + length t in
    let n : drop at s ≡ (counted 2 t ++ (f ++ g)) ++ r = e ∙ ap (λ (y : List ℕ). y ++ r) q in
    let here : drop a s ≡ f ++ (g ++ r) = value_at s r 8 at t f g n in
    let b : Option ℕ = pick (same t w) (Some a) best in
    let j : Finds s b (pick (same t w) (Some v) m) = found_or s a v best m (same t w) (record { bytes = f; rest = g ++ r; spells = p; here = here }) i in
    let pair : pair_at (skip_v s 8) s at ≡ Some (a, a + length f) =
    ap (pair_of (skip_v s 8)) (name_is s r 8 at t f g n z h) ∙ ap (λ (x : Skip). option_map (λ next. (a, next)) (result_ok x)) (complete v s (g ++ r) f 8 a p (omega arith) here) in
    let o : b ≡ better s w at a best = ap (λ (y : List ℕ). pick (same y w) (Some a) best) (sym (name_text s r 8 at t f g n)) in
    subst (λ (x : Option ℕ). Finds s x (last_of w ps (pick (same t w) (Some v) m)))
    (ap (last s w (a + length f)) o ∙ last_pair s w at at best best refl a (a + length f) pair)
    (last_in ps s r g w (a + length f) b (pick (same t w) (Some v) m) k (omega arith) (pairs_at s r 8 at t f g n) j)

pub last_stands : (ps : Properties) (s r b w : List ℕ) (at : ℕ) → Spells (object ps) b → depth_in ps ≤ 8 → drop at s ≡ b ++ r → Finds s (last_property s at w) (last_of w ps None)
unfolding Spells last_property by_marker
last_stands ps s r b w at (c, (p, q)) d e =
    let n : drop at s ≡ 0x03 ∷ (c ++ r) = e ∙ ap (λ (y : List ℕ). y ++ r) q in
    let z : at + 1 + 0 ≡ at + 1 = omega arith in
    let h : at + 1 + 0 ≤ length s = omega (arith, length_at s (0x03 ∷ []) (c ++ r) at n) in
    let x : extent_at s at ≡ Ok (Pairs (at + 1)) = extent_is s (c ++ r) at 0x03 n (at + 1) 0 (Object (at + 1)) refl h ∙ ap (λ (p : ℕ). Ok (Pairs p)) z in
    subst (λ (y : Result Extent BodyError). Finds s (inside y (λ i. last s w i None)) (last_of w ps None)) (sym x)
    (last_in ps s r c w (at + 1) None None p d (byte_next s (c ++ r) at 0x03 n) tt)
