-- What the reader accepts, the grammar spells: bytes that are skipped stand for a value, which nests at most `left` deep.
use mathlib.Core.Path.{◌≡◌, refl, sym, ap, ◌∙◌, subst}
use Prim.Native.Nat.{ℕ, zero, suc, ◌+◌, ◌*◌, ◌^◌, ◌≤◌, ◌<◌}
use native.Mathlib.Omega.{arith}
use mathlib.Core.Bool.{not}
use mathlib.Core.List.{List, [], ◌∷◌, ◌++◌, append_assoc}
use lib.ListN.{length, drop, get_or, length-append}
use lib.Dec.{eqb}
use Rattle.std.specs.Prelude.{Option, Result, Ok, Err}
use Rattle.numbers.specs.Fields.{bytes_of, field_at}
use Rattle.numbers.proofs.FieldsLaws.{length_bytes_of}
use Rattle.numbers.proofs.PlaceLaws.{Bytes, cut_byte, cut_field, cut_text, field_lt, rest_at}
use Rattle.amf0.specs.Grammar.{Properties, Row, Spells, SpellsProperties, SpellsRow, Value, array, boolean, count, counted, date, depth, depth_in, depth_of, done, long, none, null, number, object, property, strict, string, undefined, value}
use Rattle.amf0.specs.Reading.{extent_at, reach}
use Rattle.amf0.specs.Skipping.{Skip, after_name, opened, pairs, pairs_f, shut, skip_v, values_f}
use Rattle.amf0.specs.declared.error.BodyError.{BodyError}
use Rattle.amf0.specs.declared.error.BodyError.TheVariants.{NotAmf0}
use Rattle.amf0.specs.declared.value.Read.{Read}
use Rattle.amf0.specs.declared.value.Extent.{Extent}
use Rattle.amf0.specs.declared.value.Extent.TheVariants.{Ends, Pairs, CountedPairs, Values}
use Rattle.amf0.specs.declared.value.NameAt.{NameAt}
use Rattle.amf0.proofs.ReadingLaws.{name_kinds, read_kinds}
use Rattle.amf0.proofs.SkippingLaws.{Lands, lands_after, lands_more, lands_within}

-- from `at` up to n stands a value; a row of pairs; a row of k values
pub record Stands (s : List ℕ) (left at n : ℕ) : Type 0 where
  pub what : Value
  pub bytes : List ℕ
  pub rest : List ℕ
  pub spells : Spells what bytes
  pub deep : depth what ≤ left
  pub here : drop at s ≡ bytes ++ rest
  pub ends : n ≡ at + length bytes

pub record StandsIn (s : List ℕ) (left at n : ℕ) : Type 0 where
  pub what : Properties
  pub bytes : List ℕ
  pub rest : List ℕ
  pub spells : SpellsProperties what bytes
  pub deep : depth_in what ≤ left
  pub here : drop at s ≡ bytes ++ rest
  pub ends : n ≡ at + length bytes

pub record StandsOf (s : List ℕ) (left k at n : ℕ) : Type 0 where
  pub what : Row
  pub bytes : List ℕ
  pub rest : List ℕ
  pub spells : SpellsRow what bytes
  pub deep : depth_of what ≤ left
  pub here : drop at s ≡ bytes ++ rest
  pub ends : n ≡ at + length bytes
  pub size : count what ≡ k

module _ (s : List ℕ) (small : Bytes s) where
  -- ---- values that hold no other, behind their marker m
  module _ (left at m : ℕ) (e : get_or s at 0 ≡ m) where
    leaf : (x : Value) (c : List ℕ) (n : ℕ) → depth x ≡ 0 → Spells x (m ∷ c) → at < length s → drop (at + 1) s ≡ c ++ drop (at + 1 + n) s → length c ≡ n → Stands s left at (at + 1 + n)
    leaf x c n d p h q l =
        record { what = x; bytes = m ∷ c; rest = drop (at + 1 + n) s; spells = p; deep = omega arith; here = cut_byte s at m h e ∙ ap (λ (y : List ℕ). m ∷ y) q; ends = omega arith }

    text_leaf : (w : ℕ) (made : List ℕ → Value) → ((t : List ℕ) → depth (made t) ≡ 0) → ((t : List ℕ) → length t < 2 ^ (8 * w) → Spells (made t) (m ∷ counted w t))
        → at + 1 + w + field_at w s (at + 1) ≤ length s → Stands s left at (at + 1 + w + field_at w s (at + 1))
    text_leaf w made d p h =
        let g = cut_text s small w (at + 1) h in
        let t = g.0 in
        let l : length t ≡ field_at w s (at + 1) = g.1.0 in
        let f : length t < 2 ^ (8 * w) = subst (λ (y : ℕ). y < 2 ^ (8 * w)) (sym l) (field_lt s small w (at + 1)) in
        let a = length-append (bytes_of w (length t)) t in
        let b = length_bytes_of w (length t) in
        record {
          what = made t;
          bytes = m ∷ counted w t;
          rest = drop (at + 1 + w + field_at w s (at + 1)) s;
          spells = p t f;
          deep = omega (arith, d t);
          here = cut_byte s at m (omega arith) e ∙ ap (λ (y : List ℕ). m ∷ y) g.1.1;
          ends = omega arith;
        }

    -- ---- containers, by what they hold
    object_stands : m ≡ 0x03 → at < length s → (n : ℕ) → StandsIn s left (at + 1) n → Stands s (suc left) at n
    unfolding Spells depth
    object_stands q h n i =
        record {
          what = object i.what;
          bytes = 0x03 ∷ i.bytes;
          rest = i.rest;
          spells = (i.bytes, (i.spells, refl));
          deep = omega (arith, i.deep);
          here = cut_byte s at 0x03 h (e ∙ q) ∙ ap (λ (y : List ℕ). 0x03 ∷ y) i.here;
          ends = omega (arith, i.ends);
        }

    module _ (h : at + 1 + 4 ≤ length s) where
      after_count : (c r : List ℕ) → drop (at + 1 + 4) s ≡ c ++ r → drop at s ≡ (m ∷ (bytes_of 4 (field_at 4 s (at + 1)) ++ c)) ++ r
      after_count c r q =
          cut_byte s at m (omega arith) e
          ∙ ap (λ (y : List ℕ). m ∷ y)
          (cut_field s small 4 (at + 1) h ∙ ap (λ (y : List ℕ). bytes_of 4 (field_at 4 s (at + 1)) ++ y) q ∙ sym (append_assoc (bytes_of 4 (field_at 4 s (at + 1))) c r))

      counted_ends : (c : List ℕ) (n : ℕ) → n ≡ at + 1 + 4 + length c → n ≡ at + length (m ∷ (bytes_of 4 (field_at 4 s (at + 1)) ++ c))
      counted_ends c n q = omega (arith, length-append (bytes_of 4 (field_at 4 s (at + 1))) c, length_bytes_of 4 (field_at 4 s (at + 1)))

      array_stands : m ≡ 0x08 → (n : ℕ) → StandsIn s left (at + 1 + 4) n → Stands s (suc left) at n
      unfolding Spells depth
      array_stands q n i =
          record {
            what = array i.what;
            bytes = m ∷ (bytes_of 4 (field_at 4 s (at + 1)) ++ i.bytes);
            rest = i.rest;
            spells = (field_at 4 s (at + 1), (field_lt s small 4 (at + 1), (i.bytes, (i.spells, ap (λ (y : ℕ). y ∷ (bytes_of 4 (field_at 4 s (at + 1)) ++ i.bytes)) q))));
            deep = omega (arith, i.deep);
            here = after_count i.bytes i.rest i.here;
            ends = counted_ends i.bytes n i.ends;
          }

      strict_stands : m ≡ 0x0A → (n : ℕ) → StandsOf s left (field_at 4 s (at + 1)) (at + 1 + 4) n → Stands s (suc left) at n
      unfolding Spells depth
      strict_stands q n i =
          record {
            what = strict i.what;
            bytes = m ∷ (bytes_of 4 (field_at 4 s (at + 1)) ++ i.bytes);
            rest = i.rest;
            spells = (subst (λ (y : ℕ). y < 2 ^ 32) (sym i.size) (field_lt s small 4 (at + 1)), (i.bytes, (i.spells, ap (λ (y : ℕ). y ∷ (bytes_of 4 (field_at 4 s (at + 1)) ++ i.bytes)) q ∙ ap (λ (y : ℕ). 0x0A ∷ (bytes_of 4 y ++ i.bytes)) (sym i.size))));
            deep = omega (arith, i.deep);
            here = after_count i.bytes i.rest i.here;
            ends = counted_ends i.bytes n i.ends;
          }

  -- ---- every kind, where `go` says what becomes of a container
  module _ (left at : ℕ) (go : Result Extent BodyError → Skip) (ends : (n : ℕ) → Ok n ≡ go (Ok (Ends n))) (wrong : Err NotAmf0 ≡ go (Err NotAmf0)) where
    abbrev Good : Result Extent BodyError → Type 0
    Good x = Lands (Stands s left at) (go x)

    end_good : (n : ℕ) → Stands s left at n → Good (Ok (Ends n))
    end_good n i = subst (Lands (Stands s left at)) (ends n) i

    by_kind : (get_or s at 0 ≡ 0x03 → at < length s → Good (Ok (Pairs (at + 1 + 0)))) → (get_or s at 0 ≡ 0x08 → at < length s → Good (Ok (CountedPairs (at + 1 + 0))))
        → (get_or s at 0 ≡ 0x0A → at < length s → Good (Ok (Values (at + 1 + 0)))) → Good (extent_at s at)
    unfolding extent_at Spells depth
    by_kind obj ecm str =
        read_kinds s at (λ (r : Option Read). Good (reach r)) (subst (Lands (Stands s left at)) wrong tt)
        (λ e h. end_good (at + 1 + 8)
        (leaf left at 0x00 e (number (field_at 8 s (at + 1))) (bytes_of 8 (field_at 8 s (at + 1))) 8 refl (field_lt s small 8 (at + 1), refl) (omega arith) (cut_field s small 8 (at + 1) h) (length_bytes_of 8 (field_at 8 s (at + 1)))))
        (λ e h. end_good (at + 1 + 1)
        (leaf left at 0x01 e (boolean (not (eqb (get_or s (at + 1) 0) 0))) (get_or s (at + 1) 0 ∷ []) 1 refl (get_or s (at + 1) 0, (refl, refl)) (omega arith) (cut_byte s (at + 1) (get_or s (at + 1) 0) (omega arith) refl) refl))
        (λ e h. end_good (at + 1 + 2 + field_at 2 s (at + 1)) (text_leaf left at 0x02 e 2 string (λ t. refl) (λ t l. (l, refl)) h))
        (λ e h. obj e (omega arith))
        (λ e h. end_good (at + 1 + 0) (leaf left at 0x05 e null [] 0 refl refl (omega arith) (let z : at + 1 ≡ at + 1 + 0 = omega arith in ap (λ (i : ℕ). drop i s) z) refl))
        (λ e h. end_good (at + 1 + 0) (leaf left at 0x06 e undefined [] 0 refl refl (omega arith) (let z : at + 1 ≡ at + 1 + 0 = omega arith in ap (λ (i : ℕ). drop i s) z) refl))
        (λ e h. ecm e (omega arith))
        (λ e h. str e (omega arith))
        (λ e h. end_good (at + 1 + 10)
        (leaf left at 0x0B e (date (field_at 8 s (at + 1)) (field_at 2 s (at + 1 + 8))) (bytes_of 8 (field_at 8 s (at + 1)) ++ bytes_of 2 (field_at 2 s (at + 1 + 8))) 10 refl
        (field_lt s small 8 (at + 1), (field_lt s small 2 (at + 1 + 8), refl))
        (omega arith)
        (date_cut h)
        (omega (arith, length-append (bytes_of 8 (field_at 8 s (at + 1))) (bytes_of 2 (field_at 2 s (at + 1 + 8))), length_bytes_of 8 (field_at 8 s (at + 1)), length_bytes_of 2 (field_at 2 s (at + 1 + 8))))))
        (λ e h. end_good (at + 1 + 4 + field_at 4 s (at + 1)) (text_leaf left at 0x0C e 4 long (λ t. refl) (λ t l. (l, refl)) h))
      where
        date_cut : at + 1 + 10 ≤ length s → drop (at + 1) s ≡ (bytes_of 8 (field_at 8 s (at + 1)) ++ bytes_of 2 (field_at 2 s (at + 1 + 8))) ++ drop (at + 1 + 10) s
        date_cut h =
            let z : at + 1 + 8 + 2 ≡ at + 1 + 10 = omega arith in
            let a : at + 1 + 8 ≤ length s = omega arith in
            let b : at + 1 + 8 + 2 ≤ length s = omega arith in
            cut_field s small 8 (at + 1) a
            ∙ ap (λ (y : List ℕ). bytes_of 8 (field_at 8 s (at + 1)) ++ y) (cut_field s small 2 (at + 1 + 8) b ∙ ap (λ (i : ℕ). bytes_of 2 (field_at 2 s (at + 1 + 8)) ++ drop i s) z)
            ∙ sym (append_assoc (bytes_of 8 (field_at 8 s (at + 1))) (bytes_of 2 (field_at 2 s (at + 1 + 8))) (drop (at + 1 + 10) s))

  -- ---- rows, where f skips a value
  module _ (left : ℕ) (f : ℕ → Skip) (good : (a : ℕ) → Lands (Stands s left a) (f a)) where
    -- what stands behind a value is the rest
    behind : (at n : ℕ) (x : Stands s left at n) → x.rest ≡ drop n s
    behind at n x = sym (rest_at s x.bytes x.rest at x.here) ∙ ap (λ (i : ℕ). drop i s) (sym x.ends)

    joined : (at b n : ℕ) (x : Stands s left at b) (c r : List ℕ) → drop b s ≡ c ++ r → drop at s ≡ (x.bytes ++ c) ++ r
    joined at b n x c r e = x.here ∙ ap (λ (y : List ℕ). x.bytes ++ y) (behind at b x ∙ e) ∙ sym (append_assoc x.bytes c r)

    pair_stands : (i b n : ℕ) → (field_at 2 s i ≡ 0 → ⊥) → i + 2 + field_at 2 s i ≤ length s → Stands s left (i + 2 + field_at 2 s i) b → StandsIn s left b n → StandsIn s left i n
    unfolding Spells depth
    pair_stands i b n z h x y =
        let g = cut_text s small 2 i h in
        let t = g.0 in
        let l : length t ≡ field_at 2 s i = g.1.0 in
        let k = length-append (bytes_of 2 (length t)) t in
        let o = length_bytes_of 2 (length t) in
        let c = x.bytes ++ y.bytes in
        let q = length-append x.bytes y.bytes in
        let w = length-append (counted 2 t) c in
        record {
          what = property t x.what y.what;
          bytes = counted 2 t ++ c;
          rest = y.rest;
          spells = (omega arith, (subst (λ (m : ℕ). m < 2 ^ 16) (sym l) (field_lt s small 2 i), (x.bytes, (x.spells, (y.bytes, (y.spells, refl))))));
          deep = omega (arith, x.deep, y.deep);
          here = g.1.1 ∙ ap (λ (m : List ℕ). counted 2 t ++ m) (joined (i + 2 + field_at 2 s i) b n x y.bytes y.rest y.here) ∙ sym (append_assoc (counted 2 t) c y.rest);
          ends = omega (arith, x.ends, y.ends);
        }

    pairs_sound : (k i : ℕ) → Lands (StandsIn s left i) (pairs_f f s k i)
    unfolding pairs_f Spells depth bytes_of
    pairs_sound zero i = tt
    pairs_sound (suc k) i =
        name_kinds s i (λ (x : Result NameAt BodyError). Lands (StandsIn s left i) (after_name x f (pairs_f f s k))) tt
        (λ e h m. record {
          what = none;
          bytes = 0x00 ∷ 0x00 ∷ 0x09 ∷ [];
          rest = drop (i + 3) s;
          spells = refl;
          deep = omega arith;
          here = end_here e h m;
          ends = refl;
        })
        (λ z h. lands_after (Stands s left (i + 2 + field_at 2 s i)) (StandsIn s left i) (f (i + 2 + field_at 2 s i)) (pairs_f f s k) (good (i + 2 + field_at 2 s i))
        (λ b x. lands_more (StandsIn s left b) (StandsIn s left i) (λ n y. pair_stands i b n z h x y) (pairs_f f s k b) (pairs_sound k b)))
      where
        end_here : field_at 2 s i ≡ 0 → i + 2 < length s → get_or s (i + 2) 0 ≡ 9 → drop i s ≡ (0x00 ∷ 0x00 ∷ 0x09 ∷ []) ++ drop (i + 3) s
        end_here e h m =
            let z : i + 2 + 1 ≡ i + 3 = omega arith in
            let a : i + 2 ≤ length s = omega arith in
            cut_field s small 2 i a ∙ ap (λ (n : ℕ). bytes_of 2 n ++ drop (i + 2) s) e
            ∙ ap (λ (y : List ℕ). 0x00 ∷ 0x00 ∷ y) (cut_byte s (i + 2) 0x09 h m ∙ ap (λ (n : ℕ). 0x09 ∷ drop n s) z)

    more_stands : (k i b n : ℕ) → Stands s left i b → StandsOf s left k b n → StandsOf s left (suc k) i n
    unfolding Spells depth count
    more_stands k i b n x y =
        let q = length-append x.bytes y.bytes in
        record {
          what = value x.what y.what;
          bytes = x.bytes ++ y.bytes;
          rest = y.rest;
          spells = (x.bytes, (x.spells, (y.bytes, (y.spells, refl))));
          deep = omega (arith, x.deep, y.deep);
          here = joined i b n x y.bytes y.rest y.here;
          ends = omega (arith, x.ends, y.ends);
          size = ap suc y.size;
        }

    values_sound : (k i : ℕ) → Lands (StandsOf s left k i) (values_f f k i)
    unfolding values_f Spells depth count
    values_sound zero i = record { what = done; bytes = []; rest = drop i s; spells = refl; deep = omega arith; here = refl; ends = omega arith; size = refl }
    values_sound (suc k) i =
        lands_after (Stands s left i) (StandsOf s left (suc k) i) (f i) (values_f f k) (good i)
        (λ b x. lands_more (StandsOf s left k b) (StandsOf s left (suc k) i) (λ n y. more_stands k i b n x y) (values_f f k b) (values_sound k b))

  -- ---- the theorem
  pub sound : (left at : ℕ) → Lands (Stands s left at) (skip_v s left at)
  unfolding skip_v
  sound zero at = by_kind zero at shut (λ n. refl) refl (λ e h. tt) (λ e h. tt) (λ e h. tt)
  sound (suc left) at =
      let f : ℕ → Skip = skip_v s left in
      let p : ℕ = at + 1 + 0 in
      let z : p ≡ at + 1 = omega arith in
      let w : p + 4 ≡ at + 1 + 4 = omega arith in
      by_kind (suc left) at (opened f s) (λ n. refl) refl
      (λ e h. lands_more (StandsIn s left p) (Stands s (suc left) at) (λ n i. object_stands left at 0x03 e refl h n (subst (λ (j : ℕ). StandsIn s left j n) z i)) (pairs f s p) (pairs_sound left f (sound left) (length s) p))
      (λ e h. lands_within (Stands s (suc left) at) s p 4 (pairs f s)
      (λ g. lands_more (StandsIn s left (p + 4)) (Stands s (suc left) at) (λ n i. array_stands left at 0x08 e (omega arith) refl n (subst (λ (j : ℕ). StandsIn s left j n) w i)) (pairs f s (p + 4)) (pairs_sound left f (sound left) (length s) (p + 4))))
      (λ e h. lands_within (Stands s (suc left) at) s p 4 (values_f f (field_at 4 s p))
      (λ g. lands_more (StandsOf s left (field_at 4 s p) (p + 4)) (Stands s (suc left) at)
      (λ n i. strict_stands left at 0x0A e (omega arith) refl n (subst (λ (j : ℕ). StandsOf s left (field_at 4 s j) (at + 1 + 4) n) z (subst (λ (j : ℕ). StandsOf s left (field_at 4 s p) j n) w i)))
      (values_f f (field_at 4 s p) (p + 4))
      (values_sound left f (sound left) (field_at 4 s p) (p + 4))))
