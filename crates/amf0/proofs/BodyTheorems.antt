-- A body is accepted exactly when it is a row of values of the grammar that nest at most eight deep.
use mathlib.Core.Path.{◌≡◌, refl, sym, ap, ◌∙◌}
use Prim.Native.Nat.{ℕ, zero, suc, ◌+◌, ◌≤◌}
use native.Mathlib.Omega.{arith}
use mathlib.Core.List.{List, ◌++◌}
use lib.ListN.{length, drop, drop_of_length-le, length-drop}
use Rattle.std.specs.Prelude.{Ok, Err}
use Rattle.numbers.proofs.ChooseLaws.{pick_le}
use Rattle.numbers.proofs.PlaceLaws.{Bytes, rest_at}
use Rattle.amf0.specs.Bodies.{checked, row, row_f, verdict}
use Rattle.amf0.specs.Grammar.{Row, SpellsRow, depth_of, done, value}
use Rattle.amf0.specs.Skipping.{Skip, after_value, skip_v}
use Rattle.amf0.proofs.BodiesLaws.{row_end, row_step}
use Rattle.amf0.proofs.CompleteLaws.{complete}
use Rattle.amf0.proofs.SkippingLaws.{Lands, Past, lands_after, lands_more, moves, next_value}
use Rattle.amf0.proofs.SoundLaws.{Stands, sound}

-- ---- what is a row of values is accepted

rows : (vs : Row) (s b : List ℕ) (at : ℕ) → SpellsRow vs b → depth_of vs ≤ 8 → drop at s ≡ b → verdict (row s at) ≡ Ok tt
unfolding SpellsRow depth_of
rows done s b at q d e = ap verdict (sym (row_end s at (omega (arith, length-drop at s, ap length (e ∙ q)))))
rows (value v vs) s b at (c, (p, (f, (k, q)))) d e =
    let h : drop at s ≡ c ++ f = e ∙ q in
    let n : skip_v s 8 at ≡ Ok (at + length c) = complete v s f c 8 at p (omega arith) h in
    let g = next_value s 8 at (at + length c) n in
    ap verdict (row_step s at (omega arith) ∙ ap (λ (r : Skip). after_value r (row s)) n) ∙ rows vs s f (at + length c) k (omega arith) (rest_at s c f at h)

pub row_accepted : (vs : Row) (s : List ℕ) → SpellsRow vs s → depth_of vs ≤ 8 → checked s ≡ Ok tt
unfolding checked
row_accepted vs s p d = rows vs s s 0 p d refl

-- ---- what is accepted is a row of values

pub record IsRow (s : List ℕ) : Type 0 where
  pub what : Row
  pub spells : SpellsRow what s
  pub deep : depth_of what ≤ 8

both : (P Q : ℕ → Type 0) (r : Skip) → Lands P r → Lands Q r → Lands (λ n. P n × Q n) r
both P Q (Ok n) p q = (p, q)
both P Q (Err e) p q = tt

module _ (s : List ℕ) (small : Bytes s) where
  empty_row : (i : ℕ) → length s ≤ i → IsRow (drop i s)
  unfolding SpellsRow depth_of
  empty_row i h = record { what = done; spells = drop_of_length-le s {i = i} h; deep = omega arith }

  longer_row : (i b : ℕ) → Stands s 8 i b → IsRow (drop b s) → IsRow (drop i s)
  unfolding SpellsRow depth_of
  longer_row i b x y =
      let r : x.rest ≡ drop b s = sym (rest_at s x.bytes x.rest i x.here) ∙ ap (λ (j : ℕ). drop j s) (sym x.ends) in
      record { what = value x.what y.what; spells = (x.bytes, (x.spells, (drop b s, (y.spells, x.here ∙ ap (λ (l : List ℕ). x.bytes ++ l) r)))); deep = omega (arith, x.deep, y.deep) }

  row_sound : (k i : ℕ) → length s ≤ i + k → Lands (λ n. IsRow (drop i s)) (row_f (skip_v s 8) s k i)
  unfolding row_f
  row_sound zero i h = empty_row i (omega arith)
  row_sound (suc k) i h =
      pick_le (Lands (λ n. IsRow (drop i s))) _ _ (length s) i (λ g. empty_row i g)
      (λ g. lands_after (λ b. Stands s 8 i b × Past s i b) (λ n. IsRow (drop i s)) (skip_v s 8 i) (row_f (skip_v s 8) s k)
      (both (Stands s 8 i) (Past s i) (skip_v s 8 i) (sound s small 8 i) (moves s 8 i))
      (λ b x. lands_more (λ n. IsRow (drop b s)) (λ n. IsRow (drop i s)) (λ n y. longer_row i b x.0 y) (row_f (skip_v s 8) s k b) (row_sound k b (omega (arith, x.1)))))

  pub accepted_row : checked s ≡ Ok tt → IsRow s
  unfolding checked
  accepted_row = go (row s 0) (row_sound (length s) 0 (omega arith))
    where
      go : (r : Skip) → Lands (λ n. IsRow (drop 0 s)) r → verdict r ≡ Ok tt → IsRow s
      go (Ok n) l e = l
      go (Err b) l e = cc
