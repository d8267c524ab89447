-- The short way through refusal 15 lets nothing through that the long way refuses.
use mathlib.Core.Path.{◌≡◌, refl, ap, ◌∙◌}
use Prim.Native.Nat.{ℕ, zero, suc, ◌+◌, ◌%◌, ◌≤◌, ◌<◌}
use native.Mathlib.Nat.{mod-eq_of_lt}
use native.Mathlib.Omega.{arith}
use mathlib.Core.Logic.{◌⊎◌, inl, inr}
use mathlib.Core.Bool.{Bool, true, false}
use mathlib.Core.List.{List, [], ◌∷◌}
use lib.Dec.{eqb, leb, ltb}
use lib.ListN.{length, take}
use borrow.Author.Tests.{le-leb, le-ltb, lt-ltb, leb-true, ltb-true}
use Rattle.numbers.proofs.PatternLaws.{le_or_lt}
use Rattle.text.specs.declared.names.Name.{Name}
use Rattle.std.specs.List.{list_all}
use Rattle.tables.specs.Entries.{no_request, no_stream, request_name, request_number, stream_name, stream_number}
use Rattle.tables.specs.Tables.{rises_from, sound, table_sound}
use Rattle.tables.proofs.SoundLaws.{both, rises_sound}
use Rattle.session.specs.State.{app_fits, session_sound}
use Rattle.image.specs.Image.{cell, facts_readable, joined, keys_of, readable_at, request_of, request_readable, requests_at, session_at, sound_at, stream_of, stream_readable, streams_at, titles_of}
use Rattle.image.specs.Quick.{quick_at, request_weight, row_number, stream_weight}
use Rattle.image.proofs.RowsLaws.{all_length, used_front, used_length}

-- ---- a row of a stream
module _ (row : List ℕ) where
  pub stream_state : 4 ≤ cell row 1 → 128 < (stream_weight row).len
  stream_state h = let e : (stream_weight row).len ≡ 129 = simp (le-ltb (cell row 1) 4 h) in omega (arith, e)

  pub stream_mode : cell row 1 < 4 → 3 ≤ cell row 2 → 128 < (stream_weight row).len
  stream_mode h g = let e : (stream_weight row).len ≡ 129 = simp (lt-ltb (cell row 1) 4 h, le-ltb (cell row 2) 3 g) in omega (arith, e)

  pub stream_fine : cell row 1 < 4 → cell row 2 < 3 → (stream_weight row).len ≡ cell row 3
  stream_fine h g = simp (lt-ltb (cell row 1) 4 h, lt-ltb (cell row 2) 3 g)

  -- ---- a row of a request
  pub request_kind : 3 ≤ cell row 1 → 128 < (request_weight row).len
  request_kind h = let e : (request_weight row).len ≡ 129 = simp (le-ltb (cell row 1) 3 h) in omega (arith, e)

  pub request_stream : cell row 1 < 3 → 4294967296 ≤ cell row 2 → 128 < (request_weight row).len
  request_stream h g = let e : (request_weight row).len ≡ 129 = simp (lt-ltb (cell row 1) 3 h, le-ltb (cell row 2) 4294967296 g) in omega (arith, e)

  pub request_mode : cell row 1 < 3 → cell row 2 < 4294967296 → 3 ≤ cell row 3 → 128 < (request_weight row).len
  request_mode h g k = let e : (request_weight row).len ≡ 129 = simp (lt-ltb (cell row 1) 3 h, lt-ltb (cell row 2) 4294967296 g, le-ltb (cell row 3) 3 k) in omega (arith, e)

  pub request_fine : cell row 1 < 3 → cell row 2 < 4294967296 → cell row 3 < 3 → (request_weight row).len ≡ cell row 5
  request_fine h g k = simp (lt-ltb (cell row 1) 3 h, lt-ltb (cell row 2) 4294967296 g, lt-ltb (cell row 3) 3 k)

-- ---- rows that rise are readable, and the entries that are made of them rise
module _ {A : Type 0} (f : List ℕ → List ℕ → A) (number : A → ℕ) (name : A → Name) (readable : List ℕ → Bool) (weight : List ℕ → Name) (next : ℕ) (small : next ≤ 4294967296)
    (says : (row bytes : List ℕ) → cell row 0 < 4294967296 → (weight row).len ≤ 128 → (number (f row bytes) ≡ cell row 0) × (((name (f row bytes)).len ≤ 128) × (readable row ≡ true))) where
  record Rises (low : ℕ) (row : List ℕ) (rows : List (List ℕ)) : Type 0 where
    from : low ≤ cell row 0
    under : cell row 0 < next
    light : (weight row).len ≤ 128
    rest : rises_from row_number weight next (cell row 0 + 1) rows ≡ true

  rises : (low : ℕ) (row : List ℕ) (rows : List (List ℕ)) → rises_from row_number weight next low (row ∷ rows) ≡ true → Rises low row rows
  unfolding rises_from
  rises low row rows e =
      let a = both (leb low (cell row 0)) _ e in
      let b = both (ltb (cell row 0) next) _ a.1 in
      let c = both (leb (weight row).len 128) _ b.1 in
      record { from = leb-true low (cell row 0) a.0; under = ltb-true (cell row 0) next b.0; light = leb-true (weight row).len 128 c.0; rest = c.1 }

  pub rows_readable : (low n : ℕ) (rows : List (List ℕ)) → rises_from row_number weight next low (take n rows) ≡ true → list_all readable (take n rows) ≡ true
  rows_readable low zero rows e = refl
  rows_readable low (suc n) [] e = refl
  rows_readable low (suc n) (row ∷ rows) e =
      let r = rises low row (take n rows) e in
      simp (says row [] (omega (arith, r.under, small)) r.light).1.1 (rows_readable (cell row 0 + 1) n rows r.rest)

  pub rows_rise : (low n : ℕ) (rows names : List (List ℕ)) → rises_from row_number weight next low (take n rows) ≡ true → rises_from number name next low (take n (joined f rows names)) ≡ true
  unfolding joined rises_from
  rows_rise low zero rows names e = refl
  rows_rise low (suc n) [] names e = refl
  rows_rise low (suc n) (row ∷ rows) [] e = refl
  rows_rise low (suc n) (row ∷ rows) (bytes ∷ names) e =
      let r = rises low row (take n rows) e in
      let s = says row bytes (omega (arith, r.under, small)) r.light in
      simp
      (s.0, le-leb low (cell row 0) r.from, lt-ltb (cell row 0) next r.under, le-leb (name (f row bytes)).len 128 s.1.0)
      (rows_rise (cell row 0 + 1) n rows names r.rest)

stream_says : (row bytes : List ℕ) → cell row 0 < 4294967296 → (stream_weight row).len ≤ 128 → (stream_number (stream_of row bytes) ≡ cell row 0) × (((stream_name (stream_of row bytes)).len ≤ 128) × (stream_readable row ≡ true))
unfolding stream_readable
stream_says row bytes h g = (mod-eq_of_lt h, go (le_or_lt 4 (cell row 1)) (le_or_lt 3 (cell row 2)))
  where
    go : (4 ≤ cell row 1) ⊎ (cell row 1 < 4) → (3 ≤ cell row 2) ⊎ (cell row 2 < 3) → (cell row 3 ≤ 128) × (stream_readable row ≡ true)
    go (inl a) b = absurd (omega (arith, stream_state row a, g))
    go (inr a) (inl b) = absurd (omega (arith, stream_mode row a b, g))
    go (inr a) (inr b) = (omega (arith, stream_fine row a b, g), simp (lt-ltb (cell row 0) 4294967296 h, lt-ltb (cell row 1) 4 a, lt-ltb (cell row 2) 3 b))

request_says : (row bytes : List ℕ) → cell row 0 < 4294967296 → (request_weight row).len ≤ 128 → (request_number (request_of row bytes) ≡ cell row 0) × (((request_name (request_of row bytes)).len ≤ 128) × (request_readable row ≡ true))
unfolding request_readable
request_says row bytes h g = (mod-eq_of_lt h, go (le_or_lt 3 (cell row 1)) (le_or_lt 4294967296 (cell row 2)) (le_or_lt 3 (cell row 3)))
  where
    go : (3 ≤ cell row 1) ⊎ (cell row 1 < 3) → (4294967296 ≤ cell row 2) ⊎ (cell row 2 < 4294967296) → (3 ≤ cell row 3) ⊎ (cell row 3 < 3) → (cell row 5 ≤ 128) × (request_readable row ≡ true)
    go (inl a) b c = absurd (omega (arith, request_kind row a, g))
    go (inr a) (inl b) c = absurd (omega (arith, request_stream row a b, g))
    go (inr a) (inr b) (inl c) = absurd (omega (arith, request_mode row a b c, g))
    go (inr a) (inr b) (inr c) =
        (omega (arith, request_fine row a b c, g), simp (lt-ltb (cell row 0) 4294967296 h, lt-ltb (cell row 1) 3 a, lt-ltb (cell row 2) 4294967296 b, lt-ltb (cell row 3) 3 c))

app_fits_lem : (set : Bool) (len : ℕ) → leb len 128 ≡ true → app_fits set len ≡ true
app_fits_lem true len e = e
app_fits_lem false len e = refl

-- ---- and what refusal 15 says
module _ (facts : List ℕ) (streams requests names : List (List ℕ)) where
  module _ (q : facts_readable facts ≡ true) (h : length streams ≡ 16) (g : length requests ≡ 16) (k : length names ≡ 34) where
    facts_fit : (cell facts 6 < 4294967296) × (cell facts 7 < 4294967296)
    unfolding facts_readable
    facts_fit =
        let x = both (ltb (cell facts 2) 2) _ q in
        let y = both (ltb (cell facts 3) 2) _ x.1 in
        let z = both (ltb (cell facts 6) 4294967296) _ y.1 in
        (ltb-true (cell facts 6) 4294967296 z.0, ltb-true (cell facts 7) 4294967296 z.1)

    pub quick_sound : quick_at facts streams requests ≡ true → sound_at facts streams requests names ≡ true
    unfolding sound_at readable_at quick_at session_sound session_at table_sound
    quick_sound j =
        let a = both (leb (cell facts 1) 128) _ j in
        let c = both (leb (cell facts 4) 128) _ a.1 in
        let d = both (leb (cell facts 8) 16) _ c.1 in
        let w = both (leb (cell facts 9) 16) _ d.1 in
        let v = both (rises_from row_number stream_weight (cell facts 6) 0 (take (cell facts 8) streams)) _ w.1 in
        let s = facts_fit in
        let m : cell facts 6 % 4294967296 ≡ cell facts 6 = mod-eq_of_lt s.0 in
        let n : cell facts 7 % 4294967296 ≡ cell facts 7 = mod-eq_of_lt s.1 in
        let ks = all_length stream_of streams names 2 h (omega (arith, k)) in
        let kr = all_length request_of requests names 18 g (omega (arith, k)) in
        let cs = leb-true (cell facts 8) 16 d.0 in
        let cr = leb-true (cell facts 9) 16 w.0 in
        let ls : length (streams_at (cell facts 8) streams names) ≡ 16 = used_length (joined stream_of streams (keys_of names)) ks no_stream (cell facts 8) cs in
        let lr : length (requests_at (cell facts 9) requests names) ≡ 16 = used_length (joined request_of requests (titles_of names)) kr no_request (cell facts 9) cr in
        let x : sound stream_number stream_name (cell facts 6) (take (cell facts 8) (streams_at (cell facts 8) streams names)) ≡ true =
        ap (sound stream_number stream_name (cell facts 6)) (used_front (joined stream_of streams (keys_of names)) ks no_stream (cell facts 8))
        ∙ rises_sound stream_number stream_name (cell facts 6) 0 _ (rows_rise stream_of stream_number stream_name stream_readable stream_weight (cell facts 6) (omega (arith, s.0)) stream_says 0 (cell facts 8) streams (keys_of names) v.0) in
        let y : sound request_number request_name (cell facts 7) (take (cell facts 9) (requests_at (cell facts 9) requests names)) ≡ true =
        ap (sound request_number request_name (cell facts 7)) (used_front (joined request_of requests (titles_of names)) kr no_request (cell facts 9))
        ∙ rises_sound request_number request_name (cell facts 7) 0 _ (rows_rise request_of request_number request_name request_readable request_weight (cell facts 7) (omega (arith, s.1)) request_says 0 (cell facts 9) requests (titles_of names) v.1) in
        simp
        (q, rows_readable stream_of stream_number stream_name stream_readable stream_weight (cell facts 6) (omega (arith, s.0)) stream_says 0 (cell facts 8) streams v.0, rows_readable request_of request_number request_name request_readable request_weight (cell facts 7) (omega (arith, s.1)) request_says 0 (cell facts 9) requests v.1, a.0, app_fits_lem (eqb (cell facts 3) 1) (cell facts 4) c.0, m, n, ls, lr, d.0, w.0, x, y)
