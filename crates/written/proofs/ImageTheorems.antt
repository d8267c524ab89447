-- A whole session as arrays: a call leaves the image of the next session where the image of a session stood, and it is read again.
use mathlib.Core.Path.{◌≡◌, sym, ap, ◌∙◌}
use Prim.Native.Nat.{ℕ, zero, suc, ◌+◌, ◌-◌, ◌≤◌, max}
use native.Mathlib.Omega.{arith}
use mathlib.Core.List.{List, ◌∷◌, ◌++◌, map}
use lib.ListN.{drop, length, length-append, length-map, replicate, take, take-append-drop}
use lib.Seq.{drop_at, drop-drop, length-take-le, take_all, take_at}
use Rattle.tables.specs.Entries.{no_request, no_stream}
use Rattle.session.specs.State.{session_sound}
use Rattle.session.specs.declared.session.Session.{Session}
use Rattle.image.specs.Image.{Arrays, keys_of, session_at, sound_at, titles_of}
use Rattle.written.specs.Kept.{facts_of, image_of, kept_at, key_bytes, onto, request_row, stream_row, title_bytes}
use Rattle.written.proofs.ColumnLaws.{map_append, map_drop}
use Rattle.written.proofs.RoundTheorems.{Tidy, Typed, kept_sound, read_again}
use Rattle.written.proofs.TidyTheorems.{Table, behind, long, requests_table, streams_table}

-- ---- a column: past both counts everything is blank, before and after
drop_replicate : {A : Type 0} (x : A) (j m : ℕ) → drop j (replicate m x) ≡ replicate (m - j) x
drop_replicate x zero m = let z : m ≡ m - 0 = omega arith in ap (λ (k : ℕ). replicate k x) z
drop_replicate x (suc j) zero = let z : 0 ≡ 0 - suc j = omega arith in ap (λ (k : ℕ). replicate k x) z
drop_replicate x (suc j) (suc m) = let z : m - j ≡ suc m - suc j = omega arith in drop_replicate x j m ∙ ap (λ (k : ℕ). replicate k x) z

module _ {A : Type 0} (blank : A) (n : ℕ) (l : List A) (h : Table blank n l) where
  past : (k : ℕ) → n ≤ k → drop k l ≡ replicate (16 - k) blank
  past k g =
      let z : k ≡ n + (k - n) = omega (arith, g) in
      let w : 16 - n - (k - n) ≡ 16 - k = omega (arith, g) in
      ap (λ (j : ℕ). drop j l) z
      ∙ sym (drop-drop (k - n) n l)
      ∙ ap (drop (k - n)) (behind blank n l h)
      ∙ drop_replicate blank (k - n) (16 - n)
      ∙ ap (λ (j : ℕ). replicate j blank) w

module _ {A B : Type 0} (g : A → B) (blank : A) (n m : ℕ) (xs ys : List A) (hx : Table blank n xs) (hy : Table blank m ys) where
  column_kept : onto (map g (take (max n m) ys)) (map g xs) ≡ map g ys
  column_kept =
      let k : ℕ = max n m in
      let front : List B = map g (take k ys) in
      let many : length front ≡ k = length-map (take k ys) g ∙ length-take-le k ys (omega (arith, long blank m ys hy, hx.places, hy.places)) in
      ap (λ (j : ℕ). front ++ drop j (map g xs)) many
      ∙ ap (λ (t : List B). front ++ t) (sym (map_drop g k xs) ∙ ap (map g) (past blank n xs hx k (omega arith) ∙ sym (past blank m ys hy k (omega arith))))
      ∙ sym (map_append g (take k ys) (drop k ys))
      ∙ ap (map g) (take-append-drop k ys)

-- ---- the names of an image
module _ (s : Session) (h : Tidy s) where
  abbrev keys : List (List ℕ)
  keys = map key_bytes s.streams

  abbrev titles : List (List ℕ)
  titles = map title_bytes s.requests

  keys_long : length keys ≡ 16
  keys_long = length-map s.streams key_bytes ∙ long no_stream _ s.streams (streams_table s h)

  titles_long : length titles ≡ 16
  titles_long = length-map s.requests title_bytes ∙ long no_request _ s.requests (requests_table s h)

  image_keys : keys_of (image_of s).1.1.1 ≡ map key_bytes s.streams
  unfolding image_of
  image_keys = take_at keys titles 16 keys_long

  image_titles : titles_of (image_of s).1.1.1 ≡ map title_bytes s.requests
  unfolding image_of
  image_titles = ap (take 16) (drop_at keys titles 16 keys_long) ∙ take_all 16 titles (omega (arith, titles_long))

  image_names : length (image_of s).1.1.1 ≡ 34
  unfolding image_of
  image_names = omega (arith, length-append keys titles, keys_long, titles_long)

-- ---- all of it
pub image_kept : (s t : Session) → Tidy s → Tidy t → kept_at (image_of s) t ≡ image_of t
unfolding kept_at image_of
image_kept s t hs ht =
    let n : ℕ = s.stream_count in
    let m : ℕ = s.request_count in
    let j : ℕ = t.stream_count in
    let k : ℕ = t.request_count in
    λ i. (
      facts_of t,
      (
        column_kept stream_row no_stream n j s.streams t.streams (streams_table s hs) (streams_table t ht) i,
        (
          column_kept request_row no_request m k s.requests t.requests (requests_table s hs) (requests_table t ht) i,
          t.version.bytes
              ∷ t.app.bytes
              ∷ ((ap (onto (map key_bytes (take (max n j) t.streams))) (image_keys s hs) ∙ column_kept key_bytes no_stream n j s.streams t.streams (streams_table s hs) (streams_table t ht)) i
              ++ (ap (onto (map title_bytes (take (max m k) t.requests))) (image_titles s hs) ∙ column_kept title_bytes no_request m k s.requests t.requests (requests_table s hs) (requests_table t ht)) i),
        ),
      ),
    )

pub image_again : (s : Session) → Tidy s → Typed s → session_at (image_of s).0 (image_of s).1.0 (image_of s).1.1.0 (image_of s).1.1.1 ≡ s
image_again s h k = ap (λ (a : Arrays). session_at a.0 a.1.0 a.1.1.0 a.1.1.1) (sym (image_kept s s h h)) ∙ read_again (image_of s) (image_names s h) s h k

pub image_sound : (s : Session) → Tidy s → Typed s → sound_at (image_of s).0 (image_of s).1.0 (image_of s).1.1.0 (image_of s).1.1.1 ≡ session_sound s
image_sound s h k = ap (λ (a : Arrays). sound_at a.0 a.1.0 a.1.1.0 a.1.1.1) (sym (image_kept s s h h)) ∙ kept_sound (image_of s) (image_names s h) s h k
