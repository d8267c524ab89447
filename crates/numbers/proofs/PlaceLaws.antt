-- Bytes b that stand at a place of a list s: `drop at s ≡ b ++ r`.
use mathlib.Core.Path.{◌≡◌, refl, sym, ap, ◌∙◌}
use Prim.Native.Nat.{ℕ, zero, suc, ◌+◌, ◌-◌, ◌*◌, ◌/◌, ◌%◌, ◌^◌, ◌≤◌, ◌<◌}
use native.Mathlib.Numerals.{add-one}
use native.Mathlib.Omega.{arith}
use mathlib.Core.List.{List, [], ◌∷◌, ◌++◌, append_assoc}
use lib.ListN.{length, take, drop, get_or, length-append, length-drop, take-append-drop}
use lib.Dec.{lit≤}
use lib.Seq.{drop-append_seam, drop-cons, drop-drop, get_or-drop, length-take-le, take-suc}
use Rattle.numbers.specs.Fields.{bytes_of, field_at}
use Rattle.numbers.proofs.FieldsLaws.{field_small, field_written, length_bytes_of}

module _ (s b r : List ℕ) (at : ℕ) (e : drop at s ≡ b ++ r) where
  -- what stands behind them
  pub rest_at : drop (at + length b) s ≡ r
  rest_at = sym (drop-drop (length b) at s) ∙ ap (drop (length b)) e ∙ drop-append_seam b r

  pub length_at : length s - at ≡ length b + length r
  length_at = sym (length-drop at s) ∙ ap length e ∙ length-append b r

  pub room_at : 0 < length b → at + length b ≤ length s
  room_at h = omega (arith, length_at)

-- one byte
module _ (s r : List ℕ) (at x : ℕ) (e : drop at s ≡ x ∷ r) where
  pub byte_is : get_or s at 0 ≡ x
  byte_is = let z : at ≡ at + 0 = omega arith in ap (λ (i : ℕ). get_or s i 0) z ∙ sym (get_or-drop at s 0 0) ∙ ap (λ (l : List ℕ). get_or l 0 0) e

  pub byte_in : at < length s
  byte_in = let h : 0 < length (x ∷ []) = omega arith in omega (arith, room_at s (x ∷ []) r at e h)

  pub byte_next : drop (at + 1) s ≡ r
  byte_next = rest_at s (x ∷ []) r at e

-- a field of n bytes
pub field_is : (n x : ℕ) (s r : List ℕ) (at : ℕ) → 0 < n → x < 2 ^ (8 * n) → drop at s ≡ bytes_of n x ++ r → field_at n s at ≡ x
field_is n x s r at z h e =
    let p : List ℕ = take at s in
    let k : at + n ≤ length s = omega (arith, length_at s (bytes_of n x) r at e, length_bytes_of n x) in
    let l : at ≡ length p = sym (length-take-le at s (omega arith)) in
    let q : s ≡ p ++ (bytes_of n x ++ r) = sym (take-append-drop at s) ∙ ap (λ (y : List ℕ). p ++ y) e in
    ap (λ (y : List ℕ). field_at n y at) q ∙ ap (field_at n (p ++ (bytes_of n x ++ r))) l ∙ field_written n x p r h

-- ---- the other way: what stands at a place, cut out

pub cut_at : (s : List ℕ) (at n : ℕ) → drop at s ≡ take n (drop at s) ++ drop (at + n) s
cut_at s at n = sym (take-append-drop n (drop at s)) ∙ ap (λ (l : List ℕ). take n (drop at s) ++ l) (drop-drop n at s)

pub cut_length : (s : List ℕ) (at n : ℕ) → at + n ≤ length s → length (take n (drop at s)) ≡ n
cut_length s at n h = length-take-le n (drop at s) (omega (arith, length-drop at s))

pub cut_byte : (s : List ℕ) (at x : ℕ) → at < length s → get_or s at 0 ≡ x → drop at s ≡ x ∷ drop (at + 1) s
cut_byte s at x h e = rw (drop-cons s at 0 h, e, add-one at)

-- of bytes below 256, as a slice holds them
abbrev pub Bytes : List ℕ → Type 0
Bytes s = (i : ℕ) → get_or s i 0 < 256

module _ (s : List ℕ) (small : Bytes s) where
  pub field_lt : (n at : ℕ) → field_at n s at < 2 ^ (8 * n)
  unfolding field_at
  field_lt zero at = lit≤ tt
  field_lt (suc n) at = let e : suc n ≡ n + 1 = omega arith in rw e (field_small n (field_at n s at) (get_or s (at + n) 0) (field_lt n at) (small (at + n)))

  bytes_read : (n at : ℕ) → at + n ≤ length s → bytes_of n (field_at n s at) ≡ take n (drop at s)
  unfolding field_at bytes_of
  bytes_read zero at h = refl
  bytes_read (suc n) at h =
      let x = field_at n s at in
      let c = get_or s (at + n) 0 in
      let b = small (at + n) in
      let q : (x * 256 + c) / 256 ≡ x = omega arith in
      let m : (x * 256 + c) % 256 ≡ c = omega arith in
      let i : n < length (drop at s) = omega (arith, length-drop at s) in
      rw (q, m, bytes_read n at (omega arith), ← get_or-drop at s n 0) (sym (take-suc (drop at s) n 0 i))

  pub cut_field : (n at : ℕ) → at + n ≤ length s → drop at s ≡ bytes_of n (field_at n s at) ++ drop (at + n) s
  cut_field n at h = cut_at s at n ∙ ap (λ (l : List ℕ). l ++ drop (at + n) s) (sym (bytes_read n at h))

  -- a text behind its length of w bytes
  pub cut_text : (w at : ℕ) → at + w + field_at w s at ≤ length s
      → (t : List ℕ) × ((length t ≡ field_at w s at) × (drop at s ≡ (bytes_of w (length t) ++ t) ++ drop (at + w + field_at w s at) s))
  cut_text w at h =
      let n = field_at w s at in
      let t = take n (drop (at + w) s) in
      let l : length t ≡ n = cut_length s (at + w) n h in (
        t,
        (
          l,
          cut_field w at (omega arith) ∙ ap (λ (y : List ℕ). bytes_of w n ++ y) (cut_at s (at + w) n)
              ∙ sym (append_assoc (bytes_of w n) t (drop (at + w + n) s)) ∙ ap (λ (k : ℕ). (bytes_of w k ++ t) ++ drop (at + w + n) s) (sym l),
        ),
      )
