-- Text put behind text, and the loops over a word and over bytes.
use mathlib.Core.Path.{◌≡◌, refl, sym, ap, ap₂, ◌∙◌}
use Prim.Native.Nat.{ℕ, ◌+◌, ◌/◌, ◌%◌, ◌≤◌, ◌<◌}
use native.Mathlib.Numerals.{add-one}
use native.Mathlib.Omega.{arith}
use mathlib.Core.List.{List, [], ◌∷◌, ◌++◌}
use lib.ListN.{length, drop, get_or, drop_of_length-le}
use lib.Seq.{drop-cons}
use Rattle.std.specs.Int.{to_be_bytes, w32, w64}
use Rattle.numbers.specs.Fields.{bytes_of}
use Rattle.spelling.specs.Text.{glyph, hex_of, put_all, put_one}

abbrev Put : Type 0
Put = ℕ × List ℕ

-- ---- one byte
pub put_byte : (x : ℕ) (p q : Put) → q ≡ put_one x p → q ≡ put_all (x ∷ []) p
unfolding put_all
put_byte x p q e = e

-- ---- one text behind another
pub put_none : (p : Put) → p ≡ put_all [] p
unfolding put_all
put_none p = refl

-- one function's text behind another's, for a function's attribute: `using(spelling::proofs::TextLaws::put_more)`
pub put_more : (s t : List ℕ) (p : Put) → put_all (s ++ t) p ≡ put_all t (put_all s p)
unfolding put_all
put_more [] t p = refl
put_more (x ∷ s) t p = put_more s t (put_one x p)

pub put_then : (s t : List ℕ) (p q r : Put) → q ≡ put_all s p → r ≡ put_all t q → r ≡ put_all (s ++ t) p
put_then s t p q r e f = f ∙ (ap (put_all t) e ∙ sym (put_more s t p))

-- the text that is put is another way to say this one
pub put_as : (s t : List ℕ) (p q : Put) → q ≡ put_all s p → s ≡ t → q ≡ put_all t p
put_as s t p q e k = e ∙ ap (λ (u : List ℕ). put_all u p) k

-- ---- loops: what is left, put behind what stands, gives the whole
module _ (word : List ℕ) (i : ℕ) (p w : Put) where
  pub word_turn : (q : Put) → i < length word → q ≡ put_one (get_or word i 0) p → put_all (drop i word) p ≡ w → put_all (drop (i + 1) word) q ≡ w
  unfolding put_all
  word_turn q h e k = ap (put_all (drop (i + 1) word)) e ∙ (sym (rw (drop-cons word i 0 h, add-one i)) ∙ k)

  pub word_end : length word ≤ i → put_all (drop i word) p ≡ w → p ≡ w
  unfolding put_all
  word_end h k = sym (rw (drop_of_length-le word {i = i} h)) ∙ k

-- a turn of the loop over bytes
pub hex_turn : (part : List ℕ) (i : ℕ) (p w q r : Put) (g l : ℕ) → i < length part → g ≡ glyph (get_or part i 0 / 16 % 16) → l ≡ glyph (get_or part i 0 % 16) → q ≡ put_one g p → r ≡ put_one l q → put_all (hex_of (drop i part)) p ≡ w → put_all (hex_of (drop (i + 1) part)) r ≡ w
unfolding put_all hex_of
hex_turn part i p w q r g l h a b e f k =
    ap (put_all (hex_of (drop (i + 1) part))) (f ∙ ap₂ put_one b (e ∙ ap (λ (x : ℕ). put_one x p) a)) ∙ (sym (rw (drop-cons part i 0 h, add-one i)) ∙ k)

-- ---- the bytes of a number, as std gives them
pub eight_bytes : (x : ℕ) → to_be_bytes w64 x ≡ bytes_of 8 x
unfolding bytes_of
eight_bytes x =
    let a : x / 65536 ≡ x / 256 / 256 = omega arith in
    let b : x / 16777216 ≡ x / 256 / 256 / 256 = omega arith in
    let c : x / 4294967296 ≡ x / 256 / 256 / 256 / 256 = omega arith in
    let d : x / 1099511627776 ≡ x / 256 / 256 / 256 / 256 / 256 = omega arith in
    let e : x / 281474976710656 ≡ x / 256 / 256 / 256 / 256 / 256 / 256 = omega arith in
    let f : x / 72057594037927936 ≡ x / 256 / 256 / 256 / 256 / 256 / 256 / 256 = omega arith in
    rw (f, e, d, c, b, a)

pub four_bytes : (x : ℕ) → to_be_bytes w32 x ≡ bytes_of 4 x
unfolding bytes_of
four_bytes x =
    let a : x / 65536 ≡ x / 256 / 256 = omega arith in
    let b : x / 16777216 ≡ x / 256 / 256 / 256 = omega arith in
    rw (b, a)
