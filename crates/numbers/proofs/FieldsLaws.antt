-- Laws of bytes at the front of a buffer, and of a run of such writes. `front xs d` is d with xs in the place of its first bytes.
use mathlib.Core.Path.{◌≡◌, refl, sym, ap, ◌∙◌, subst}
use Prim.Native.Nat.{ℕ, zero, suc, ◌+◌, ◌-◌, ◌*◌, ◌/◌, ◌%◌, ◌^◌, ◌≤◌, ◌<◌}
use native.Mathlib.Nat.{lt_of_lt_of_le, div-add-mod'}
use lib.Pow.{pow-add, pow_mono, shr_lt}
use native.Mathlib.Numerals.{add-one, sub-one}
use native.Mathlib.Omega.{arith}
use mathlib.Core.List.{List, [], ◌∷◌, ◌++◌, append_assoc, append-nil}
use lib.ListN.{length, take, drop, set, get_or, length-append, length-drop, drop_of_length-le, take-append-drop, get_or-eq_default}
use lib.Seq.{length-take-le, set_split, take_at, drop_at, append_snoc, drop-drop, take-suc, take_all, get_or-append-add, get_or_at}
use Rattle.numbers.specs.Fields.{Run, bytes_of, field_at, front, over}

-- ---- reading

-- past the end
pub past_end : (s : List ℕ) (i : ℕ) → length s ≤ i → 0 ≡ get_or s i 0
past_end s i h = sym (get_or-eq_default s 0 h)

-- a field of one byte
pub field_byte : (s : List ℕ) (at : ℕ) → field_at 1 s at ≡ get_or s at 0
unfolding field_at
field_byte s at = let z : at + 0 ≡ at = omega arith in rw z (omega arith)

-- one byte more
pub field_on : (s : List ℕ) (at i x b : ℕ) → x ≡ field_at i s at → b ≡ get_or s (at + i) 0 → x * 256 + b ≡ field_at (i + 1) s at
unfolding field_at
field_on s at i x b e f = rw (add-one i, e, f)

-- i bytes are a number below 2 ^ (8 * i), and one byte more fits
pub field_small : (i x b : ℕ) → x < 2 ^ (8 * i) → b < 256 → x * 256 + b < 2 ^ (8 * (i + 1))
field_small i x b h g = let e : 8 * (i + 1) ≡ 8 * i + 8 = omega arith in rw (e, pow-add 2 (8 * i) 8) (omega arith)

pub field_room : (i x : ℕ) → i < 8 → x < 2 ^ (8 * i) → x < 2 ^ 56
field_room i x h g = let e : 8 * i ≤ 56 = omega arith in lt_of_lt_of_le g (pow_mono e)

-- ---- writing

pub length_bytes_of : (n x : ℕ) → length (bytes_of n x) ≡ n
unfolding bytes_of
length_bytes_of zero x = refl
length_bytes_of (suc n) x = omega (arith, length-append (bytes_of n (x / 256)) (x % 256 ∷ []), length_bytes_of n (x / 256))

pub length_front : (xs d : List ℕ) → length xs ≤ length d → length (front xs d) ≡ length d
unfolding front
length_front xs d h = omega (arith, length-append xs (drop (length xs) d), length-drop (length xs) d)

pub front_nil : (d : List ℕ) → front [] d ≡ d
unfolding front
front_nil d = refl

-- a store just past xs, and then xs at the front
pub front_snoc : (xs d : List ℕ) (j b : ℕ) → length xs ≡ j → j < length d → front xs (set d j b) ≡ front (xs ++ b ∷ []) d
unfolding front
front_snoc xs d j b e h =
    let after : drop j (set d j b) ≡ b ∷ drop (suc j) d = ap (drop j) (set_split d j b h) ∙ drop_at (take j d) (b ∷ drop (suc j) d) j (length-take-le j d (omega arith)) in
    let more : length (xs ++ b ∷ []) ≡ suc j = omega (arith, length-append xs (b ∷ [])) in
    ap (λ (n : ℕ). xs ++ drop n (set d j b)) e
    ∙ ap (λ (l : List ℕ). xs ++ l) after
    ∙ sym (append_snoc xs b (drop (suc j) d))
    ∙ ap (λ (n : ℕ). (xs ++ b ∷ []) ++ drop n d) (sym more)

-- a part from n on was lent, and ys written at its front, after xs at the front of the whole
pub front_then : (xs ys d e p : List ℕ) (n k : ℕ) → e ≡ front xs d → p ≡ front ys (drop n e) → n ≡ length xs → n ≤ length d → k ≡ length e - n
    → take n e ++ (p ++ drop k (drop n e)) ≡ front (xs ++ ys) d
unfolding front
front_then xs ys d e p n k he hp hn hd hk =
    let te : take n e ≡ xs = ap (take n) he ∙ take_at xs (drop (length xs) d) n (sym hn) in
    let de : drop n e ≡ drop n d = ap (drop n) he ∙ drop_at xs (drop (length xs) d) n (sym hn) ∙ ap (λ (m : ℕ). drop m d) (sym hn) in
    let no : drop k (drop n e) ≡ [] = drop_of_length-le (drop n e) {i = k} (omega (arith, length-drop n e)) in
    let pe : p ≡ ys ++ drop (length ys) (drop n d) = hp ∙ ap (λ (l : List ℕ). ys ++ drop (length ys) l) de in
    let all : length (xs ++ ys) ≡ n + length ys = length-append xs ys ∙ ap (λ (m : ℕ). m + length ys) (sym hn) in
    ap (λ (l : List ℕ). l ++ (p ++ drop k (drop n e))) te
    ∙ ap (λ (l : List ℕ). xs ++ (p ++ l)) no
    ∙ ap (λ (l : List ℕ). xs ++ l) (append-nil p ∙ pe ∙ ap (λ (l : List ℕ). ys ++ l) (drop-drop (length ys) n d))
    ∙ sym (append_assoc xs ys (drop (n + length ys) d))
    ∙ ap (λ (m : ℕ). (xs ++ ys) ++ drop m d) (sym all)

-- one byte of a number, the lowest first
pub number_on : (d : List ℕ) (i v : ℕ) (r : List ℕ) → front (bytes_of i v) d ≡ r → 0 < i → i ≤ length d → front (bytes_of (i - 1) (v / 256)) (set d (i - 1) (v % 256)) ≡ r
unfolding bytes_of
number_on d zero v r e h g = absurd (omega arith)
number_on d (suc j) v r e h g = rw sub-one (front_snoc (bytes_of j (v / 256)) d j (v % 256) (length_bytes_of j (v / 256)) (omega arith) ∙ e)

pub number_done : (d : List ℕ) (i v : ℕ) (r : List ℕ) → front (bytes_of i v) d ≡ r → i ≡ 0 → d ≡ r
unfolding bytes_of front
number_done d i v r e z = rw z at e

-- one byte of a list, the last first
-- a store just behind xs at the front
set_front : (xs d : List ℕ) (b : ℕ) → length xs < length d → set (front xs d) (length xs) b ≡ front (xs ++ b ∷ []) d
unfolding front
set_front [] [] b h = absurd (omega (arith, h))
set_front [] (y ∷ t) b h = refl
set_front (x ∷ xs) [] b h = absurd (omega (arith, h))
set_front (x ∷ xs) (y ∷ t) b h = ap (λ (l : List ℕ). x ∷ l) (set_front xs t b (omega (arith, h)))

pub bytes_next : (d s e : List ℕ) (i : ℕ) → e ≡ front (take i s) d → i < length s → length s ≤ length d → set e i (get_or s i 0) ≡ front (take (i + 1) s) d
bytes_next d s e i q h g =
    let long : length (take i s) ≡ i = length-take-le i s (omega arith) in
    ap (λ (l : List ℕ). set l i (get_or s i 0)) q
    ∙ ap (λ (n : ℕ). set (front (take i s) d) n (get_or s i 0)) (sym long)
    ∙ set_front (take i s) d (get_or s i 0) (omega arith)
    ∙ ap (λ (l : List ℕ). front l d) (sym (take-suc s i 0 h))
    ∙ ap (λ (n : ℕ). front (take n s) d) (sym (add-one i))

pub bytes_all : (d s e : List ℕ) (i : ℕ) → e ≡ front (take i s) d → i ≡ length s → e ≡ front s d
bytes_all d s e i q h = q ∙ ap (λ (l : List ℕ). front l d) (take_all i s (omega arith))

pub bytes_start : (d s : List ℕ) → front (take (length s) s) d ≡ front s d
bytes_start d s = ap (λ (l : List ℕ). front l d) (take_all (length s) s (omega arith))

pub bytes_on : (d s : List ℕ) (i : ℕ) (r : List ℕ) → front (take i s) d ≡ r → 0 < i → i ≤ length d → i ≤ length s → front (take (i - 1) s) (set d (i - 1) (get_or s (i - 1) 0)) ≡ r
bytes_on d s zero r e h g k = absurd (omega arith)
bytes_on d s (suc j) r e h g k =
    rw sub-one (front_snoc (take j s) d j (get_or s j 0) (length-take-le j s (omega arith)) (omega arith) ∙ ap (λ (l : List ℕ). front l d) (sym (take-suc s j 0 (omega arith))) ∙ e)

pub bytes_done : (d s : List ℕ) (i : ℕ) (r : List ℕ) → front (take i s) d ≡ r → i ≡ 0 → d ≡ r
unfolding front
bytes_done d s i r e z = rw z at e

-- what a part that was lent from n on leaves of the whole
pub lent_part : (e p xs : List ℕ) (n : ℕ) → p ≡ front xs (take (length e - n) (drop n e)) → n ≤ length e
    → take n e ++ (p ++ drop (length e - n) (drop n e)) ≡ over n xs e
unfolding front over
lent_part e p xs n h g =
    let whole : take (length e - n) (drop n e) ≡ drop n e = take_all (length e - n) (drop n e) (omega (arith, length-drop n e)) in
    let no : drop (length e - n) (drop n e) ≡ [] = drop_of_length-le (drop n e) {i = length e - n} (omega (arith, length-drop n e)) in
    ap (λ (l : List ℕ). take n e ++ (p ++ l)) no
    ∙ ap (λ (l : List ℕ). take n e ++ l)
    (append-nil p ∙ h ∙ ap (λ (l : List ℕ). xs ++ drop (length xs) l) whole ∙ ap (λ (l : List ℕ). xs ++ l) (drop-drop (length xs) n e))

pub length_over : (at : ℕ) (xs d : List ℕ) → at + length xs ≤ length d → length (over at xs d) ≡ length d
unfolding over
length_over at xs d h =
    omega (arith, length-append (take at d) (xs ++ drop (at + length xs) d), length-append xs (drop (at + length xs) d), length-drop (at + length xs) d, length-take-le at d (omega arith))

-- a write right after another is one write
pub over_then : (at at' : ℕ) (xs ys d e f : List ℕ) → e ≡ over at xs d → f ≡ over at' ys e → at' ≡ at + length xs → at' ≤ length d → f ≡ over at (xs ++ ys) d
unfolding over
over_then at at' xs ys d e f he hf ha hd =
    let a : List ℕ = take at d in
    let r : List ℕ = drop (at + length xs) d in
    let la : length a ≡ at = length-take-le at d (omega arith) in
    let lax : length (a ++ xs) ≡ at' = omega (arith, length-append a xs) in
    let e' : e ≡ (a ++ xs) ++ r = he ∙ sym (append_assoc a xs r) in
    let t : take at' e ≡ a ++ xs = ap (take at') e' ∙ take_at (a ++ xs) r at' lax in
    let q : drop at' e ≡ r = ap (drop at') e' ∙ drop_at (a ++ xs) r at' lax in
    let n : at + length xs + length ys ≡ at + length (xs ++ ys) = omega (arith, length-append xs ys) in
    let u : drop (at' + length ys) e ≡ drop (at + length (xs ++ ys)) d =
    sym (drop-drop (length ys) at' e) ∙ ap (drop (length ys)) q ∙ drop-drop (length ys) (at + length xs) d
    ∙ ap (λ (m : ℕ). drop m d) n in
    hf
    ∙ ap (λ (l : List ℕ). l ++ (ys ++ drop (at' + length ys) e)) t
    ∙ ap (λ (l : List ℕ). (a ++ xs) ++ (ys ++ l)) u
    ∙ append_assoc a xs (ys ++ drop (at + length (xs ++ ys)) d)
    ∙ ap (λ (l : List ℕ). a ++ l) (sym (append_assoc xs ys (drop (at + length (xs ++ ys)) d)))

-- a write at 0 is a write at the front
pub over_zero : (xs d : List ℕ) → over 0 xs d ≡ front xs d
unfolding over front
over_zero xs d = let z : 0 + length xs ≡ length xs = omega arith in ap (λ (n : ℕ). xs ++ drop n d) z

-- a write at the front and one right behind it
pub front_two : (k : ℕ) (xs ys d e f : List ℕ) → e ≡ over 0 xs d → f ≡ over k ys e → length xs ≡ k → k ≤ length d → f ≡ front (xs ++ ys) d
front_two k xs ys d e f he hf l h = over_then 0 k xs ys d e f he hf (omega arith) h ∙ over_zero (xs ++ ys) d

-- ---- a run of writes, one behind the other

-- nothing yet
pub run_start : (d : List ℕ) (at : ℕ) → Run d at [] at d
unfolding over
run_start d at =
    let z : at ≡ at + 0 = omega arith in
    record { whole = sym (take-append-drop at d) ∙ ap (λ (n : ℕ). take at d ++ drop n d) z; count = z }

-- one more write, where the last one ended
pub run_then : (d : List ℕ) (at : ℕ) (xs : List ℕ) (next : ℕ) (e ys f : List ℕ) (m k : ℕ) → Run d at xs next e → f ≡ over m ys e → length ys ≡ k → m ≡ next → m ≤ length d
    → Run d at (xs ++ ys) (m + k) f
run_then d at xs next e ys f m k r h l q g =
    record { whole = over_then at m xs ys d e f r.whole h (omega (arith, r.count)) g; count = omega (arith, r.count, length-append xs ys) }

-- what was written in all, as it is defined
pub run_as : (d : List ℕ) (at : ℕ) (xs : List ℕ) (next : ℕ) (e ys : List ℕ) → Run d at xs next e → xs ≡ ys → e ≡ over at ys d
run_as d at xs next e ys r q = r.whole ∙ ap (λ (l : List ℕ). over at l d) q

pub run_front : (d xs : List ℕ) (next : ℕ) (e ys : List ℕ) → Run d 0 xs next e → xs ≡ ys → e ≡ front ys d
run_front d xs next e ys r q = run_as d 0 xs next e ys r q ∙ over_zero ys d

-- ---- what was written reads back the same

pub field_written : (n x : ℕ) (p r : List ℕ) → x < 2 ^ (8 * n) → field_at n (p ++ (bytes_of n x ++ r)) (length p) ≡ x
unfolding field_at bytes_of
field_written zero x p r h = omega arith
field_written (suc n) x p r h =
    let e : 8 * suc n ≡ 8 * n + 8 = omega arith in
    let k : x / 256 < 2 ^ (8 * n) = shr_lt (8 * n) 8 (subst (λ (y : ℕ). x < 2 ^ y) e h) in
    let l : bytes_of n (x / 256) ++ x % 256 ∷ [] ++ r ≡ bytes_of n (x / 256) ++ x % 256 ∷ r = append_snoc (bytes_of n (x / 256)) (x % 256) r in
    let a : field_at n (p ++ (bytes_of n (x / 256) ++ x % 256 ∷ r)) (length p) ≡ x / 256 = field_written n (x / 256) p (x % 256 ∷ r) k in
    let b : get_or (p ++ (bytes_of n (x / 256) ++ x % 256 ∷ r)) (length p + n) 0 ≡ x % 256 =
    get_or-append-add p (bytes_of n (x / 256) ++ x % 256 ∷ r) n 0 ∙ get_or_at (bytes_of n (x / 256)) (x % 256) r 0 n (length_bytes_of n (x / 256)) in
    rw (l, a, b) (div-add-mod' x 256)
