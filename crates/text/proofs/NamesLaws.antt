-- Names: a text that fits is read back from its name.
use mathlib.Core.Path.{◌≡◌, refl, sym, ap, ◌∙◌}
use Prim.Native.Nat.{ℕ, ◌-◌, ◌≤◌, ◌<◌}
use native.Mathlib.Omega.{arith}
use Rattle.std.specs.Prelude.{Option, Some, None}
use mathlib.Core.List.{List}
use lib.ListN.{length, replicate, take, drop, drop_of_length-le, length-drop}
use lib.Seq.{take_all, take_at, take-nil}
use borrow.Author.Tests.{lt-ltb, le-ltb}
use Rattle.numbers.specs.Fields.{front}
use Rattle.numbers.proofs.FieldsLaws.{length_front}
use Rattle.text.specs.declared.names.Name.{Name}
use Rattle.text.specs.Names.{name_of, name_read, text_of}

-- ---- the two answers of `read_name`

pub read_none : (t : List ℕ) → 128 < length t → ◌≡◌ {A = Option Name} None (name_read t)
unfolding name_read
read_none t h = simp (lt-ltb 128 (length t) h)

pub read_fits : (t b : List ℕ) → length t ≤ 128 → b ≡ front t (replicate 128 0) → ◌≡◌ {A = Option Name} (Some (record { bytes = b; len = length t })) (name_read t)
unfolding name_read name_of
read_fits t b h e = simp (e, le-ltb 128 (length t) h)

-- ---- what a reader may rely on

pub text_name : (t : List ℕ) → text_of (name_of t) ≡ t
unfolding name_of front
text_name t = take_at t _ (length t) refl

pub name_places : (t : List ℕ) → length t ≤ 128 → length (name_of t).bytes ≡ 128
unfolding name_of
name_places t h = let z : List ℕ = replicate 128 0 in let n : length z ≡ 128 = refl in length_front t z (omega arith) ∙ n

-- ---- a part
pub part_past : (b : List ℕ) (at n : ℕ) → length b < at → take 0 b ≡ take n (drop at b)
part_past b at n h = sym (ap (take n) (drop_of_length-le b {i = at} (omega arith)) ∙ take-nil n)

pub part_in : (b r : List ℕ) (at n : ℕ) → r ≡ take n (take (length b - at) (drop at b)) → r ≡ take n (drop at b)
part_in b r at n e = e ∙ ap (take n) (take_all (length b - at) (drop at b) (omega (arith, length-drop at b)))
