-- Lengths of records, and a record from the pieces that the code writes.
use mathlib.Core.Path.{◌≡◌, refl, sym, ◌∙◌}
use Prim.Native.Nat.{ℕ, ◌+◌, ◌-◌, ◌%◌, ◌<◌}
use native.Mathlib.Omega.{arith}
use mathlib.Core.List.{List, ◌++◌, append_assoc}
use lib.ListN.{length, length-append}
use Rattle.numbers.specs.Fields.{bytes_of}
use Rattle.numbers.proofs.FieldsLaws.{length_bytes_of}
use Rattle.record.specs.Clock.{time_of}
use Rattle.record.specs.Records.{header, record_of}

pub length_header : (kind len time stream flags : ℕ) → length (header kind len time stream flags) ≡ 13
unfolding header
length_header kind len time stream flags = simp (length-append, length_bytes_of)

pub header_pieces : (kind len time stream flags : ℕ)
    → (((bytes_of 1 kind ++ bytes_of 3 len) ++ bytes_of 4 time) ++ bytes_of 4 stream) ++ bytes_of 1 flags ≡ header kind len time stream flags
unfolding header
header_pieces kind len time stream flags = simp append_assoc

pub record_is : (kind n time stream flags : ℕ) (body b : List ℕ) → b ≡ body → length body ≡ n → header kind n time stream flags ++ b ≡ record_of kind time stream flags body
unfolding record_of
record_is kind n time stream flags body b q e = rw (q, sym e)

pub length_record : (kind time stream flags : ℕ) (body : List ℕ) → length (record_of kind time stream flags body) ≡ 13 + length body
unfolding record_of
length_record kind time stream flags body = omega (arith, length-append (header kind (length body) time stream flags) body, length_header kind (length body) time stream flags)

pub two_lengths : (n m x y : ℕ) → length (bytes_of n x ++ bytes_of m y) ≡ n + m
two_lengths n m x y = omega (arith, length-append (bytes_of n x) (bytes_of m y), length_bytes_of n x, length_bytes_of m y)

-- a body of two fields
pub record_two : (kind n time stream flags i x j y : ℕ) → i + j ≡ n
    → (header kind n time stream flags ++ bytes_of i x) ++ bytes_of j y ≡ record_of kind time stream flags (bytes_of i x ++ bytes_of j y)
record_two kind n time stream flags i x j y e =
    append_assoc (header kind n time stream flags) (bytes_of i x) (bytes_of j y)
    ∙ record_is kind n time stream flags (bytes_of i x ++ bytes_of j y) (bytes_of i x ++ bytes_of j y) refl (two_lengths i j x y ∙ e)

-- ---- the clock
pub clock_back : (start clock : ℕ) → clock < start → 0 ≡ time_of start clock
unfolding time_of
clock_back start clock h = let z : clock - start ≡ 0 = omega arith in rw z

pub clock_on : (start clock : ℕ) → (clock - start) % 4294967296 ≡ time_of start clock
unfolding time_of
clock_on start clock = refl
