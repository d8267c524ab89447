-- Bodies with status objects, from the pieces that the code writes, and their lengths.
use mathlib.Core.Path.{◌≡◌, refl, sym, ap, ◌∙◌}
use Prim.Native.Nat.{ℕ, ◌+◌}
use native.Mathlib.Omega.{arith}
use mathlib.Core.List.{List, [], ◌∷◌, ◌++◌, append_assoc, append-nil}
use lib.ListN.{length, length-append}
use Rattle.numbers.specs.Fields.{bytes_of}
use Rattle.numbers.proofs.FieldsLaws.{length_bytes_of}
use Rattle.text.specs.Words.{text}
use Rattle.amf0.specs.Grammar.{Properties, counted, none, null, number, object, string}
use Rattle.amf0.specs.Writing.{encode, encode_in, encode_of, room}
use Rattle.amf0.proofs.WriteTheorems.{length_encode_of}
use Rattle.record.specs.Bodies.{open_status, string_pair}
use Rattle.record.specs.Records.{command, header, number_row, status_object, status_row}
use Rattle.record.proofs.RecordLaws.{record_is}

pub regroup : (a b c d e : List ℕ) → (((a ++ b) ++ c) ++ d) ++ e ≡ a ++ (b ++ (c ++ (d ++ e)))
regroup a b c d e = simp append_assoc

regroup3 : (a b c d : List ℕ) → ((a ++ b) ++ c) ++ d ≡ a ++ (b ++ (c ++ d))
regroup3 a b c d = simp append_assoc

pub length_name : (t : List ℕ) → length (counted 2 t) ≡ 2 + length t
length_name t = omega (arith, length-append (bytes_of 2 (length t)) t, length_bytes_of 2 (length t))

-- ---- a property with a string of two parts
module _ (name part more : List ℕ) (n : ℕ) (e : n ≡ length part + length more) where
  pub pair_pieces : (((counted 2 name ++ bytes_of 1 0x02) ++ bytes_of 2 n) ++ part) ++ more ≡ string_pair name (part ++ more)
  unfolding string_pair encode bytes_of
  pair_pieces =
      append_assoc ((counted 2 name ++ (0x02 ∷ [])) ++ bytes_of 2 n) part more
      ∙ append_assoc (counted 2 name ++ (0x02 ∷ [])) (bytes_of 2 n) (part ++ more)
      ∙ append_assoc (counted 2 name) (0x02 ∷ []) (bytes_of 2 n ++ (part ++ more))
      ∙ ap (λ (k : ℕ). counted 2 name ++ 0x02 ∷ (bytes_of 2 k ++ (part ++ more))) (e ∙ sym (length-append part more))

pub length_pair : (name t : List ℕ) → length (string_pair name t) ≡ 5 + length name + length t
unfolding string_pair encode
length_pair name t = omega (arith, length-append (counted 2 name) (encode (string t)), length_name name, length_name t)

pub open_pieces : (level code description : List ℕ)
    → (((0x03 ∷ []) ++ string_pair (text "level") (level ++ [])) ++ string_pair (text "code") (code ++ [])) ++ string_pair (text "description") description ≡ open_status level code description
unfolding open_status
open_pieces level code description =
    rw (append-nil level, append-nil code)
    (ap (λ (l : List ℕ). 0x03 ∷ l) (append_assoc (string_pair (text "level") level) (string_pair (text "code") code) (string_pair (text "description") description)))

pub length_open : (level code description : List ℕ) → length (open_status level code description) ≡ 36 + length level + length code + length description
unfolding open_status
length_open level code description =
    omega (arith, length-append (string_pair (text "level") level) (string_pair (text "code") code ++ string_pair (text "description") description), length-append (string_pair (text "code") code) (string_pair (text "description") description), length_pair (text "level") level, length_pair (text "code") code, length_pair (text "description") description)

-- an object that is closed by more properties
pub open_is : (level code description : List ℕ) (more : Properties) → open_status level code description ++ encode_in more ≡ encode (object (status_object level code description more))
unfolding open_status string_pair encode
open_is level code description more = simp append_assoc

-- ---- rows
module _ (name : List ℕ) (transaction : ℕ) where
  pub status_pieces : (level code description : List ℕ)
      → (((encode (string name) ++ encode (number transaction)) ++ encode null) ++ open_status level code description) ++ encode_in none ≡ encode_of (status_row name transaction level code description)
  unfolding status_row encode_of
  status_pieces level code description = simp (append-nil, append_assoc, open_is)

  pub number_pieces : (n : ℕ) → ((encode (string name) ++ encode (number transaction)) ++ encode null) ++ encode (number n) ≡ encode_of (number_row name transaction n)
  unfolding number_row encode_of
  number_pieces n = simp (append-nil, append_assoc)

  pub length_status : (level code description : List ℕ) → length (encode_of (status_row name transaction level code description)) ≡ 52 + length name + length level + length code + length description
  unfolding status_row room
  length_status level code description = length_encode_of (status_row name transaction level code description) ∙ (omega arith)

  pub length_number : (n : ℕ) → length (encode_of (number_row name transaction n)) ≡ 22 + length name
  unfolding number_row room
  length_number n = length_encode_of (number_row name transaction n) ∙ (omega arith)

-- a command with a number, with its header
pub number_record : (time stream flags : ℕ) (name : List ℕ) (transaction n : ℕ)
    → ((((header 20 (22 + length name) time stream flags ++ encode (string name)) ++ encode (number transaction)) ++ encode null) ++ encode (number n)) ≡ command time stream flags (number_row name transaction n)
unfolding command
number_record time stream flags name transaction n =
    let h : List ℕ = header 20 (22 + length name) time stream flags in
    let a : List ℕ = encode (string name) in
    let b : List ℕ = encode (number transaction) in
    let c : List ℕ = encode null in
    let d : List ℕ = encode (number n) in
    regroup h a b c d ∙ ap (λ (l : List ℕ). h ++ l) (sym (regroup3 a b c d) ∙ number_pieces name transaction n)
    ∙ record_is 20 (22 + length name) time stream flags (encode_of (number_row name transaction n)) (encode_of (number_row name transaction n)) refl (length_number name transaction n)

-- ---- the same for a text of two parts
pub length_pair_two : (name part more : List ℕ) → length (string_pair name (part ++ more)) ≡ 5 + length name + length part + length more
length_pair_two name part more = omega (arith, length_pair name (part ++ more), length-append part more)

pub length_open_two : (level code part more : List ℕ) → length (open_status level code (part ++ more)) ≡ 36 + length level + length code + length part + length more
length_open_two level code part more = omega (arith, length_open level code (part ++ more), length-append part more)

pub length_status_two : (name : List ℕ) (transaction : ℕ) (level code part more : List ℕ)
    → length (encode_of (status_row name transaction level code (part ++ more))) ≡ 52 + length name + length level + length code + length part + length more
length_status_two name transaction level code part more = omega (arith, length_status name transaction level code (part ++ more), length-append part more)
