-- The answer to an accepted connect, from the pieces that the code writes, and its length.
use mathlib.Core.Path.{◌≡◌, sym, ap, ◌∙◌}
use Prim.Native.Nat.{ℕ, ◌+◌}
use native.Mathlib.Omega.{arith}
use mathlib.Core.List.{List, [], ◌∷◌, ◌++◌, append_assoc, append-nil}
use lib.ListN.{length, length-append}
use Rattle.text.specs.Words.{text}
use Rattle.amf0.specs.Grammar.{counted, none, number, object, property, string}
use Rattle.amf0.specs.Writing.{encode, encode_in, encode_of, room}
use Rattle.amf0.proofs.WriteTheorems.{length_encode, length_encode_of}
use Rattle.record.specs.Bodies.{connected_status, open_status, string_pair, version_object}
use Rattle.record.specs.Records.{connected_row, status_object}
use Rattle.record.specs.Texts.{connect_success, connected_on, level_status}
use Rattle.record.proofs.StatusLaws.{open_is, regroup}

pub version_pieces : (version : List ℕ)
    → ((((0x03 ∷ []) ++ string_pair (text "fmsVer") (version ++ [])) ++ counted 2 (text "capabilities")) ++ encode (number 0x403F000000000000)) ++ encode_in none ≡ version_object version
unfolding version_object string_pair encode
version_pieces version =
    let c : List ℕ = counted 2 (text "capabilities") in
    let n : List ℕ = encode (number 0x403F000000000000) in
    ap (λ (v : List ℕ). ((((0x03 ∷ []) ++ string_pair (text "fmsVer") v) ++ c) ++ n) ++ encode_in none) (append-nil version)
    ∙ regroup (0x03 ∷ []) (string_pair (text "fmsVer") version) c n (encode_in none)
    ∙ ap (λ (l : List ℕ). 0x03 ∷ l) (append_assoc (counted 2 (text "fmsVer")) (encode (string version)) (c ++ (n ++ encode_in none)))

pub length_version : (version : List ℕ) → length (version_object version) ≡ 38 + length version
unfolding version_object room
length_version version =
    length_encode (object (property (text "fmsVer") (string version) (property (text "capabilities") (number 0x403F000000000000) none))) ∙ (omega arith)

module _ (app : List ℕ) (encoding : ℕ) where
  pub connected_pieces : ((open_status level_status connect_success (connected_on ++ app) ++ counted 2 (text "objectEncoding")) ++ encode (number encoding)) ++ encode_in none ≡ connected_status app encoding
  unfolding connected_status encode_in
  connected_pieces =
      append_assoc (open_status level_status connect_success (connected_on ++ app) ++ counted 2 (text "objectEncoding")) (encode (number encoding)) (encode_in none)
      ∙ append_assoc (open_status level_status connect_success (connected_on ++ app)) (counted 2 (text "objectEncoding")) (encode (number encoding) ++ encode_in none)
      ∙ open_is level_status connect_success (connected_on ++ app) (property (text "objectEncoding") (number encoding) none)

  pub length_connected_status : length (connected_status app encoding) ≡ 130 + length app
  unfolding connected_status room
  length_connected_status =
      length_encode (object (status_object level_status connect_success (connected_on ++ app) (property (text "objectEncoding") (number encoding) none))) ∙ (omega (arith, length-append connected_on app))

  module _ (transaction : ℕ) (version : List ℕ) where
    pub row_pieces : ((encode (string (text "_result")) ++ encode (number transaction)) ++ version_object version) ++ connected_status app encoding ≡ encode_of (connected_row transaction version app encoding)
    unfolding connected_row encode_of connected_status version_object
    row_pieces =
        let a : List ℕ = encode (string (text "_result")) in
        let b : List ℕ = encode (number transaction) in
        let c : List ℕ = version_object version in
        let d : List ℕ = connected_status app encoding in
        ap (λ (l : List ℕ). ((a ++ b) ++ c) ++ l) (sym (append-nil d)) ∙ sym (append_assoc ((a ++ b) ++ c) d []) ∙ regroup a b c d []

    pub length_connected : length (encode_of (connected_row transaction version app encoding)) ≡ 187 + length version + length app
    unfolding connected_row room
    length_connected = length_encode_of (connected_row transaction version app encoding) ∙ (omega (arith, length-append connected_on app))
