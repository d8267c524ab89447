-- The bytes of one property, and of several one after the other.
use mathlib.Core.Path.{◌≡◌, refl, sym, ap, ◌∙◌, subst}
use mathlib.Core.Logic.{inl, inr}
use Prim.Native.Nat.{ℕ, zero, suc, ◌+◌, ◌≤◌, ◌<◌}
use native.Mathlib.Nat.{eq-or-lt_of_le}
use native.Mathlib.Omega.{arith}
use mathlib.Core.Bool.{Bool}
use mathlib.Core.List.{List, [], ◌∷◌, ◌++◌, map, append_assoc, append-nil}
use lib.Ieee.{Float, binary64, to_bits}
use lib.ListN.{length, take, get_or, length-append}
use Rattle.std.proofs.lemmas.Grind.{flat_map-append}
use Rattle.std.proofs.lemmas.List.{map_more}
use Rattle.std.proofs.lemmas.List.Folds.{flat_map-map, length-flat_map-take}
use Rattle.std.specs.Prelude.{Option, Some, None, IfSome, option_map}
use Rattle.numbers.specs.Fields.{Run, over}
use Rattle.numbers.specs.Whole.{double_of}
use Rattle.numbers.proofs.FieldsLaws.{over_then, run_start, run_then}
use Rattle.text.specs.Names.{text_of}
use Rattle.text.specs.Words.{text}
use Rattle.text.specs.declared.names.Name.{Name}
use Rattle.amf0.specs.Grammar.{Value, boolean, counted, none, number, string}
use Rattle.amf0.specs.Writing.{encode, encode_in, encode_of, room}
use Rattle.amf0.proofs.WriteTheorems.{length_encode, text_room}
use Rattle.record.specs.Records.{data_record, header, plain}
use Rattle.record.proofs.RecordLaws.{length_record, record_is}
use Rattle.metadata.specs.Writing.{Listed, flag, listed, listing, metadata_record, metadata_row, named, piece, pieces, rate, set_ones, value_of, whole}
use Rattle.metadata.specs.declared.metadata.StreamMetadata.{StreamMetadata}
use Rattle.metadata.specs.declared.writing.Property.{Property}
use Rattle.metadata.specs.declared.writing.PropertyValue.{PropertyValue}

-- ---- one property
pub piece_room : (w : List ℕ) (v : Value) → length (piece (w, Some v)) ≡ 2 + length w + room v
unfolding piece
piece_room w v = omega (arith, length-append (counted 2 w) (encode v), text_room 2 w, length_encode v)

-- a field that is set, and one that is not
module _ (w : List ℕ) (o : Option PropertyValue) where
  abbrev one : List ℕ
  one = piece (w, option_map value_of o)

  pub one_room : (v : PropertyValue) → o ≡ Some v → length one ≡ 2 + length w + room (value_of v)
  one_room v q = ap (λ (x : Option PropertyValue). length (piece (w, option_map value_of x))) q ∙ piece_room w (value_of v)

  pub one_unset : o ≡ None → one ≡ []
  unfolding piece
  one_unset q = ap (λ (x : Option PropertyValue). piece (w, option_map value_of x)) q

  pub set_written : (v : PropertyValue) (at : ℕ) (d e f : List ℕ) (p r k : ℕ) → o ≡ Some v → e ≡ over at (counted 2 w) d → f ≡ over p (encode (value_of v)) e → k ≡ room (value_of v) → p ≡ at + 2 + length w → r ≡ p + k → at + length one ≤ length d → Run d at one r f
  unfolding piece
  set_written v at d e f p r k q h g l i j n =
      let l1 = one_room v q in
      record {
        count = omega arith;
        whole = over_then at p (counted 2 w) (encode (value_of v)) d e f h g (omega (arith, text_room 2 w)) (omega arith) ∙ ap (λ (x : Option PropertyValue). over at (piece (w, option_map value_of x)) d) (sym q);
      }

  pub unset_written : (at : ℕ) (d : List ℕ) → o ≡ None → Run d at one at d
  unset_written at d q = subst (λ (x : List ℕ). Run d at x at d) (sym (one_unset q)) (run_start d at)

-- ---- the first i of them, one after the other
module _ (ps : List Property) (i : ℕ) (p : Property) (m : i < length ps) where
  abbrev before : List ℕ
  before = pieces (map listing (take i ps))

  abbrev here : List ℕ
  here = piece (listing (get_or ps i p))

  pub pieces_on : pieces (map listing (take (i + 1) ps)) ≡ before ++ here
  pieces_on = ap pieces (map_more listing ps i p m) ∙ flat_map-append piece (map listing (take i ps)) (listing (get_or ps i p) ∷ []) ∙ ap (λ (l : List ℕ). before ++ l) (append-nil here)

  pub length_on : length (pieces (map listing (take (i + 1) ps))) ≡ length before + length here
  length_on = ap length pieces_on ∙ length-append before here

  pub room_on : length before + length here ≤ length (pieces (map listing ps))
  room_on =
      let one = λ (x : Property). piece (listing x) in
      omega (arith, ap length (flat_map-map piece listing (take i ps)), ap length (flat_map-map piece listing ps), length-flat_map-take one ps i p m)

  pub run_on : (d : List ℕ) (at q : ℕ) (e : List ℕ) (r : ℕ) (f : List ℕ) → Run d at before q e → Run e q here r f → at + length (pieces (map listing ps)) ≤ length d → Run d at (pieces (map listing (take (i + 1) ps))) r f
  run_on d at q e r f g h n =
      let s = run_then d at before q e here f q (length here) g h.whole refl refl (omega (arith, g.count, room_on)) in
      record {
        whole = s.whole ∙ ap (λ (l : List ℕ). over at l d) (sym pieces_on);
        count = omega (arith, h.count, s.count, length_on);
      }

-- ---- the same of what is listed, by its number
abbrev pub unlisted : Listed
unlisted = ([], None)

module _ (xs : List Listed) (i k : ℕ) (q : i ≡ k) where
  pub nth_room : (at n : ℕ) → at + length (piece (get_or xs i unlisted)) ≤ n → at + length (piece (get_or xs k unlisted)) ≤ n
  nth_room at n h = subst (λ (j : ℕ). at + length (piece (get_or xs j unlisted)) ≤ n) q h

  pub nth_run : (d : List ℕ) (at r : ℕ) (e : List ℕ) → Run d at (piece (get_or xs k unlisted)) r e → Run d at (piece (get_or xs i unlisted)) r e
  nth_run d at r e h = subst (λ (j : ℕ). Run d at (piece (get_or xs j unlisted)) r e) (sym q) h

-- not the k-th: a later one
pub later : (k i : ℕ) → k ≤ i → (i ≡ k → ⊥) → k + 1 ≤ i
later k i h n = elim (eq-or-lt_of_le h) [
  | inl e ↦ absurd (n (sym e))
  | inr l ↦ omega arith
]

listed_on : (xs : List Listed) (i : ℕ) → pieces (take (suc i) xs) ≡ pieces (take i xs) ++ piece (get_or xs i unlisted)
unfolding piece
listed_on [] zero = refl
listed_on [] (suc i) = refl
listed_on (x ∷ xs) zero = append-nil (piece x)
listed_on (x ∷ xs) (suc i) = ap (λ (l : List ℕ). piece x ++ l) (listed_on xs i) ∙ sym (append_assoc (piece x) (pieces (take i xs)) (piece (get_or xs i unlisted)))

listed_room : (xs : List Listed) (i : ℕ) → length (pieces (take i xs)) + length (piece (get_or xs i unlisted)) ≤ length (pieces xs)
unfolding piece
listed_room [] zero = omega arith
listed_room [] (suc i) = omega arith
listed_room (x ∷ xs) zero = omega (arith, length-append (piece x) (pieces xs))
listed_room (x ∷ xs) (suc i) = omega (arith, length-append (piece x) (pieces xs), length-append (piece x) (pieces (take i xs)), listed_room xs i)

pub run_one : (xs : List Listed) (i : ℕ) (d : List ℕ) (at p : ℕ) (e : List ℕ) (r : ℕ) (f : List ℕ) → Run d at (pieces (take i xs)) p e → Run e p (piece (get_or xs i unlisted)) r f → at + length (pieces xs) ≤ length d
    → Run d at (pieces (take (i + 1) xs)) r f
run_one xs i d at p e r f g h n =
    let k = length (piece (get_or xs i unlisted)) in
    let s = run_then d at (pieces (take i xs)) p e (piece (get_or xs i unlisted)) f p k g h.whole refl refl (omega (arith, g.count, listed_room xs i)) in
    let j : i + 1 ≡ suc i = omega arith in
    let o : pieces (take (i + 1) xs) ≡ pieces (take i xs) ++ piece (get_or xs i unlisted) = ap (λ (m : ℕ). pieces (take m xs)) j ∙ listed_on xs i in
    record {
      whole = s.whole ∙ ap (λ (l : List ℕ). over at l d) (sym o);
      count = omega (arith, h.count, s.count, ap length o);
    }

-- ---- how long the eleven are
whole_short : (w : List ℕ) (o : Option ℕ) → length (piece (w, whole o)) ≤ 11 + length w
unfolding piece room
whole_short w None = omega arith
whole_short w (Some n) = omega (arith, piece_room w (number (double_of n)))

rate_short : (w : List ℕ) (o : Option Float) → length (piece (w, rate o)) ≤ 11 + length w
unfolding piece room
rate_short w None = omega arith
rate_short w (Some x) = omega (arith, piece_room w (number (to_bits binary64 x)))

flag_short : (w : List ℕ) (o : Option Bool) → length (piece (w, flag o)) ≤ 11 + length w
unfolding piece room
flag_short w None = omega arith
flag_short w (Some b) = omega (arith, piece_room w (boolean b))

named_short : (w : List ℕ) (o : Option Name) → IfSome o (λ e. length (text_of e) ≤ 128) → length (piece (w, named o)) ≤ 133 + length w
unfolding piece room
named_short w None h = omega arith
named_short w (Some e) h = omega (arith, h, piece_room w (string (text_of e)))

pub eleven_short : (m : StreamMetadata) → IfSome m.encoder (λ e. length (text_of e) ≤ 128) → length (pieces (listed m)) < 4096
unfolding listed
eleven_short m h =
    simp length-append
    (omega (
      arith,
      whole_short (text "width") m.video_width,
      whole_short (text "height") m.video_height,
      whole_short (text "videocodecid") m.video_codec_id,
      whole_short (text "videodatarate") m.video_bitrate_kbps,
      rate_short (text "framerate") m.video_frame_rate,
      whole_short (text "audiocodecid") m.audio_codec_id,
      whole_short (text "audiodatarate") m.audio_bitrate_kbps,
      whole_short (text "audiosamplerate") m.audio_sample_rate,
      whole_short (text "audiochannels") m.audio_channels,
      flag_short (text "stereo") m.audio_is_stereo,
      named_short (text "encoder") m.encoder h,
    ))

-- ---- the object, the row and the record
set_pieces : (xs : List Listed) → encode_in (set_ones xs) ≡ pieces xs ++ encode_in none
unfolding piece set_ones encode
set_pieces [] = refl
set_pieces ((w, Some v) ∷ xs) = ap (λ (l : List ℕ). counted 2 w ++ (encode v ++ l)) (set_pieces xs) ∙ sym (simp append_assoc)
set_pieces ((w, None) ∷ xs) = set_pieces xs

abbrev begun : List ℕ
begun = encode (string (text "onMetaData"))

pub begun_length : length begun ≡ 13
unfolding room
begun_length = length_encode (string (text "onMetaData"))

end_length : length (encode_in none) ≡ 3
unfolding encode
end_length = refl

module _ (m : StreamMetadata) where
  row_is : encode_of (metadata_row m) ≡ begun ++ (0x03 ∷ (pieces (listed m) ++ encode_in none))
  unfolding metadata_row encode
  row_is = ap (λ (l : List ℕ). begun ++ 0x03 ∷ l) (append-nil (encode_in (set_ones (listed m))) ∙ set_pieces (listed m))

  length_row : length (encode_of (metadata_row m)) ≡ 17 + length (pieces (listed m))
  length_row = ap length row_is ∙ (simp length-append (omega (arith, begun_length, end_length)))

  pub length_sent : (time stream n : ℕ) → n ≡ length (pieces (listed m)) → length (metadata_record m time stream) ≡ 13 + (17 + n)
  unfolding metadata_record data_record
  length_sent time stream n e = omega (arith, length_record 18 time stream plain (encode_of (metadata_row m)), length_row)

  pub record_pieces : (time stream n : ℕ) (xs : List Listed) → xs ≡ listed m → n ≡ length (pieces xs)
      → (((header 18 (17 + n) time stream 0 ++ begun) ++ 0x03 ∷ []) ++ pieces xs) ++ encode_in none ≡ metadata_record m time stream
  unfolding metadata_record data_record
  record_pieces time stream n xs q e =
      let k : n ≡ length (pieces (listed m)) = e ∙ ap (λ (l : List Listed). length (pieces l)) q in
      simp append_assoc (ap (λ (l : List Listed). header 18 (17 + n) time stream 0 ++ (begun ++ (0x03 ∷ (pieces l ++ encode_in none)))) q)
      ∙ ap (λ (l : List ℕ). header 18 (17 + n) time stream 0 ++ l) (sym row_is)
      ∙ record_is 18 (17 + n) time stream plain (encode_of (metadata_row m)) (encode_of (metadata_row m)) refl (omega (arith, length_row))
