-- What we write reads back the same: the reader accepts it, and gives the values that were written, bits included.
use mathlib.Core.Path.{◌≡◌, refl}
use Prim.Native.Nat.{ℕ, ◌+◌, ◌≤◌}
use native.Mathlib.Omega.{arith}
use mathlib.Core.Bool.{Bool, true, false, not}
use mathlib.Core.List.{List, ◌++◌}
use lib.ListN.{length, length-append}
use lib.Dec.{eqb}
use Rattle.std.specs.Prelude.{None, Some, Ok}
use Rattle.numbers.specs.Choose.{pick}
use Rattle.numbers.specs.Fields.{bytes_of}
use Rattle.numbers.proofs.FieldsLaws.{length_bytes_of}
use Rattle.amf0.specs.Bodies.{checked, place_of}
use Rattle.amf0.specs.Grammar.{Properties, Row, Spells, SpellsProperties, SpellsRow, Value, array, boolean, count, counted, date, depth_in, depth_of, done, long, none, null, number, object, property, strict, string, undefined, value}
use Rattle.amf0.specs.Properties.{last_property}
use Rattle.amf0.specs.Showing.{Finds, Standing, last_of, nth}
use Rattle.amf0.specs.Writing.{Fits, FitsIn, FitsOf, encode, encode_in, encode_of, room, room_in, room_of, size}
use Rattle.amf0.proofs.BodyTheorems.{row_accepted}
use Rattle.amf0.proofs.ReadTheorems.{Shows, last_stands, nth_stands, shows}

said : (t : Bool) → t ≡ not (eqb (pick t 0x01 0x00) 0)
said true = refl
said false = refl

-- the bytes written are as many as `room` says
pub text_room : (w : ℕ) (t : List ℕ) → length (counted w t) ≡ w + length t
text_room w t = omega (arith, length-append (bytes_of w (length t)) t, length_bytes_of w (length t))

mutual
  unfolding encode room

  pub length_encode : (v : Value) → length (encode v) ≡ room v
  length_encode (number n) = omega (arith, length_bytes_of 8 n)
  length_encode (boolean t) = refl
  length_encode (string t) = omega (arith, text_room 2 t)
  length_encode (object ps) = omega (arith, length_encode_in ps)
  length_encode null = refl
  length_encode undefined = refl
  length_encode (array ps) = omega (arith, length-append (bytes_of 4 (size ps)) (encode_in ps), length_bytes_of 4 (size ps), length_encode_in ps)
  length_encode (strict vs) = omega (arith, length-append (bytes_of 4 (count vs)) (encode_of vs), length_bytes_of 4 (count vs), length_encode_of vs)
  length_encode (date n z) = omega (arith, length-append (bytes_of 8 n) (bytes_of 2 z), length_bytes_of 8 n, length_bytes_of 2 z)
  length_encode (long t) = omega (arith, text_room 4 t)

  pub length_encode_in : (ps : Properties) → length (encode_in ps) ≡ room_in ps
  length_encode_in none = refl
  length_encode_in (property t v ps) = omega (arith, length-append (counted 2 t) (encode v ++ encode_in ps), length-append (encode v) (encode_in ps), text_room 2 t, length_encode v, length_encode_in ps)

  pub length_encode_of : (vs : Row) → length (encode_of vs) ≡ room_of vs
  length_encode_of done = refl
  length_encode_of (value v vs) = omega (arith, length-append (encode v) (encode_of vs), length_encode v, length_encode_of vs)

-- what is written stands for the value
mutual
  unfolding Spells encode Fits

  pub spelled : (v : Value) → Fits v → Spells v (encode v)
  spelled (number n) f = (f, refl)
  spelled (boolean t) f = (pick t 0x01 0x00, (said t, refl))
  spelled (string t) f = (f, refl)
  spelled (object ps) f = (encode_in ps, (spelled_in ps f, refl))
  spelled null f = refl
  spelled undefined f = refl
  spelled (array ps) f = (size ps, (f.0, (encode_in ps, (spelled_in ps f.1, refl))))
  spelled (strict vs) f = (f.0, (encode_of vs, (spelled_of vs f.1, refl)))
  spelled (date n z) f = (f.0, (f.1, refl))
  spelled (long t) f = (f, refl)

  pub spelled_in : (ps : Properties) → FitsIn ps → SpellsProperties ps (encode_in ps)
  spelled_in none f = refl
  spelled_in (property t v ps) f = (f.0, (f.1.0, (encode v, (spelled v f.1.1.0, (encode_in ps, (spelled_in ps f.1.1.1, refl))))))

  pub spelled_of : (vs : Row) → FitsOf vs → SpellsRow vs (encode_of vs)
  spelled_of done f = refl
  spelled_of (value v vs) f = (encode v, (spelled v f.0, (encode_of vs, (spelled_of vs f.1, refl))))

-- ---- for every row that we can write
module _ (vs : Row) (f : FitsOf vs) (d : depth_of vs ≤ 8) where
  pub written_accepted : checked (encode_of vs) ≡ Ok tt
  written_accepted = row_accepted vs (encode_of vs) (spelled_of vs f) d

  pub written_stands : (n : ℕ) (v : Value) → nth n vs ≡ Some v → Standing (encode_of vs) (place_of (encode_of vs) n) v
  written_stands n v e = nth_stands vs n (encode_of vs) v (spelled_of vs f) d e

  pub written_reads_back : (n : ℕ) (v : Value) → nth n vs ≡ Some v → Shows (encode_of vs) (place_of (encode_of vs) n) v
  written_reads_back n v e = let i = written_stands n v e in shows v (encode_of vs) i.rest i.bytes (place_of (encode_of vs) n) i.spells i.here

  -- and of an object in it, the last property of a name
  pub written_property : (n : ℕ) (ps : Properties) (w : List ℕ) → nth n vs ≡ Some (object ps) → depth_in ps ≤ 8
      → Finds (encode_of vs) (last_property (encode_of vs) (place_of (encode_of vs) n) w) (last_of w ps None)
  written_property n ps w e h = let i = written_stands n (object ps) e in last_stands ps (encode_of vs) i.rest i.bytes w (place_of (encode_of vs) n) i.spells h i.here
