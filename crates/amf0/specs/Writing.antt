-- The bytes that we write for a value: of those that may stand for it, these.
use Rattle.std.specs.Prelude.{ℕ, suc, ◌+◌, ◌<◌, ◌^◌, List, [], ◌∷◌, ◌++◌, length}
use Rattle.numbers.specs.Choose.{pick}
use Rattle.numbers.specs.Fields.{bytes_of}
use Rattle.amf0.specs.Grammar.{Properties, Row, Value, array, boolean, count, counted, date, done, long, none, null, number, object, property, strict, string, undefined, value}

-- how many pairs there are
unfoldable pub size : Properties → ℕ
size none = 0
size (property t v ps) = suc (size ps)

-- true is 01, and an ECMA array says how many pairs it has
unfoldable mutual
  pub encode : Value → List ℕ
  encode (number n) = 0x00 ∷ bytes_of 8 n
  encode (boolean t) = 0x01 ∷ pick t 0x01 0x00 ∷ []
  encode (string t) = 0x02 ∷ counted 2 t
  encode (object ps) = 0x03 ∷ encode_in ps
  encode null = 0x05 ∷ []
  encode undefined = 0x06 ∷ []
  encode (array ps) = 0x08 ∷ (bytes_of 4 (size ps) ++ encode_in ps)
  encode (strict vs) = 0x0A ∷ (bytes_of 4 (count vs) ++ encode_of vs)
  encode (date n z) = 0x0B ∷ (bytes_of 8 n ++ bytes_of 2 z)
  encode (long t) = 0x0C ∷ counted 4 t

  pub encode_in : Properties → List ℕ
  encode_in none = 0x00 ∷ 0x00 ∷ 0x09 ∷ []
  encode_in (property t v ps) = counted 2 t ++ (encode v ++ encode_in ps)

  pub encode_of : Row → List ℕ
  encode_of done = []
  encode_of (value v vs) = encode v ++ encode_of vs

-- what its lengths, counts and bits can say
unfoldable mutual
  pub Fits : Value → Type 0
  Fits (number n) = n < 2 ^ 64
  Fits (boolean t) = Unit {0}
  Fits (string t) = length t < 2 ^ 16
  Fits (object ps) = FitsIn ps
  Fits null = Unit {0}
  Fits undefined = Unit {0}
  Fits (array ps) = (size ps < 2 ^ 32) × FitsIn ps
  Fits (strict vs) = (count vs < 2 ^ 32) × FitsOf vs
  Fits (date n z) = (n < 2 ^ 64) × (z < 2 ^ 16)
  Fits (long t) = length t < 2 ^ 32

  pub FitsIn : Properties → Type 0
  FitsIn none = Unit {0}
  FitsIn (property t v ps) = (0 < length t) × ((length t < 2 ^ 16) × (Fits v × FitsIn ps))

  pub FitsOf : Row → Type 0
  FitsOf done = Unit {0}
  FitsOf (value v vs) = Fits v × FitsOf vs

-- how many bytes we write for it
unfoldable mutual
  pub room : Value → ℕ
  room (number n) = 9
  room (boolean t) = 2
  room (string t) = 3 + length t
  room (object ps) = 1 + room_in ps
  room null = 1
  room undefined = 1
  room (array ps) = 5 + room_in ps
  room (strict vs) = 5 + room_of vs
  room (date n z) = 11
  room (long t) = 5 + length t

  pub room_in : Properties → ℕ
  room_in none = 3
  room_in (property t v ps) = 2 + length t + (room v + room_in ps)

  pub room_of : Row → ℕ
  room_of done = 0
  room_of (value v vs) = room v + room_of vs
