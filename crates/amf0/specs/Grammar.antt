-- The grammar of AMF0 as document 01 lists it: values, and what bytes stand for a value. Nothing here reads or knows a place.
use Rattle.std.specs.Prelude.{◌≡◌, ℕ, suc, ◌<◌, ◌^◌, max, Bool, not, List, [], ◌∷◌, ◌++◌, length, eqb}
use Rattle.numbers.specs.Fields.{bytes_of}

-- A number is its 64 bits. A date is its 64 bits and its zone's 16. Names may repeat.
mutual
  pub data Value : Type 0 where
    number : ℕ → Value
    boolean : Bool → Value
    string : List ℕ → Value
    object : Properties → Value
    null : Value
    undefined : Value
    array : Properties → Value
    strict : Row → Value
    date : ℕ → ℕ → Value
    long : List ℕ → Value

  pub data Properties : Type 0 where
    none : Properties
    property : List ℕ → Value → Properties → Properties

  pub data Row : Type 0 where
    done : Row
    value : Value → Row → Row

unfoldable pub count : Row → ℕ
count done = 0
count (value v vs) = suc (count vs)

-- A text behind its length of w bytes.
abbrev pub counted : ℕ → List ℕ → List ℕ
counted w t = bytes_of w (length t) ++ t

-- Which bytes stand for a value. "0 is false": any other byte is true. "u32 count that is not trusted": any four bytes.
unfoldable mutual
  pub Spells : Value → List ℕ → Type 0
  Spells (number n) b = (n < 2 ^ 64) × (b ≡ 0x00 ∷ bytes_of 8 n)
  Spells (boolean t) b = (x : ℕ) × ((t ≡ not (eqb x 0)) × (b ≡ 0x01 ∷ x ∷ []))
  Spells (string t) b = (length t < 2 ^ 16) × (b ≡ 0x02 ∷ counted 2 t)
  Spells (object ps) b = (c : List ℕ) × (SpellsProperties ps c × (b ≡ 0x03 ∷ c))
  Spells null b = b ≡ 0x05 ∷ []
  Spells undefined b = b ≡ 0x06 ∷ []
  Spells (array ps) b = (n : ℕ) × ((n < 2 ^ 32) × ((c : List ℕ) × (SpellsProperties ps c × (b ≡ 0x08 ∷ (bytes_of 4 n ++ c)))))
  Spells (strict vs) b = (count vs < 2 ^ 32) × ((c : List ℕ) × (SpellsRow vs c × (b ≡ 0x0A ∷ (bytes_of 4 (count vs) ++ c))))
  Spells (date n z) b = (n < 2 ^ 64) × ((z < 2 ^ 16) × (b ≡ 0x0B ∷ (bytes_of 8 n ++ bytes_of 2 z)))
  Spells (long t) b = (length t < 2 ^ 32) × (b ≡ 0x0C ∷ counted 4 t)

  -- "pairs of name and value, then 00 00 09"; a name is not empty
  pub SpellsProperties : Properties → List ℕ → Type 0
  SpellsProperties none b = b ≡ 0x00 ∷ 0x00 ∷ 0x09 ∷ []
  SpellsProperties (property t v ps) b =
      (0 < length t) × ((length t < 2 ^ 16) × ((c : List ℕ) × (Spells v c × ((d : List ℕ) × (SpellsProperties ps d × (b ≡ counted 2 t ++ (c ++ d)))))))

  -- values end to end
  pub SpellsRow : Row → List ℕ → Type 0
  SpellsRow done b = b ≡ []
  SpellsRow (value v vs) b = (c : List ℕ) × (Spells v c × ((d : List ℕ) × (SpellsRow vs d × (b ≡ c ++ d))))

-- How deep containers (03, 08, 0A) nest in a value, itself counted.
unfoldable mutual
  pub depth : Value → ℕ
  depth (object ps) = suc (depth_in ps)
  depth (array ps) = suc (depth_in ps)
  depth (strict vs) = suc (depth_of vs)
  depth v = 0

  pub depth_in : Properties → ℕ
  depth_in none = 0
  depth_in (property t v ps) = max (depth v) (depth_in ps)

  pub depth_of : Row → ℕ
  depth_of done = 0
  depth_of (value v vs) = max (depth v) (depth_of vs)
