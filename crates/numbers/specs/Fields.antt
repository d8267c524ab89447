-- Big-endian fields of any number of bytes, read and written.
use Rattle.std.specs.Prelude.{◌≡◌, ℕ, zero, suc, ◌+◌, ◌*◌, ◌/◌, ◌%◌, List, [], ◌∷◌, ◌++◌, length, get_or, take, drop}

-- the number that the n bytes from `at` on spell, the highest first; past the list's end a byte counts as 0
unfoldable pub field_at : ℕ → List ℕ → ℕ → ℕ
field_at zero s at = 0
field_at (suc n) s at = field_at n s at * 256 + get_or s (at + n) 0

-- the n lowest bytes of x, the highest first
unfoldable pub bytes_of : ℕ → ℕ → List ℕ
bytes_of zero x = []
bytes_of (suc n) x = bytes_of n (x / 256) ++ x % 256 ∷ []

-- d with xs in the place of its first bytes
unfoldable pub front : List ℕ → List ℕ → List ℕ
front xs d = xs ++ drop (length xs) d

-- d with xs in the place of its bytes from `at` on
unfoldable pub over : ℕ → List ℕ → List ℕ → List ℕ
over at xs d = take at d ++ (xs ++ drop (at + length xs) d)

-- the bytes xs were written into d from `at` on: the buffer afterwards, and the place behind them
pub record Run (d : List ℕ) (at : ℕ) (xs : List ℕ) (next : ℕ) (e : List ℕ) : Type 0 where
  pub whole : e ≡ over at xs d
  pub count : next ≡ at + length xs
