-- Bytes spelled by two hexadecimal digits each.
use Rattle.std.specs.Prelude.{ℕ, ◌+◌, ◌-◌, ◌*◌, ◌&&◌, List, [], ◌∷◌, cond, leb}

-- a digit in upper case; any other byte counts as 0
abbrev pub digit_value : ℕ → ℕ
digit_value b = cond (leb 48 b && leb b 57) (b - 48) (cond (leb 65 b && leb b 70) (b - 55) 0)

unfoldable pub spelled : List ℕ → List ℕ
spelled [] = []
spelled (x ∷ []) = []
spelled (x ∷ (y ∷ t)) = (digit_value x * 16 + digit_value y) ∷ spelled t
