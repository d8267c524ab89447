-- Refusal 12: "lent out buffer is shorter than all records of the answer". All is written, or nothing.
use Rattle.std.specs.Prelude.{ℕ, List, Option, Some, None, ltb, length}
use Rattle.numbers.specs.Choose.{pick}
use Rattle.numbers.specs.Fields.{front}

-- how many bytes were written, or None where they don't fit, and the buffer afterwards: "bytes past the written count stay as they were"
unfoldable pub sent : List ℕ → List ℕ → Option ℕ × List ℕ
sent records out = pick (ltb (length out) (length records)) (None, out) (Some (length records), front records out)
