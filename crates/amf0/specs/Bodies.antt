-- A whole body, and its values by their number.
use Rattle.std.specs.Prelude.{ℕ, zero, suc, List, length, leb, Result, Ok, Err}
use Rattle.std.specs.Result.{result_unwrap_or}
use Rattle.numbers.specs.Choose.{pick}
use Rattle.amf0.specs.Skipping.{Skip, after_value, skip_v, values_f}
use Rattle.amf0.specs.declared.error.BodyError.{BodyError}
use Rattle.amf0.specs.declared.error.BodyError.TheVariants.{NotAmf0, TooDeep}

-- values from i on up to the body's end, at most k; f skips a value
unfoldable pub row_f : (ℕ → Skip) → List ℕ → ℕ → ℕ → Skip
row_f f s zero i = Ok i
row_f f s (suc k) i = pick (leb (length s) i) (Ok i) (after_value (f i) (row_f f s k))

-- a value takes a byte at least, so a body has no more values than bytes
abbrev pub row : List ℕ → ℕ → Skip
row s i = row_f (skip_v s 8) s (length s) i

abbrev pub verdict : Skip → Result Unit BodyError
verdict (Ok n) = Ok tt
verdict (Err e) = Err e

-- the refusal's number, and 0 for a whole body
abbrev pub refusal_of : Result Unit BodyError → ℕ
refusal_of (Ok u) = 0
refusal_of (Err NotAmf0) = 2
refusal_of (Err TooDeep) = 3

-- "body is not whole AMF0 values end to end" is 2, "a container (03, 08, 0A) lies inside eight others" is 3.
unfoldable pub checked : List ℕ → Result Unit BodyError
checked s = verdict (row s 0)

-- the place after the value at `at`; the body's end where there is none
unfoldable pub place_after : List ℕ → ℕ → ℕ
place_after s at = result_unwrap_or (skip_v s 8 at) (length s)

-- where the n-th value begins, counted from 0
unfoldable pub place_of : List ℕ → ℕ → ℕ
place_of s n = result_unwrap_or (values_f (skip_v s 8) n 0) (length s)
