-- What a double says as the start and as the duration of a play.
use Rattle.std.specs.Prelude.{ℕ, true, false, pos, Float, Option, Some, None}
use Rattle.std.specs.Float.{fin, binary64}
use Rattle.std.specs.Float.Ieee.{of_bits, eq, le}
use Rattle.numbers.specs.Choose.{pick}
use Rattle.numbers.specs.Whole.{u32_of}
use Rattle.numbers.specs.declared.play.PlayStartValue.{PlayStartValue}
use Rattle.numbers.specs.declared.play.PlayStartValue.TheVariants.{LiveOrRecorded, LiveOnly, StartTimeInSeconds}

-- -2.0 is 1 * 2 ^ 1 with its sign
abbrev pub minus_two : Float
minus_two = fin true 1 (pos 1)

abbrev pub minus_one : Float
minus_one = fin true 1 (pos 0)

abbrev pub none : Float
none = fin false 0 (pos 0)

-- "Start: -2 LiveOrRecorded; -1 LiveOnly; at least 0 its u32; anything else or absent LiveOrRecorded."
unfoldable pub start_of : ℕ → PlayStartValue
start_of b =
    pick (eq (of_bits binary64 b) minus_two) LiveOrRecorded
    (pick (eq (of_bits binary64 b) minus_one) LiveOnly
    (pick (le none (of_bits binary64 b)) (StartTimeInSeconds (u32_of b))
    LiveOrRecorded))

-- "Duration: at least 0 its u32, else none."
unfoldable pub duration_of : ℕ → Option ℕ
duration_of b = pick (le none (of_bits binary64 b)) (Some (u32_of b)) None
