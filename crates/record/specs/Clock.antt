-- The timestamp of a record.
use Rattle.std.specs.Prelude.{ℕ, ◌-◌, ◌%◌, ◌^◌}

-- "(now - start) modulo 2^32 in milliseconds, 0 if now is below start": numbers stop at 0
unfoldable pub time_of : ℕ → ℕ → ℕ
time_of start clock = (clock - start) % 2 ^ 32
