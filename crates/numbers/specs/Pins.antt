-- The pins of the bench plate that are about numbers, computed: one table and one claim.
use Rattle.std.specs.Prelude.{◌≡◌, refl, List, [], ◌∷◌, ℕ, Option, Some, None}
use Rattle.std.specs.Float.{binary32, binary64}
use Rattle.std.specs.Float.Ieee.{of_bits, to_bits, round, eq, lt, le, is_nan}
use Rattle.numbers.specs.Whole.{u32_of, whole_of}
use Rattle.numbers.specs.Single.{convert, recode, single_of}
use Rattle.numbers.specs.Play.{duration_of, start_of}
use Rattle.numbers.specs.declared.play.PlayStartValue.{PlayStartValue}
use Rattle.numbers.specs.declared.play.PlayStartValue.TheVariants.{LiveOrRecorded, LiveOnly, StartTimeInSeconds}

pub data Pin : Type 0 where
  start : PlayStartValue → Pin
  duration : Option ℕ → Pin
  number : ℕ → Pin

-- a single as the whole number that it is
abbrev pub as_whole : ℕ → ℕ
as_whole s = u32_of (recode binary32 binary64 s)

pub pins : List Pin
pins =
    start (start_of 0x8000000000000000)
    ∷ start (start_of 0xBFE0000000000000)
    ∷ duration (duration_of 0x7FF8000000000000)
    ∷ number (u32_of 0x41F0000000000000)
    ∷ number (u32_of 0x3FECCCCCCCCCCCCD)
    ∷ number (as_whole (recode binary64 binary32 0x4170000010000000))
    ∷ number (as_whole (recode binary64 binary32 0x4170000030000000))
    ∷ number (single_of 0x7FF8000000000001)
    ∷ number (recode binary32 binary64 0xFFC00001)
    ∷ start (start_of 0xC000000000000000)
    ∷ start (start_of 0xBFF0000000000000)
    ∷ start (start_of 0x7FF8000000000000)
    ∷ duration (duration_of 0x8000000000000000)
    ∷ []

-- "start -0.0 gives 0 seconds; start -0.5 gives LiveOrRecorded; duration NaN gives none; 4294967296.0 gives 4294967295; 0.9 gives 0; 16777217 as single gives 16777216; 16777219 gives 16777220";
-- the two NaN patterns; starts of -2, -1 and NaN, and a duration of -0.0
pub pins_are : pins
    ≡ start (StartTimeInSeconds 0)
    ∷ start LiveOrRecorded
    ∷ duration None
    ∷ number 4294967295
    ∷ number 0
    ∷ number 16777216
    ∷ number 16777220
    ∷ number 0x7FC00000
    ∷ number 0x7FF8000000000000
    ∷ start LiveOrRecorded
    ∷ start LiveOnly
    ∷ start LiveOrRecorded
    ∷ duration (Some 0)
    ∷ []
unfolding pins start_of duration_of u32_of whole_of recode convert single_of of_bits to_bits round eq lt le is_nan
pins_are = refl
