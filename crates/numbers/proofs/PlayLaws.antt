-- The cases of a play's start and of its duration, by the comparisons that the code makes of the double's value x.
use mathlib.Core.Path.{◌≡◌, sym}
use Prim.Native.Nat.{ℕ}
use mathlib.Core.Bool.{true, false}
use lib.Ieee.{Float, binary64, of_bits, eq, le}
use Rattle.numbers.specs.Whole.{u32_of}
use Rattle.numbers.specs.Play.{duration_of, minus_one, minus_two, none, start_of}
use Rattle.numbers.specs.declared.play.PlayStartValue.TheVariants.{LiveOrRecorded, LiveOnly, StartTimeInSeconds}
use Rattle.std.specs.Prelude.{Some, None}

module _ (b n : ℕ) (x : Float) (e : x ≡ of_bits binary64 b) where
  pub start_two : eq x minus_two ≡ true → LiveOrRecorded ≡ start_of b
  unfolding start_of
  start_two h = simp (sym e, h)

  module _ (h2 : eq x minus_two ≡ false) where
    pub start_one : eq x minus_one ≡ true → LiveOnly ≡ start_of b
    unfolding start_of
    start_one h = simp (sym e, h2, h)

    pub start_seconds : eq x minus_one ≡ false → le none x ≡ true → n ≡ u32_of b → StartTimeInSeconds n ≡ start_of b
    unfolding start_of
    start_seconds h1 h u = simp (u, sym e, h2, h1, h)

    pub start_other : eq x minus_one ≡ false → le none x ≡ false → LiveOrRecorded ≡ start_of b
    unfolding start_of
    start_other h1 h = simp (sym e, h2, h1, h)

  pub duration_seconds : le none x ≡ true → n ≡ u32_of b → Some n ≡ duration_of b
  unfolding duration_of
  duration_seconds h u = simp (u, sym e, h)

  pub duration_none : le none x ≡ false → None ≡ duration_of b
  unfolding duration_of
  duration_none h = simp (sym e, h)
