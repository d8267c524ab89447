-- The values of a body by their number.
use mathlib.Core.Path.{◌≡◌, ap, ◌∙◌}
use Prim.Native.Nat.{ℕ}
use mathlib.Core.List.{List}
use Rattle.std.specs.Prelude.{Option}
use Rattle.amf0.specs.Bodies.{place_of}
use Rattle.amf0.specs.Plain.{plain_at}
use Rattle.amf0.specs.declared.plain.Plain.{Plain}
use Rattle.wishes.specs.Values.{value_of}

pub value_at : (s : List ℕ) (k p : ℕ) (v : Option Plain) → v ≡ plain_at s p → p ≡ place_of s k → v ≡ value_of s k
unfolding value_of
value_at s k p v e f = e ∙ ap (plain_at s) f
