use mathlib.Core.Path.{◌≡◌}
use Prim.Native.Nat.{◌<◌, ◌*◌, ◌^◌}
use Rattle.numbers.specs.Fields.{field_at}
use Rattle.numbers.proofs.fields.field_at.Given as goal

abbrev pub invariant-loop-i : goal.invariant-loop-i
invariant-loop-i l = (l.x ≡ field_at l.i l.s l.at) × (l.x < 2 ^ (8 * l.i))
