use mathlib.Core.Path.{refl, ◌∙◌}
use native.Mathlib.Omega.{arith}
use lib.Dec.{lit≤}
use Rattle.numbers.specs.Fields.{field_at}
use Rattle.numbers.proofs.FieldsLaws.{field_on, field_room, field_small}
use Rattle.numbers.proofs.fields.field_at.Goals as goal

pub loop-i-init : goal.loop-i-init
unfolding field_at
loop-i-init c = (refl, lit≤ tt)

pub overflow_mul-x : goal.overflow_mul-x
overflow_mul-x c = omega (arith, field_room c.loop-i.i c.loop-i.x (omega arith) c.loop-i.invariant.1)

pub overflow_add-x : goal.overflow_add-x
overflow_add-x c = omega (arith, field_room c.loop-i.i c.loop-i.x (omega arith) c.loop-i.invariant.1)

pub loop-i-preserved : goal.loop-i-preserved
loop-i-preserved c = let v = c.loop-i.invariant in (field_on _ _ _ _ _ v.0 (c.from.ensures ∙ c.byte_past.ensures), field_small _ _ _ v.1 (omega arith))
