use mathlib.Core.Path.{refl}
use native.Mathlib.Omega.{arith}
use Rattle.numbers.proofs.FieldsLaws.{run_start}
use Rattle.metadata.proofs.WritingLaws.{run_on}
use Rattle.metadata.proofs.writing.write_properties.Goals as goal

pub loop-property-init : goal.loop-property-init
loop-property-init c = (refl, run_start _ _)

pub loop-property-preserved : goal.loop-property-preserved
loop-property-preserved c = let l = c.loop-property in (omega arith, run_on c.args.properties.now l.property-index _ c.loop-property-test.true _ _ _ _ _ _ l.invariant.1 c.write_at-p.ensures c.requires.1)
