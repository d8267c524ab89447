use mathlib.Core.Path.{refl}
use native.Mathlib.Omega.{arith}
use Rattle.numbers.proofs.FieldsLaws.{run_as, run_start, run_then}
use Rattle.record.proofs.StatusLaws.{length_pair_two, open_pieces}
use Rattle.record.proofs.status.write_open_status_at.Goals as goal

pub returns : goal.returns
returns c =
    let pre = c.requires in
    let r1 = run_then _ _ _ _ _ _ _ _ _ (run_start _ c.args.at) c.write_object_begin_at.ensures (refl) (omega (arith, pre)) (omega (arith, pre)) in
    let r2 = run_then _ _ _ _ _ _ _ _ _ r1 c.write_pair_at.ensures (length_pair_two _ c.args.level.now _) (omega (arith, pre)) (omega (arith, pre)) in
    let r3 = run_then _ _ _ _ _ _ _ _ _ r2 c.write_pair_at-2.ensures (length_pair_two _ c.args.code.now _) (omega (arith, pre)) (omega (arith, pre)) in
    let r4 = run_then _ _ _ _ _ _ _ _ _ r3 c.write_pair_at-3.ensures (length_pair_two _ c.args.part.now c.args.more.now) (omega (arith, pre)) (omega (arith, pre)) in
    run_as _ _ _ _ _ _ r4 (open_pieces c.args.level.now c.args.code.now _)
