use mathlib.Core.Path.{refl}
use native.Mathlib.Omega.{arith}
use Rattle.numbers.proofs.FieldsLaws.{length_bytes_of, run_as, run_start, run_then}
use Rattle.record.proofs.StatusLaws.{length_name, pair_pieces}
use Rattle.record.proofs.status.write_pair_at.Goals as goal

pub returns : goal.returns
returns c =
    let pre = c.requires in
    let r1 = run_then _ _ _ _ _ _ _ _ _ (run_start _ c.args.at) c.write_name_at.ensures (length_name c.args.name.now) (omega (arith, pre)) (omega (arith, pre)) in
    let r2 = run_then _ _ _ _ _ _ _ _ _ r1 c.write_field_at.ensures (length_bytes_of 1 _) (omega (arith, pre)) (omega (arith, pre)) in
    let r3 = run_then _ _ _ _ _ _ _ _ _ r2 c.write_field_at-2.ensures (length_bytes_of 2 _) (omega (arith, pre)) (omega (arith, pre)) in
    let r4 = run_then _ _ _ _ _ _ _ _ _ r3 c.write_bytes_at.ensures (refl) (omega (arith, pre)) (omega (arith, pre)) in
    let r5 = run_then _ _ _ _ _ _ _ _ _ r4 c.write_bytes_at-2.ensures (refl) (omega (arith, pre)) (omega (arith, pre)) in
    run_as _ _ _ _ _ _ r5 (pair_pieces c.args.name.now c.args.part.now c.args.more.now _ (omega arith))
