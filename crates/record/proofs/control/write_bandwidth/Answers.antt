use mathlib.Core.Path.{refl, sym, ◌∙◌}
use native.Mathlib.Omega.{arith}
use Rattle.numbers.proofs.FieldsLaws.{length_bytes_of, over_zero, run_front, run_start, run_then}
use Rattle.record.proofs.RecordLaws.{length_header, record_two}
use Rattle.record.proofs.control.write_bandwidth.Goals as goal

pub returns : goal.returns
returns c =
    let pre = c.requires in
    let r1 = run_then _ _ _ _ _ _ _ _ _ (run_start _ 0) (c.write_header.ensures ∙ sym (over_zero _ _)) (length_header _ _ _ _ _) (omega (arith, pre)) (omega (arith, pre)) in
    let r2 = run_then _ _ _ _ _ _ _ _ _ r1 c.write_field_at.ensures (length_bytes_of 4 _) (omega (arith, pre)) (omega (arith, pre)) in
    let r3 = run_then _ _ _ _ _ _ _ _ _ r2 c.write_field_at-2.ensures (length_bytes_of 1 _) (omega (arith, pre)) (omega (arith, pre)) in
    run_front _ _ _ _ _ r3 (record_two _ _ _ _ _ _ _ _ _ refl)
