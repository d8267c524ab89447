use native.Mathlib.Omega.{arith}
use Rattle.numbers.proofs.FieldsLaws.{length_bytes_of, run_front, run_start, run_then}
use Rattle.record.proofs.RecordLaws.{header_pieces}
use Rattle.record.proofs.header.write_header.Goals as goal

pub returns : goal.returns
returns c =
    let pre = c.requires in
    let r1 = run_then _ _ _ _ _ _ _ _ _ (run_start _ 0) c.write_field_at.ensures (length_bytes_of 1 _) (omega (arith, pre)) (omega (arith, pre)) in
    let r2 = run_then _ _ _ _ _ _ _ _ _ r1 c.write_field_at-2.ensures (length_bytes_of 3 _) (omega (arith, pre)) (omega (arith, pre)) in
    let r3 = run_then _ _ _ _ _ _ _ _ _ r2 c.write_field_at-3.ensures (length_bytes_of 4 _) (omega (arith, pre)) (omega (arith, pre)) in
    let r4 = run_then _ _ _ _ _ _ _ _ _ r3 c.write_field_at-4.ensures (length_bytes_of 4 _) (omega (arith, pre)) (omega (arith, pre)) in
    let r5 = run_then _ _ _ _ _ _ _ _ _ r4 c.write_field_at-5.ensures (length_bytes_of 1 _) (omega (arith, pre)) (omega (arith, pre)) in
    run_front _ _ _ _ _ r5 (header_pieces _ _ _ _ _)
