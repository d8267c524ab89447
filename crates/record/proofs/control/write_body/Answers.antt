use mathlib.Core.Path.{refl, sym, ◌∙◌}
use native.Mathlib.Omega.{arith}
use Rattle.numbers.proofs.FieldsLaws.{over_zero, run_front, run_start, run_then}
use Rattle.record.proofs.RecordLaws.{length_header, record_is}
use Rattle.record.proofs.control.write_body.Goals as goal

pub returns : goal.returns
returns c =
    let pre = c.requires in
    let r1 = run_then _ _ _ _ _ _ _ _ _ (run_start _ 0) (c.write_header.ensures ∙ sym (over_zero _ _)) (length_header _ _ _ _ _) (omega (arith, pre)) (omega (arith, pre)) in
    let r2 = run_then _ _ _ _ _ _ _ _ _ r1 c.write_bytes_at.ensures (refl) (omega (arith, pre)) (omega (arith, pre)) in
    run_front _ _ _ _ _ r2 (record_is _ _ _ _ _ _ _ refl refl)
