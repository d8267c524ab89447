use mathlib.Core.Path.{sym, ◌∙◌}
use native.Mathlib.Omega.{arith}
use Rattle.amf0.specs.Grammar.{null, number, string}
use Rattle.amf0.proofs.WriteTheorems.{length_encode}
use Rattle.amf0.specs.Writing.{room}
use Rattle.numbers.proofs.FieldsLaws.{over_zero, run_front, run_start, run_then}
use Rattle.record.proofs.RecordLaws.{length_header}
use Rattle.record.proofs.StatusLaws.{number_record}
use Rattle.record.proofs.status.write_number_answer.Goals as goal

pub returns : goal.returns
unfolding room
returns c =
    let pre = c.requires in
    let r1 = run_then _ _ _ _ _ _ _ _ _ (run_start _ 0) (c.write_header.ensures ∙ sym (over_zero _ _)) (length_header _ _ _ _ _) (omega (arith, pre)) (omega (arith, pre)) in
    let r2 = run_then _ _ _ _ _ _ _ _ _ r1 c.write_string_at.ensures (length_encode (string _)) (omega (arith, pre)) (omega (arith, pre)) in
    let r3 = run_then _ _ _ _ _ _ _ _ _ r2 c.write_number_at.ensures (length_encode (number _)) (omega (arith, pre)) (omega (arith, pre)) in
    let r4 = run_then _ _ _ _ _ _ _ _ _ r3 c.write_null_at.ensures (length_encode null) (omega (arith, pre)) (omega (arith, pre)) in
    let r5 = run_then _ _ _ _ _ _ _ _ _ r4 c.write_number_at-2.ensures (length_encode (number _)) (omega (arith, pre)) (omega (arith, pre)) in
    run_front _ _ _ _ _ r5 (number_record _ _ _ _ _ _)
