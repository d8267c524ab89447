use native.Mathlib.Omega.{arith}
use Rattle.amf0.specs.Grammar.{none, null, number, string}
use Rattle.amf0.proofs.WriteTheorems.{length_encode, length_encode_in}
use Rattle.amf0.specs.Writing.{room}
use Rattle.numbers.proofs.FieldsLaws.{run_as, run_start, run_then}
use Rattle.record.proofs.StatusLaws.{length_open_two, status_pieces}
use Rattle.record.proofs.status.write_status_body_at.Goals as goal

pub returns : goal.returns
unfolding room
returns c =
    let pre = c.requires in
    let r1 = run_then _ _ _ _ _ _ _ _ _ (run_start _ c.args.at) c.write_string_at.ensures (length_encode (string _)) (omega (arith, pre)) (omega (arith, pre)) in
    let r2 = run_then _ _ _ _ _ _ _ _ _ r1 c.write_number_at.ensures (length_encode (number _)) (omega (arith, pre)) (omega (arith, pre)) in
    let r3 = run_then _ _ _ _ _ _ _ _ _ r2 c.write_null_at.ensures (length_encode null) (omega (arith, pre)) (omega (arith, pre)) in
    let r4 = run_then _ _ _ _ _ _ _ _ _ r3 c.write_open_status_at.ensures (length_open_two _ _ c.args.part.now c.args.more.now) (omega (arith, pre)) (omega (arith, pre)) in
    let r5 = run_then _ _ _ _ _ _ _ _ _ r4 c.write_object_end_at.ensures (length_encode_in none) (omega (arith, pre)) (omega (arith, pre)) in
    run_as _ _ _ _ _ _ r5 (status_pieces _ _ _ _ _)
