use native.Mathlib.Omega.{arith}
use Rattle.text.specs.Words.{text}
use Rattle.record.specs.Texts.{connect_success, connected_on, level_status}
use Rattle.amf0.specs.Grammar.{none, number}
use Rattle.amf0.proofs.WriteTheorems.{length_encode, length_encode_in}
use Rattle.amf0.specs.Writing.{room}
use Rattle.numbers.proofs.FieldsLaws.{run_as, run_start, run_then}
use Rattle.record.proofs.StatusLaws.{length_name, length_open_two}
use Rattle.record.proofs.ConnectLaws.{connected_pieces}
use Rattle.record.proofs.status.write_connected_status_at.Goals as goal

pub returns : goal.returns
unfolding room
returns c =
    let pre = c.requires in
    let r1 = run_then _ _ _ _ _ _ _ _ _ (run_start _ c.args.at) c.write_open_status_at.ensures (length_open_two level_status connect_success connected_on c.args.app.now) (omega (arith, pre)) (omega (arith, pre)) in
    let r2 = run_then _ _ _ _ _ _ _ _ _ r1 c.write_name_at.ensures (length_name (text "objectEncoding")) (omega (arith, pre)) (omega (arith, pre)) in
    let r3 = run_then _ _ _ _ _ _ _ _ _ r2 c.write_number_at.ensures (length_encode (number _)) (omega (arith, pre)) (omega (arith, pre)) in
    let r4 = run_then _ _ _ _ _ _ _ _ _ r3 c.write_object_end_at.ensures (length_encode_in none) (omega (arith, pre)) (omega (arith, pre)) in
    run_as _ _ _ _ _ _ r4 (connected_pieces c.args.app.now _)
