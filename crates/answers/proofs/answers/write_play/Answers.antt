use mathlib.Core.Path.{sym, ◌∙◌}
use native.Mathlib.Omega.{arith}
use Rattle.record.specs.Records.{status_record}
use Rattle.numbers.proofs.FieldsLaws.{lent_part, over_zero, run_front, run_start, run_then}
use Rattle.answers.proofs.SendingLaws.{length_control, length_reset, length_status_record, play_pieces}
use Rattle.answers.proofs.answers.write_play.Goals as goal

pub returns : goal.returns
unfolding status_record
returns c =
    let pre = c.requires in
    let r1 = run_then _ _ _ _ _ _ _ _ _ (run_start _ 0) (c.write_status.ensures ∙ sym (over_zero _ _)) (length_reset _ _) (omega (arith, pre)) (omega (arith, pre)) in
    let r2 = run_then _ _ _ _ _ _ _ _ _ r1 (lent_part _ _ _ 111 c.write_event.ensures (omega (arith, pre))) (length_control _ _ _ _ _) (omega (arith, pre)) (omega (arith, pre)) in
    let r3 = run_then _ _ _ _ _ _ _ _ _ r2 (lent_part _ _ _ 130 c.write_status-2.ensures (omega (arith, pre))) (length_status_record _ _ _ _ _ _ _) (omega (arith, pre)) (omega (arith, pre)) in
    run_front _ _ _ _ _ r3 (play_pieces _ _ _)
