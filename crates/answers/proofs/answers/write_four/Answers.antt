use mathlib.Core.Path.{sym, ◌∙◌}
use native.Mathlib.Omega.{arith}
use Rattle.numbers.proofs.FieldsLaws.{lent_part, over_zero, run_front, run_start, run_then}
use Rattle.answers.proofs.SendingLaws.{four_pieces, length_bandwidth, length_control, length_size}
use Rattle.answers.proofs.answers.write_four.Goals as goal

pub returns : goal.returns
returns c =
    let pre = c.requires in
    let r1 = run_then _ _ _ _ _ _ _ _ _ (run_start _ 0) (c.write_size.ensures ∙ sym (over_zero _ _)) (length_size _ _) (omega (arith, pre)) (omega (arith, pre)) in
    let r2 = run_then _ _ _ _ _ _ _ _ _ r1 (lent_part _ _ _ 17 c.write_size-2.ensures (omega (arith, pre))) (length_size _ _) (omega (arith, pre)) (omega (arith, pre)) in
    let r3 = run_then _ _ _ _ _ _ _ _ _ r2 (lent_part _ _ _ 34 c.write_event.ensures (omega (arith, pre))) (length_control _ _ _ _ _) (omega (arith, pre)) (omega (arith, pre)) in
    let r4 = run_then _ _ _ _ _ _ _ _ _ r3 (lent_part _ _ _ 53 c.write_bandwidth.ensures (omega (arith, pre))) (length_bandwidth _) (omega (arith, pre)) (omega (arith, pre)) in
    run_front _ _ _ _ _ r4 (four_pieces _ _ _)
