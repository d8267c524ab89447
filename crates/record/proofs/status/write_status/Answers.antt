use mathlib.Core.Path.{refl, sym, ◌∙◌}
use native.Mathlib.Omega.{arith}
use Rattle.record.specs.Records.{command}
use Rattle.numbers.proofs.FieldsLaws.{over_zero, run_front, run_start, run_then}
use Rattle.record.proofs.RecordLaws.{length_header, record_is}
use Rattle.record.proofs.StatusLaws.{length_status_two}
use Rattle.record.proofs.status.write_status.Goals as goal

pub returns : goal.returns
unfolding command
returns c =
    let pre = c.requires in
    let r1 = run_then _ _ _ _ _ _ _ _ _ (run_start _ 0) (c.write_header.ensures ∙ sym (over_zero _ _)) (length_header _ _ _ _ _) (omega (arith, pre)) (omega (arith, pre)) in
    let r2 = run_then _ _ _ _ _ _ _ _ _ r1 c.write_status_body_at.ensures (length_status_two c.args.name.now c.args.transaction c.args.level.now c.args.code.now c.args.part.now c.args.more.now) (omega (arith, pre)) (omega (arith, pre)) in
    run_front _ _ _ _ _ r2 (record_is _ _ _ _ _ _ _ refl (length_status_two c.args.name.now c.args.transaction c.args.level.now c.args.code.now c.args.part.now c.args.more.now))
