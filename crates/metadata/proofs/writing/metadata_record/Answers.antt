use mathlib.Core.Path.{refl, sym, ap, ◌∙◌}
use native.Mathlib.Omega.{arith}
use mathlib.Core.List.{List}
use lib.ListN.{length}
use Rattle.numbers.proofs.FieldsLaws.{over_zero, run_front, run_start, run_then}
use Rattle.record.proofs.RecordLaws.{length_header}
use Rattle.answers.proofs.SendingLaws.{sent_no, sent_yes}
use Rattle.metadata.specs.Writing.{Listed, pieces}
use Rattle.metadata.proofs.WritingLaws.{begun_length, length_sent, record_pieces}
use Rattle.metadata.proofs.writing.metadata_record.Goals as goal

pub returns-then-out-total : goal.returns-then-out-total
returns-then-out-total c = sent_no _ _ _ (length_sent _ _ _ _ (c.room_of-len.ensures ∙ ap (λ (l : List Listed). length (pieces l)) c.properties-properties.ensures.listed)) (omega arith)

pub returns : goal.returns
returns c =
    let a = c.args in
    let q = c.properties-properties.ensures.listed in
    let n = c.room_of-len.ensures in
    let w = c.write_properties-end.ensures in
    let r1 = run_then _ _ _ _ _ _ _ _ _ (run_start _ 0) (c.write_header.ensures ∙ sym (over_zero _ _)) (length_header _ _ _ _ _) (omega arith) (omega arith) in
    let r2 = run_then _ _ _ _ _ _ _ _ _ r1 c.write_string_at.ensures begun_length (omega arith) (omega arith) in
    let r3 = run_then _ _ _ _ _ _ _ _ _ r2 c.write_object_begin_at.ensures refl (omega arith) (omega arith) in
    let r4 = run_then _ _ _ _ _ _ _ _ _ r3 w.whole refl (omega arith) (omega arith) in
    let r5 = run_then _ _ _ _ _ _ _ _ _ r4 c.write_object_end_at.ensures refl (omega (arith, w.count)) (omega (arith, w.count)) in
    sent_yes _ _ _ _ (run_front _ _ _ _ _ r5 (record_pieces a.m _ _ _ _ q n)) (length_sent a.m _ _ _ (n ∙ ap (λ (l : List Listed). length (pieces l)) q)) (omega arith)
