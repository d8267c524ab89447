use Rattle.written.proofs.EditsLaws.{applied_as}
use Rattle.written.proofs.applied.apply_in.Goals as goal

pub returns : goal.returns
returns c =
    let a = c.args in
    applied_as (a.facts.now, (a.streams.now, (a.requests.now, a.names.now))) a.change _ _ _ _ _ _ c.rows_in_use-n.ensures c.rows_in_use-m.ensures c.place_of.ensures c.place_of-2.ensures c.stream_edit-e.ensures c.request_edit-f.ensures _ _ _ _ _ _ c.stream_row.ensures c.request_row.ensures c.set_facts.ensures c.make_edit.ensures c.make_edit-2.ensures c.edit_all_names.ensures
