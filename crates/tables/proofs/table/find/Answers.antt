use mathlib.Core.Path.{refl, sym, ap, ◌∙◌}
use Rattle.std.specs.Prelude.{Some}
use Rattle.tables.proofs.TablesLaws.{look_at, look_missing, missing, stands}
use Rattle.tables.proofs.table.find.Goals as goal

pub returns-in_err-p : goal.returns-in_err-p
returns-in_err-p g c =
    let a = c.args in
    let m = g.E.Entry in
    c.from_residual.ensures ∙ sym (look_missing m.number a.table.now a.count _ refl _ (missing m.number a.table.now a.count _ m.blank _ c.number_of.ensures _ c.place.ensures c.in_err-p.was))

pub returns : goal.returns
returns g c =
    let a = c.args in
    let m = g.E.Entry in
    ap Some c.index-table-p.is ∙ sym (look_at m.number a.table.now a.count _ refl _ _ _ (stands m.number a.table.now a.count _ c.index-table-p.result _ c.number_of.ensures _ c.place.ensures c.in_ok-p.p c.in_ok-p.was))
