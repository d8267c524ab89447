use mathlib.Core.Path.{refl}
use Rattle.tables.proofs.TablesLaws.{changed_at, changed_missing, missing, stands}
use Rattle.tables.proofs.table.change.Goals as goal

pub returns-in-Some : goal.returns-in-Some
returns-in-Some g c =
    let a = c.args in
    let m = g.E.Entry in
    changed_at m.number a.table.now a.count _ refl a.entry _ _ (stands m.number a.table.now a.count _ a.entry _ c.number.ensures _ c.place.ensures c.in-Some.p c.in-Some.is)

pub returns-in_default : goal.returns-in_default
returns-in_default g c =
    let a = c.args in
    let m = g.E.Entry in
    changed_missing m.number a.table.now a.count _ refl a.entry (missing m.number a.table.now a.count _ a.entry _ c.number.ensures _ c.place.ensures c.in_default.is)
