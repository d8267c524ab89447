use mathlib.Core.Path.{◌∙◌}
use Prim.Native.Nat.{◌%◌}
use native.Mathlib.Omega.{arith}
use Rattle.image.proofs.RowsLaws.{entry_found, entry_none}
use Rattle.image.proofs.reading.entry_of.Goals as goal

pub returns-in_err-p : goal.returns-in_err-p
returns-in_err-p g c =
    let a = c.args in
    let m = g.R.Row in
    let e = g.R.Entry.Entry in
    c.from_residual.ensures
    ∙ entry_none m.entry a.rows.now a.names.now (omega arith) (omega arith) e.number (λ row. m.number row % 4294967296) g.met.R.Row.numbered a.number a.count _ c.place.ensures e.blank c.in_err-p.was

pub returns : goal.returns
returns g c =
    let a = c.args in
    let m = g.R.Row in
    entry_found m.entry a.rows.now a.names.now (omega arith) (omega arith) g.R.Entry.Entry.number (λ row. m.number row % 4294967296) g.met.R.Row.numbered a.number a.count _ c.place.ensures c.in_ok-p.p _ c.in_ok-p.was c.index-rows-p.is _ c.entry.ensures
