use native.Mathlib.Omega.{arith}
use mathlib.Core.Path.{sym, ◌∙◌}
use Prim.Native.Nat.{◌%◌}
use lib.ListN.{take}
use lib.Seq.{length-take-le}
use Rattle.written.proofs.EditsLaws.{place_is}
use Rattle.written.proofs.edits.place_of.Goals as goal

pub returns : goal.returns
returns g c =
    let a = c.args in
    c.unwrap_or.ensures ∙ place_is (λ row. g.R.Row.number row % 4294967296) a.id (take a.n a.rows.now) a.n (sym (length-take-le a.n a.rows.now (omega arith))) _ c.place.ensures
