use mathlib.Core.Path.{◌≡◌}
use Prim.Native.Nat.{◌≤◌}
use lib.ListN.{drop}
use Rattle.tables.specs.Tables.{rises_from}
use Rattle.tables.proofs.table.rises.Given as goal

-- what is left decides
abbrev pub invariant-loop-e : goal.invariant-loop-e
invariant-loop-e g l =
    let m = g.E.Entry in
    (l.low ≤ 4294967296) × (rises_from m.number m.name l.next l.low (drop l.e-index l.entries) ≡ rises_from m.number m.name l.next 0 l.entries)
