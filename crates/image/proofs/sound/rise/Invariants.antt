use mathlib.Core.Path.{◌≡◌}
use Prim.Native.Nat.{◌≤◌}
use lib.ListN.{drop}
use Rattle.tables.specs.Tables.{rises_from}
use Rattle.image.proofs.sound.rise.Given as goal

-- what is left decides
abbrev pub invariant-loop-row : goal.invariant-loop-row
invariant-loop-row g l = let m = g.R.Row in (l.low ≤ 18446744073709551615) × (rises_from m.number m.weight l.next l.low (drop l.row-index l.rows) ≡ rises_from m.number m.weight l.next 0 l.rows)
