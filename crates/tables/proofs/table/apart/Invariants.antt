use mathlib.Core.Path.{◌≡◌}
use lib.ListN.{length}
use Rattle.tables.specs.Tables.{sound}
use Rattle.tables.proofs.table.apart.Given as goal

-- what is left decides
abbrev pub invariant-loop-e : goal.invariant-loop-e
invariant-loop-e g l = let m = g.E.Entry in sound m.number m.name l.next l.rest ≡ sound m.number m.name l.next l.entries

abbrev pub decreases-loop-e : goal.decreases-loop-e
decreases-loop-e g l = length l.rest
