use mathlib.Core.Path.{◌≡◌, ◌∙◌}
use native.Mathlib.Omega.{arith}
use Rattle.std.proofs.lemmas.Grind.{common_steps}
use Rattle.tables.specs.Tables.{has, sound}
use Rattle.tables.proofs.TablesLaws.{has_is_any}
use Rattle.tables.proofs.table.apart.Goals as goal
use Rattle.tables.proofs.table.apart.Goals.{then-name-gt128-via-then-name-gt128, then-name-gt128-via-else-name-gt128+then-next-number, then-name-gt128-via-else-name-gt128+else-next-number+then-has}

pub returns-then-name-gt128 : goal.returns-then-name-gt128
unfolding sound
returns-then-name-gt128 g c = elim c.then-name-gt128.branch [
  | then-name-gt128-via-then-name-gt128 w ↦ grind (arith, common_steps)
  | then-name-gt128-via-else-name-gt128+then-next-number w ↦ grind (arith, common_steps)
  | then-name-gt128-via-else-name-gt128+else-next-number+then-has w ↦
      let again : w.has.result ≡ has g.E.Entry.number c.number-number.result c.in-Some.later.now = w.has.ensures ∙ has_is_any _ _ _ in
      grind (arith, common_steps)
]

pub loop-e-preserved : goal.loop-e-preserved
unfolding sound
loop-e-preserved g c =
    let again : c.has.result ≡ has g.E.Entry.number c.number-number.result c.in-Some.later.now = c.has.ensures ∙ has_is_any _ _ _ in
    grind (arith, common_steps)
