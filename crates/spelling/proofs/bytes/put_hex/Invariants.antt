use mathlib.Core.Path.{◌≡◌}
use lib.ListN.{drop}
use Rattle.spelling.specs.Text.{hex_of, put_all}
use Rattle.spelling.proofs.bytes.put_hex.Given as goal

abbrev pub invariant-loop-x : goal.invariant-loop-x
invariant-loop-x l = put_all (hex_of (drop l.x-index l.part)) (l.to, l.out) ≡ put_all (hex_of l.part) (l.at, l.initial.out)
