use mathlib.Core.Path.{◌≡◌}
use lib.ListN.{drop}
use Rattle.spelling.specs.Text.{put_all}
use Rattle.spelling.proofs.bytes.put_word.Given as goal

abbrev pub invariant-loop-b : goal.invariant-loop-b
invariant-loop-b l = put_all (drop l.b-index l.word) (l.to, l.out) ≡ put_all l.word (l.at, l.initial.out)
