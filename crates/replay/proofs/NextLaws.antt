-- An entry that may stand there is played.
use mathlib.Core.Path.{◌≡◌, sym, ap, ◌∙◌}
use Prim.Native.Nat.{ℕ}
use mathlib.Core.Bool.{Bool, true}
use mathlib.Core.List.{List}
use lib.ListN.{take}
use Rattle.session.specs.declared.session.Session.{Session}
use Rattle.entries.specs.Entries.{entry_length}
use Rattle.plays.specs.declared.turns.Turn.{Turn}
use Rattle.replay.specs.Replay.{played}
use Rattle.replay.specs.Next.{going, may_stand, next_played}
use Rattle.replay.specs.declared.next.Next.{Next}

module _ (s : Session) (rest : List ℕ) (entry space : ℕ) (line : List ℕ) (b : Bool) (e : b ≡ may_stand entry rest) where
  pub good_is : b ≡ true → (n : ℕ) → n ≡ entry_length rest → (t : Turn) (l x : List ℕ) → x ≡ take n rest → ◌≡◌ {A = Turn × List ℕ} (t, l) (played s x space line)
      → ◌≡◌ {A = Next × List ℕ} (record { more = true; session = t.session; taken = n; count = t.count }, l) (next_played s rest entry space line)
  unfolding next_played
  good_is q n k t l x w p =
      let z : may_stand entry rest ≡ true = sym e ∙ q in
      ap (going n) (p ∙ ap (λ (y : List ℕ). played s y space line) w) ∙ ap (λ (j : ℕ). going j (played s (take j rest) space line)) k ∙ simp z
