use mathlib.Core.Path.{◌≡◌}
use Prim.Native.Nat.{ℕ, ◌-◌}
use mathlib.Core.List.{◌++◌, map}
use lib.ListN.{length, replicate, take}
use Rattle.std.specs.Prelude.{Option, is_some}
use Rattle.std.specs.Option.{unwrap_or}
use Rattle.image.specs.Cases.{flag_number}
use Rattle.parts.proofs.metadatas.metadata_rows.Given as goal

abbrev pub invariant-loop-i : goal.invariant-loop-i
invariant-loop-i l =
    ((length l.set ≡ 11) × (l.set ≡ map (λ (n : Option ℕ). flag_number (is_some n)) (take l.i l.fields) ++ replicate (11 - l.i) 0))
    × ((length l.values ≡ 11) × (l.values ≡ map (λ (n : Option ℕ). unwrap_or n 0) (take l.i l.fields) ++ replicate (11 - l.i) 0))
