use native.Mathlib.Omega.{arith}
use mathlib.Core.Path.{◌≡◌, refl, ap, ◌∙◌}
use Prim.Native.Nat.{ℕ, ◌-◌}
use mathlib.Core.List.{[], ◌∷◌, ◌++◌, map}
use lib.ListN.{length, length-set, replicate, take}
use Rattle.std.specs.Prelude.{Option, is_some}
use Rattle.std.specs.Option.{unwrap_or}
use Rattle.image.specs.Cases.{flag_number}
use Rattle.parts.specs.Parts.{field_numbers, metadata_rows}
use Rattle.parts.proofs.PartsLaws.{filled}
use Rattle.parts.proofs.metadatas.metadata_rows.Goals as goal

pub loop-i-init : goal.loop-i-init
loop-i-init c = ((refl, refl), (refl, refl))

pub loop-i-preserved : goal.loop-i-preserved
unfolding field_numbers
loop-i-preserved c =
    let l = c.loop-i in
    let fields = c.field_numbers-fields.result in
    let long : length fields ≡ 11 = ap length c.field_numbers-fields.ensures in (
      (simp length-set l.invariant.0.0, filled (λ (n : Option ℕ). flag_number (is_some n)) fields 11 long l.i l.set _ l.invariant.0.1 c.loop-i-test.true _ (c.flag_number.ensures ∙ ap flag_number c.is_some.ensures)),
      (simp length-set l.invariant.1.0, filled (λ (n : Option ℕ). unwrap_or n 0) fields 11 long l.i l.values _ l.invariant.1.1 c.loop-i-test.true _ c.unwrap_or.ensures),
    )

pub returns : goal.returns
unfolding field_numbers metadata_rows
returns c =
    let l = c.loop-i in
    let all : l.i ≡ 11 = omega arith in
    let m = c.field_numbers-fields.ensures in
    λ i.
    (l.invariant.0.1 ∙ (λ j. map (λ (n : Option ℕ). flag_number (is_some n)) (take (all j) (m j)) ++ replicate (11 - all j) 0)) i
    ∷ (l.invariant.1.1 ∙ (λ j. map (λ (n : Option ℕ). unwrap_or n 0) (take (all j) (m j)) ++ replicate (11 - all j) 0)) i
    ∷ []
