-- Values as the steps use them: what is read where a value of the grammar stands.
use mathlib.Core.Path.{◌≡◌, refl, ap, ◌∙◌}
use Prim.Native.Nat.{ℕ, ◌+◌}
use mathlib.Core.List.{List}
use Rattle.std.specs.Prelude.{Some, option_map}
use Rattle.numbers.specs.Fields.{field_at}
use Rattle.amf0.specs.Grammar.{Value, number}
use Rattle.amf0.specs.Plain.{plain, plain_at}
use Rattle.amf0.specs.Showing.{Content, Standing, plain_shown, shown}
use Rattle.amf0.specs.declared.plain.Plain.TheVariants.{Bits}
use Rattle.amf0.specs.declared.value.Read.{Read}
use Rattle.amf0.proofs.ReadTheorems.{shows}

-- ---- where a value of the grammar stands
pub plain_stands : (v : Value) (s : List ℕ) (p : ℕ) → Standing s p v → plain_at s p ≡ Some (plain_shown v p)
unfolding plain_at
plain_stands v s p i =
    let h = shows v s i.rest i.bytes p i.spells i.here in
    ap (option_map (λ (r : Read). plain r.value (field_at 8 s (p + 1)))) h.case ∙ ap Some (same v h.content)
  where
    same : (x : Value) → Content s p x → plain (shown x p) (field_at 8 s (p + 1)) ≡ plain_shown x p
    same (number n) e = ap Bits e
    same x e = refl
