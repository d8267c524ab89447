-- "If a name occurs twice, the last one alone counts, whatever its type."
use Rattle.std.specs.Prelude.{ℕ, zero, suc, ◌+◌, ◌-◌, List, length, take, drop, Option, Some, None, option_map, Result, Ok}
use Rattle.std.specs.Result.{result_ok}
use Rattle.numbers.specs.Choose.{pick}
use Rattle.text.specs.Words.{same}
use Rattle.amf0.specs.Reading.{extent_at, name_at}
use Rattle.amf0.specs.Skipping.{Skip, skip_v}
use Rattle.amf0.specs.declared.error.BodyError.{BodyError}
use Rattle.amf0.specs.declared.value.Extent.{Extent}
use Rattle.amf0.specs.declared.value.Extent.TheVariants.{Pairs}
use Rattle.amf0.specs.declared.value.NameAt.{NameAt}
use Rattle.amf0.specs.declared.value.NameAt.TheVariants.{Value}

-- the name between i and its value at v is w: v, else what was found before
unfoldable pub better : List ℕ → List ℕ → ℕ → ℕ → Option ℕ → Option ℕ
better s w i v best = pick (same (take (v - (i + 2)) (drop (i + 2) s)) w) (Some v) best

-- a name's value, and the place behind it; f skips a value
abbrev pub pair_of : (ℕ → Skip) → Result NameAt BodyError → Option (ℕ × ℕ)
pair_of f (Ok (Value v)) = option_map (λ next. (v, next)) (result_ok (f v))
pair_of f x = None

-- the pair that begins at i, if a whole one does
unfoldable pub pair_at : (ℕ → Skip) → List ℕ → ℕ → Option (ℕ × ℕ)
pair_at f s i = pair_of f (name_at s i)

abbrev pub on_pair : Option (ℕ × ℕ) → (ℕ → ℕ → Option ℕ) → Option ℕ → Option ℕ
on_pair (Some p) go best = go p.0 p.1
on_pair None go best = best

-- among at most k pairs from i on, where `best` was found before them
unfoldable pub last_f : (ℕ → Skip) → List ℕ → List ℕ → ℕ → ℕ → Option ℕ → Option ℕ
last_f f s w zero i best = best
last_f f s w (suc k) i best = on_pair (pair_at f s i) (λ v next. last_f f s w k next (better s w i v best)) best

unfoldable pub last : List ℕ → List ℕ → ℕ → Option ℕ → Option ℕ
last s w i best = last_f (skip_v s 8) s w (length s) i best

-- "only 03 has properties"
abbrev pub inside : Result Extent BodyError → (ℕ → Option ℕ) → Option ℕ
inside (Ok (Pairs p)) go = go p
inside x go = None

-- where the value of the last property w of the value at `at` stands
unfoldable pub last_property : List ℕ → ℕ → List ℕ → Option ℕ
last_property s at w = inside (extent_at s at) (λ p. last s w p None)
