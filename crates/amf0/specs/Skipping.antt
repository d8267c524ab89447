-- Where a value ends, left to right, the first fault deciding: "2 or 3, whichever byte is further left".
use Rattle.std.specs.Prelude.{ℕ, zero, suc, List, length, Result, Ok, Err}
use Rattle.numbers.specs.Fields.{field_at}
use Rattle.amf0.specs.Reading.{extent_at, name_at, past, within}
use Rattle.amf0.specs.declared.error.BodyError.{BodyError}
use Rattle.amf0.specs.declared.error.BodyError.TheVariants.{NotAmf0, TooDeep}
use Rattle.amf0.specs.declared.value.Extent.{Extent}
use Rattle.amf0.specs.declared.value.Extent.TheVariants.{Ends, Pairs, CountedPairs, Values}
use Rattle.amf0.specs.declared.value.NameAt.{NameAt}
use Rattle.amf0.specs.declared.value.NameAt.TheVariants.{End, Value}

-- the place behind what is skipped, or why the body is refused
abbrev pub Skip : Type 0
Skip = Result ℕ BodyError

abbrev pub after_value : Skip → (ℕ → Skip) → Skip
after_value (Ok a) go = go a
after_value (Err e) go = Err e

abbrev pub after_name : Result NameAt BodyError → (ℕ → Skip) → (ℕ → Skip) → Skip
after_name (Ok (End n)) f go = Ok n
after_name (Ok (Value a)) f go = after_value (f a) go
after_name (Err e) f go = Err e

-- "pairs of name and value, then 00 00 09": at most k pairs from i on; f skips a value
unfoldable pub pairs_f : (ℕ → Skip) → List ℕ → ℕ → ℕ → Skip
pairs_f f s zero i = Err NotAmf0
pairs_f f s (suc k) i = after_name (name_at s i) f (pairs_f f s k)

-- a pair takes three bytes at least, so a body has no more pairs than bytes
abbrev pub pairs : (ℕ → Skip) → List ℕ → ℕ → Skip
pairs f s i = pairs_f f s (length s) i

-- k values from i on; f skips a value
unfoldable pub values_f : (ℕ → Skip) → ℕ → ℕ → Skip
values_f f zero i = Ok i
values_f f (suc k) i = after_value (f i) (values_f f k)

-- "strict array (0A, u32 count, values)"
abbrev pub strict : (ℕ → Skip) → List ℕ → ℕ → Skip
strict f s p = within (past s p 4) (values_f f (field_at 4 s p))

-- "ECMA array (08, u32 count that is not trusted, pairs, 00 00 09)"
abbrev pub array : (ℕ → Skip) → List ℕ → ℕ → Skip
array f s p = within (past s p 4) (pairs f s)

-- "a container (03, 08, 0A) lies inside eight others": where none may follow, its marker alone decides
abbrev pub shut : Result Extent BodyError → Skip
shut (Ok (Ends n)) = Ok n
shut (Ok x) = Err TooDeep
shut (Err e) = Err e

abbrev pub opened : (ℕ → Skip) → List ℕ → Result Extent BodyError → Skip
opened f s (Ok (Ends n)) = Ok n
opened f s (Ok (Pairs p)) = pairs f s p
opened f s (Ok (CountedPairs p)) = array f s p
opened f s (Ok (Values p)) = strict f s p
opened f s (Err e) = Err e

-- the value at `at`, where containers may still nest `left` deep
unfoldable pub skip_v : List ℕ → ℕ → ℕ → Skip
skip_v s zero at = shut (extent_at s at)
skip_v s (suc left) at = opened (skip_v s left) s (extent_at s at)
