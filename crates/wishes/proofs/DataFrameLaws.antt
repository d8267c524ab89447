-- A data message's metadata.
use mathlib.Core.Path.{◌≡◌, ap, ◌∙◌}
use Prim.Native.Nat.{ℕ}
use mathlib.Core.Bool.{true}
use mathlib.Core.List.{List}
use Rattle.std.specs.Prelude.{Result}
use Rattle.amf0.specs.Bodies.{place_of}
use Rattle.metadata.specs.Reading.{metadata_at}
use Rattle.metadata.specs.declared.metadata.StreamMetadata.{StreamMetadata}
use Rattle.metadata.specs.declared.reading.LongEncoder.{LongEncoder}
use Rattle.wishes.specs.DataFrame.{sets_metadata, whole_data}
use Rattle.wishes.specs.declared.wish.Wish.{Wish}
use Rattle.wishes.specs.declared.wish.Wish.TheVariants.{Metadata}

-- what is read from the place of a third value is what is read of it
pub metadata_read : (s : List ℕ) (p : ℕ) (r : Result StreamMetadata LongEncoder) → r ≡ metadata_at s p → p ≡ place_of s 2 → ◌≡◌ {A = Wish} (Metadata r) (Metadata (metadata_at s (place_of s 2)))
metadata_read s p r e f = ap (λ (q : Result StreamMetadata LongEncoder). Metadata q) (e ∙ ap (metadata_at s) f)

-- where a message sets metadata, it wants those that are read from its third value
pub metadata_wanted : (s : List ℕ) (p : ℕ) (r : Result StreamMetadata LongEncoder) → sets_metadata s ≡ true → r ≡ metadata_at s p → p ≡ place_of s 2 → Metadata r ≡ whole_data s
unfolding whole_data
metadata_wanted s p r h e f = metadata_read s p r e f ∙ simp h
