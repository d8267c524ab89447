-- What a data message wants.
use Rattle.std.specs.Prelude.{ℕ, Bool, ◌&&◌, List, Result, Ok, is_some}
use Rattle.numbers.specs.Choose.{pick}
use Rattle.text.specs.Words.{text}
use Rattle.amf0.specs.Bodies.{place_of}
use Rattle.metadata.specs.Reading.{metadata_at}
use Rattle.wishes.specs.Values.{says, value_of}
use Rattle.wishes.specs.Wish.{and_then, whole_body}
use Rattle.wishes.specs.declared.outcome.Refusal.{Refusal}
use Rattle.wishes.specs.declared.wish.Wish.{Wish}
use Rattle.wishes.specs.declared.wish.Wish.TheVariants.{Metadata, Nothing}

-- "strings `@setDataFrame`, `onMetaData` and a third value"
unfoldable pub sets_metadata : List ℕ → Bool
sets_metadata s = says s (value_of s 0) (text "@setDataFrame") && (says s (value_of s 1) (text "onMetaData") && is_some (value_of s 2))

-- "with empty metadata if the third value is no object. Else nothing."
unfoldable pub whole_data : List ℕ → Wish
whole_data s = pick (sets_metadata s) (Metadata (metadata_at s (place_of s 2))) Nothing

unfoldable pub data_wish : List ℕ → Result Wish Refusal
data_wish s = and_then (whole_body s) (Ok (whole_data s))
