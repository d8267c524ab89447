-- Texts as lists of bytes, and which of some fixed words a text is.
use Rattle.std.specs.Prelude.{ℕ, Bool, true, false, ◌&&◌, List, [], ◌∷◌, eqb, Option, Some, None}
use Prim.Native.Char.{code}
use Prim.Native.String.{String, [] as empty, ◌∷◌ as ◌then◌}
use Rattle.numbers.specs.Choose.{pick}
use Rattle.text.specs.declared.words.Command.{Command}
use Rattle.text.specs.declared.words.Command.TheVariants.{Connect, CreateStream, CloseStream, DeleteStream, Publish, Play, Other}
use Rattle.text.specs.declared.words.PublishMode.{PublishMode}
use Rattle.text.specs.declared.words.PublishMode.TheVariants.{Live, Append, Record}

-- the bytes of a text of characters below 128
abbrev pub text : String → List ℕ
text empty = []
text (c then s) = code c ∷ text s

-- whether two texts are the same bytes
unfoldable pub same : List ℕ → List ℕ → Bool
same [] [] = true
same [] (y ∷ ys) = false
same (x ∷ xs) [] = false
same (x ∷ xs) (y ∷ ys) = eqb x y && same xs ys

-- which of these words it is: what stands beside the first one that s is, or `other`
unfoldable pub which : {X : Type 0} → List (List ℕ × X) → X → List ℕ → X
which [] other s = other
which ((w, x) ∷ ws) other s = pick (same s w) x (which ws other s)

-- "Commands known: `connect`, `createStream`, `closeStream`, `deleteStream`, `publish`, `play`; others do nothing."
abbrev pub command_of : List ℕ → Command
command_of =
    which
    ((text "connect", Connect)
    ∷ (text "createStream", CreateStream)
    ∷ (text "closeStream", CloseStream)
    ∷ (text "deleteStream", DeleteStream)
    ∷ (text "publish", Publish)
    ∷ (text "play", Play)
    ∷ [])
    Other

-- "mode one of live, append, record"
abbrev pub mode_of : List ℕ → Option PublishMode
mode_of = which ((text "live", Some Live) ∷ (text "append", Some Append) ∷ (text "record", Some Record) ∷ []) None
