-- Parts of record bodies that the code writes in one go.
use Rattle.std.specs.Prelude.{ℕ, List, [], ◌∷◌, ◌++◌}
use Rattle.text.specs.Words.{text}
use Rattle.amf0.specs.Grammar.{counted, none, number, object, property, string}
use Rattle.amf0.specs.Writing.{encode}
use Rattle.record.specs.Records.{status_object}
use Rattle.record.specs.Texts.{connect_success, connected_on, level_status}

-- a property's bytes
unfoldable pub string_pair : List ℕ → List ℕ → List ℕ
string_pair name t = counted 2 name ++ encode (string t)

-- a status object without its end mark
unfoldable pub open_status : List ℕ → List ℕ → List ℕ → List ℕ
open_status level code description = (0x03 ∷ []) ++ (string_pair (text "level") level ++ (string_pair (text "code") code ++ string_pair (text "description") description))

-- the command object of an accepted connect
unfoldable pub version_object : List ℕ → List ℕ
version_object version = encode (object (property (text "fmsVer") (string version) (property (text "capabilities") (number 0x403F000000000000) none)))

-- its status object
unfoldable pub connected_status : List ℕ → ℕ → List ℕ
connected_status app encoding = encode (object (status_object level_status connect_success (connected_on ++ app) (property (text "objectEncoding") (number encoding) none)))
