-- A change made in the arrays themselves: one edit of a table, made alike to its rows and to its names. It leaves what `kept_at` says (proofs/AppliedTheorems).
use Rattle.std.specs.Prelude.{ℕ, suc, ◌-◌, ◌%◌, min, List, [], ◌∷◌, ◌++◌, eqb, ltb, get_or, set, take}
use Rattle.tables.specs.Entries.{no_request, no_stream}
use Rattle.numbers.specs.Choose.{pick}
use Rattle.tables.specs.Tables.{shifted}
use Rattle.session.specs.State.{following, one_more}
use Rattle.session.specs.declared.changes.Change.{Change}
use Rattle.session.specs.declared.changes.Effect.{Effect}
use Rattle.session.specs.declared.changes.Effect.TheVariants.{StreamMade, StreamSet, StreamRemoved, RequestFiled, ConnectFiled, ConnectAccepted, StreamAccepted, RequestRemoved}
use Rattle.image.specs.Image.{Arrays, cell, keys_of, titles_of}
use Rattle.written.specs.Kept.{blank_bytes, key_bytes, request_row, stream_row, title_bytes}
use Rattle.written.specs.declared.edits.Edit.{Edit}
use Rattle.written.specs.declared.edits.Edit.TheVariants.{Same, Add, Put, Cut}

-- the place of the first entry of a number, or how many there are
unfoldable pub place_in : {A : Type 0} → (A → ℕ) → ℕ → List A → ℕ
place_in number id [] = 0
place_in number id (x ∷ xs) = pick (eqb (number x) id) 0 (suc (place_in number id xs))

abbrev pub row_id : List ℕ → ℕ
row_id row = cell row 0 % 4294967296

-- of a list whose first n are in use: one more behind them; another one at p; without that at p, and a blank behind the later ones
abbrev pub edited : {A : Type 0} → A → Edit → ℕ → A → List A → List A
edited blank Same n x l = l
edited blank Add n x l = set l n x
edited blank (Put p) n x l = pick (ltb p n) (set l p x) l
edited blank (Cut p) n x l = pick (ltb p n) (shifted blank p n l) l

-- the edit of the streams, and of the requests; p is the place of the one in question
abbrev pub stream_edit : Effect → ℕ → Edit
stream_edit StreamMade p = Add
stream_edit StreamSet p = Put p
stream_edit StreamAccepted p = Put p
stream_edit StreamRemoved p = Cut p
stream_edit _ p = Same

abbrev pub request_edit : Effect → ℕ → Edit
request_edit RequestFiled p = Add
request_edit (ConnectFiled encoding) p = Add
request_edit ConnectAccepted p = Cut p
request_edit StreamAccepted p = Cut p
request_edit RequestRemoved p = Cut p
request_edit _ p = Same

-- the facts; len is the length of the request's name
abbrev pub one_stream_more : List ℕ → List ℕ
one_stream_more facts = set (set facts 6 (following (cell facts 6 % 4294967296))) 8 (one_more (cell facts 8))

abbrev pub one_request_more : List ℕ → List ℕ
one_request_more facts = set (set facts 7 (following (cell facts 7 % 4294967296))) 9 (one_more (cell facts 9))

abbrev pub one_request_less : List ℕ → List ℕ
one_request_less facts = set facts 9 (cell facts 9 - 1)

abbrev pub facts_after : Effect → ℕ → List ℕ → List ℕ
facts_after StreamMade len facts = one_stream_more facts
facts_after StreamRemoved len facts = set facts 8 (cell facts 8 - 1)
facts_after RequestFiled len facts = one_request_more facts
facts_after (ConnectFiled encoding) len facts = set (one_request_more facts) 5 encoding
facts_after ConnectAccepted len facts = set (set (set (one_request_less facts) 2 1) 3 1) 4 len
facts_after StreamAccepted len facts = one_request_less facts
facts_after RequestRemoved len facts = one_request_less facts
facts_after _ len facts = facts

-- the app's bytes: those of the request's name, or those that stood there
abbrev pub app_after : Effect → List ℕ → List ℕ → List ℕ
app_after ConnectAccepted bytes old = bytes
app_after _ bytes old = old

-- how many rows are in use, and the place of what a change is about
abbrev pub in_use : ℕ → ℕ
in_use count = min count 16

abbrev pub stream_place : Arrays → Change → ℕ
stream_place a c = place_in row_id c.stream.id.0 (take (in_use (cell a.0 8)) a.1.0)

abbrev pub request_place : Arrays → Change → ℕ
request_place a c = place_in row_id c.request.id.0 (take (in_use (cell a.0 9)) a.1.1.0)

abbrev pub names_after : List (List ℕ) → List ℕ → List (List ℕ) → List (List ℕ) → List (List ℕ)
names_after names app keys titles = get_or names 0 [] ∷ app ∷ (keys ++ titles)

abbrev pub edited_by : Edit → Edit → ℕ → ℕ → Arrays → Change → Arrays
edited_by e f n m a c = (
  facts_after c.effect c.request.name.len a.0,
  (
    edited (stream_row no_stream) e n (stream_row c.stream) a.1.0,
    (
      edited (request_row no_request) f m (request_row c.request) a.1.1.0,
      names_after a.1.1.1 (app_after c.effect (title_bytes c.request) (get_or a.1.1.1 1 [])) (edited blank_bytes e n (key_bytes c.stream) (keys_of a.1.1.1)) (edited blank_bytes f m (title_bytes c.request) (titles_of a.1.1.1)),
    ),
  ),
)

unfoldable pub applied_at : Arrays → Change → Arrays
applied_at a c = edited_by (stream_edit c.effect (stream_place a c)) (request_edit c.effect (request_place a c)) (in_use (cell a.0 8)) (in_use (cell a.0 9)) a c
