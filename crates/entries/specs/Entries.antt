-- "A trace is entries end to end; each is one byte of kind, then its fields." The bytes begin with the entry in question.
use Rattle.std.specs.Prelude.{ℕ, ◌+◌, Bool, true, false, ◌&&◌, List, Option, Some, None, eqb, leb, length}
use Rattle.std.specs.Option.{option_map_or}
use Rattle.numbers.specs.Choose.{pick}
use Rattle.numbers.specs.Fields.{field_at}
use Rattle.entries.specs.declared.kinds.Kind.{Kind}
use Rattle.entries.specs.declared.kinds.Kind.TheVariants.{Start, Message, Accept, Reject, Finish, Metadata, Media, Ping, State, Damage}

unfoldable pub kind_of : ℕ → Option Kind
kind_of n =
    pick (eqb n 1) (Some Start) (pick (eqb n 2) (Some Message) (pick (eqb n 3) (Some Accept) (pick (eqb n 4) (Some Reject) (pick (eqb n 5) (Some Finish)
    (pick (eqb n 6) (Some Metadata) (pick (eqb n 7) (Some Media) (pick (eqb n 8) (Some Ping) (pick (eqb n 9) (Some State) (pick (eqb n 10) (Some Damage) None)))))))))

abbrev pub kind_in : List ℕ → Option Kind
kind_in e = kind_of (field_at 1 e 0)

-- "n u16, code (n bytes), m u16, description (m bytes)"
unfoldable pub reject_length : List ℕ → ℕ
reject_length e = 21 + field_at 2 e 17 + field_at 2 e (19 + field_at 2 e 17)

-- the fields of each kind, one behind the other
abbrev pub length_of : Kind → List ℕ → ℕ
length_of Start e = 28 + field_at 2 e 26
length_of Message e = 26 + field_at 4 e 22
length_of Accept e = 17
length_of Reject e = reject_length e
length_of Finish e = 17
length_of Metadata e = 58 + field_at 2 e 56
length_of Media e = 19 + field_at 4 e 15
length_of Ping e = 13
length_of State e = 1
length_of Damage e = 7

-- of no kind it is 0
unfoldable pub entry_length : List ℕ → ℕ
entry_length e = option_map_or (λ k. length_of k e) (kind_in e) 0

abbrev pub room_at : Kind → List ℕ → ℕ
room_at Start e = field_at 4 e 22
room_at Message e = field_at 4 e 18
room_at Accept e = field_at 4 e 13
room_at Reject e = field_at 4 e 13
room_at Finish e = field_at 4 e 13
room_at Metadata e = field_at 4 e 13
room_at Media e = field_at 4 e 11
room_at Ping e = field_at 4 e 9
room_at State e = 0
room_at Damage e = 0

unfoldable pub room_of : List ℕ → ℕ
room_of e = option_map_or (λ k. room_at k e) (kind_in e) 0

-- "a flag byte (.., stereo) other than 0 and 1, .. a bit of `set` above bit 10"
unfoldable pub good_metadata : List ℕ → Bool
good_metadata e = leb (field_at 2 e 17) 2047 && leb (field_at 1 e 55) 1

-- "a media type other than 8 and 9", droppable, and the body
unfoldable pub good_media : List ℕ → Bool
good_media e = leb 8 (field_at 1 e 1) && (leb (field_at 1 e 1) 9 && (leb (field_at 1 e 10) 1 && leb (field_at 4 e 15) 65536))

-- "`body` is at most 65,536 bytes", a flag is 0 or 1, "a `what` above 9"
abbrev pub fields_good : Kind → List ℕ → Bool
fields_good Start e = leb (field_at 1 e 13) 1
fields_good Message e = leb (field_at 4 e 22) 65536
fields_good Accept e = true
fields_good Reject e = true
fields_good Finish e = true
fields_good Metadata e = good_metadata e
fields_good Media e = good_media e
fields_good Ping e = true
fields_good State e = true
fields_good Damage e = leb (field_at 1 e 1) 9

-- "a longer one, an unknown kind, a cut entry, a flag byte .. ends the run"; "`room` at most 66,560"
unfoldable pub good_entry : List ℕ → Bool
good_entry e = leb (entry_length e) (length e) && (leb (room_of e) 66560 && option_map_or (λ k. fields_good k e) (kind_in e) false)

-- "The first entry is a start (anything else is `bad trace at 1`)"
abbrev pub begins_trace : List ℕ → Bool
begins_trace e = eqb (field_at 1 e 0) 1
