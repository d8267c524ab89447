-- What is kept in the arrays is read from them again.
use mathlib.Core.Path.{◌≡◌, refl, sym, ap, ◌∙◌}
use Prim.Native.Nat.{ℕ, ◌-◌, ◌≤◌, ◌<◌, max}
use native.Mathlib.Nat.{mod-eq_of_lt}
use native.Mathlib.Omega.{arith}
use mathlib.Core.Bool.{Bool, true, false}
use mathlib.Core.List.{List, [], ◌∷◌, ◌++◌, map, append_assoc}
use lib.Dec.{eqb, ltb}
use lib.ListN.{drop, length, length-append, length-drop, length-map, length-replicate, length-take, replicate, take, take-append-drop}
use lib.Seq.{take_all, take_at, take-take, drop_at}
use borrow.Author.Tests.{lt-ltb}
use Rattle.text.specs.declared.words.PublishMode.{PublishMode}
use Rattle.text.specs.declared.words.PublishMode.TheVariants.{Live, Append, Record}
use Rattle.tables.specs.Entries.{no_request, no_stream}
use Rattle.tables.specs.declared.requests.Request.{Request}
use Rattle.tables.specs.declared.requests.RequestKind.{RequestKind}
use Rattle.tables.specs.declared.requests.RequestKind.TheVariants.{Connect, Publish, Play}
use Rattle.tables.specs.declared.streams.Stream.{Stream}
use Rattle.tables.specs.declared.streams.StreamState.{StreamState}
use Rattle.tables.specs.declared.streams.StreamState.TheVariants.{Created, Publishing, Playing, Completed}
use Rattle.session.specs.State.{session_sound}
use Rattle.session.specs.declared.session.Session.{Session}
use Rattle.session.specs.declared.session.SessionState.{SessionState}
use Rattle.session.specs.declared.session.SessionState.TheVariants.{Started, Connected}
use Rattle.image.specs.Cases.{flag_number, kind_number, kind_of, mode_number, mode_of, session_state, session_state_number, state_number, state_of}
use Rattle.std.specs.List.{list_all}
use Rattle.image.specs.Image.{Arrays, cell, facts_readable, joined, keys_of, readable_at, request_of, request_readable, session_at, sound_at, stream_of, stream_readable, titles_of}
use Rattle.image.proofs.RowsLaws.{part_length}
use Rattle.written.specs.Kept.{kept_at, kept_over, key_bytes, onto, request_row, requests_of, stream_row, streams_of, title_bytes}
use Rattle.written.proofs.ColumnLaws.{map_append}

-- ---- each case
state_again : (y : StreamState) → state_of (state_number y) ≡ y
unfolding state_of
state_again Created = refl
state_again Publishing = refl
state_again Playing = refl
state_again Completed = refl

mode_again : (y : PublishMode) → mode_of (mode_number y) ≡ y
unfolding mode_of
mode_again Live = refl
mode_again Append = refl
mode_again Record = refl

kind_again : (y : RequestKind) → kind_of (kind_number y) ≡ y
unfolding kind_of
kind_again Connect = refl
kind_again Publish = refl
kind_again Play = refl

session_again : (y : SessionState) → session_state (session_state_number y) ≡ y
unfolding session_state
session_again Started = refl
session_again Connected = refl

flag_again : (b : Bool) → eqb (flag_number b) 1 ≡ b
flag_again true = refl
flag_again false = refl

-- ---- each entry, of numbers that are u32
abbrev pub Fits : ℕ → Type 0
Fits n = n < 4294967296

abbrev pub StreamFits : Stream → Type 0
StreamFits s = Fits s.id.0

abbrev pub RequestFits : Request → Type 0
RequestFits r = Fits r.id.0 × Fits r.stream.0

stream_again : (s : Stream) → StreamFits s → stream_of (stream_row s) (key_bytes s) ≡ s
stream_again s h = λ i. record { id = record { 0 = mod-eq_of_lt h i }; state = state_again s.state i; mode = mode_again s.mode i; key = s.key }

request_again : (r : Request) → RequestFits r → request_of (request_row r) (title_bytes r) ≡ r
request_again r h =
    λ i. record { id = record { 0 = mod-eq_of_lt h.0 i }; kind = kind_again r.kind i; stream = record { 0 = mod-eq_of_lt h.1 i }; mode = mode_again r.mode i; transaction = r.transaction; name = r.name }

state_small : (y : StreamState) → ltb (state_number y) 4 ≡ true
state_small Created = refl
state_small Publishing = refl
state_small Playing = refl
state_small Completed = refl

mode_small : (y : PublishMode) → ltb (mode_number y) 3 ≡ true
mode_small Live = refl
mode_small Append = refl
mode_small Record = refl

kind_small : (y : RequestKind) → ltb (kind_number y) 3 ≡ true
kind_small Connect = refl
kind_small Publish = refl
kind_small Play = refl

session_small : (y : SessionState) → ltb (session_state_number y) 2 ≡ true
session_small Started = refl
session_small Connected = refl

flag_small : (b : Bool) → ltb (flag_number b) 2 ≡ true
flag_small true = refl
flag_small false = refl

stream_reads : (s : Stream) → StreamFits s → stream_readable (stream_row s) ≡ true
unfolding stream_readable
stream_reads s h = simp (lt-ltb s.id.0 4294967296 h, state_small s.state, mode_small s.mode)

request_reads : (r : Request) → RequestFits r → request_readable (request_row r) ≡ true
unfolding request_readable
request_reads r h = simp (lt-ltb r.id.0 4294967296 h.0, kind_small r.kind, lt-ltb r.stream.0 4294967296 h.1, mode_small r.mode)

-- ---- all entries of a table
unfoldable pub All : {A : Type 0} → (A → Type 0) → List A → Type 0
All p [] = Unit
All p (x ∷ xs) = p x × All p xs

module _ {A : Type 0} (f : List ℕ → List ℕ → A) (row_of bytes_of : A → List ℕ) (readable : List ℕ → Bool) (fits : A → Type 0) (again : (x : A) → fits x → f (row_of x) (bytes_of x) ≡ x) (reads : (x : A) → fits x → readable (row_of x) ≡ true) where
  entries_again : (xs : List A) (us vs : List (List ℕ)) → All fits xs → take (length xs) (joined f (map row_of xs ++ us) (map bytes_of xs ++ vs)) ≡ xs
  unfolding joined All
  entries_again [] us vs h = refl
  entries_again (x ∷ xs) us vs h = λ i. again x h.0 i ∷ entries_again xs us vs h.1 i

  entries_readable : (xs : List A) (us : List (List ℕ)) → All fits xs → list_all readable (take (length xs) (map row_of xs ++ us)) ≡ true
  unfolding All
  entries_readable [] us h = refl
  entries_readable (x ∷ xs) us h = simp (reads x h.0) (entries_readable xs us h.1)

-- ---- a session with nothing past its counts, and what the types of its fields say
abbrev pub streams_in : Session → List Stream
streams_in s = take s.stream_count s.streams

abbrev pub requests_in : Session → List Request
requests_in s = take s.request_count s.requests

pub record Tidy (s : Session) : Type 0 where
  pub streams : s.streams ≡ streams_in s ++ replicate (16 - s.stream_count) no_stream
  pub requests : s.requests ≡ requests_in s ++ replicate (16 - s.request_count) no_request
  pub stream_count_fits : length (streams_in s) ≡ s.stream_count
  pub request_count_fits : length (requests_in s) ≡ s.request_count
  pub stream_places_lem : s.stream_count ≤ 16
  pub request_places_lem : s.request_count ≤ 16

pub record Typed (s : Session) : Type 0 where
  pub next_stream_fits : Fits s.next_stream
  pub next_request_fits : Fits s.next_request
  pub stream_numbers : All StreamFits (streams_in s)
  pub request_numbers : All RequestFits (requests_in s)

-- ---- what is written over a column: the entries in use stand in front, whatever follows
module _ {A B : Type 0} (g : A → B) where
  abbrev behind : ℕ → ℕ → List A → List B → List B
  behind c k xs l = map g (drop c (take k xs)) ++ drop (length (map g (take k xs))) l

  onto_front : (c k : ℕ) (xs : List A) (l : List B) → c ≤ k → onto (map g (take k xs)) l ≡ map g (take c xs) ++ behind c k xs l
  onto_front c k xs l h =
      ap (λ (t : List B). t ++ drop (length (map g (take k xs))) l) (ap (map g) (sym (take-append-drop c (take k xs)) ∙ ap (λ (t : List A). t ++ drop c (take k xs)) (take-take c k xs h)) ∙ map_append g (take c xs) (drop c (take k xs)))
      ∙ append_assoc (map g (take c xs)) (map g (drop c (take k xs))) (drop (length (map g (take k xs))) l)

  onto_length : (k : ℕ) (xs : List A) (l : List B) → length xs ≡ 16 → length l ≡ 16 → length (onto (map g (take k xs)) l) ≡ 16
  onto_length k xs l e h =
      omega (arith, length-append (map g (take k xs)) (drop (length (map g (take k xs))) l), length-drop (length (map g (take k xs))) l, length-map (take k xs) g, length-take k xs, e, h)

-- any n and m: how many rows were in use before
module _ (n m : ℕ) (a : Arrays) (names : length a.1.1.1 ≡ 34) (s : Session) (tidy : Tidy s) (typed : Typed s) where
  abbrev k : Arrays
  k = kept_over n m a s

  abbrev i : ℕ
  i = s.stream_count

  abbrev j : ℕ
  j = s.request_count

  abbrev keys : List (List ℕ)
  keys = onto (map key_bytes (streams_of n s)) (keys_of a.1.1.1)

  abbrev titles : List (List ℕ)
  titles = onto (map title_bytes (requests_of m s)) (titles_of a.1.1.1)

  all_streams : length s.streams ≡ 16
  all_streams = ap length tidy.streams ∙ omega (arith, length-append (streams_in s) (replicate (16 - i) no_stream), length-replicate (16 - i) no_stream, tidy.stream_count_fits, tidy.stream_places_lem)

  all_requests : length s.requests ≡ 16
  all_requests = ap length tidy.requests ∙ omega (arith, length-append (requests_in s) (replicate (16 - j) no_request), length-replicate (16 - j) no_request, tidy.request_count_fits, tidy.request_places_lem)

  keys_long : length keys ≡ 16
  keys_long = onto_length key_bytes (max n i) s.streams (keys_of a.1.1.1) all_streams (part_length 2 a.1.1.1 (omega (arith, names)))

  titles_long : length titles ≡ 16
  titles_long = onto_length title_bytes (max m j) s.requests (titles_of a.1.1.1) all_requests (part_length 18 a.1.1.1 (omega (arith, names)))

  keys_kept : keys_of k.1.1.1 ≡ keys
  keys_kept = take_at keys titles 16 keys_long

  titles_kept : titles_of k.1.1.1 ≡ titles
  titles_kept = ap (take 16) (drop_at keys titles 16 keys_long) ∙ take_all 16 titles (omega (arith, titles_long))

  stream_rows : k.1.0 ≡ map stream_row (streams_in s) ++ behind stream_row i (max n i) s.streams a.1.0
  stream_rows = onto_front stream_row i (max n i) s.streams a.1.0 (omega arith)

  request_rows : k.1.1.0 ≡ map request_row (requests_in s) ++ behind request_row j (max m j) s.requests a.1.1.0
  request_rows = onto_front request_row j (max m j) s.requests a.1.1.0 (omega arith)

  streams_again : take i (joined stream_of k.1.0 (keys_of k.1.1.1)) ++ replicate (16 - i) no_stream ≡ s.streams
  streams_again =
      (λ z. take (sym tidy.stream_count_fits z) (joined stream_of (stream_rows z) ((keys_kept ∙ onto_front key_bytes i (max n i) s.streams (keys_of a.1.1.1) (omega arith)) z)) ++ replicate (16 - i) no_stream)
      ∙ ap (λ (t : List Stream). t ++ replicate (16 - i) no_stream) (entries_again stream_of stream_row key_bytes stream_readable StreamFits stream_again stream_reads (streams_in s) _ _ typed.stream_numbers)
      ∙ sym tidy.streams

  requests_again : take j (joined request_of k.1.1.0 (titles_of k.1.1.1)) ++ replicate (16 - j) no_request ≡ s.requests
  requests_again =
      (λ z. take (sym tidy.request_count_fits z) (joined request_of (request_rows z) ((titles_kept ∙ onto_front title_bytes j (max m j) s.requests (titles_of a.1.1.1) (omega arith)) z)) ++ replicate (16 - j) no_request)
      ∙ ap (λ (t : List Request). t ++ replicate (16 - j) no_request) (entries_again request_of request_row title_bytes request_readable RequestFits request_again request_reads (requests_in s) _ _ typed.request_numbers)
      ∙ sym tidy.requests

  over_again : session_at k.0 k.1.0 k.1.1.0 k.1.1.1 ≡ s
  unfolding session_at
  over_again =
      λ z. record {
        start = s.start;
        version = s.version;
        state = session_again s.state z;
        has_app = flag_again s.has_app z;
        app = s.app;
        encoding = s.encoding;
        next_stream = mod-eq_of_lt typed.next_stream_fits z;
        next_request = mod-eq_of_lt typed.next_request_fits z;
        stream_count = i;
        request_count = j;
        streams = streams_again z;
        requests = requests_again z;
      }

  -- ---- and refusal 15 of what is kept is that of the session
  all_readable : readable_at k.0 k.1.0 k.1.1.0 ≡ true
  unfolding readable_at facts_readable
  all_readable =
      let x : list_all stream_readable (take i k.1.0) ≡ true =
      (λ z. list_all stream_readable (take (sym tidy.stream_count_fits z) (stream_rows z))) ∙ entries_readable stream_of stream_row key_bytes stream_readable StreamFits stream_again stream_reads (streams_in s) _ typed.stream_numbers in
      let y : list_all request_readable (take j k.1.1.0) ≡ true =
      (λ z. list_all request_readable (take (sym tidy.request_count_fits z) (request_rows z))) ∙ entries_readable request_of request_row title_bytes request_readable RequestFits request_again request_reads (requests_in s) _ typed.request_numbers in
      simp (session_small s.state, flag_small s.has_app, lt-ltb s.next_stream 4294967296 typed.next_stream_fits, lt-ltb s.next_request 4294967296 typed.next_request_fits, x, y)

  over_sound : sound_at k.0 k.1.0 k.1.1.0 k.1.1.1 ≡ session_sound s
  unfolding sound_at
  over_sound = simp all_readable (ap session_sound over_again)

module _ (a : Arrays) (names : length a.1.1.1 ≡ 34) (s : Session) (tidy : Tidy s) (typed : Typed s) where
  pub read_again : session_at (kept_at a s).0 (kept_at a s).1.0 (kept_at a s).1.1.0 (kept_at a s).1.1.1 ≡ s
  unfolding kept_at
  read_again = over_again (cell a.0 8) (cell a.0 9) a names s tidy typed

  pub kept_sound : sound_at (kept_at a s).0 (kept_at a s).1.0 (kept_at a s).1.1.0 (kept_at a s).1.1.1 ≡ session_sound s
  unfolding kept_at
  kept_sound = over_sound (cell a.0 8) (cell a.0 9) a names s tidy typed
