-- A session in four arrays: ten facts, sixteen rows of four for the streams, sixteen rows of six for the requests, and
-- thirty-four names of 128 bytes: the version, the app, the streams' keys, the requests' names.
use Rattle.std.specs.Prelude.{◌≡◌, ℕ, ◌-◌, ◌%◌, Bool, ◌&&◌, List, [], ◌∷◌, ◌++◌, eqb, ltb, drop, get_or, length, replicate, take}
use Rattle.std.specs.List.{list_all}
use Rattle.tables.specs.Entries.{no_request, no_stream}
use Rattle.tables.specs.declared.requests.Request.{Request}
use Rattle.tables.specs.declared.streams.Stream.{Stream}
use Rattle.session.specs.State.{session_sound}
use Rattle.session.specs.declared.session.Session.{Session}
use Rattle.image.specs.declared.shape.Image.{Image as Lent}
use Rattle.image.specs.Cases.{kind_of, mode_of, session_state, state_of}

-- the k-th number of a row
abbrev pub cell : List ℕ → ℕ → ℕ
cell row k = get_or row k 0

-- ---- from the arrays to a session
-- a row of a stream: number, state, mode, the key's length
abbrev pub stream_of : List ℕ → List ℕ → Stream
stream_of row bytes = record { id = record { 0 = cell row 0 % 4294967296 }; state = state_of (cell row 1); mode = mode_of (cell row 2); key = record { bytes = bytes; len = cell row 3 } }

-- a row of a request: number, kind, stream, mode, transaction, the name's length
abbrev pub request_of : List ℕ → List ℕ → Request
request_of row bytes =
    record {
      id = record { 0 = cell row 0 % 4294967296 };
      kind = kind_of (cell row 1);
      stream = record { 0 = cell row 2 % 4294967296 };
      mode = mode_of (cell row 3);
      transaction = cell row 4;
      name = record { bytes = bytes; len = cell row 5 };
    }

-- row by row, each with its name
unfoldable pub joined : {R A : Type 0} → (R → List ℕ → A) → List R → List (List ℕ) → List A
joined f [] names = []
joined f (r ∷ rows) [] = []
joined f (r ∷ rows) (n ∷ names) = f r n ∷ joined f rows names

abbrev pub keys_of : List (List ℕ) → List (List ℕ)
keys_of names = take 16 (drop 2 names)

abbrev pub titles_of : List (List ℕ) → List (List ℕ)
titles_of names = take 16 (drop 18 names)

-- the entries in use; a place past them is not read, and blank in the session
abbrev pub used_streams : ℕ → List (List ℕ) → List (List ℕ) → List Stream
used_streams n rows names = take n (joined stream_of rows (keys_of names))

abbrev pub used_requests : ℕ → List (List ℕ) → List (List ℕ) → List Request
used_requests n rows names = take n (joined request_of rows (titles_of names))

abbrev pub streams_at : ℕ → List (List ℕ) → List (List ℕ) → List Stream
streams_at n rows names = used_streams n rows names ++ replicate (16 - n) no_stream

abbrev pub requests_at : ℕ → List (List ℕ) → List (List ℕ) → List Request
requests_at n rows names = used_requests n rows names ++ replicate (16 - n) no_request

-- the facts: start, the version's length, state, whether an app is set, its length, encoding, the next stream's number, the next request's, how many streams, how many requests
unfoldable pub session_at : List ℕ → List (List ℕ) → List (List ℕ) → List (List ℕ) → Session
session_at facts streams requests names =
    record {
      start = cell facts 0;
      version = record { bytes = get_or names 0 []; len = cell facts 1 };
      state = session_state (cell facts 2);
      has_app = eqb (cell facts 3) 1;
      app = record { bytes = get_or names 1 []; len = cell facts 4 };
      encoding = cell facts 5;
      next_stream = cell facts 6 % 4294967296;
      next_request = cell facts 7 % 4294967296;
      stream_count = cell facts 8;
      request_count = cell facts 9;
      streams = streams_at (cell facts 8) streams names;
      requests = requests_at (cell facts 9) requests names;
    }

-- the same of arrays that are lent
abbrev pub session_read : Lent → Session
session_read a = session_at a.facts.now a.streams.now a.requests.now a.names.now

-- ---- whether each number names a case or fits its 32 bits, in the facts and in the rows in use
abbrev pub fits32 : ℕ → Bool
fits32 n = ltb n 4294967296

unfoldable pub stream_readable : List ℕ → Bool
stream_readable row = fits32 (cell row 0) && (ltb (cell row 1) 4 && ltb (cell row 2) 3)

unfoldable pub request_readable : List ℕ → Bool
request_readable row = fits32 (cell row 0) && (ltb (cell row 1) 3 && (fits32 (cell row 2) && ltb (cell row 3) 3))

unfoldable pub facts_readable : List ℕ → Bool
facts_readable facts = ltb (cell facts 2) 2 && (ltb (cell facts 3) 2 && (fits32 (cell facts 6) && fits32 (cell facts 7)))

unfoldable pub readable_at : List ℕ → List (List ℕ) → List (List ℕ) → Bool
readable_at facts streams requests = facts_readable facts && (list_all stream_readable (take (cell facts 8) streams) && list_all request_readable (take (cell facts 9) requests))

-- refusal 15 of the arrays: a number that names nothing, or a session that does not pass its tests
unfoldable pub sound_at : List ℕ → List (List ℕ) → List (List ℕ) → List (List ℕ) → Bool
sound_at facts streams requests names = readable_at facts streams requests && session_sound (session_at facts streams requests names)

-- ---- the four arrays, and what their types say of them
abbrev pub Arrays : Type 0
Arrays = List ℕ × (List (List ℕ) × (List (List ℕ) × List (List ℕ)))

unfoldable pub Wide : ℕ → List (List ℕ) → Type 0
Wide k [] = Unit
Wide k (r ∷ rows) = (length r ≡ k) × Wide k rows

pub record Shaped (facts : List ℕ) (streams requests names : List (List ℕ)) : Type 0 where
  pub ten : length facts ≡ 10
  pub sixteen_streams : length streams ≡ 16
  pub sixteen_requests : length requests ≡ 16
  pub thirty_four : length names ≡ 34
  pub four_wide : Wide 4 streams
  pub six_wide : Wide 6 requests
