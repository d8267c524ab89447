-- A session as the four arrays, and what a call leaves in them: the facts of the next session, and its rows with their names, as many as were in use before or are now.
-- So a place that is freed is blank. Rows and names past both counts stay as they were.
use Rattle.std.specs.Prelude.{ℕ, max, List, [], ◌∷◌, ◌++◌, map, drop, length, take}
use Rattle.text.specs.Names.{empty_name}
use Rattle.tables.specs.declared.requests.Request.{Request}
use Rattle.tables.specs.declared.streams.Stream.{Stream}
use Rattle.session.specs.declared.session.Session.{Session}
use Rattle.image.specs.Cases.{flag_number, kind_number, mode_number, session_state_number, state_number}
use Rattle.image.specs.Image.{Arrays, cell, keys_of, titles_of}

abbrev pub stream_row : Stream → List ℕ
stream_row s = s.id.0 ∷ state_number s.state ∷ mode_number s.mode ∷ s.key.len ∷ []

abbrev pub request_row : Request → List ℕ
request_row r = r.id.0 ∷ kind_number r.kind ∷ r.stream.0 ∷ mode_number r.mode ∷ r.transaction ∷ r.name.len ∷ []

abbrev pub key_bytes : Stream → List ℕ
key_bytes s = s.key.bytes

abbrev pub title_bytes : Request → List ℕ
title_bytes r = r.name.bytes

-- the name of a blank entry
abbrev pub blank_bytes : List ℕ
blank_bytes = empty_name.bytes

abbrev pub facts_of : Session → List ℕ
facts_of s =
    s.start ∷ s.version.len ∷ session_state_number s.state ∷ flag_number s.has_app ∷ s.app.len ∷ s.encoding ∷ s.next_stream ∷ s.next_request ∷ s.stream_count ∷ s.request_count ∷ []

-- a whole session, its blank places too
unfoldable pub image_of : Session → Arrays
image_of s = (facts_of s, (map stream_row s.streams, (map request_row s.requests, s.version.bytes ∷ s.app.bytes ∷ (map key_bytes s.streams ++ map title_bytes s.requests))))

-- the first places written over
abbrev pub onto : {A : Type 0} → List A → List A → List A
onto new l = new ++ drop (length new) l

-- the entries that are written, where n were in use before
abbrev pub streams_of : ℕ → Session → List Stream
streams_of n s = take (max n s.stream_count) s.streams

abbrev pub requests_of : ℕ → Session → List Request
requests_of n s = take (max n s.request_count) s.requests

abbrev pub kept_over : ℕ → ℕ → Arrays → Session → Arrays
kept_over n m a s = (
  facts_of s,
  (
    onto (map stream_row (streams_of n s)) a.1.0,
    (
      onto (map request_row (requests_of m s)) a.1.1.0,
      s.version.bytes ∷ s.app.bytes ∷ (onto (map key_bytes (streams_of n s)) (keys_of a.1.1.1) ++ onto (map title_bytes (requests_of m s)) (titles_of a.1.1.1)),
    ),
  ),
)

unfoldable pub kept_at : Arrays → Session → Arrays
kept_at a s = kept_over (cell a.0 8) (cell a.0 9) a s
