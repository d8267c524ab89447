-- A session: what a start makes, what connected means, refusal 15, and its parts changed one at a time.
use Rattle.std.specs.Prelude.{ℕ, ◌+◌, ◌-◌, Bool, true, false, ◌&&◌, List, Option, eqb, leb, replicate, set, take}
use Rattle.numbers.specs.Choose.{pick}
use Rattle.text.specs.Names.{empty_name}
use Rattle.text.specs.declared.names.Name.{Name}
use Rattle.text.specs.declared.ids.RequestId.{RequestId}
use Rattle.text.specs.declared.ids.StreamId.{StreamId}
use Rattle.tables.specs.Entries.{no_request, no_stream, request_name, request_number, stream_name, stream_number}
use Rattle.tables.specs.Tables.{changed, look, removed, table_sound}
use Rattle.tables.specs.declared.requests.Request.{Request}
use Rattle.tables.specs.declared.streams.Stream.{Stream}
use Rattle.session.specs.declared.session.Session.{Session}
use Rattle.session.specs.declared.session.SessionState.{SessionState}
use Rattle.session.specs.declared.session.SessionState.TheVariants.{Started, Connected}

-- no app, no stream, no request; streams are numbered from 1
abbrev pub fresh_session : ℕ → Name → Session
fresh_session start version =
    record {
      start = start;
      version = version;
      state = Started;
      has_app = false;
      app = empty_name;
      encoding = 0;
      next_stream = 1;
      next_request = 0;
      stream_count = 0;
      request_count = 0;
      streams = replicate 16 no_stream;
      requests = replicate 16 no_request;
    }

-- "connected means that the state is Connected and an app is set"
abbrev pub connected_in : SessionState → Bool → Bool
connected_in Started app = false
connected_in Connected app = app

unfoldable pub connected : Session → Bool
connected s = connected_in s.state s.has_app

-- ---- "the session handed in has a name length over 128, a table count over its 16 places, a number twice in one table, or a number not below the next one": none of these

-- the app counts where one is set
abbrev pub app_fits : Bool → ℕ → Bool
app_fits app len = pick app (leb len 128) true

unfoldable pub session_sound : Session → Bool
session_sound s =
    leb s.version.len 128
    && (app_fits s.has_app s.app.len
    && (table_sound stream_number stream_name s.next_stream s.stream_count s.streams && table_sound request_number request_name s.next_request s.request_count s.requests))

-- ---- the stream, and the waiting request, of a number
abbrev pub stream_of : Session → ℕ → Option Stream
stream_of s x = look stream_number x (take s.stream_count s.streams)

abbrev pub request_of : Session → ℕ → Option Request
request_of s n = look request_number n (take s.request_count s.requests)

abbrev pub stream_at : Session → StreamId → Option Stream
stream_at s id = stream_of s id.0

abbrev pub request_at : Session → RequestId → Option Request
request_at s id = request_of s id.0

-- ---- one part changed
-- the number after one that was given; 4,294,967,295 never is
abbrev pub following : ℕ → ℕ
following n = pick (eqb n 4294967295) n (n + 1)

-- one more in a table; a full one has no place for it
abbrev pub one_more : ℕ → ℕ
one_more n = pick (leb 16 n) n (n + 1)

abbrev pub with_streams : Session → ℕ → ℕ → List Stream → Session
with_streams s next count streams =
    record {
      start = s.start;
      version = s.version;
      state = s.state;
      has_app = s.has_app;
      app = s.app;
      encoding = s.encoding;
      next_stream = next;
      next_request = s.next_request;
      stream_count = count;
      request_count = s.request_count;
      streams = streams;
      requests = s.requests;
    }

abbrev pub with_requests : Session → ℕ → ℕ → List Request → Session
with_requests s next count requests =
    record {
      start = s.start;
      version = s.version;
      state = s.state;
      has_app = s.has_app;
      app = s.app;
      encoding = s.encoding;
      next_stream = s.next_stream;
      next_request = next;
      stream_count = s.stream_count;
      request_count = count;
      streams = s.streams;
      requests = requests;
    }

-- a new stream under the next number; the stream of a number changed; or removed
unfoldable pub with_stream : Session → Stream → Session
with_stream s e = with_streams s (following s.next_stream) (one_more s.stream_count) (set s.streams s.stream_count e)

unfoldable pub with_changed : Session → Stream → Session
with_changed s e = with_streams s s.next_stream s.stream_count (changed stream_number e s.stream_count s.streams)

unfoldable pub without_stream : Session → ℕ → Session
without_stream s x = with_streams s s.next_stream (s.stream_count - 1) (removed stream_number no_stream x s.stream_count s.streams)

-- a request filed under the next number; or taken away
unfoldable pub with_request : Session → Request → Session
with_request s r = with_requests s (following s.next_request) (one_more s.request_count) (set s.requests s.request_count r)

unfoldable pub without_request : Session → ℕ → Session
without_request s n = with_requests s s.next_request (s.request_count - 1) (removed request_number no_request n s.request_count s.requests)

-- "sets the session's encoding"
abbrev pub with_encoding : Session → ℕ → Session
with_encoding s encoding =
    record {
      start = s.start;
      version = s.version;
      state = s.state;
      has_app = s.has_app;
      app = s.app;
      encoding = encoding;
      next_stream = s.next_stream;
      next_request = s.next_request;
      stream_count = s.stream_count;
      request_count = s.request_count;
      streams = s.streams;
      requests = s.requests;
    }

-- "Accepting a connect sets the app and Connected, which never ends."
abbrev pub connected_to : Session → Name → Session
connected_to s app =
    record {
      start = s.start;
      version = s.version;
      state = Connected;
      has_app = true;
      app = app;
      encoding = s.encoding;
      next_stream = s.next_stream;
      next_request = s.next_request;
      stream_count = s.stream_count;
      request_count = s.request_count;
      streams = s.streams;
      requests = s.requests;
    }
