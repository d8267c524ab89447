-- "What kind 0A overwrites": one raw number of the session.
use Rattle.std.specs.Prelude.{ℕ, ◌%◌, List, eqb, get_or, set}
use Rattle.numbers.specs.Choose.{pick}
use Rattle.text.specs.declared.names.Name.{Name}
use Rattle.tables.specs.Entries.{unread_request, unread_stream}
use Rattle.tables.specs.declared.requests.Request.{Request}
use Rattle.tables.specs.declared.streams.Stream.{Stream}
use Rattle.session.specs.State.{with_requests, with_streams}
use Rattle.session.specs.declared.session.Session.{Session}

abbrev pub long_name : Name → ℕ → Name
long_name name len = record { bytes = name.bytes; len = len }

abbrev pub with_names : Session → Name → Name → Session
with_names s version app =
    record {
      start = s.start;
      version = version;
      state = s.state;
      has_app = s.has_app;
      app = app;
      encoding = s.encoding;
      next_stream = s.next_stream;
      next_request = s.next_request;
      stream_count = s.stream_count;
      request_count = s.request_count;
      streams = s.streams;
      requests = s.requests;
    }

abbrev pub stream_as : Stream → ℕ → Name → Stream
stream_as e id key = record { id = record { 0 = id }; state = e.state; mode = e.mode; key = key }

unfoldable pub numbered_stream : List Stream → ℕ → ℕ → List Stream
numbered_stream streams place n = let e = get_or streams place unread_stream in set streams place (stream_as e n e.key)

unfoldable pub keyed_stream : List Stream → ℕ → ℕ → List Stream
keyed_stream streams place n = let e = get_or streams place unread_stream in set streams place (stream_as e e.id.0 (long_name e.key n))

abbrev pub request_as : Request → ℕ → Name → Request
request_as e id name = record { id = record { 0 = id }; kind = e.kind; stream = e.stream; mode = e.mode; transaction = e.transaction; name = name }

unfoldable pub numbered_request : List Request → ℕ → ℕ → List Request
numbered_request requests place n = let e = get_or requests place unread_request in set requests place (request_as e n e.name)

unfoldable pub named_request : List Request → ℕ → ℕ → List Request
named_request requests place n = let e = get_or requests place unread_request in set requests place (request_as e e.id.0 (long_name e.name n))

-- "0 app's length; 1 server version's length; 2 count of streams; 3 count of requests; 4 stream's number; 5 stream's key length; 6 request's number; 7 request's name length; 8 next stream number; 9 next request number"
unfoldable pub damaged : Session → ℕ → ℕ → ℕ → Session
damaged s what place value =
    pick (eqb what 0) (with_names s s.version (long_name s.app value))
    (pick (eqb what 1) (with_names s (long_name s.version value) s.app)
    (pick (eqb what 2) (with_streams s s.next_stream value s.streams)
    (pick (eqb what 3) (with_requests s s.next_request value s.requests)
    (pick (eqb what 4) (with_streams s s.next_stream s.stream_count (numbered_stream s.streams (place % 16) value))
    (pick (eqb what 5) (with_streams s s.next_stream s.stream_count (keyed_stream s.streams (place % 16) value))
    (pick (eqb what 6) (with_requests s s.next_request s.request_count (numbered_request s.requests (place % 16) value))
    (pick (eqb what 7) (with_requests s s.next_request s.request_count (named_request s.requests (place % 16) value))
    (pick (eqb what 8) (with_streams s value s.stream_count s.streams)
    (pick (eqb what 9) (with_requests s value s.request_count s.requests) s)))))))))
