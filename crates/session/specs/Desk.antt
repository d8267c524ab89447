-- What the decision of a message looks at: the session's facts, and the stream in question. So no decision can look at another stream.
use Rattle.text.specs.declared.ids.StreamId.{StreamId}
use Rattle.session.specs.State.{connected, stream_at}
use Rattle.session.specs.declared.desk.Desk.{Desk}
use Rattle.session.specs.declared.session.Session.{Session}

unfoldable pub desk_of : Session → StreamId → Desk
desk_of s x =
    record {
      connected = connected s;
      app = s.app;
      next_stream = s.next_stream;
      next_request = s.next_request;
      stream_count = s.stream_count;
      request_count = s.request_count;
      seen = stream_at s x;
    }
