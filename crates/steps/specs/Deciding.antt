-- What a session makes of a wish; x is the message's stream.
use Rattle.std.specs.Prelude.{Some, Result, Ok, Err}
use Rattle.text.specs.Names.{empty_name}
use Rattle.text.specs.declared.ids.StreamId.{StreamId}
use Rattle.metadata.specs.Metadata.{no_metadata}
use Rattle.wishes.specs.declared.outcome.Refusal.{Refusal}
use Rattle.wishes.specs.declared.wish.Wish.{Wish}
use Rattle.wishes.specs.declared.wish.Wish.TheVariants.{Nothing, Connect, CreateStream, CloseStream, DeleteStream, Publish, Play, Metadata, PingRequest, PingResponse}
use Rattle.session.specs.Changes.{no_change}
use Rattle.session.specs.Decisions.{nothing, raising, refusing, replying}
use Rattle.session.specs.declared.decision.Decision.{Decision}
use Rattle.session.specs.declared.decision.Event.TheVariants.{PingResponseReceived}
use Rattle.session.specs.declared.decision.Reply.TheVariants.{PingResponse as Pong}
use Rattle.session.specs.Desk.{desk_of}
use Rattle.session.specs.declared.desk.Desk.{Desk}
use Rattle.session.specs.declared.session.Session.{Session}
use Rattle.streams.specs.Streams.{change_metadata, close_stream, create_stream, delete_stream}
use Rattle.steps.specs.Commands.{connect, play, publish}

-- the stream in question: "closeStream, deleteStream: .. the first argument", all others go by the message's stream
abbrev pub subject_of : Wish → StreamId → StreamId
subject_of Nothing x = x
subject_of (Connect transaction encoding app) x = x
subject_of (CreateStream transaction) x = x
subject_of (CloseStream id) x = id
subject_of (DeleteStream id) x = id
subject_of (Publish transaction arguments) x = x
subject_of (Play transaction arguments) x = x
subject_of (Metadata read) x = x
subject_of (PingRequest v) x = x
subject_of (PingResponse v) x = x

-- and of what was read of a message
abbrev pub subject_read : Result Wish Refusal → StreamId → StreamId
subject_read (Ok w) x = subject_of w x
subject_read (Err r) x = x

-- of a wish, with the stream in question at hand
-- "event 6 is answered by event 7 with the same four bytes; 7 raises PingResponseReceived; others nothing"
unfoldable pub decide : Desk → StreamId → Wish → Decision
decide d x Nothing = nothing
decide d x (Connect transaction encoding app) = connect d transaction encoding app
decide d x (CreateStream transaction) = create_stream d transaction
decide d x (CloseStream id) = close_stream d
decide d x (DeleteStream id) = delete_stream d
decide d x (Publish transaction arguments) = publish d x transaction arguments
decide d x (Play transaction arguments) = play d x transaction arguments
decide d x (Metadata read) = change_metadata d read
decide d x (PingRequest v) = replying (Pong v) empty_name no_change
decide d x (PingResponse v) = raising (Some (PingResponseReceived v)) empty_name empty_name no_metadata no_change

-- of what was read of a message, with the stream in question at hand
abbrev pub decide_read : Desk → StreamId → Result Wish Refusal → Decision
decide_read d x (Ok w) = decide d x w
decide_read d x (Err r) = refusing r

unfoldable pub decided : Session → StreamId → Result Wish Refusal → Decision
decided s x read = decide_read (desk_of s (subject_read read x)) x read
