-- createStream, closeStream, deleteStream, metadata, audio and video.
use Rattle.std.specs.Prelude.{ℕ, Option, Some, None, Result, Ok, Err, eqb, leb}
use Rattle.std.specs.Option.{option_and_then}
use Rattle.numbers.specs.Choose.{pick}
use Rattle.text.specs.Names.{empty_name}
use Rattle.text.specs.declared.ids.StreamId.{StreamId}
use Rattle.text.specs.declared.names.Name.{Name}
use Rattle.text.specs.declared.words.PublishMode.TheVariants.{Live}
use Rattle.metadata.specs.Metadata.{no_metadata}
use Rattle.metadata.specs.declared.metadata.StreamMetadata.{StreamMetadata}
use Rattle.tables.specs.declared.streams.Stream.{Stream}
use Rattle.tables.specs.declared.streams.StreamState.{StreamState}
use Rattle.tables.specs.declared.streams.StreamState.TheVariants.{Created, Publishing, Playing, Completed}
use Rattle.metadata.specs.declared.reading.LongEncoder.{LongEncoder}
use Rattle.wishes.specs.declared.outcome.Refusal.TheVariants.{NameTooLong, NumbersUsedUp, StreamsFull}
use Rattle.session.specs.Changes.{making, no_change, removing, setting}
use Rattle.session.specs.Decisions.{nothing, quietly, raising, refusing, replying}
use Rattle.session.specs.State.{connected, stream_of}
use Rattle.session.specs.declared.changes.Change.{Change}
use Rattle.session.specs.declared.decision.Decision.{Decision}
use Rattle.session.specs.declared.decision.Event.{Event}
use Rattle.session.specs.declared.decision.Event.TheVariants.{PublishStreamFinished, PlayStreamFinished, StreamMetadataChanged}
use Rattle.session.specs.declared.decision.Reply.TheVariants.{StreamCreated}
use Rattle.session.specs.declared.desk.Desk.{Desk}
use Rattle.session.specs.declared.session.Session.{Session}
use Rattle.streams.specs.declared.streams.Frame.{Frame}

-- a new stream, and what a close leaves
abbrev pub created : StreamId → Stream
created id = record { id = id; state = Created; mode = Live; key = empty_name }

abbrev pub following_stream : Desk → StreamId
following_stream d = record { 0 = d.next_stream }

-- "createStream: connected or not, makes the next number, from 1, state Created; answers _result, the transaction, null, the number, on stream 0."
-- 8: "the number to be given to a new request or stream would be 4,294,967,295". 9: "a stream is to be made and 16 exist already"
unfoldable pub create_stream : Desk → ℕ → Decision
create_stream d transaction =
    pick (eqb d.next_stream 4294967295) (refusing NumbersUsedUp)
    (pick (leb 16 d.stream_count) (refusing StreamsFull)
    (replying (StreamCreated transaction (following_stream d)) empty_name (making (created (following_stream d)))))

-- ---- what happens where a connected session has the stream, and nothing where not
abbrev pub known : Desk → Option Stream
known d = pick d.connected d.seen None

abbrev pub on_known : Option Stream → (Stream → Decision) → Decision
on_known (Some e) f = f e
on_known None f = nothing

unfoldable pub on_stream : Desk → (Stream → Decision) → Decision
on_stream d f = on_known (known d) f

-- "Publishing or Playing raises PublishStreamFinished or PlayStreamFinished."
abbrev pub ended : StreamState → Name → Name → Change → Decision
ended Created app key c = quietly c
ended Publishing app key c = raising (Some PublishStreamFinished) app key no_metadata c
ended Playing app key c = raising (Some PlayStreamFinished) app key no_metadata c
ended Completed app key c = quietly c

-- "closeStream, deleteStream: nothing unless connected and the first argument is a number whose u32 names a stream." "Close then leaves Created; delete removes."
abbrev pub close_stream : Desk → Decision
close_stream d = on_stream d (λ (e : Stream). ended e.state d.app e.key (setting (created e.id)))

abbrev pub delete_stream : Desk → Decision
delete_stream d = on_stream d (λ (e : Stream). ended e.state d.app e.key (removing e))

-- "connected, stream Publishing: StreamMetadataChanged"; 6 only where the event would be raised
abbrev pub described : StreamState → Name → Name → Result StreamMetadata LongEncoder → Decision
described Created app key read = nothing
described Publishing app key (Ok m) = raising (Some StreamMetadataChanged) app key m no_change
described Publishing app key (Err e) = refusing NameTooLong
described Playing app key read = nothing
described Completed app key read = nothing

abbrev pub change_metadata : Desk → Result StreamMetadata LongEncoder → Decision
change_metadata d read = on_stream d (λ (e : Stream). described e.state d.app e.key read)

-- ---- "audio, video: connected and Publishing raises the event with app, key and timestamp; its data is the body. Else nothing."
abbrev pub shown : StreamState → Option Event → Name → Name → Option Frame
shown Created event app key = None
shown Publishing event app key = Some (record { event = event; app = app; key = key })
shown Playing event app key = None
shown Completed event app key = None

abbrev pub shown_found : Option Event → Name → Stream → Option Frame
shown_found event app e = shown e.state event app e.key

unfoldable pub frame_of : Session → StreamId → Option Event → Option Frame
frame_of s id event = pick (connected s) (option_and_then (shown_found event s.app) (stream_of s id.0)) None
