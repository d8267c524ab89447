-- "Every refusal leaves session and out buffer unchanged and raises nothing; only 11 from an accept removes the request."
use mathlib.Core.Path.{refl}
use Prim.Native.Nat.{ℕ}
use mathlib.Core.Bool.{Bool, true, false}
use lib.Dec.{eqb, leb}
use Rattle.numbers.specs.Choose.{pick}
use Rattle.text.specs.declared.ids.StreamId.{StreamId}
use Rattle.text.specs.declared.names.Name.{Name}
use Rattle.std.specs.Prelude.{Option, Some, None, Result, Ok, Err}
use Rattle.metadata.specs.declared.metadata.StreamMetadata.{StreamMetadata}
use Rattle.metadata.specs.declared.reading.LongEncoder.{LongEncoder}
use Rattle.tables.specs.declared.streams.Stream.{Stream}
use Rattle.tables.specs.declared.streams.StreamState.{StreamState}
use Rattle.tables.specs.declared.streams.StreamState.TheVariants.{Created, Publishing, Playing, Completed}
use Rattle.wishes.specs.declared.outcome.Refusal.{Refusal}
use Rattle.wishes.specs.declared.outcome.Refusal.TheVariants.{NameTooLong, NumbersUsedUp, StreamsFull}
use Rattle.wishes.specs.declared.wish.PlayArguments.{PlayArguments}
use Rattle.wishes.specs.declared.wish.PlayFault.{PlayFault}
use Rattle.wishes.specs.declared.wish.PublishArguments.{PublishArguments}
use Rattle.wishes.specs.declared.wish.PublishFault.{PublishFault}
use Rattle.wishes.specs.declared.wish.Wish.{Wish}
use Rattle.wishes.specs.declared.wish.Wish.TheVariants.{Nothing, Connect, CreateStream, CloseStream, DeleteStream, Publish, Play, Metadata, PingRequest, PingResponse}
use Rattle.session.specs.declared.decision.Decision.{Decision}
use Rattle.session.specs.Desk.{desk_of}
use Rattle.session.specs.declared.changes.Change.{Change}
use Rattle.session.specs.declared.desk.Desk.{Desk}
use Rattle.session.specs.declared.session.Session.{Session}
use Rattle.session.proofs.RefusalTheorems.{Fate, done, either, kept}
use Rattle.streams.specs.Streams.{create_stream, described, ended, known, on_known, on_stream}
use Rattle.steps.specs.Commands.{asked, on_asked, on_room, play, publish, request_room}
use Rattle.steps.specs.Deciding.{decide, decided, subject_of}

-- ---- steps that go by a stream
known_lem : (q : Option Stream) (f : Stream → Decision) → ((e : Stream) → Fate (f e)) → Fate (on_known q f)
known_lem (Some e) f h = h e
known_lem None f h = done refl

on_stream_lem : (d : Desk) (f : Stream → Decision) → ((e : Stream) → Fate (f e)) → Fate (on_stream d f)
unfolding on_stream
on_stream_lem d f h = known_lem (known d) f h

end : (x : StreamState) (app key : Name) (c : Change) → Fate (ended x app key c)
end Created app key c = done refl
end Publishing app key c = done refl
end Playing app key c = done refl
end Completed app key c = done refl

describe : (x : StreamState) (app key : Name) (read : Result StreamMetadata LongEncoder) → Fate (described x app key read)
describe Created app key read = done refl
describe Publishing app key (Ok m) = done refl
describe Publishing app key (Err e) = kept NameTooLong refl
describe Playing app key read = done refl
describe Completed app key read = done refl

create : (d : Desk) (t : ℕ) → Fate (create_stream d t)
unfolding create_stream
create d t = either (eqb d.next_stream 4294967295) _ _ (kept NumbersUsedUp refl) (either (leb 16 d.stream_count) _ _ (kept StreamsFull refl) (done refl))

-- ---- commands that file a request
room : (r : Result Name Refusal) (f : Name → Decision) → ((n : Name) → Fate (f n)) → Fate (on_room r f)
room (Ok n) f h = h n
room (Err r) f h = kept r refl

ask : (connected : Bool) (r : Result Name Refusal) (d : Decision) (f : Name → Decision) → Fate d → ((n : Name) → Fate (f n)) → Fate (on_asked (pick connected (asked r) (Err d)) f)
ask true (Ok n) d f g h = h n
ask true (Err r) d f g h = kept r refl
ask false r d f g h = g

publishes : (d : Desk) (id : StreamId) (t : ℕ) (x : Result PublishArguments PublishFault) → Fate (publish d id t x)
publishes d id t (Ok a) = ask d.connected (request_room d a.key) _ _ (done refl) (λ n. done refl)
publishes d id t (Err f) = done refl

plays : (d : Desk) (id : StreamId) (t : ℕ) (x : Result PlayArguments PlayFault) → Fate (play d id t x)
plays d id t (Ok a) = ask d.connected (request_room d a.key) _ _ (done refl) (λ n. done refl)
plays d id t (Err f) = done refl

-- ---- every wish
wants : (d : Desk) (x : StreamId) (w : Wish) → Fate (decide d x w)
unfolding decide
wants d x Nothing = done refl
wants d x (Connect t e app) = room (request_room d app) _ (λ n. done refl)
wants d x (CreateStream t) = create d t
wants d x (CloseStream id) = on_stream_lem d _ (λ e. end e.state _ _ _)
wants d x (DeleteStream id) = on_stream_lem d _ (λ e. end e.state _ _ _)
wants d x (Publish t a) = publishes d x t a
wants d x (Play t a) = plays d x t a
wants d x (Metadata read) = on_stream_lem d _ (λ e. describe e.state _ e.key read)
wants d x (PingRequest v) = done refl
wants d x (PingResponse v) = done refl

pub decided_fate : (s : Session) (x : StreamId) (w : Result Wish Refusal) → Fate (decided s x w)
unfolding decided
decided_fate s x (Ok w) = wants (desk_of s (subject_of w x)) x w
decided_fate s x (Err r) = kept r refl
