-- Every wish changes a session by what fits it.
use mathlib.Core.Path.{◌≡◌, refl, subst}
use Prim.Native.Nat.{ℕ, ◌≤◌}
use mathlib.Core.Bool.{Bool, true, false}
use lib.Dec.{lit≤}
use Rattle.std.specs.Prelude.{Option, Some, None, Result, Ok, Err}
use Rattle.numbers.specs.Choose.{pick}
use Rattle.numbers.proofs.ChooseLaws.{pick_eq, pick_le}
use Rattle.text.specs.declared.ids.StreamId.{StreamId}
use Rattle.text.specs.declared.names.Name.{Name}
use Rattle.metadata.specs.declared.metadata.StreamMetadata.{StreamMetadata}
use Rattle.metadata.specs.declared.reading.LongEncoder.{LongEncoder}
use Rattle.tables.specs.declared.streams.Stream.{Stream}
use Rattle.tables.specs.declared.streams.StreamState.{StreamState}
use Rattle.tables.specs.declared.streams.StreamState.TheVariants.{Created, Publishing, Playing, Completed}
use Rattle.wishes.specs.declared.outcome.Refusal.{Refusal}
use Rattle.wishes.specs.declared.wish.PlayArguments.{PlayArguments}
use Rattle.wishes.specs.declared.wish.PlayFault.{PlayFault}
use Rattle.wishes.specs.declared.wish.PublishArguments.{PublishArguments}
use Rattle.wishes.specs.declared.wish.PublishFault.{PublishFault}
use Rattle.wishes.specs.declared.wish.Wish.{Wish}
use Rattle.wishes.specs.declared.wish.Wish.TheVariants.{Nothing, Connect, CreateStream, CloseStream, DeleteStream, Publish, Play, Metadata, PingRequest, PingResponse}
use Rattle.wishes.proofs.NameTheorems.{Short, ShortKey, ShortName, ShortPlayed, ShortRead}
use Rattle.session.specs.Desk.{desk_of}
use Rattle.session.specs.State.{connected, stream_at, stream_of}
use Rattle.session.specs.declared.changes.Change.{Change}
use Rattle.session.specs.declared.decision.Decision.{Decision}
use Rattle.session.specs.declared.desk.Desk.{Desk}
use Rattle.session.specs.declared.session.Session.{Session}
use Rattle.session.proofs.FitsLaws.{Fits, stream_there}
use Rattle.streams.specs.Streams.{create_stream, described, ended, on_known, on_stream}
use Rattle.steps.specs.Commands.{asked, on_asked, on_room, play, publish, request_room}
use Rattle.steps.specs.Deciding.{decide, decided, subject_of}
use Rattle.steps.proofs.CommandsLaws.{Open, OpenSays, open_says}

module _ (s : Session) (y : StreamId) where
  abbrev desk : Desk
  desk = desk_of s y

  -- ---- steps that go by a stream
  found : (q : Option Stream) (f : Stream → Decision) → stream_at s y ≡ q → ((e : Stream) → stream_of s e.id.0 ≡ Some e → Fits s (f e).change) → Fits s (on_known q f).change
  found (Some e) f h k = k e (stream_there s y e h)
  found None f h k = tt

  if_connected : (b : Bool) (f : Stream → Decision) → ((e : Stream) → stream_of s e.id.0 ≡ Some e → Fits s (f e).change) → Fits s (on_known (pick b (stream_at s y) None) f).change
  if_connected true f k = found (stream_at s y) f refl k
  if_connected false f k = tt

  on_stream_lem : (f : Stream → Decision) → ((e : Stream) → stream_of s e.id.0 ≡ Some e → Fits s (f e).change) → Fits s (on_stream desk f).change
  unfolding on_stream desk_of
  on_stream_lem f k = if_connected (connected s) f k

  end : (x : StreamState) (app key : Name) (c : Change) → Fits s c → Fits s (ended x app key c).change
  end Created app key c f = f
  end Publishing app key c f = f
  end Playing app key c f = f
  end Completed app key c f = f

  describe : (x : StreamState) (app key : Name) (read : Result StreamMetadata LongEncoder) → Fits s (described x app key read).change
  describe Created app key read = tt
  describe Publishing app key (Ok m) = tt
  describe Publishing app key (Err e) = tt
  describe Playing app key read = tt
  describe Completed app key read = tt

  create : (t : ℕ) → Fits s (create_stream desk t).change
  unfolding create_stream desk_of
  create t =
      pick_eq (λ (d : Decision). Fits s d.change) _ _ s.next_stream 4294967295 (λ q. tt)
      (λ n. pick_le (λ (d : Decision). Fits s d.change) _ _ 16 s.stream_count (λ k. tt) (λ k. (n, (k, (refl, lit≤ tt)))))

  -- ---- commands that file a request, under a name that was given
  short : (name : Option Name) (n : Name) → ShortName name → name ≡ Some n → n.len ≤ 128
  short name n k e = subst ShortName e k

  room : (name : Option Name) (r : Result Name Refusal) (f : Name → Decision) → OpenSays desk name r → ((n : Name) → Open desk name n → Fits s (f n).change) → Fits s (on_room r f).change
  room name (Ok n) f o k = k n o
  room name (Err r) f o k = tt

  ask : (b : Bool) (name : Option Name) (r : Result Name Refusal) (d : Decision) (f : Name → Decision) → Fits s d.change → OpenSays desk name r → ((n : Name) → Open desk name n → Fits s (f n).change)
      → Fits s (on_asked (pick b (asked r) (Err d)) f).change
  ask true name (Ok n) d f g o k = k n o
  ask true name (Err r) d f g o k = tt
  ask false name r d f g o k = g

  publishes : (id : StreamId) (t : ℕ) (x : Result PublishArguments PublishFault) → ShortKey x → Fits s (publish desk id t x).change
  unfolding desk_of
  publishes id t (Ok a) k = ask (connected s) a.key (request_room desk a.key) _ _ tt (open_says desk a.key) (λ n o. (o.1.0, (o.1.1, (refl, short a.key n k o.0))))
  publishes id t (Err f) k = tt

  plays : (id : StreamId) (t : ℕ) (x : Result PlayArguments PlayFault) → ShortPlayed x → Fits s (play desk id t x).change
  unfolding desk_of
  plays id t (Ok a) k = ask (connected s) a.key (request_room desk a.key) _ _ tt (open_says desk a.key) (λ n o. (o.1.0, (o.1.1, (refl, short a.key n k o.0))))
  plays id t (Err f) k = tt

  -- ---- every wish whose names are short
  wants : (x : StreamId) (w : Wish) → Short w → Fits s (decide desk x w).change
  unfolding decide desk_of
  wants x Nothing k = tt
  wants x (Connect t e app) k = room app (request_room desk app) _ (open_says desk app) (λ n o. (o.1.0, (o.1.1, (refl, short app n k o.0))))
  wants x (CreateStream t) k = create t
  wants x (CloseStream id) k = on_stream_lem _ (λ e f. end e.state _ _ _ (lit≤ tt))
  wants x (DeleteStream id) k = on_stream_lem _ (λ e f. end e.state _ _ _ f)
  wants x (Publish t a) k = publishes x t a k
  wants x (Play t a) k = plays x t a k
  wants x (Metadata read) k = on_stream_lem _ (λ e f. describe e.state _ e.key read)
  wants x (PingRequest v) k = tt
  wants x (PingResponse v) k = tt

pub decided_fits : (s : Session) (x : StreamId) (w : Result Wish Refusal) → ShortRead w → Fits s (decided s x w).change
unfolding decided
decided_fits s x (Ok w) k = wants s (subject_of w x) x w k
decided_fits s x (Err r) k = tt
