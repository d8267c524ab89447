-- What a decision does, case by case. Proved once; every law of runs goes by these cases.
use mathlib.Core.Path.{◌≡◌, refl, sym, ◌∙◌}
use Prim.Native.Nat.{ℕ, ◌<◌}
use mathlib.Core.Bool.{Bool, true, false, true≢false}
use mathlib.Core.List.{List}
use lib.Dec.{eqb}
use Rattle.std.specs.Prelude.{Option, Some, None, Result, Ok, Err, is_some}
use Rattle.std.specs.Option.{option_and_then}
use Rattle.numbers.specs.Choose.{pick}
use Rattle.numbers.proofs.ChooseLaws.{pick_elim, pick_eq, pick_le}
use Rattle.text.specs.Names.{empty_name}
use Rattle.text.specs.declared.ids.RequestId.{RequestId}
use Rattle.text.specs.declared.ids.StreamId.{StreamId}
use Rattle.text.specs.declared.names.Name.{Name}
use Rattle.metadata.specs.Metadata.{no_metadata}
use Rattle.metadata.specs.declared.metadata.StreamMetadata.{StreamMetadata}
use Rattle.metadata.specs.declared.reading.LongEncoder.{LongEncoder}
use Rattle.tables.specs.declared.requests.Request.{Request}
use Rattle.tables.specs.declared.requests.RequestKind.{RequestKind}
use Rattle.tables.specs.declared.requests.RequestKind.TheVariants.{Connect, Publish, Play}
use Rattle.tables.specs.declared.streams.Stream.{Stream}
use Rattle.tables.specs.declared.streams.StreamState.{StreamState}
use Rattle.tables.specs.declared.streams.StreamState.TheVariants.{Created, Publishing, Playing, Completed}
use Rattle.wishes.specs.Outcome.{Outcome, number_of}
use Rattle.wishes.specs.declared.outcome.Action.{Action}
use Rattle.wishes.specs.declared.outcome.Action.TheVariants.{Publish as Publishes, Play as Plays}
use Rattle.wishes.specs.declared.outcome.Refusal.{Refusal}
use Rattle.wishes.specs.declared.outcome.Refusal.TheVariants.{NumbersUsedUp, RequestsFull, NameTooLong, WrongStream}
use Rattle.wishes.specs.declared.wish.PlayArguments.{PlayArguments}
use Rattle.wishes.specs.declared.wish.PlayFault.{PlayFault}
use Rattle.wishes.specs.declared.wish.PublishArguments.{PublishArguments}
use Rattle.wishes.specs.declared.wish.PublishFault.{PublishFault}
use Rattle.wishes.specs.declared.wish.Wish.{Wish}
use Rattle.wishes.specs.declared.wish.Wish.TheVariants.{CreateStream, CloseStream, DeleteStream, Metadata}
use Rattle.wishes.specs.declared.wish.Wish.TheVariants.{Connect as ConnectWish, Publish as PublishWish, Play as PlayWish}
use Rattle.session.specs.Changes.{dropping, filing_connect, filing_of, granting, joining, making, no_change, removing, setting}
use Rattle.session.specs.Decisions.{nothing, raising, refusing_with, replying}
use Rattle.session.specs.Desk.{desk_of}
use Rattle.session.specs.State.{connected, request_of, stream_at, stream_of}
use Rattle.session.specs.declared.changes.Change.{Change}
use Rattle.session.specs.declared.decision.Decision.{Decision}
use Rattle.session.specs.declared.decision.Event.{Event}
use Rattle.session.specs.declared.decision.Reply.{Reply}
use Rattle.session.specs.declared.decision.Reply.TheVariants.{StreamCreated, PlayFinished, PublishAccepted, PlayAccepted}
use Rattle.session.specs.declared.session.Session.{Session}
use Rattle.streams.specs.Streams.{create_stream, created, described, ended, frame_of, on_known, on_stream, shown, shown_found}
use Rattle.streams.specs.declared.streams.Frame.{Frame}
use Rattle.steps.specs.Commands.{asked, on_asked, on_room, play, publish, request_room}
use Rattle.steps.specs.Deciding.{decide, decided}
use Rattle.decisions.specs.Answers.{accept_request, accepted, completed, finish_playing, finished, finished_on, granted, playing, publishing, reject_request, rejected, settled, stream_stands}
use Rattle.story.specs.Doings.{Doing, Wants, Shows, Rests, Accepts, Rejects, Finishes, Sends}
use Rattle.story.specs.Runs.{Told}
use Rattle.story.specs.History.{Last, done, effect_of_want, filed_by, makes}
use Rattle.story.specs.Stories.{as_filed}
use Rattle.story.specs.Orders.{for_room, request_in, unnumbered, want_ask}

-- ---- the decision of a call
abbrev pub shown_as : Option Frame → Decision
shown_as None = nothing
shown_as (Some f) = raising f.event f.app f.key no_metadata no_change

abbrev pub decision_at : Session → Doing → Decision
decision_at s (Wants x w) = decided s x w
decision_at s (Shows x e) = shown_as (frame_of s x (Some e))
decision_at s Rests = nothing
decision_at s (Accepts n) = accepted s n
decision_at s (Rejects n short) = rejected s n short
decision_at s (Finishes x) = finished_on s x
decision_at s (Sends x) = nothing

-- the stream that an accepted request makes
abbrev pub becomes : RequestKind → Request → Option Stream
becomes Connect r = None
becomes Publish r = Some (publishing r)
becomes Play r = Some (playing r)

abbrev pub Not15 : Outcome → Type 0
Not15 o = eqb (number_of o) 15 ≡ false

-- ---- nothing changed: what is known then
abbrev pub StillWant : Session → Result Wish Refusal → Outcome → Type 0
StillWant s (Ok (CreateStream transaction)) o = (done o ≡ false) × (for_room (number_of o) ≡ true)
StillWant s (Ok (CloseStream y)) o = done o ≡ true → connected s ≡ true → stream_of s y.0 ≡ None
StillWant s (Ok (DeleteStream y)) o = done o ≡ true → connected s ≡ true → stream_of s y.0 ≡ None
StillWant s other o = Unit {0}

abbrev pub Still : Session → Doing → Decision → Type 0
Still s (Wants x w) d = StillWant s w d.outcome
Still s (Accepts n) d = (done d.outcome ≡ false) × (eqb (number_of d.outcome) 11 ≡ false)
Still s (Rejects n short) d = done d.outcome ≡ false
Still s (Finishes x) d = done d.outcome ≡ false
Still s other d = Unit {0}

-- ---- a request was filed: its number is the next one, and there was room
pub record Next (s : Session) (r : Request) : Type 0 where
  pub number : r.id.0 ≡ s.next_request
  pub more : s.next_request ≡ 4294967295 → ⊥
  pub place : s.request_count < 16

-- and no stream was made, closed or deleted
pub record Inert (w : Result Wish Refusal) : Type 0 where
  pub makes_none : makes w ≡ 0
  pub effectless : (x : ℕ) (h : List Told) (old : Last) → effect_of_want x w h old ≡ old

-- ---- a stream was closed or deleted
pub record Ended (d : Decision) (c : Change) : Type 0 where
  pub outcome : d.outcome ≡ Ok tt
  pub files : request_in d.event ≡ None
  pub change : d.change ≡ c

pub data Did (s : Session) : Doing → Decision → Type 0 where
  still : (g : Doing) (d : Decision) → d.change ≡ no_change → Not15 d.outcome → request_in d.event ≡ None → Still s g d → Did s g d
  made : {y : StreamId} {w : Result Wish Refusal} {t : ℕ} → w ≡ Ok (CreateStream t) → (s.next_stream ≡ 4294967295 → ⊥) → s.stream_count < 16
      → Did s (Wants y w) (replying (StreamCreated t (record { 0 = s.next_stream })) empty_name (making (created (record { 0 = s.next_stream }))))
  files : {y : StreamId} {w : Result Wish Refusal} {event : Event} {app key : Name} {r : Request} → filed_by y (Some event) app key ≡ Some (as_filed r) → Inert w → Next s r
      → want_ask y w ≡ Some (unnumbered r) → Did s (Wants y w) (raising (Some event) app key no_metadata (filing_of r))
  connects : {y : StreamId} {w : Result Wish Refusal} {event : Event} {app key : Name} {r : Request} {t encoding : ℕ} {name : Option Name} → filed_by y (Some event) app key ≡ Some (as_filed r) → Inert w → Next s r
      → (w ≡ Ok (ConnectWish t encoding name)) × (r.stream.0 ≡ 0) → Did s (Wants y w) (raising (Some event) app key no_metadata (filing_connect r encoding))
  closed : {y : StreamId} {w : Result Wish Refusal} {x : StreamId} {e : Stream} {d : Decision} → w ≡ Ok (CloseStream x) → connected s ≡ true → stream_of s x.0 ≡ Some e
      → Ended d (setting (created e.id)) → Did s (Wants y w) d
  deleted : {y : StreamId} {w : Result Wish Refusal} {x : StreamId} {e : Stream} {d : Decision} → w ≡ Ok (DeleteStream x) → connected s ≡ true → stream_of s x.0 ≡ Some e
      → Ended d (removing e) → Did s (Wants y w) d
  completes : {x : StreamId} {e : Stream} → stream_of s x.0 ≡ Some e → Did s (Finishes x) (replying (PlayFinished x) e.key (setting (completed x)))
  joined : {n : RequestId} {r : Request} {reply : Reply} → request_of s n.0 ≡ Some r → r.kind ≡ Connect → Did s (Accepts n) (replying reply r.name (joining r))
  grants : {n : RequestId} {r : Request} {reply : Reply} {a old : Stream} → request_of s n.0 ≡ Some r → becomes r.kind r ≡ Some a → stream_of s r.stream.0 ≡ Some old
      → Did s (Accepts n) (replying reply r.name (granting r a))
  missed : {n : RequestId} {r : Request} {action : Action} {a : Stream} → request_of s n.0 ≡ Some r → becomes r.kind r ≡ Some a → stream_of s r.stream.0 ≡ None
      → Did s (Accepts n) (refusing_with (WrongStream action r.stream) (dropping r))
  rejects : {n : RequestId} {short : Bool} {r : Request} {reply : Reply} → request_of s n.0 ≡ Some r → Did s (Rejects n short) (replying reply empty_name (dropping r))

-- ---- a message; no reader gives 15
abbrev pub Readable : Result Wish Refusal → Type 0
Readable (Ok w) = Unit {0}
Readable (Err r) = Not15 (Err r)

module _ (s : Session) (y : StreamId) (w : Result Wish Refusal) where
  abbrev Does : Decision → Type 0
  Does d = Did s (Wants y w) d

  make : (t : ℕ) → w ≡ Ok (CreateStream t) → (x : StreamId) → Does (create_stream (desk_of s x) t)
  unfolding create_stream desk_of
  make t q x =
      pick_eq Does _ _ s.next_stream 4294967295 (λ h. still (Wants y w) _ refl refl refl (rw q (refl, refl)))
      (λ h. pick_le Does _ _ 16 s.stream_count (λ k. still (Wants y w) _ refl refl refl (rw q (refl, refl))) (λ k. made q h k))

  -- ---- a request is to be filed: its name was given, and there is a number and a place for it
  room_says : (x : StreamId) (name : Option Name) (P : Result Name Refusal → Type 0) → ((o : Refusal) → Not15 (Err o) → P (Err o))
      → ((n : Name) → name ≡ Some n → (s.next_request ≡ 4294967295 → ⊥) → s.request_count < 16 → P (Ok n)) → P (request_room (desk_of s x) name)
  unfolding request_room desk_of
  room_says x None P f k = f NameTooLong refl
  room_says x (Some n) P f k =
      pick_eq P _ _ s.next_request 4294967295 (λ h. f NumbersUsedUp refl) (λ h. pick_le P _ _ 16 s.request_count (λ j. f RequestsFull refl) (λ j. k n refl h j))

  -- nothing changed, of a want that changes no stream
  quiet : (d : Decision) → d.change ≡ no_change → Not15 d.outcome → request_in d.event ≡ None → StillWant s w d.outcome → Does d
  quiet d c n f k = still (Wants y w) d c n f k

  file : (x : StreamId) (name : Option Name) (f : Name → Decision) → ((o : Refusal) → StillWant s w (Err o))
      → ((n : Name) → name ≡ Some n → (s.next_request ≡ 4294967295 → ⊥) → s.request_count < 16 → Does (f n)) → Does (on_room (request_room (desk_of s x) name) f)
  file x name f u k = room_says x name (λ (r : Result Name Refusal). Does (on_room r f)) (λ o n. quiet _ refl n refl (u o)) k

  ask : (x : StreamId) (name : Option Name) (d : Decision) (f : Name → Decision) → Does d → ((o : Refusal) → StillWant s w (Err o))
      → ((n : Name) → name ≡ Some n → (s.next_request ≡ 4294967295 → ⊥) → s.request_count < 16 → Does (f n))
      → Does (on_asked (pick (connected s) (asked (request_room (desk_of s x) name)) (Err d)) f)
  ask x name d f g u k =
      pick_elim (λ (r : Result Name Decision). Does (on_asked r f)) _ _ (connected s) (λ b. room_says x name (λ (r : Result Name Refusal). Does (on_asked (asked r) f)) (λ o n. quiet _ refl n refl (u o)) k)
      (λ b. g)

  publishes : (t : ℕ) (a : Result PublishArguments PublishFault) → w ≡ Ok (PublishWish t a) → (x : StreamId) → Does (publish (desk_of s x) y t a)
  unfolding desk_of
  publishes t (Err f) q x = quiet _ refl refl refl (rw q tt)
  publishes t (Ok a) q x =
      ask x a.key _ _ (quiet _ refl refl refl (rw q tt)) (λ o. rw q tt)
      (λ n e h k. files refl (record { makes_none = rw q; effectless = λ z h old. rw q }) (record { number = refl; more = h; place = k }) (rw (q, e)))

  plays : (t : ℕ) (a : Result PlayArguments PlayFault) → w ≡ Ok (PlayWish t a) → (x : StreamId) → Does (play (desk_of s x) y t a)
  unfolding desk_of
  plays t (Err f) q x = quiet _ refl refl refl (rw q tt)
  plays t (Ok a) q x =
      ask x a.key _ _ (quiet _ refl refl refl (rw q tt)) (λ o. rw q tt)
      (λ n e h k. files refl (record { makes_none = rw q; effectless = λ z h old. rw q }) (record { number = refl; more = h; place = k }) (rw (q, e)))

  -- ---- steps that go by a stream
  on_stream_lem : (x : StreamId) (f : Stream → Decision) (P : Decision → Type 0) → ((connected s ≡ true → stream_of s x.0 ≡ None) → P nothing)
      → ((e : Stream) → connected s ≡ true → stream_of s x.0 ≡ Some e → P (f e)) → P (on_stream (desk_of s x) f)
  unfolding on_stream desk_of
  on_stream_lem x f P k j =
      pick_elim (λ (o : Option Stream). P (on_known o f)) _ _ (connected s) (λ c. at (stream_of s x.0) refl c) (λ c. k (λ t. absurd (true≢false (sym t ∙ c))))
    where
      at : (o : Option Stream) → stream_of s x.0 ≡ o → connected s ≡ true → P (on_known o f)
      at None e c = k (λ t. e)
      at (Some d) e c = j d c e

  end : (st : StreamState) (app key : Name) (c : Change) → Ended (ended st app key c) c
  end Created app key c = record { outcome = refl; files = refl; change = refl }
  end Publishing app key c = record { outcome = refl; files = refl; change = refl }
  end Playing app key c = record { outcome = refl; files = refl; change = refl }
  end Completed app key c = record { outcome = refl; files = refl; change = refl }

  describe : (st : StreamState) (app key : Name) (read : Result StreamMetadata LongEncoder) → w ≡ Ok (Metadata read) → Does (described st app key read)
  describe Publishing app key (Ok m) q = quiet _ refl refl refl (rw q tt)
  describe Publishing app key (Err e) q = quiet _ refl refl refl (rw q tt)
  describe other app key read q = quiet _ refl refl refl (rw q tt)

  -- ---- every want
  wants : (v : Result Wish Refusal) → w ≡ v → Readable v → Does (decided s y v)
  unfolding decided decide desk_of
  wants (Ok (ConnectWish t encoding app)) q k =
      file y app _ (λ o. rw q tt)
      (λ n e h j. connects refl (record { makes_none = rw q; effectless = λ z h old. rw q }) (record { number = refl; more = h; place = j }) (q, refl))
  wants (Ok (CreateStream t)) q k = make t q y
  wants (Ok (CloseStream x)) q k =
      on_stream_lem x _ Does (λ n. quiet _ refl refl refl (rw q (λ d c. n c))) (λ e c f. closed q c f (end e.state _ _ _))
  wants (Ok (DeleteStream x)) q k =
      on_stream_lem x _ Does (λ n. quiet _ refl refl refl (rw q (λ d c. n c))) (λ e c f. deleted q c f (end e.state _ _ _))
  wants (Ok (PublishWish t a)) q k = publishes t a q y
  wants (Ok (PlayWish t a)) q k = plays t a q y
  wants (Ok (Metadata read)) q k = on_stream_lem y _ Does (λ n. quiet _ refl refl refl (rw q tt)) (λ e c f. describe e.state _ _ read q)
  wants (Err r) q k = quiet _ refl k refl (rw q tt)
  wants other q k = quiet _ refl refl refl (rw q tt)

-- ---- the application's decisions
module _ (s : Session) where
  settle : (n : RequestId) (r : Request) (a : Stream) (action : Action) (reply : Reply) → request_of s n.0 ≡ Some r → becomes r.kind r ≡ Some a
      → (o : Option Stream) → stream_of s r.stream.0 ≡ o → Did s (Accepts n) (settled (is_some o) action r reply a)
  settle n r a action reply f k None e = missed f k e
  settle n r a action reply f k (Some old) e = grants f k e

  grant : (n : RequestId) (r : Request) → request_of s n.0 ≡ Some r → (k : RequestKind) → r.kind ≡ k → Did s (Accepts n) (granted k r (is_some (stream_at s r.stream)))
  grant n r f Connect e = joined f e
  grant n r f Publish e = settle n r (publishing r) Publishes (PublishAccepted r.stream) f (rw e) (stream_of s r.stream.0) refl
  grant n r f Play e = settle n r (playing r) Plays (PlayAccepted r.stream) f (rw e) (stream_of s r.stream.0) refl

  accept : (n : RequestId) (o : Option Request) → request_of s n.0 ≡ o → Did s (Accepts n) (accept_request o (stream_stands s o))
  unfolding accept_request
  accept n None e = still (Accepts n) _ refl refl refl (refl, refl)
  accept n (Some r) e = grant n r e r.kind refl

  reject : (n : RequestId) (short : Bool) (o : Option Request) → request_of s n.0 ≡ o → Did s (Rejects n short) (reject_request o short)
  unfolding reject_request
  reject n short None e = still _ _ refl refl refl refl
  reject n true (Some r) e = rejects e
  reject n false (Some r) e = still _ _ refl refl refl refl

  end_play : (x : StreamId) (e : Stream) → stream_of s x.0 ≡ Some e → (st : StreamState) → Did s (Finishes x) (finished st x e)
  end_play x e f Playing = completes f
  end_play x e f other = still _ _ refl refl refl refl

  finish : (x : StreamId) (o : Option Stream) → stream_of s x.0 ≡ o → Did s (Finishes x) (finish_playing o x)
  unfolding finish_playing
  finish x None e = still _ _ refl refl refl refl
  finish x (Some d) e = end_play x d e d.state

  -- whatever a call is about; what it wants was readable, and a frame's event files nothing
  abbrev pub ReadableIn : Doing → Type 0
  ReadableIn (Wants x w) = Readable w
  ReadableIn (Shows x e) = request_in (Some e) ≡ None
  ReadableIn other = Unit {0}

  module _ (x : StreamId) (e : Event) (k : request_in (Some e) ≡ None) where
    abbrev Frames : Option Frame → Type 0
    Frames f = Did s (Shows x e) (shown_as f)

    no_frame : Frames None
    no_frame = still _ _ refl refl refl tt

    state_shows : (st : StreamState) (app key : Name) → Frames (shown st (Some e) app key)
    state_shows Publishing app key = still _ _ refl refl k tt
    state_shows other app key = no_frame

    found_shows : (o : Option Stream) (app : Name) → Frames (option_and_then (shown_found (Some e) app) o)
    found_shows None app = no_frame
    found_shows (Some d) app = state_shows d.state app d.key

    shows : Frames (frame_of s x (Some e))
    unfolding frame_of
    shows = pick_elim Frames _ _ (connected s) (λ b. found_shows (stream_of s x.0) s.app) (λ b. no_frame)

  pub did : (g : Doing) → ReadableIn g → Did s g (decision_at s g)
  did (Wants x w) k = wants s x w w refl k
  did (Shows x e) k = shows x e k
  did Rests k = still _ _ refl refl refl tt
  did (Accepts n) k = accept n (request_of s n.0) refl
  did (Rejects n short) k = reject n short (request_of s n.0) refl
  did (Finishes x) k = finish x (stream_of s x.0) refl
  did (Sends x) k = still _ _ refl refl refl tt
