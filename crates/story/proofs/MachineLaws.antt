-- A stream's own machine: its decisions see a desk with that stream alone. One step of a connected session, seen from the stream that it belongs to and from the others.
use mathlib.Core.Path.{◌≡◌, refl, sym, ap, ◌∙◌}
use Prim.Native.Nat.{ℕ, ◌+◌, ◌≤◌, ◌<◌}
use native.Mathlib.Omega.{arith}
use mathlib.Core.Bool.{Bool, true, false, true≢false}
use mathlib.Core.List.{List, []}
use lib.Dec.{eqb}
use borrow.Author.Tests.{eq-eqb, ne_eqb}
use Rattle.std.specs.Option.{option_and_then}
use Rattle.std.specs.Prelude.{Option, Some, None, Result, Ok, Err, is_some}
use Rattle.numbers.specs.Choose.{pick}
use Rattle.numbers.proofs.ChooseLaws.{pick_eq, pick_le}
use Rattle.text.specs.declared.ids.StreamId.{StreamId}
use Rattle.text.specs.declared.names.Name.{Name}
use Rattle.answers.specs.Sending.{sent}
use Rattle.tables.specs.Entries.{no_request}
use Rattle.tables.specs.declared.requests.Request.{Request}
use Rattle.tables.specs.declared.requests.RequestKind.{RequestKind}
use Rattle.tables.specs.declared.requests.RequestKind.TheVariants.{Connect, Publish, Play}
use Rattle.tables.specs.declared.streams.Stream.{Stream}
use Rattle.wishes.specs.Outcome.{Outcome, number_of}
use Rattle.wishes.specs.declared.outcome.Refusal.{Refusal}
use Rattle.wishes.specs.declared.wish.PlayArguments.{PlayArguments}
use Rattle.wishes.specs.declared.wish.PlayFault.{PlayFault}
use Rattle.wishes.specs.declared.wish.PublishArguments.{PublishArguments}
use Rattle.wishes.specs.declared.wish.PublishFault.{PublishFault}
use Rattle.wishes.specs.declared.wish.Wish.{Wish}
use Rattle.wishes.specs.declared.wish.Wish.TheVariants.{CreateStream, CloseStream, DeleteStream, Metadata}
use Rattle.wishes.specs.declared.wish.Wish.TheVariants.{Connect as ConnectWish, Publish as PublishWish, Play as PlayWish}
use Rattle.session.specs.Changes.{applied}
use Rattle.session.specs.Decisions.{nothing}
use Rattle.session.specs.State.{connected, request_of, stream_of, with_changed, with_request, with_stream, without_request, without_stream}
use Rattle.session.specs.declared.changes.Effect.{Effect}
use Rattle.session.specs.declared.changes.Effect.TheVariants.{StreamMade, StreamSet, StreamRemoved, StreamAccepted}
use Rattle.session.specs.declared.decision.Decision.{Decision}
use Rattle.session.specs.declared.decision.Event.{Event}
use Rattle.session.specs.declared.decision.Event.TheVariants.{ConnectionRequested, PublishStreamRequested, PlayStreamRequested, PublishStreamFinished, PlayStreamFinished, StreamMetadataChanged, AudioDataReceived, VideoDataReceived, PingResponseReceived}
use Rattle.session.specs.declared.desk.Desk.{Desk}
use Rattle.session.specs.declared.session.Session.{Session}
use Rattle.streams.specs.Streams.{create_stream, created, on_stream, shown_found}
use Rattle.streams.specs.declared.streams.Frame.{Frame}
use Rattle.steps.specs.Commands.{asked, on_asked, play, publish, request_room}
use Rattle.steps.specs.Deciding.{decide, decide_read}
use Rattle.decisions.specs.Answers.{accept_request, completed, finish_playing, granted, reject_request, rejection}
use Rattle.replies.specs.Replies.{short}
use Rattle.story.specs.Steps.{Call, Response, accept, finish, media, message, reject}
use Rattle.story.specs.Doings.{Doing, Wants, Shows, Rests, Accepts, Rejects, Finishes, Sends, doing}
use Rattle.story.specs.History.{Never, makes}
use Rattle.story.specs.Orders.{Act, Accept, ConnectlessWant, Plain, Reject, Tagged, ask_at, doing_ask, for_room, made_by, owner_of_want, owns, plain, plain_event, request_in, stream_in, unnumbered, waiting_ask}
use Rattle.story.specs.Stories.{as_filed}
use Rattle.story.proofs.LookLaws.{not_none, same_found, same_or}
use Rattle.story.proofs.SessionLaws.{Good, dropped_other, dropped_same, filed_other, filed_same, made_other, made_same, next_number, removed_other, removed_same, set_other, set_same, stream_number_lem}
use Rattle.story.proofs.DecisionLaws.{Did, Next, StillWant, Still, closed, completes, connects, deleted, files, grants, joined, made, missed, rejects, shown_as, still}
use Rattle.story.proofs.KeptLaws.{own_request}
use Rattle.story.proofs.FollowLaws.{filed_number, kind_state}
use Rattle.story.proofs.StepLaws.{Constants, answer_by, constants_of, fitted, heard, records_of, written}

-- ---- the machine's decision: the app that was joined, the stream's number, and what stands there
abbrev pub desk_for : Name → ℕ → Option Stream → Desk
desk_for app x o = record { connected = true; app = app; next_stream = x; next_request = 0; stream_count = 0; request_count = 0; seen = o }

abbrev pub frame_seen : Desk → Event → Option Frame
frame_seen d e = pick d.connected (option_and_then (shown_found (Some e) d.app) d.seen) None

abbrev pub desk_decision : Desk → Doing → Decision
desk_decision d (Wants y w) = decide_read d y w
desk_decision d (Shows y e) = shown_as (frame_seen d e)
desk_decision d (Finishes y) = finish_playing d.seen y
desk_decision d other = nothing

-- own: the steps of this stream before this one
abbrev pub own_decision : Session → ℕ → Option Stream → List (Tagged Act) → Act → Decision
own_decision s x o own (Plain c) = desk_decision (desk_for s.app x o) (doing c)
own_decision s x o own (Accept r clock out) = accept_request (ask_at s own r) (is_some o)
own_decision s x o own (Reject r code description clock out) = reject_request (ask_at s own r) (short code description)

-- the call, with no number for a request
abbrev pub bare_call : Act → Call
bare_call (Plain c) = c
bare_call (Accept r clock out) = accept (record { 0 = 0 }) clock out
bare_call (Reject r code description clock out) = reject (record { 0 = 0 }) code description clock out

abbrev pub own_answer : Session → ℕ → Option Stream → List (Tagged Act) → Act → Response
own_answer s x o own act = plain (answer_by (constants_of s) (own_decision s x o own act) (bare_call act))

-- what a change makes of the stream that it is about
abbrev pub stream_after : Effect → Stream → Option Stream → Option Stream
stream_after StreamMade e o = Some e
stream_after StreamSet e o = Some e
stream_after StreamRemoved e o = None
stream_after StreamAccepted e o = Some e
stream_after other e o = o

abbrev pub own_stream : Decision → Option Stream → Option Stream
own_stream d o = stream_after d.change.effect d.change.stream o

-- ---- decisions but for a request and its number
abbrev pub bare : Decision → Decision
bare d =
    record {
      outcome = d.outcome;
      event = plain_event d.event;
      app = d.app;
      key = d.key;
      metadata = d.metadata;
      reply = d.reply;
      name = d.name;
      change = record { effect = d.change.effect; stream = d.change.stream; request = no_request };
    }

-- ---- the desk in the session and the machine's desk
abbrev pub Meets : Desk → ℕ → Option Stream → Result Wish Refusal → Type 0
Meets d x o (Ok (CreateStream t)) = d.next_stream ≡ x
Meets d x o (Ok (CloseStream y)) = d.seen ≡ o
Meets d x o (Ok (DeleteStream y)) = d.seen ≡ o
Meets d x o (Ok (Metadata read)) = d.seen ≡ o
Meets d x o other = Unit {0}

-- the same decision, if it is not refused for room, of two answers to whether a name may be filed
abbrev AskedAlike : (Name → Decision) → (Name → Decision) → Result Name Refusal → Result Name Refusal → Type 0
AskedAlike f g r q = for_room (number_of (on_asked (asked r) f).outcome) ≡ false → bare (on_asked (asked r) f) ≡ bare (on_asked (asked q) g)

module _ (d : Desk) (app : Name) (x : ℕ) (o : Option Stream) (on : d.connected ≡ true) (here : d.app ≡ app) where
  asked_alike : (name : Option Name) (f g : Name → Decision) → ((n : Name) → bare (f n) ≡ bare (g n)) → AskedAlike f g (request_room d name) (request_room (desk_for app x o) name)
  unfolding request_room
  asked_alike None f g q = λ h. refl
  asked_alike (Some n) f g q =
      pick_eq (λ (r : Result Name Refusal). AskedAlike f g r (Ok n)) _ _ d.next_request 4294967295 (λ k h. absurd (true≢false h))
      (λ k. pick_le (λ (r : Result Name Refusal). AskedAlike f g r (Ok n)) _ _ 16 d.request_count (λ j h. absurd (true≢false h)) (λ j h. q n))

  make_alike : (t : ℕ) → d.next_stream ≡ x → for_room (number_of (create_stream d t).outcome) ≡ false → bare (create_stream d t) ≡ bare (create_stream (desk_for app x o) t)
  unfolding create_stream
  make_alike t q =
      pick_eq (λ (r : Decision). for_room (number_of r.outcome) ≡ false → bare r ≡ bare (create_stream (desk_for app x o) t)) _ _ d.next_stream 4294967295 (λ k h. absurd (true≢false h))
      (λ k. pick_le (λ (r : Decision). for_room (number_of r.outcome) ≡ false → bare r ≡ bare (create_stream (desk_for app x o) t)) _ _ 16 d.stream_count (λ j h. absurd (true≢false h))
      (λ j h. rw (q, ne_eqb x 4294967295 (λ z. k (q ∙ z)))))

  on_alike : (name : Option Name) (f g : Name → Decision) (e : Decision) → ((n : Name) → bare (f n) ≡ bare (g n)) → (c : Bool) → c ≡ true
      → for_room (number_of (on_asked (pick c (asked (request_room d name)) (Err e)) f).outcome) ≡ false
      → bare (on_asked (pick c (asked (request_room d name)) (Err e)) f) ≡ bare (on_asked (asked (request_room (desk_for app x o) name)) g)
  on_alike name f g e q true k h = asked_alike name f g q h
  on_alike name f g e q false k h = absurd (true≢false (sym k))

  publish_alike : (y : StreamId) (t : ℕ) (a : Result PublishArguments PublishFault) → for_room (number_of (publish d y t a).outcome) ≡ false
      → bare (publish d y t a) ≡ bare (publish (desk_for app x o) y t a)
  publish_alike y t (Ok a) h = on_alike a.key _ _ _ (λ n. rw here) d.connected on h
  publish_alike y t (Err f) h = rw on

  play_alike : (y : StreamId) (t : ℕ) (a : Result PlayArguments PlayFault) → for_room (number_of (play d y t a).outcome) ≡ false
      → bare (play d y t a) ≡ bare (play (desk_for app x o) y t a)
  play_alike y t (Ok a) h = on_alike a.key _ _ _ (λ n. rw here) d.connected on h
  play_alike y t (Err f) h = rw on

  pub want_alike : (v : Result Wish Refusal) → ConnectlessWant v → Meets d x o v → (y : StreamId) → for_room (number_of (decide_read d y v).outcome) ≡ false
      → bare (decide_read d y v) ≡ bare (decide_read (desk_for app x o) y v)
  unfolding decide on_stream
  want_alike (Ok (ConnectWish t e name)) n k y h = absurd n
  want_alike (Ok (CreateStream t)) n k y h = make_alike t k h
  want_alike (Ok (CloseStream z)) n k y h = rw (on, here, k)
  want_alike (Ok (DeleteStream z)) n k y h = rw (on, here, k)
  want_alike (Ok (PublishWish t a)) n k y h = publish_alike y t a h
  want_alike (Ok (PlayWish t a)) n k y h = play_alike y t a h
  want_alike (Ok (Metadata read)) n k y h = rw (on, here, k)
  want_alike other n k y h = refl

-- ---- a decision of a request, its number apart
module _ (q : Request) where
  grant_alike : (k : RequestKind) (found : Bool) → bare (granted k q found) ≡ bare (granted k (unnumbered q) found)
  grant_alike Connect found = refl
  grant_alike Publish true = refl
  grant_alike Publish false = refl
  grant_alike Play true = refl
  grant_alike Play false = refl

  pub accept_alike : (found : Bool) → bare (accept_request (Some q) found) ≡ bare (accept_request (Some (unnumbered q)) found)
  unfolding accept_request
  accept_alike found = grant_alike q.kind found

  reject_same : (k : RequestKind) → rejection k q ≡ rejection k (unnumbered q)
  reject_same Connect = refl
  reject_same Publish = refl
  reject_same Play = refl

  pub reject_alike : (b : Bool) → bare (reject_request (Some q) b) ≡ bare (reject_request (Some (unnumbered q)) b)
  unfolding reject_request
  reject_alike true = rw (reject_same q.kind)
  reject_alike false = refl

-- ---- the answer, request numbers apart
plain_twice : (e : Option Event) → plain_event e ≡ plain_event (plain_event e)
plain_twice None = refl
plain_twice (Some (ConnectionRequested n)) = refl
plain_twice (Some (PublishStreamRequested n mode)) = refl
plain_twice (Some (PlayStreamRequested n start duration reset x)) = refl
plain_twice (Some PublishStreamFinished) = refl
plain_twice (Some PlayStreamFinished) = refl
plain_twice (Some StreamMetadataChanged) = refl
plain_twice (Some (AudioDataReceived t)) = refl
plain_twice (Some (VideoDataReceived t)) = refl
plain_twice (Some (PingResponseReceived t)) = refl

heard_bare : (d : Decision) (n t : ℕ) (out : List ℕ) → plain (heard d n t out) ≡ plain (heard (bare d) n t out)
heard_bare d n t out =
    ap (λ (e : Option Event). record { outcome = d.outcome; event = e; app = d.app; key = d.key; metadata = d.metadata; count = n; timestamp = t; out = out }) (plain_twice d.event)

fitted_bare : (d : Decision) (n : Option ℕ) (out : List ℕ) → plain (fitted d n out) ≡ plain (fitted (bare d) n out)
fitted_bare d (Some n) out = heard_bare d n 0 out
fitted_bare d None out = refl

written_bare : (k : Constants) (d : Decision) (code description : List ℕ) (clock : ℕ) (out : List ℕ) → plain (written k d code description clock out) ≡ plain (written k (bare d) code description clock out)
written_bare k d code description clock out =
    let r = sent (records_of k d code description clock) out in
    fitted_bare d r.0 r.1

answer_bare : (k : Constants) (d : Decision) (c : Call) → plain (answer_by k d c) ≡ plain (answer_by k (bare d) c)
answer_bare k d (message type x timestamp clock body out) = written_bare k d [] [] clock out
answer_bare k d (media kind x timestamp) = heard_bare d 0 0 []
answer_bare k d (accept n clock out) = written_bare k d [] [] clock out
answer_bare k d (reject n code description clock out) = written_bare k d code description clock out
answer_bare k d (finish x clock out) = written_bare k d [] [] clock out
answer_bare k d other = refl

pub answers_alike : (k : Constants) (d e : Decision) (c : Call) → bare d ≡ bare e → plain (answer_by k d c) ≡ plain (answer_by k e c)
answers_alike k d e c q = answer_bare k d c ∙ ap (λ (z : Decision). plain (answer_by k z c)) q ∙ sym (answer_bare k e c)

-- the stream that a call belongs to, in the session
abbrev pub owner_in : Session → Doing → Option ℕ
owner_in s (Wants x w) = owner_of_want s.next_stream x w
owner_in s (Shows x e) = Some x.0
owner_in s Rests = None
owner_in s (Accepts n) = stream_in (request_of s n.0)
owner_in s (Rejects n b) = stream_in (request_of s n.0)
owner_in s (Finishes x) = Some x.0
owner_in s (Sends x) = x

module _ (s : Session) (h : Good s) where
  same : (b : Bool) (o : Option Stream) → o ≡ pick b o o
  same true o = refl
  same false o = refl

  set_at : (e old : Stream) (x y : ℕ) → e.id.0 ≡ x → stream_of s x ≡ Some old → stream_of (with_changed s e) y ≡ pick (eqb x y) (Some e) (stream_of s y)
  set_at e old x y q f =
      pick_eq (λ (o : Option Stream). stream_of (with_changed s e) y ≡ o) _ _ x y
      (λ z. ap (stream_of (with_changed s e)) (sym (q ∙ z)) ∙ set_same s h e old (ap (stream_of s) q ∙ f)) (λ z. set_other s h e y (λ u. z (sym q ∙ u)))

  -- it is the one that the step changes, and the only one
  did_stream : {g : Doing} {d : Decision} → Did s g d → (y : ℕ) → stream_of (applied s d.change) y ≡ pick (owns y (owner_in s g)) (own_stream d (stream_of s y)) (stream_of s y)
  unfolding applied with_request without_request with_changed
  did_stream (still g d c n f k) y = rw c (same (owns y (owner_in s g)) (stream_of s y))
  did_stream (made q m k) y =
      let e : Stream = created (record { 0 = s.next_stream }) in
      rw q (pick_eq (λ (o : Option Stream). stream_of (with_stream s e) y ≡ o) _ _ s.next_stream y (λ z. ap (stream_of (with_stream s e)) (sym z) ∙ made_same s h e k refl) (λ z. made_other s h e k y z))
  did_stream (files {y = x} {w = w} f i k a) y = same (owns y (owner_of_want s.next_stream x w)) (stream_of s y)
  did_stream (connects {y = x} {w = w} f i k a) y = same (owns y (owner_of_want s.next_stream x w)) (stream_of s y)
  did_stream (closed {x = x} {e = e} q c f k) y = rw (k.change, q) (set_at (created e.id) e x.0 y (stream_number_lem s h x.0 e f) f)
  did_stream (deleted {x = x} {e = e} q c f k) y =
      rw (k.change, q, stream_number_lem s h x.0 e f)
      (pick_eq (λ (o : Option Stream). stream_of (without_stream s x.0) y ≡ o) _ _ x.0 y (λ z. ap (stream_of (without_stream s x.0)) (sym z) ∙ removed_same s h x.0 e f) (λ z. removed_other s h x.0 e f y z))
  did_stream (completes {x = x} {e = e} f) y = set_at (completed x) e x.0 y refl f
  did_stream (joined {n = n} f k) y = same (owns y (stream_in (request_of s n.0))) (stream_of s y)
  did_stream (grants {r = r} {a = a} {old = old} f k p) y = rw f (set_at a old r.stream.0 y (kind_state r.kind r a Never k).0 p)
  did_stream (missed {n = n} f k p) y = same (owns y (stream_in (request_of s n.0))) (stream_of s y)
  did_stream (rejects {n = n} f) y = same (owns y (stream_in (request_of s n.0))) (stream_of s y)

  pub did_own : {g : Doing} {d : Decision} → Did s g d → (x : ℕ) → owner_in s g ≡ Some x → stream_of (applied s d.change) x ≡ own_stream d (stream_of s x)
  did_own k x o = did_stream k x ∙ rw (o, eq-eqb x x refl)

  pub did_other : {g : Doing} {d : Decision} → Did s g d → (y : ℕ) → owns y (owner_in s g) ≡ false → stream_of (applied s d.change) y ≡ stream_of s y
  did_other k y o = did_stream k y ∙ rw o

  -- ---- what stays where there is no connect business
  abbrev pub Calm : Doing → Type 0
  Calm (Wants x w) = ConnectlessWant w
  Calm (Accepts n) = (r : Request) → request_of s n.0 ≡ Some r → r.kind ≡ Connect → ⊥
  Calm other = Unit {0}

  pub did_same : {g : Doing} {d : Decision} → Did s g d → Calm g
      → (constants_of (applied s d.change) ≡ constants_of s) × ((applied s d.change).app ≡ s.app) × (connected (applied s d.change) ≡ connected s)
  unfolding applied connected with_stream with_changed without_stream with_request without_request
  did_same (still g d c n f k) z = rw c (refl, refl, refl)
  did_same (connects f i k a) z = absurd (rw a.0 at z)
  did_same (closed q c f k) z = rw k.change (refl, refl, refl)
  did_same (deleted q c f k) z = rw k.change (refl, refl, refl)
  did_same (joined {r = r} f k) z = absurd (z r f k)
  did_same other z = (refl, refl, refl)

  want_born : (v : Result Wish Refusal) (o : Outcome) → StillWant s v o → for_room (number_of o) ≡ false → makes v ≡ 0
  want_born (Ok (CreateStream t)) o k r = absurd (true≢false (sym k.1 ∙ r))
  want_born other o k r = refl

  still_born : (g : Doing) (d : Decision) → Still s g d → for_room (number_of d.outcome) ≡ false → made_by g ≡ 0
  still_born (Wants x w) d k r = want_born w d.outcome k r
  still_born other d k r = refl

  pub did_births : {g : Doing} {d : Decision} → Did s g d → for_room (number_of d.outcome) ≡ false → (applied s d.change).next_stream ≡ s.next_stream + made_by g
  unfolding applied with_stream with_changed without_stream with_request without_request
  did_births (still g d c n f k) r = rw (c, still_born g d k r) (omega arith)
  did_births (made q m k) r = rw (q, next_number s.next_stream m) refl
  did_births (files f i k a) r = rw i.makes_none (omega arith)
  did_births (connects f i k a) r = rw i.makes_none (omega arith)
  did_births (closed q c f k) r = rw (k.change, q) (omega arith)
  did_births (deleted q c f k) r = rw (k.change, q) (omega arith)
  did_births other r = omega arith

  -- ---- requests: an older number that is found was there before
  drop_back : (m : ℕ) (r : Request) → request_of s m ≡ Some r → (n : ℕ) (q : Request) → request_of (without_request s r.id.0) n ≡ Some q → request_of s n ≡ Some q
  drop_back m r f n q e =
      let o = own_request s h m r f in
      same_or r.id.0 n (request_of s n ≡ Some q)
      (λ z. absurd (not_none _ _ e (ap (request_of (without_request s r.id.0)) (sym z) ∙ dropped_same s h r.id.0 r o)))
      (λ z. sym (dropped_other s h r.id.0 r o n z) ∙ e)

  pub did_back : {g : Doing} {d : Decision} → Did s g d → (n : ℕ) (q : Request) → n < s.next_request → request_of (applied s d.change) n ≡ Some q → request_of s n ≡ Some q
  unfolding applied with_stream with_changed without_stream
  did_back (still g d c n f k) m q lt = rw c (λ e. e)
  did_back (made p m k) n q lt = λ e. e
  did_back (files {r = r} f i k a) n q lt = λ e. sym (filed_other s h r k.place n (λ z. let u = k.number in omega arith)) ∙ e
  did_back (connects {r = r} f i k a) n q lt = λ e. sym (filed_other s h r k.place n (λ z. let u = k.number in omega arith)) ∙ e
  did_back (closed p c f k) n q lt = rw k.change (λ e. e)
  did_back (deleted p c f k) n q lt = rw k.change (λ e. e)
  did_back (completes f) n q lt = λ e. e
  did_back (joined {n = m} {r = r} f k) n q lt = drop_back m.0 r f n q
  did_back (grants {n = m} {r = r} f k p) n q lt = drop_back m.0 r f n q
  did_back (missed {n = m} {r = r} f k p) n q lt = drop_back m.0 r f n q
  did_back (rejects {n = m} {r = r} f) n q lt = drop_back m.0 r f n q

  pub did_next : {g : Doing} {d : Decision} → Did s g d → s.next_request ≤ (applied s d.change).next_request
  unfolding applied with_stream with_changed without_stream with_request without_request
  did_next (still g d c n f k) = rw c (omega arith)
  did_next (files f i k a) = rw (next_number s.next_request k.more) (omega arith)
  did_next (connects f i k a) = rw (next_number s.next_request k.more) (omega arith)
  did_next (closed q c f k) = rw k.change (omega arith)
  did_next (deleted q c f k) = rw k.change (omega arith)
  did_next other = omega arith

  filed_next : (r : Request) → Next s r → (with_request s r).next_request ≡ s.next_request + 1
  unfolding with_request
  filed_next r k = next_number s.next_request k.more

  -- an event with a number: it was the next one, and what waits under it now is what was asked for
  pub did_files : {g : Doing} {d : Decision} → Did s g d → Calm g → (n : ℕ) → request_in d.event ≡ Some n
      → (n < (applied s d.change).next_request) × ((q : Request) → request_of (applied s d.change) n ≡ Some q → doing_ask g ≡ Some (unnumbered q))
  unfolding applied
  did_files (still g d c n f k) z m e = absurd (not_none _ _ e f)
  did_files (files {y = y} {event = event} {app = app} {key = key} {r = r} f i k a) z n e =
      let u : r.id.0 ≡ n = same_found _ _ _ (filed_number y (Some event) app key (as_filed r) f) e in
      let v = k.number in
      (rw (filed_next r k) (omega arith), λ q w. a ∙ ap waiting_ask (sym (ap (request_of (with_request s r)) (sym u) ∙ filed_same s h r k.place k.number) ∙ w))
  did_files (connects f i k a) z n e = absurd (rw a.0 at z)
  did_files (closed q c f k) z n e = absurd (not_none _ _ e k.files)
  did_files (deleted q c f k) z n e = absurd (not_none _ _ e k.files)
  did_files other z n e = absurd cc
