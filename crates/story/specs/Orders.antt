-- Demand 3, the second half: two runs with the same further steps in another order. Steps are tagged; a list has the NEWEST FIRST.
use Rattle.std.specs.Prelude.{ℕ, ◌+◌, ◌≡◌, Bool, false, ◌||◌, List, [], ◌∷◌, Option, Some, None, Result, Ok, Err, eqb}
use Rattle.std.specs.Option.{option_and_then, option_map, unwrap_or}
use Rattle.numbers.specs.Choose.{pick}
use Rattle.text.specs.Names.{empty_name}
use Rattle.text.specs.declared.ids.RequestId.{RequestId}
use Rattle.text.specs.declared.ids.StreamId.{StreamId}
use Rattle.text.specs.declared.words.PublishMode.TheVariants.{Live}
use Rattle.tables.specs.declared.requests.Request.{Request}
use Rattle.tables.specs.declared.requests.RequestKind.TheVariants.{Connect, Publish, Play}
use Rattle.wishes.specs.Outcome.{number_of}
use Rattle.wishes.specs.declared.outcome.Refusal.{Refusal}
use Rattle.wishes.specs.declared.wish.PlayArguments.{PlayArguments}
use Rattle.wishes.specs.declared.wish.PlayFault.{PlayFault}
use Rattle.wishes.specs.declared.wish.PublishArguments.{PublishArguments}
use Rattle.wishes.specs.declared.wish.PublishFault.{PublishFault}
use Rattle.wishes.specs.declared.wish.Wish.{Wish}
use Rattle.wishes.specs.declared.wish.Wish.TheVariants.{CreateStream, CloseStream, DeleteStream, Metadata}
use Rattle.wishes.specs.declared.wish.Wish.TheVariants.{Connect as ConnectWish, Publish as PublishWish, Play as PlayWish}
use Rattle.session.specs.State.{request_of, stream_of}
use Rattle.session.specs.declared.decision.Event.{Event}
use Rattle.session.specs.declared.decision.Event.TheVariants.{ConnectionRequested, PublishStreamRequested, PlayStreamRequested}
use Rattle.session.specs.declared.session.Session.{Session}
use Rattle.story.specs.Steps.{Call, Response, accept, reject, step}
use Rattle.story.specs.Doings.{Doing, Wants, Shows, Accepts, Rejects, Finishes, Sends, doing}
use Rattle.story.specs.History.{makes}

-- ---- what is held under a tag
pub record Tagged (A : Type 0) : Type 0 where
  pub tag : ℕ
  pub held : A

unfoldable pub under : {A : Type 0} → ℕ → List (Tagged A) → Option A
under t [] = None
under t (p ∷ l) = pick (eqb p.tag t) (Some p.held) (under t l)

-- each tag once
abbrev pub Once : {A : Type 0} → List (Tagged A) → Type 0
Once [] = Unit {0}
Once (p ∷ l) = (under p.tag l ≡ None) × Once l

-- ---- steps. A decision names its request: one that waits after the common part, by its number; or the one that the step of a tag filed
pub data Ref : Type 0 where
  Old : ℕ → Ref
  By : ℕ → Ref

pub data Act : Type 0 where
  Plain : Call → Act
  -- clock, out
  Accept : Ref → ℕ → List ℕ → Act
  -- code, description, clock, out
  Reject : Ref → List ℕ → List ℕ → ℕ → List ℕ → Act

-- ---- a run of further steps: the session, and the answers by tag
abbrev pub Log : Type 0
Log = Session × List (Tagged Response)

-- the request's number in an event
abbrev pub request_in : Option Event → Option ℕ
request_in (Some (ConnectionRequested n)) = Some n.0
request_in (Some (PublishStreamRequested n mode)) = Some n.0
request_in (Some (PlayStreamRequested n start duration reset x)) = Some n.0
request_in other = None

abbrev pub number_in : Option Response → Option ℕ
number_in r = option_and_then (λ a. request_in a.event) r

-- the number of the request in this run; where the step of the tag filed none, the next one, which no request has
abbrev pub resolve : Log → Ref → RequestId
resolve l (Old n) = record { 0 = n }
resolve l (By t) = record { 0 = unwrap_or (number_in (under t l.1)) l.0.next_request }

abbrev pub call_of : Log → Act → Call
call_of l (Plain c) = c
call_of l (Accept r clock out) = accept (resolve l r) clock out
call_of l (Reject r code description clock out) = reject (resolve l r) code description clock out

unfoldable pub go : Session → List (Tagged Act) → Log
go s [] = (s, [])
go s (p ∷ older) =
    let l : Log = go s older in
    ((step l.0 (call_of l p.held)).1, record { tag = p.tag; held = (step l.0 (call_of l p.held)).0 } ∷ l.1)

abbrev pub answer_to : Session → List (Tagged Act) → Act → Response
answer_to s older act = (step (go s older).0 (call_of (go s older) act)).0

-- the calls that it makes
unfoldable pub calls_of : Session → List (Tagged Act) → List Call
calls_of s [] = []
calls_of s (p ∷ older) = call_of (go s older) p.held ∷ calls_of s older

-- ---- what a request asks for, its number apart
abbrev pub unnumbered : Request → Request
unnumbered r = record { id = record { 0 = 0 }; kind = r.kind; stream = r.stream; mode = r.mode; transaction = r.transaction; name = r.name }

abbrev pub waiting_ask : Option Request → Option Request
waiting_ask r = option_map unnumbered r

-- a name over 128 bytes stands as the empty one: with it nothing is filed
abbrev pub publish_ask : StreamId → Result PublishArguments PublishFault → Option Request
publish_ask x (Ok a) = Some (record { id = record { 0 = 0 }; kind = Publish; stream = x; mode = a.mode; transaction = 0; name = unwrap_or a.key empty_name })
publish_ask x (Err f) = None

abbrev pub play_ask : StreamId → Result PlayArguments PlayFault → Option Request
play_ask x (Ok a) = Some (record { id = record { 0 = 0 }; kind = Play; stream = x; mode = Live; transaction = 0; name = unwrap_or a.key empty_name })
play_ask x (Err f) = None

abbrev pub want_ask : StreamId → Result Wish Refusal → Option Request
want_ask x (Ok (PublishWish transaction arguments)) = publish_ask x arguments
want_ask x (Ok (PlayWish transaction arguments)) = play_ask x arguments
want_ask x other = None

abbrev pub doing_ask : Doing → Option Request
doing_ask (Wants x w) = want_ask x w
doing_ask other = None

abbrev pub act_ask : Option Act → Option Request
act_ask (Some (Plain c)) = doing_ask (doing c)
act_ask other = None

-- s is the session after the common part
abbrev pub ask_at : Session → List (Tagged Act) → Ref → Option Request
ask_at s older (Old n) = waiting_ask (request_of s n)
ask_at s older (By t) = act_ask (under t older)

-- ---- "a step without a stream may stand anywhere; any other belongs to: the stream it creates; the argument's stream for close and delete;
-- the message's stream for other commands, data and media; the request's stream for a decision; the call's stream for a finish or send."
abbrev pub made_by : Doing → ℕ
made_by (Wants x w) = makes w
made_by other = 0

abbrev pub creates : Act → ℕ
creates (Plain c) = made_by (doing c)
creates other = 0

unfoldable pub creations_in : List (Tagged Act) → ℕ
creations_in [] = 0
creations_in (p ∷ older) = creations_in older + creates p.held

-- next: the number that a creation makes. What can't be read, and a command or data that does nothing, is counted to no stream:
-- that asks less of two runs than the sentence does
abbrev pub owner_of_want : ℕ → StreamId → Result Wish Refusal → Option ℕ
owner_of_want next x (Ok (CreateStream transaction)) = Some next
owner_of_want next x (Ok (CloseStream y)) = Some y.0
owner_of_want next x (Ok (DeleteStream y)) = Some y.0
owner_of_want next x (Ok (PublishWish transaction arguments)) = Some x.0
owner_of_want next x (Ok (PlayWish transaction arguments)) = Some x.0
owner_of_want next x (Ok (Metadata read)) = Some x.0
owner_of_want next x other = None

abbrev pub stream_in : Option Request → Option ℕ
stream_in r = option_map (λ q. q.stream.0) r

abbrev pub owner_of : ℕ → Doing → Option ℕ
owner_of next (Wants x w) = owner_of_want next x w
owner_of next (Shows x e) = Some x.0
owner_of next (Finishes x) = Some x.0
owner_of next (Sends x) = x
owner_of next other = None

abbrev pub owner : Session → List (Tagged Act) → Act → Option ℕ
owner s older (Plain c) = owner_of (s.next_stream + creations_in older) (doing c)
owner s older (Accept r clock out) = stream_in (ask_at s older r)
owner s older (Reject r code description clock out) = stream_in (ask_at s older r)

abbrev pub owns : ℕ → Option ℕ → Bool
owns x None = false
owns x (Some y) = eqb y x

-- the steps that belong to x, in their order
unfoldable pub mine : Session → ℕ → List (Tagged Act) → List (Tagged Act)
mine s x [] = []
mine s x (p ∷ older) = pick (owns x (owner s older p.held)) (p ∷ mine s x older) (mine s x older)

-- the steps that create, in their order
unfoldable pub creating : List (Tagged Act) → List (Tagged Act)
creating [] = []
creating (p ∷ older) = pick (eqb (creates p.held) 0) (creating older) (p ∷ creating older)

-- ---- the premises on one list of further steps: each step, with those before it
abbrev pub Each : (List (Tagged Act) → Act → Type 0) → List (Tagged Act) → Type 0
Each P [] = Unit {0}
Each P (p ∷ older) = P older p.held × Each P older

-- "no connect business after": no connect, and no decision of one; each decision names its request by a Ref
abbrev pub ConnectlessWant : Result Wish Refusal → Type 0
ConnectlessWant (Ok (ConnectWish transaction encoding app)) = ⊥
ConnectlessWant other = Unit {0}

abbrev pub Connectless : Doing → Type 0
Connectless (Wants x w) = ConnectlessWant w
Connectless (Accepts n) = ⊥
Connectless (Rejects n short) = ⊥
Connectless other = Unit {0}

abbrev pub NotOfConnect : Option Request → Type 0
NotOfConnect None = Unit {0}
NotOfConnect (Some r) = r.kind ≡ Connect → ⊥

abbrev pub NoConnect : Session → List (Tagged Act) → Act → Type 0
NoConnect s older (Plain c) = Connectless (doing c)
NoConnect s older (Accept r clock out) = NotOfConnect (ask_at s older r)
NoConnect s older (Reject r code description clock out) = NotOfConnect (ask_at s older r)

-- "No step is refused for room": "Room refusals are 7, 8, 9 and 12."
abbrev pub for_room : ℕ → Bool
for_room n = eqb n 7 || (eqb n 8 || (eqb n 9 || eqb n 12))

abbrev pub HasRoom : Session → List (Tagged Act) → Act → Type 0
HasRoom s older act = for_room (number_of (answer_to s older act).outcome) ≡ false

-- "every decision finds the request that the same step filed"
abbrev pub Finds : Session → List (Tagged Act) → Act → Type 0
Finds s older (Plain c) = Unit {0}
Finds s older (Accept r clock out) = ((q : Request) × (ask_at s older r ≡ Some q)) × (number_of (answer_to s older (Accept r clock out)).outcome ≡ 10 → ⊥)
Finds s older (Reject r code description clock out) = ((q : Request) × (ask_at s older r ≡ Some q)) × (number_of (answer_to s older (Reject r code description clock out)).outcome ≡ 10 → ⊥)

-- "Both hold the same further steps": the clock and the lent buffer are part of a step
pub data Permuted {A : Type 0} : List (Tagged A) → List (Tagged A) → Type 0 where
  nil : Permuted [] []
  keep : (p : Tagged A) {l m : List (Tagged A)} → Permuted l m → Permuted (p ∷ l) (p ∷ m)
  swap : (p q : Tagged A) (l : List (Tagged A)) → Permuted (p ∷ (q ∷ l)) (q ∷ (p ∷ l))
  trans : {l m n : List (Tagged A)} → Permuted l m → Permuted m n → Permuted l n

-- what the request asks of the further steps l and m, after a common part that ends in the session s
pub record Premises (s : Session) (l m : List (Tagged Act)) : Type 0 where
  -- a tag is a step's name: no two steps of a run have the same
  pub tags : Once l
  -- "Both hold the same further steps, each step with the same clock reading in both"
  pub same_steps : Permuted l m
  -- "each stream's steps keep their order, and so do all creations among themselves": a creation belongs to the stream that it makes (`creations_keep_order`)
  pub same_order : (x : ℕ) → mine s x l ≡ mine s x m
  -- "no connect business after"
  pub no_connect : Each (NoConnect s) l × Each (NoConnect s) m
  -- "No step is refused for room"
  pub has_room : Each (HasRoom s) l × Each (HasRoom s) m
  -- "and every decision finds the request that the same step filed"
  pub finds : Each (Finds s) l × Each (Finds s) m

-- ---- "each step gives the same answer, request numbers apart"
abbrev pub plain_event : Option Event → Option Event
plain_event (Some (ConnectionRequested n)) = Some (ConnectionRequested (record { 0 = 0 }))
plain_event (Some (PublishStreamRequested n mode)) = Some (PublishStreamRequested (record { 0 = 0 }) mode)
plain_event (Some (PlayStreamRequested n start duration reset x)) = Some (PlayStreamRequested (record { 0 = 0 }) start duration reset x)
plain_event other = other

abbrev pub plain : Response → Response
plain r = record { outcome = r.outcome; event = plain_event r.event; app = r.app; key = r.key; metadata = r.metadata; count = r.count; timestamp = r.timestamp; out = r.out }

abbrev pub plain_answer : Option Response → Option Response
plain_answer r = option_map plain r

-- "Then each step gives the same answer, request numbers apart, and each stream ends alike.": outcome, event, app, key, metadata, count and every byte; state, mode and key
pub record Alike (s : Session) (l m : List (Tagged Act)) : Type 0 where
  pub answers : (t : ℕ) → plain_answer (under t (go s l).1) ≡ plain_answer (under t (go s m).1)
  pub streams : (x : ℕ) → stream_of (go s l).0 x ≡ stream_of (go s m).0 x
