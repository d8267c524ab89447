-- Document 01's words over calls and their answers alone: filed, decided, waiting, joined, and the last effective step on a stream.
use Rattle.std.specs.Prelude.{ℕ, ◌+◌, Bool, true, false, List, [], ◌∷◌, Option, Some, None, Result, Ok, eqb}
use Rattle.numbers.specs.Choose.{pick}
use Rattle.text.specs.declared.ids.StreamId.{StreamId}
use Rattle.text.specs.declared.names.Name.{Name}
use Rattle.tables.specs.declared.requests.RequestKind.{RequestKind}
use Rattle.tables.specs.declared.requests.RequestKind.TheVariants.{Connect, Publish, Play}
use Rattle.wishes.specs.Outcome.{Outcome, number_of}
use Rattle.wishes.specs.declared.outcome.Refusal.{Refusal}
use Rattle.wishes.specs.declared.wish.Wish.{Wish}
use Rattle.wishes.specs.declared.wish.Wish.TheVariants.{CreateStream, CloseStream, DeleteStream}
use Rattle.session.specs.declared.decision.Event.{Event}
use Rattle.session.specs.declared.decision.Event.TheVariants.{ConnectionRequested, PublishStreamRequested, PlayStreamRequested}
use Rattle.story.specs.Steps.{Response}
use Rattle.story.specs.Doings.{Doing, Wants, Accepts, Rejects, Finishes, doing}
use Rattle.story.specs.Runs.{Told}

-- "0 | done"
abbrev pub done : Outcome → Bool
done o = eqb (number_of o) 0

-- ---- requests filed: the event says so, with the request's number
pub record Filed : Type 0 where
  pub number : ℕ
  pub kind : RequestKind
  pub stream : ℕ
  -- the app of a connect, the key of a publish or a play
  pub name : Name

abbrev pub filed_by : StreamId → Option Event → Name → Name → Option Filed
filed_by x (Some (ConnectionRequested n)) app key = Some (record { number = n.0; kind = Connect; stream = 0; name = app })
filed_by x (Some (PublishStreamRequested n mode)) app key = Some (record { number = n.0; kind = Publish; stream = x.0; name = key })
filed_by x (Some (PlayStreamRequested n start duration reset y)) app key = Some (record { number = n.0; kind = Play; stream = y.0; name = key })
filed_by x other app key = None

abbrev pub filing : Doing → Response → Option Filed
filing (Wants x w) r = filed_by x r.event r.app r.key
filing other r = None

abbrev pub numbered : ℕ → Option Filed → Option Filed → Option Filed
numbered n None old = old
numbered n (Some f) old = pick (eqb f.number n) (Some f) old

-- the request that was filed under a number
unfoldable pub filed : ℕ → List Told → Option Filed
filed n [] = None
filed n (e ∷ h) = numbered n (filing (doing e.call) e.answer) (filed n h)

-- ---- "decided (answer 0, or 11 from an accept)"
abbrev pub decides : Doing → Outcome → Option ℕ
decides (Accepts n) o = pick (done o) (Some n.0) (pick (eqb (number_of o) 11) (Some n.0) None)
decides (Rejects n short) o = pick (done o) (Some n.0) None
decides other o = None

abbrev pub is_it : ℕ → Option ℕ → Bool → Bool
is_it n None old = old
is_it n (Some m) old = pick (eqb m n) true old

unfoldable pub decided : ℕ → List Told → Bool
decided n [] = false
decided n (e ∷ h) = is_it n (decides (doing e.call) e.answer.outcome) (decided n h)

-- filed, and not decided since
abbrev pub waiting : ℕ → List Told → Option Filed
waiting n h = pick (decided n h) None (filed n h)

-- ---- how many
abbrev pub one_for : {A : Type 0} → Option A → ℕ
one_for None = 0
one_for (Some a) = 1

unfoldable pub filings : List Told → ℕ
filings [] = 0
filings (e ∷ h) = filings h + one_for (filing (doing e.call) e.answer)

unfoldable pub decisions : List Told → ℕ
decisions [] = 0
decisions (e ∷ h) = decisions h + one_for (decides (doing e.call) e.answer.outcome)

-- how often a request was decided
abbrev pub hits : ℕ → Option ℕ → ℕ
hits n None = 0
hits n (Some m) = pick (eqb m n) 1 0

unfoldable pub times_decided : ℕ → List Told → ℕ
times_decided n [] = 0
times_decided n (e ∷ h) = times_decided n h + hits n (decides (doing e.call) e.answer.outcome)

-- ---- "Accepting a connect sets the app and Connected, which never ends.": the app of the last one that was accepted with 0
abbrev pub joining_kind : RequestKind → Name → Option Name → Option Name
joining_kind Connect app old = Some app
joining_kind Publish app old = old
joining_kind Play app old = old

abbrev pub joining : Option Filed → Option Name → Option Name
joining None old = old
joining (Some f) old = joining_kind f.kind f.name old

abbrev pub joined_by : Doing → Outcome → List Told → Option Name → Option Name
joined_by (Accepts n) o h old = pick (done o) (joining (filed n.0 h) old) old
joined_by other o h old = old

unfoldable pub joined : List Told → Option Name
joined [] = None
joined (e ∷ h) = joined_by (doing e.call) e.answer.outcome h (joined h)

-- ---- "createStream: connected or not, makes the next number, from 1"
abbrev pub makes : Result Wish Refusal → ℕ
makes (Ok (CreateStream transaction)) = 1
makes other = 0

abbrev pub creation : Doing → Outcome → ℕ
creation (Wants x w) o = pick (done o) (makes w) 0
creation other o = 0

unfoldable pub creations : List Told → ℕ
creations [] = 0
creations (e ∷ h) = creations h + creation (doing e.call) e.answer.outcome

-- ---- "Effective steps are those that create, delete or set a state, including Created over Created."
pub data Last : Type 0 where
  Never : Last
  Creation : Last
  Closing : Last
  Deletion : Last
  PublishAccepted : Name → Last
  PlayAccepted : Name → Last
  Finishing : Last

abbrev pub stands : Last → Bool
stands Never = false
stands Deletion = false
stands other = true

-- "closeStream, deleteStream: nothing unless connected and the first argument is a number whose u32 names a stream"
abbrev pub ending : Last → Option Name → Last → Last
ending new None old = old
ending new (Some app) old = pick (stands old) new old

abbrev pub effect_of_want : ℕ → Result Wish Refusal → List Told → Last → Last
effect_of_want x (Ok (CreateStream transaction)) h old = pick (eqb (creations h + 1) x) Creation old
effect_of_want x (Ok (CloseStream y)) h old = pick (eqb y.0 x) (ending Closing (joined h) old) old
effect_of_want x (Ok (DeleteStream y)) h old = pick (eqb y.0 x) (ending Deletion (joined h) old) old
effect_of_want x other h old = old

-- "Accepting publish or play sets that state from whatever stood there"
abbrev pub acceptance : RequestKind → Name → Last → Last
acceptance Connect key old = old
acceptance Publish key old = PublishAccepted key
acceptance Play key old = PlayAccepted key

abbrev pub accepting : ℕ → Option Filed → Last → Last
accepting x None old = old
accepting x (Some f) old = pick (eqb f.stream x) (acceptance f.kind f.name old) old

-- the last effective step on x, if this step comes after `old`: a step that is refused changes nothing, and 11 no stream
abbrev pub effect : ℕ → Doing → Outcome → List Told → Last → Last
effect x (Wants y w) o h old = pick (done o) (effect_of_want x w h old) old
effect x (Accepts n) o h old = pick (done o) (accepting x (filed n.0 h) old) old
effect x (Finishes y) o h old = pick (done o) (pick (eqb y.0 x) Finishing old) old
effect x other o h old = old

unfoldable pub last_effective : ℕ → List Told → Last
last_effective x [] = Never
last_effective x (e ∷ h) = effect x (doing e.call) e.answer.outcome h (last_effective x h)
