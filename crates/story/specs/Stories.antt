-- What the theorems say of a run, in the history's words.
use Rattle.std.specs.Prelude.{ℕ, ◌≡◌, Bool, true, false, List, [], ◌∷◌, ◌++◌, Option, Some, None, Result, Ok, eqb}
use Rattle.std.specs.Option.{option_map}
use Rattle.numbers.specs.Choose.{pick}
use Rattle.text.specs.Names.{empty_name}
use Rattle.text.specs.declared.names.Name.{Name}
use Rattle.tables.specs.declared.requests.RequestKind.{RequestKind}
use Rattle.tables.specs.declared.requests.RequestKind.TheVariants.{Connect, Publish, Play}
use Rattle.tables.specs.declared.requests.Request.{Request}
use Rattle.wishes.specs.Outcome.{Outcome}
use Rattle.wishes.specs.declared.outcome.Refusal.{Refusal}
use Rattle.wishes.specs.declared.wish.Wish.{Wish}
use Rattle.wishes.specs.declared.wish.Wish.TheVariants.{CloseStream, DeleteStream}
use Rattle.session.specs.declared.decision.Event.{Event}
use Rattle.story.specs.Steps.{Call, Response, step}
use Rattle.story.specs.Doings.{Doing, Wants, Accepts, doing}
use Rattle.story.specs.Runs.{Start, Told, after, told}
use Rattle.story.specs.History.{Filed, Last, PublishAccepted, done, filed}

-- the event of an answer with the app and the key that it is raised under
pub record Raised : Type 0 where
  pub event : Option Event
  pub app : Name
  pub key : Name

-- no event, no app, no key
abbrev pub nothing_raised : Raised
nothing_raised = record { event = None; app = empty_name; key = empty_name }

abbrev pub frame_in : Response → Raised
frame_in r = record { event = r.event; app = r.app; key = r.key }

-- what audio or video on a stream raises, by the app joined and the last effective step on the stream
abbrev pub story_frame : Option Name → Last → Event → Raised
story_frame (Some app) (PublishAccepted key) e = record { event = Some e; app = app; key = key }
story_frame joined last e = nothing_raised

-- a request of the session's table as the history tells it
abbrev pub as_filed : Request → Filed
as_filed r = record { number = r.id.0; kind = r.kind; stream = r.stream.0; name = r.name }

abbrev pub asked : Option Request → Option Filed
asked r = option_map as_filed r

-- ---- "frames filed under a closed key"
-- a closeStream or a deleteStream of x
abbrev pub ends_want : ℕ → Result Wish Refusal → Bool
ends_want x (Ok (CloseStream y)) = eqb y.0 x
ends_want x (Ok (DeleteStream y)) = eqb y.0 x
ends_want x other = false

abbrev pub ends : ℕ → Doing → Bool
ends x (Wants y w) = ends_want x w
ends x other = false

-- an accept, answered 0, of a publish request on x
abbrev pub is_publish : RequestKind → Bool
is_publish Connect = false
is_publish Publish = true
is_publish Play = false

abbrev pub publish_on : ℕ → Option Filed → Bool
publish_on x None = false
publish_on x (Some f) = pick (eqb f.stream x) (is_publish f.kind) false

abbrev pub accepts_publish : ℕ → Doing → Outcome → List Told → Bool
accepts_publish x (Accepts n) o h = pick (done o) (publish_on x (filed n.0 h)) false
accepts_publish x other o h = false

-- none of the newer steps does so
abbrev pub NoneAccepts : Start → ℕ → List Call → List Call → Type 0
NoneAccepts b x [] older = Unit {0}
NoneAccepts b x (c ∷ newer) older = (accepts_publish x (doing c) (step (after b (newer ++ older)) c).0.outcome (told b (newer ++ older)) ≡ false) × NoneAccepts b x newer older
