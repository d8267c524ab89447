-- "Every refusal leaves session and out buffer unchanged and raises nothing; only 11 from an accept removes the request."
use mathlib.Core.Path.{◌≡◌, refl}
use mathlib.Core.Bool.{Bool, true, false}
use Rattle.text.specs.declared.ids.StreamId.{StreamId}
use Rattle.std.specs.Prelude.{Option, Some, None}
use Rattle.tables.specs.declared.requests.Request.{Request}
use Rattle.tables.specs.declared.requests.RequestKind.{RequestKind}
use Rattle.tables.specs.declared.requests.RequestKind.TheVariants.{Connect as ConnectKind, Publish as PublishKind, Play as PlayKind}
use Rattle.tables.specs.declared.streams.Stream.{Stream}
use Rattle.tables.specs.declared.streams.StreamState.{StreamState}
use Rattle.tables.specs.declared.streams.StreamState.TheVariants.{Created, Publishing, Playing, Completed}
use Rattle.wishes.specs.declared.outcome.Action.{Action}
use Rattle.wishes.specs.declared.outcome.Action.TheVariants.{Publish as Publishes, Play as Plays}
use Rattle.wishes.specs.declared.outcome.Refusal.TheVariants.{NoSuchRequest, TextTooLong, WrongStream}
use Rattle.session.specs.Changes.{dropping}
use Rattle.session.specs.Decisions.{refusing_with}
use Rattle.session.specs.declared.decision.Decision.{Decision}
use Rattle.session.specs.declared.decision.Reply.{Reply}
use Rattle.session.proofs.RefusalTheorems.{Fate, done, either, kept}
use Rattle.decisions.specs.Answers.{accept_request, finish_playing, finished, granted, playing, publishing, reject_request, settled}

pub rejected_fate : (q : Option Request) (short : Bool) → Fate (reject_request q short)
unfolding reject_request
rejected_fate (Some r) short = either short _ _ (done refl) (kept TextTooLong refl)
rejected_fate None short = kept NoSuchRequest refl

finishes : (x : StreamState) (id : StreamId) (e : Stream) → Fate (finished x id e)
finishes Created id e = kept _ refl
finishes Publishing id e = kept _ refl
finishes Playing id e = done refl
finishes Completed id e = kept _ refl

pub finished_fate : (e : Option Stream) (id : StreamId) → Fate (finish_playing e id)
unfolding finish_playing
finished_fate (Some e) id = finishes e.state id e
finished_fate None id = kept _ refl

-- an accept may also be 11, and then the request, which was found, is gone
pub data AcceptFate (q : Option Request) (d : Decision) : Type 0 where
  fate : Fate d → AcceptFate q d
  gone : (r : Request) → q ≡ Some r → (action : Action) (stream : StreamId) → d ≡ refusing_with (WrongStream action stream) (dropping r) → AcceptFate q d

module _ (r : Request) where
  settle : (found : Bool) (action : Action) (reply : Reply) (x : Stream) → AcceptFate (Some r) (settled found action r reply x)
  settle true action reply x = fate (done refl)
  settle false action reply x = gone r refl action r.stream refl

  grants : (k : RequestKind) (found : Bool) → AcceptFate (Some r) (granted k r found)
  grants ConnectKind found = fate (done refl)
  grants PublishKind found = settle found Publishes _ (publishing r)
  grants PlayKind found = settle found Plays _ (playing r)

pub accepted_fate : (q : Option Request) (found : Bool) → AcceptFate q (accept_request q found)
unfolding accept_request
accepted_fate (Some r) found = grants r r.kind found
accepted_fate None found = fate (kept NoSuchRequest refl)
