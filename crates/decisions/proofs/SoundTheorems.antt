-- Every decision of the application changes a session by what fits it.
use mathlib.Core.Path.{◌≡◌, refl}
use Prim.Native.Nat.{◌≤◌}
use mathlib.Core.Bool.{Bool, true, false}
use Rattle.std.specs.Prelude.{Option, Some, None}
use lib.Dec.{lit≤}
use Rattle.text.specs.declared.ids.RequestId.{RequestId}
use Rattle.text.specs.declared.ids.StreamId.{StreamId}
use Rattle.tables.specs.declared.requests.Request.{Request}
use Rattle.tables.specs.declared.requests.RequestKind.{RequestKind}
use Rattle.tables.specs.declared.requests.RequestKind.TheVariants.{Connect as ConnectKind, Publish as PublishKind, Play as PlayKind}
use Rattle.tables.specs.declared.streams.Stream.{Stream}
use Rattle.tables.specs.declared.streams.StreamState.{StreamState}
use Rattle.tables.specs.declared.streams.StreamState.TheVariants.{Created, Publishing, Playing, Completed}
use Rattle.wishes.specs.declared.outcome.Action.{Action}
use Rattle.wishes.specs.declared.outcome.Action.TheVariants.{Publish as Publishes, Play as Plays}
use Rattle.session.specs.State.{request_at, request_of, stream_at}
use Rattle.session.specs.declared.decision.Reply.{Reply}
use Rattle.session.specs.declared.session.Session.{Session}
use Rattle.session.proofs.FitsLaws.{Fits, either, request_there}
use Rattle.session.proofs.SoundTheorems.{Sound, request_short}
use Rattle.decisions.specs.Answers.{accepted, accept_request, finish_playing, finished, finished_on, granted, playing, publishing, reject_request, rejected, settled, stream_stands}

module _ (s : Session) where
  rejects : (n : RequestId) (q : Option Request) (short : Bool) → request_at s n ≡ q → Fits s (reject_request q short).change
  unfolding reject_request
  rejects n (Some r) short h = either s short _ _ (request_there s n r h) tt
  rejects n None short h = tt

  pub rejected_fits : (id : RequestId) (short : Bool) → Fits s (rejected s id short).change
  rejected_fits id short = rejects id (request_at s id) short refl

  finishes : (x : StreamState) (id : StreamId) (e : Stream) → Fits s (finished x id e).change
  finishes Created id e = tt
  finishes Publishing id e = tt
  finishes Playing id e = lit≤ tt
  finishes Completed id e = tt

  ends : (q : Option Stream) (id : StreamId) → Fits s (finish_playing q id).change
  unfolding finish_playing
  ends (Some e) id = finishes e.state id e
  ends None id = tt

  pub finished_fits : (id : StreamId) → Fits s (finished_on s id).change
  finished_fits id = ends (stream_at s id) id

  module _ (r : Request) (there : request_of s r.id.0 ≡ Some r) (short : r.name.len ≤ 128) where
    settle : (found : Bool) (action : Action) (reply : Reply) (x : Stream) → x.key.len ≤ 128 → Fits s (settled found action r reply x).change
    settle true action reply x k = (there, k)
    settle false action reply x k = there

    grants : (k : RequestKind) (found : Bool) → Fits s (granted k r found).change
    grants ConnectKind found = there
    grants PublishKind found = settle found Publishes _ (publishing r) short
    grants PlayKind found = settle found Plays _ (playing r) short

  accepts : Sound s → (n : RequestId) (q : Option Request) (found : Bool) → request_at s n ≡ q → Fits s (accept_request q found).change
  unfolding accept_request
  accepts h n (Some r) found e = let f = request_there s n r e in grants r f (request_short s h r.id.0 r f) r.kind found
  accepts h n None found e = tt

  pub accepted_fits : Sound s → (id : RequestId) → Fits s (accepted s id).change
  accepted_fits h id = accepts h id (request_at s id) (stream_stands s (request_at s id)) refl
