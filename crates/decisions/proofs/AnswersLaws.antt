-- The application's decisions, by what the code found.
use mathlib.Core.Path.{◌≡◌, sym, ap, ◌∙◌}
use mathlib.Core.Bool.{Bool, true, false}
use Rattle.std.specs.Prelude.{Option, Some, None}
use Rattle.text.specs.Names.{empty_name}
use Rattle.text.specs.declared.ids.StreamId.{StreamId}
use Rattle.tables.specs.declared.requests.Request.{Request}
use Rattle.tables.specs.declared.requests.RequestKind.{RequestKind}
use Rattle.tables.specs.declared.streams.Stream.{Stream}
use Rattle.tables.specs.declared.streams.StreamState.{StreamState}
use Rattle.wishes.specs.declared.outcome.Action.{Action}
use Rattle.wishes.specs.declared.outcome.Action.TheVariants.{Complete}
use Rattle.wishes.specs.declared.outcome.Refusal.TheVariants.{NoSuchRequest, TextTooLong, WrongStream}
use Rattle.session.specs.Changes.{dropping, granting}
use Rattle.session.specs.Decisions.{refusing, refusing_with, replying}
use Rattle.session.specs.declared.decision.Decision.{Decision}
use Rattle.session.specs.declared.decision.Reply.{Reply}
use Rattle.decisions.specs.Answers.{accept_request, finish_playing, finished, granted, reject_request, rejection, settled}

module _ (found : Bool) (action : Action) (r : Request) (reply : Reply) (e : Stream) (d : Decision) where
  pub settle_there : d ≡ replying reply r.name (granting r e) → found ≡ true → d ≡ settled found action r reply e
  settle_there k q = k ∙ simp q

  pub settle_missing : d ≡ refusing_with (WrongStream action r.stream) (dropping r) → found ≡ false → d ≡ settled found action r reply e
  settle_missing k q = k ∙ simp q

pub granted_told : (x y : RequestKind) (r : Request) (found : Bool) (d : Decision) → d ≡ granted y r found → x ≡ y → d ≡ granted x r found
granted_told x y r found d k q = k ∙ ap (λ (z : RequestKind). granted z r found) (sym q)

pub rejection_told : (x y : RequestKind) (r : Request) → x ≡ y → rejection y r ≡ rejection x r
rejection_told x y r q = ap (λ (z : RequestKind). rejection z r) (sym q)

pub finished_told : (x y : StreamState) (id : StreamId) (e : Stream) (d : Decision) → d ≡ finished y id e → x ≡ y → d ≡ finished x id e
finished_told x y id e d k q = k ∙ ap (λ (z : StreamState). finished z id e) (sym q)

-- ---- a request that waits, or not
module _ (q : Option Request) (d : Decision) where
  pub accept_none : (found : Bool) → d ≡ refusing NoSuchRequest → q ≡ None → d ≡ accept_request q found
  unfolding accept_request
  accept_none found k h = k ∙ ap (λ (o : Option Request). accept_request o found) (sym h)

  pub accept_some : (r : Request) (found : Bool) → d ≡ granted r.kind r found → q ≡ Some r → d ≡ accept_request q found
  unfolding accept_request
  accept_some r found k h = k ∙ ap (λ (o : Option Request). accept_request o found) (sym h)

  pub reject_none : (short : Bool) → d ≡ refusing NoSuchRequest → q ≡ None → d ≡ reject_request q short
  unfolding reject_request
  reject_none short k h = k ∙ ap (λ (o : Option Request). reject_request o short) (sym h)

  module _ (r : Request) (short : Bool) where
    pub reject_long : d ≡ refusing TextTooLong → short ≡ false → q ≡ Some r → d ≡ reject_request q short
    unfolding reject_request
    reject_long k b h = k ∙ simp b (ap (λ (o : Option Request). reject_request o false) (sym h))

    pub reject_some : d ≡ replying (rejection r.kind r) empty_name (dropping r) → short ≡ true → q ≡ Some r → d ≡ reject_request q short
    unfolding reject_request
    reject_some k b h = k ∙ simp b (ap (λ (o : Option Request). reject_request o true) (sym h))

module _ (e : Option Stream) (id : StreamId) (d : Decision) where
  pub finish_none : d ≡ refusing (WrongStream Complete id) → e ≡ None → d ≡ finish_playing e id
  unfolding finish_playing
  finish_none k h = k ∙ ap (λ (o : Option Stream). finish_playing o id) (sym h)

  pub finish_some : (x : Stream) → d ≡ finished x.state id x → e ≡ Some x → d ≡ finish_playing e id
  unfolding finish_playing
  finish_some x k h = k ∙ ap (λ (o : Option Stream). finish_playing o id) (sym h)
