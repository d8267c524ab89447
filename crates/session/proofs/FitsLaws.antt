-- A change that fits a session: what it adds is new and short, what it takes away is there.
use mathlib.Core.Path.{◌≡◌, ap, ◌∙◌}
use Prim.Native.Nat.{◌≤◌, ◌<◌}
use mathlib.Core.Bool.{Bool, true, false}
use Rattle.std.specs.Prelude.{Some}
use lib.ListN.{take}
use Rattle.numbers.specs.Choose.{pick}
use Rattle.text.specs.declared.ids.RequestId.{RequestId}
use Rattle.text.specs.declared.ids.StreamId.{StreamId}
use Rattle.tables.specs.Entries.{request_name, request_number, stream_name, stream_number}
use Rattle.tables.specs.declared.requests.Request.{Request}
use Rattle.tables.specs.declared.streams.Stream.{Stream}
use Rattle.tables.proofs.KeptTheorems.{found_number}
use Rattle.session.specs.State.{request_at, request_of, stream_at, stream_of}
use Rattle.session.specs.declared.changes.Change.{Change}
use Rattle.session.specs.declared.changes.Effect.{Effect}
use Rattle.session.specs.declared.changes.Effect.TheVariants.{Nothing, StreamMade, StreamSet, StreamRemoved, RequestFiled, ConnectFiled, ConnectAccepted, StreamAccepted, RequestRemoved}
use Rattle.session.specs.declared.decision.Decision.{Decision}
use Rattle.session.specs.declared.session.Session.{Session}

abbrev pub NewStream : Session → Stream → Type 0
NewStream s e = (s.next_stream ≡ 4294967295 → ⊥) × ((s.stream_count < 16) × ((e.id.0 ≡ s.next_stream) × (e.key.len ≤ 128)))

abbrev pub NewRequest : Session → Request → Type 0
NewRequest s r = (s.next_request ≡ 4294967295 → ⊥) × ((s.request_count < 16) × ((r.id.0 ≡ s.next_request) × (r.name.len ≤ 128)))

abbrev pub FitsBy : Effect → Session → Stream → Request → Type 0
FitsBy Nothing s e r = Unit {0}
FitsBy StreamMade s e r = NewStream s e
FitsBy StreamSet s e r = e.key.len ≤ 128
FitsBy StreamRemoved s e r = stream_of s e.id.0 ≡ Some e
FitsBy RequestFiled s e r = NewRequest s r
FitsBy (ConnectFiled encoding) s e r = NewRequest s r
FitsBy ConnectAccepted s e r = request_of s r.id.0 ≡ Some r
FitsBy StreamAccepted s e r = (request_of s r.id.0 ≡ Some r) × (e.key.len ≤ 128)
FitsBy RequestRemoved s e r = request_of s r.id.0 ≡ Some r

abbrev pub Fits : Session → Change → Type 0
Fits s c = FitsBy c.effect s c.stream c.request

-- of two decisions
pub either : (s : Session) (b : Bool) (d e : Decision) → Fits s d.change → Fits s e.change → Fits s (pick b d e).change
either s true d e f g = f
either s false d e f g = g

-- ---- what a search found is there under its own number
module _ (s : Session) where
  pub stream_there : (x : StreamId) (e : Stream) → stream_at s x ≡ Some e → stream_of s e.id.0 ≡ Some e
  stream_there x e h = ap (stream_of s) (found_number stream_number stream_name x.0 (take s.stream_count s.streams) e h) ∙ h

  pub request_number_lem : (n : RequestId) (r : Request) → request_at s n ≡ Some r → r.id.0 ≡ n.0
  request_number_lem n r h = found_number request_number request_name n.0 (take s.request_count s.requests) r h

  pub request_there : (n : RequestId) (r : Request) → request_at s n ≡ Some r → request_of s r.id.0 ≡ Some r
  request_there n r h = ap (request_of s) (request_number_lem n r h) ∙ h
