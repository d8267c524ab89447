-- What a decision changes of a session: one effect, with the stream and the request that it is about.
use Rattle.std.specs.Prelude.{ℕ}
use Rattle.tables.specs.Entries.{no_request, no_stream}
use Rattle.tables.specs.declared.requests.Request.{Request}
use Rattle.tables.specs.declared.streams.Stream.{Stream}
use Rattle.session.specs.State.{connected_to, with_changed, with_encoding, with_request, with_stream, without_request, without_stream}
use Rattle.session.specs.declared.changes.Change.{Change}
use Rattle.session.specs.declared.changes.Effect.{Effect}
use Rattle.session.specs.declared.changes.Effect.TheVariants.{Nothing, StreamMade, StreamSet, StreamRemoved, RequestFiled, ConnectFiled, ConnectAccepted, StreamAccepted, RequestRemoved}
use Rattle.session.specs.declared.session.Session.{Session}

-- ---- each effect with what it is about; what it does not use is blank
abbrev pub no_change : Change
no_change = record { effect = Nothing; stream = no_stream; request = no_request }

abbrev pub of_stream : Effect → Stream → Change
of_stream effect e = record { effect = effect; stream = e; request = no_request }

abbrev pub of_request : Effect → Request → Change
of_request effect r = record { effect = effect; stream = no_stream; request = r }

-- a new stream; a stream in the place of the one of its number; a stream gone
abbrev pub making : Stream → Change
making e = of_stream StreamMade e

abbrev pub setting : Stream → Change
setting e = of_stream StreamSet e

abbrev pub removing : Stream → Change
removing e = of_stream StreamRemoved e

-- a new request; a connect's, which also "sets the session's encoding"; a request gone
abbrev pub filing_of : Request → Change
filing_of r = of_request RequestFiled r

abbrev pub filing_connect : Request → ℕ → Change
filing_connect r encoding = of_request (ConnectFiled encoding) r

abbrev pub dropping : Request → Change
dropping r = of_request RequestRemoved r

-- "Accepting a connect sets the app and Connected, which never ends." "Accepting publish or play sets that state"
abbrev pub joining : Request → Change
joining r = of_request ConnectAccepted r

abbrev pub granting : Request → Stream → Change
granting r e = record { effect = StreamAccepted; stream = e; request = r }

-- ---- the session after a change
abbrev pub applied_by : Effect → Session → Stream → Request → Session
applied_by Nothing s e r = s
applied_by StreamMade s e r = with_stream s e
applied_by StreamSet s e r = with_changed s e
applied_by StreamRemoved s e r = without_stream s e.id.0
applied_by RequestFiled s e r = with_request s r
applied_by (ConnectFiled encoding) s e r = with_encoding (with_request s r) encoding
applied_by ConnectAccepted s e r = connected_to (without_request s r.id.0) r.name
applied_by StreamAccepted s e r = with_changed (without_request s r.id.0) e
applied_by RequestRemoved s e r = without_request s r.id.0

unfoldable pub applied : Session → Change → Session
applied s c = applied_by c.effect s c.stream c.request
