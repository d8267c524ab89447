-- connect, publish and play: requests to be filed.
use Rattle.std.specs.Prelude.{ℕ, Bool, Option, Some, Result, Ok, Err, eqb, leb}
use Rattle.numbers.specs.Choose.{pick}
use Rattle.text.specs.Names.{empty_name}
use Rattle.text.specs.declared.ids.RequestId.{RequestId}
use Rattle.text.specs.declared.ids.StreamId.{StreamId}
use Rattle.text.specs.declared.names.Name.{Name}
use Rattle.text.specs.declared.words.PublishMode.{PublishMode}
use Rattle.text.specs.declared.words.PublishMode.TheVariants.{Live}
use Rattle.metadata.specs.Metadata.{no_metadata}
use Rattle.tables.specs.declared.requests.Request.{Request}
use Rattle.tables.specs.declared.requests.RequestKind.TheVariants.{Connect, Publish, Play}
use Rattle.wishes.specs.Wish.{need}
use Rattle.wishes.specs.declared.outcome.Refusal.{Refusal}
use Rattle.wishes.specs.declared.outcome.Refusal.TheVariants.{NameTooLong, NumbersUsedUp, RequestsFull}
use Rattle.wishes.specs.declared.wish.PlayArguments.{PlayArguments}
use Rattle.wishes.specs.declared.wish.PlayFault.{PlayFault}
use Rattle.wishes.specs.declared.wish.PlayFault.TheVariants.{TooFew as PlayTooFew, KeyNoString as PlayKeyNoString}
use Rattle.wishes.specs.declared.wish.PublishArguments.{PublishArguments}
use Rattle.wishes.specs.declared.wish.PublishFault.{PublishFault}
use Rattle.wishes.specs.declared.wish.PublishFault.TheVariants.{TooFew, KeyNoString, ModeNoString, ModeUnknown}
use Rattle.session.specs.Changes.{filing_connect, filing_of, no_change}
use Rattle.session.specs.Decisions.{raising, refusing, replying}
use Rattle.session.specs.declared.decision.CommandFault.{CommandFault}
use Rattle.session.specs.declared.decision.CommandFault.TheVariants.{PublishFew, PublishUnconnected, PublishUnknownMode, PlayFew, PlayUnconnected}
use Rattle.session.specs.declared.decision.Decision.{Decision}
use Rattle.session.specs.declared.decision.Event.TheVariants.{ConnectionRequested, PublishStreamRequested, PlayStreamRequested}
use Rattle.session.specs.declared.decision.Reply.TheVariants.{Failed}
use Rattle.session.specs.declared.desk.Desk.{Desk}

-- ---- a request is to be filed
-- 6: "app name (after its slash is taken), key or metadata encoder that the step would file, raise or send is over 128 bytes"
-- 8: "the number to be given to a new request or stream would be 4,294,967,295". 7: "a request is to be filed and 16 wait already"
unfoldable pub request_room : Desk → Option Name → Result Name Refusal
request_room d name =
    need name NameTooLong λ n.
    pick (eqb d.next_request 4294967295) (Err NumbersUsedUp)
    (pick (leb 16 d.request_count) (Err RequestsFull)
    (Ok n))

abbrev pub on_room : Result Name Refusal → (Name → Decision) → Decision
on_room (Ok n) f = f n
on_room (Err r) f = refusing r

abbrev pub following_request : Desk → RequestId
following_request d = record { 0 = d.next_request }

-- ---- "connect: .. sets the session's encoding from objectEncoding if a number, else 0; files a request and raises ConnectionRequested, connected or not."
abbrev pub connect_request : Desk → ℕ → Name → Request
connect_request d transaction app = record { id = following_request d; kind = Connect; stream = record { 0 = 0 }; mode = Live; transaction = transaction; name = app }

abbrev pub connect : Desk → ℕ → ℕ → Option Name → Decision
connect d transaction encoding app =
    on_room (request_room d app) λ n.
    raising (Some (ConnectionRequested (following_request d))) n empty_name no_metadata (filing_connect (connect_request d transaction n) encoding)

-- ---- an error record
abbrev pub failing : ℕ → CommandFault → StreamId → Decision
failing transaction fault stream = replying (Failed transaction fault stream) empty_name no_change

-- ---- "publish (stream from the message): tested in this order are two arguments, connected, key a string, mode a string, mode one of live, append, record; the first that fails gives an error record with the source's text and code NetStream.Publish.Start. Else file and raise. The stream need not exist."
abbrev pub publish_request : Desk → StreamId → PublishMode → Name → Request
publish_request d stream mode key = record { id = following_request d; kind = Publish; stream = stream; mode = mode; transaction = 0; name = key }

-- all arguments are good: the key, or what is decided where nothing may be filed
abbrev pub asked : Result Name Refusal → Result Name Decision
asked (Ok n) = Ok n
asked (Err r) = Err (refusing r)

abbrev pub may_ask : Desk → StreamId → ℕ → CommandFault → Option Name → Result Name Decision
may_ask d stream transaction unconnected key = pick d.connected (asked (request_room d key)) (Err (failing transaction unconnected stream))

abbrev pub on_asked : Result Name Decision → (Name → Decision) → Decision
on_asked (Ok n) f = f n
on_asked (Err d) f = d

abbrev pub publish_good : Desk → StreamId → ℕ → PublishArguments → Decision
publish_good d stream transaction a =
    on_asked (may_ask d stream transaction PublishUnconnected a.key) λ key.
    raising (Some (PublishStreamRequested (following_request d) a.mode)) d.app key no_metadata (filing_of (publish_request d stream a.mode key))

-- the fault of an argument that is there counts behind "connected"
abbrev pub publish_fault : Bool → PublishFault → CommandFault
publish_fault connected TooFew = PublishFew
publish_fault connected KeyNoString = pick connected PublishFew PublishUnconnected
publish_fault connected ModeNoString = pick connected PublishFew PublishUnconnected
publish_fault connected ModeUnknown = pick connected PublishUnknownMode PublishUnconnected

abbrev pub publish : Desk → StreamId → ℕ → Result PublishArguments PublishFault → Decision
publish d stream transaction (Ok a) = publish_good d stream transaction a
publish d stream transaction (Err f) = failing transaction (publish_fault d.connected f) stream

-- ---- "play: likewise one argument, connected, key a string; NetStream.Play.Start."
abbrev pub play_request : Desk → StreamId → Name → Request
play_request d stream key = record { id = following_request d; kind = Play; stream = stream; mode = Live; transaction = 0; name = key }

abbrev pub play_good : Desk → StreamId → ℕ → PlayArguments → Decision
play_good d stream transaction a =
    on_asked (may_ask d stream transaction PlayUnconnected a.key) λ key.
    raising (Some (PlayStreamRequested (following_request d) a.start a.duration a.reset stream)) d.app key no_metadata (filing_of (play_request d stream key))

abbrev pub play_fault : Bool → PlayFault → CommandFault
play_fault connected PlayTooFew = PlayFew
play_fault connected PlayKeyNoString = pick connected PlayFew PlayUnconnected

abbrev pub play : Desk → StreamId → ℕ → Result PlayArguments PlayFault → Decision
play d stream transaction (Ok a) = play_good d stream transaction a
play d stream transaction (Err f) = failing transaction (play_fault d.connected f) stream
