-- The records of a reply. "Codes and texts are those of the source."
use Rattle.std.specs.Prelude.{ℕ, Bool, ◌&&◌, List, [], leb, length}
use Rattle.numbers.specs.Choose.{pick}
use Rattle.text.specs.Names.{text_of}
use Rattle.text.specs.Words.{text}
use Rattle.text.specs.declared.names.Name.{Name}
use Rattle.record.specs.Records.{connect_accepted, error_record, ping_response, play_accepted, play_finished, publish_accepted, stream_created}
use Rattle.record.specs.Texts.{play_start, publish_start}
use Rattle.session.specs.declared.decision.CommandFault.{CommandFault}
use Rattle.session.specs.declared.decision.CommandFault.TheVariants.{PublishFew, PublishUnconnected, PublishUnknownMode, PlayFew, PlayUnconnected}
use Rattle.session.specs.declared.decision.Reply.{Reply}
use Rattle.session.specs.declared.decision.Reply.TheVariants.{Nothing, StreamCreated, Failed, PingResponse, ConnectAccepted, PublishAccepted, PlayAccepted, PlayFinished, Rejected}

-- "an error record with the source's text and code NetStream.Publish.Start"; "likewise .. NetStream.Play.Start"
abbrev pub fault_code : CommandFault → List ℕ
fault_code PublishFew = publish_start
fault_code PublishUnconnected = publish_start
fault_code PublishUnknownMode = publish_start
fault_code PlayFew = play_start
fault_code PlayUnconnected = play_start

abbrev pub fault_text : CommandFault → List ℕ
fault_text PublishFew = text "Invalid publish arguments"
fault_text PublishUnconnected = text "Can't publish before connecting"
fault_text PublishUnknownMode = text "Invalid publish mode given"
fault_text PlayFew = text "Invalid play arguments"
fault_text PlayUnconnected = text "Can't play before connecting"

abbrev pub fault_record : ℕ → CommandFault → ℕ → ℕ → List ℕ
fault_record transaction fault time stream = error_record transaction (fault_code fault) (fault_text fault) time stream

-- 13: "reject code or description over 256 bytes"
unfoldable pub short : List ℕ → List ℕ → Bool
short code description = leb (length code) 256 && leb (length description) 256

-- the name is the app's or the key's; the code and the description are a reject's, which gives 13 where they are not short
abbrev pub reply_records : Reply → Name → Name → ℕ → List ℕ → List ℕ → ℕ → List ℕ
reply_records Nothing name version encoding code description time = []
reply_records (StreamCreated transaction id) name version encoding code description time = stream_created transaction id.0 time
reply_records (Failed transaction fault id) name version encoding code description time = fault_record transaction fault time id.0
reply_records (PingResponse x) name version encoding code description time = ping_response x time
reply_records (ConnectAccepted transaction) name version encoding code description time = connect_accepted transaction (text_of version) (text_of name) encoding time
reply_records (PublishAccepted id) name version encoding code description time = publish_accepted (text_of name) time id.0
reply_records (PlayAccepted id) name version encoding code description time = play_accepted (text_of name) time id.0
reply_records (PlayFinished id) name version encoding code description time = play_finished (text_of name) time id.0
reply_records (Rejected transaction id) name version encoding code description time = pick (short code description) (error_record transaction code description time id.0) []
