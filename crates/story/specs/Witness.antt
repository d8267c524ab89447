-- Two runs that differ in order: the start, the messages and the steps.
use Rattle.std.specs.Prelude.{ℕ, false, List, [], ◌∷◌, replicate}
use Rattle.text.specs.Words.{text}
use Rattle.text.specs.declared.ids.StreamId.{StreamId}
use Rattle.amf0.specs.Grammar.{done, none, null, number, object, property, string, value}
use Rattle.amf0.specs.Writing.{encode_of}
use Rattle.messages.specs.declared.messages.MediaKind.TheVariants.{Video}
use Rattle.story.specs.Steps.{Call, accept, media, message, send_ping}
use Rattle.story.specs.Runs.{Start}
use Rattle.story.specs.Orders.{Accept, Act, By, Plain, Reject, Tagged}

-- ---- bodies of commands
unfoldable pub connect_body : List ℕ
connect_body = encode_of (value (string (text "connect")) (value (number 0) (value (object (property (text "app") (string (text "live")) none)) done)))

unfoldable pub create_body : List ℕ
create_body = encode_of (value (string (text "createStream")) (value (number 0) (value null done)))

unfoldable pub publish_body : List ℕ
publish_body = encode_of (value (string (text "publish")) (value (number 0) (value null (value (string (text "pin7")) (value (string (text "live")) done)))))

-- a lent buffer
abbrev pub lent : List ℕ
lent = replicate 256 0

abbrev pub on_stream : ℕ → StreamId
on_stream x = record { 0 = x }

abbrev pub command : ℕ → List ℕ → Call
command x body = message 20 (on_stream x) 0 7 body lent

-- ---- a start, a connect and its accept
abbrev pub begin : Start
begin = record { chunk = 4096; window = 2500000; bandwidth = 2500000; finish = false; version = text "FMS"; clock = 5; out = replicate 71 0 }

abbrev pub common : List Call
common = accept (record { 0 = 0 }) 6 lent ∷ (command 0 connect_body ∷ [])

-- ---- the further steps: a creation, a publish on stream 1 and one on stream 2, the first accepted, a frame on stream 1, the second rejected, and a ping
abbrev pub tagged : ℕ → Act → Tagged Act
tagged t act = record { tag = t; held = act }

abbrev pub create : Tagged Act
create = tagged 1 (Plain (command 0 create_body))

abbrev pub publish_one : Tagged Act
publish_one = tagged 2 (Plain (command 1 publish_body))

abbrev pub publish_two : Tagged Act
publish_two = tagged 3 (Plain (command 2 publish_body))

abbrev pub accept_one : Tagged Act
accept_one = tagged 4 (Accept (By 2) 8 lent)

abbrev pub frame : Tagged Act
frame = tagged 5 (Plain (media Video (on_stream 1) 40))

abbrev pub reject_two : Tagged Act
reject_two = tagged 6 (Reject (By 3) (text "NetStream.Publish.Denied") (text "no") 9 lent)

abbrev pub ping : Tagged Act
ping = tagged 7 (Plain (send_ping 9 lent))

-- the publish on stream 2 comes later, or earlier; so does the ping
abbrev pub one : List (Tagged Act)
one = ping ∷ (reject_two ∷ (frame ∷ (accept_one ∷ (publish_two ∷ (publish_one ∷ (create ∷ []))))))

abbrev pub two : List (Tagged Act)
two = reject_two ∷ (ping ∷ (frame ∷ (accept_one ∷ (publish_one ∷ (publish_two ∷ (create ∷ []))))))
