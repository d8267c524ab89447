-- The entries of the two tables: their numbers and names, and a blank one of each.
use Rattle.std.specs.Prelude.{ℕ, []}
use Rattle.text.specs.Names.{empty_name}
use Rattle.text.specs.declared.names.Name.{Name}
use Rattle.text.specs.declared.words.PublishMode.TheVariants.{Live}
use Rattle.tables.specs.declared.requests.Request.{Request}
use Rattle.tables.specs.declared.requests.RequestKind.TheVariants.{Connect}
use Rattle.tables.specs.declared.streams.Stream.{Stream}
use Rattle.tables.specs.declared.streams.StreamState.TheVariants.{Created}

abbrev pub stream_number : Stream → ℕ
stream_number s = s.id.0

abbrev pub stream_name : Stream → Name
stream_name s = s.key

abbrev pub no_stream : Stream
no_stream = record { id = record { 0 = 0 }; state = Created; mode = Live; key = empty_name }

abbrev pub request_number : Request → ℕ
request_number r = r.id.0

abbrev pub request_name : Request → Name
request_name r = r.name

abbrev pub no_request : Request
no_request = record { id = record { 0 = 0 }; kind = Connect; stream = record { 0 = 0 }; mode = Live; transaction = 0; name = empty_name }

-- what a place past the end would hold, which is never read
abbrev pub unread_stream : Stream
unread_stream = record { id = record { 0 = 0 }; state = Created; mode = Live; key = record { bytes = []; len = 0 } }

abbrev pub unread_request : Request
unread_request = record { id = record { 0 = 0 }; kind = Connect; stream = record { 0 = 0 }; mode = Live; transaction = 0; name = record { bytes = []; len = 0 } }
