-- The shapes of a decision: nothing, a refusal, a record, an event. What a decision does not use is empty.
use Rattle.text.specs.Names.{empty_name}
use Rattle.text.specs.declared.names.Name.{Name}
use Rattle.metadata.specs.Metadata.{no_metadata}
use Rattle.metadata.specs.declared.metadata.StreamMetadata.{StreamMetadata}
use Rattle.std.specs.Prelude.{Option, None, Ok, Err}
use Rattle.wishes.specs.Outcome.{Outcome}
use Rattle.wishes.specs.declared.outcome.Refusal.{Refusal}
use Rattle.session.specs.Changes.{no_change}
use Rattle.session.specs.declared.changes.Change.{Change}
use Rattle.session.specs.declared.decision.Decision.{Decision}
use Rattle.session.specs.declared.decision.Event.{Event}
use Rattle.session.specs.declared.decision.Reply.{Reply}
use Rattle.session.specs.declared.decision.Reply.TheVariants.{Nothing}

abbrev pub replying : Reply → Name → Change → Decision
replying reply name c = record { outcome = Ok tt; event = None; app = empty_name; key = empty_name; metadata = no_metadata; reply = reply; name = name; change = c }

abbrev pub quietly : Change → Decision
quietly c = replying Nothing empty_name c

abbrev pub nothing : Decision
nothing = quietly no_change

abbrev pub raising : Option Event → Name → Name → StreamMetadata → Change → Decision
raising event app key metadata c = record { outcome = Ok tt; event = event; app = app; key = key; metadata = metadata; reply = Nothing; name = empty_name; change = c }

-- "Every refusal leaves session and out buffer unchanged and raises nothing; only 11 from an accept removes the request."
abbrev pub refusing_with : Refusal → Change → Decision
refusing_with refusal c = record { outcome = Err refusal; event = None; app = empty_name; key = empty_name; metadata = no_metadata; reply = Nothing; name = empty_name; change = c }

abbrev pub refusing : Refusal → Decision
refusing refusal = refusing_with refusal no_change

-- of an outcome alone: done quietly, or refused
abbrev pub concluding_with : Outcome → Change → Decision
concluding_with (Ok _) c = quietly c
concluding_with (Err refusal) c = refusing_with refusal c

abbrev pub concluding : Outcome → Decision
concluding outcome = concluding_with outcome no_change
