-- What a call tells, and a flag that a host hands in.
use Rattle.std.specs.Prelude.{ℕ, Bool, Option, not, eqb}
use Rattle.text.specs.declared.names.Name.{Name}
use Rattle.metadata.specs.declared.metadata.StreamMetadata.{StreamMetadata}
use Rattle.wishes.specs.Outcome.{Outcome, number_of}
use Rattle.session.specs.declared.decision.Event.{Event}
use Rattle.parts.specs.Parts.{Shown, shown_parts}

-- a flag of a host: 0 is no, any other number yes
abbrev pub is_set : ℕ → Bool
is_set n = not (eqb n 0)

-- the number and the parts of an answer
unfoldable pub told_of : Outcome → Option Event → Name → Name → StreamMetadata → ℕ → ℕ × Shown
told_of outcome event app key metadata count = (number_of outcome, shown_parts outcome event app key metadata count)
