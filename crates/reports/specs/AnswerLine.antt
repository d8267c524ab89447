-- "NAME CODE [ACTION STREAM] [EVENT FIELD=VALUE ..] [ping=N] [out=HEX] [spilt]"
use Rattle.std.specs.Prelude.{ℕ, Bool, List, [], ◌++◌, Option, Result, Ok, Err, eqb, drop, take}
use Rattle.std.specs.List.{list_all}
use Rattle.numbers.specs.Choose.{pick}
use Rattle.text.specs.Words.{text}
use Rattle.text.specs.declared.names.Name.{Name}
use Rattle.metadata.specs.declared.metadata.StreamMetadata.{StreamMetadata}
use Rattle.wishes.specs.Outcome.{Outcome}
use Rattle.wishes.specs.declared.outcome.Refusal.{Refusal}
use Rattle.session.specs.declared.decision.Event.{Event}
use Rattle.lines.specs.Lines.{event_line, outcome_text}
use Rattle.spelling.specs.Text.{hex_of, number_field}

-- every byte is still A5
abbrev pub untouched : List ℕ → Bool
untouched out = list_all (λ x. eqb x 165) out

-- "out=HEX is what was written, from the first byte to the written count, and is left out where that is 0."
unfoldable pub written_text : ℕ → List ℕ → List ℕ
written_text count out = pick (eqb count 0) [] (text " out=" ++ hex_of (take count out))

-- "`spilt` stands where a byte of the buffer past the written count is no longer A5 (on a refusal, any byte)."
unfoldable pub spilt_text : ℕ → List ℕ → List ℕ
spilt_text count out = pick (untouched (drop count out)) (text "\n") (text " spilt\n")

unfoldable pub end_text : ℕ → List ℕ → List ℕ
end_text count out = written_text count out ++ spilt_text count out

unfoldable pub head_text : List ℕ → Outcome → List ℕ
head_text name outcome = name ++ outcome_text outcome

-- a call that may raise an event; len is the length of a message's body
unfoldable pub answer_text : List ℕ → Outcome → Option Event → Name → Name → StreamMetadata → ℕ → ℕ → List ℕ → List ℕ
answer_text name outcome event app key m len count out = head_text name outcome ++ (event_line event app key m len ++ end_text count out)

-- a send: a refusal wrote nothing
unfoldable pub send_text : List ℕ → Result ℕ Refusal → List ℕ → List ℕ
send_text name (Ok n) out = head_text name (Ok tt) ++ end_text n out
send_text name (Err r) out = head_text name (Err r) ++ end_text 0 out

-- "ping=N is the number that a ping request hands back."
unfoldable pub ping_line : Result ℕ Refusal → ℕ → List ℕ → List ℕ
ping_line (Ok n) timestamp out = head_text (text "ping") (Ok tt) ++ (number_field (text " ping=") timestamp ++ end_text n out)
ping_line (Err r) timestamp out = head_text (text "ping") (Err r) ++ end_text 0 out
