-- The sends over the host's arrays.
use Rattle.std.specs.Prelude.{ℕ, Bool, List, Result, Ok, Err}
use Rattle.numbers.specs.Choose.{pick}
use Rattle.wishes.specs.Outcome.{number_of}
use Rattle.wishes.specs.declared.outcome.Refusal.{Refusal}
use Rattle.sending.specs.declared.sends.PingSent.{PingSent}

-- a send hands back its number and the count of bytes; of a refusal no byte
abbrev pub send_numbers : Result ℕ Refusal → ℕ × ℕ
send_numbers (Ok n) = (0, n)
send_numbers (Err why) = (number_of (Err why), 0)

abbrev pub sent_numbers : Result ℕ Refusal × List ℕ → (ℕ × ℕ) × List ℕ
sent_numbers a = (send_numbers a.0, a.1)

unfoldable pub hosted_send : Bool → List ℕ → Result ℕ Refusal × List ℕ → (ℕ × ℕ) × List ℕ
hosted_send fine out a = pick fine (sent_numbers a) ((15, 0), out)

abbrev pub ping_told : Result PingSent Refusal → ℕ × (ℕ × ℕ)
ping_told (Ok p) = (0, (p.count, p.timestamp))
ping_told (Err why) = (number_of (Err why), (0, 0))

abbrev pub ping_numbers : Result PingSent Refusal × List ℕ → (ℕ × (ℕ × ℕ)) × List ℕ
ping_numbers a = (ping_told a.0, a.1)

unfoldable pub hosted_ping : Bool → List ℕ → Result PingSent Refusal × List ℕ → (ℕ × (ℕ × ℕ)) × List ℕ
hosted_ping fine out a = pick fine (ping_numbers a) ((15, (0, 0)), out)
