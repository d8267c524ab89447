-- The answers of sends.
use Rattle.std.specs.Prelude.{ℕ, List, Result}
use Rattle.std.specs.Option.{ok_or}
use Rattle.answers.specs.Sending.{sent}
use Rattle.wishes.specs.declared.outcome.Refusal.{Refusal}
use Rattle.wishes.specs.declared.outcome.Refusal.TheVariants.{NoRoom}

-- the count of bytes written, or 12
unfoldable pub sending : List ℕ → List ℕ → Result ℕ Refusal × List ℕ
sending records out = (ok_or (sent records out).0 NoRoom, (sent records out).1)
