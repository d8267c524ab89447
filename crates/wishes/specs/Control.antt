-- What a user control message wants: its first two bytes are the event.
use Rattle.std.specs.Prelude.{ℕ, List, Result, Ok, Err, eqb, ltb, length}
use Rattle.numbers.specs.Choose.{pick}
use Rattle.numbers.specs.Fields.{field_at}
use Rattle.wishes.specs.declared.outcome.Refusal.{Refusal}
use Rattle.wishes.specs.declared.outcome.Refusal.TheVariants.{BodyTooLong, NotAmf0}
use Rattle.wishes.specs.declared.wish.Wish.{Wish}
use Rattle.wishes.specs.declared.wish.Wish.TheVariants.{Nothing, PingRequest, PingResponse}

-- "or a ping under 6"
unfoldable pub ping_wish : List ℕ → Wish → Result Wish Refusal
ping_wish s ping = pick (ltb (length s) 6) (Err NotAmf0) (Ok ping)

-- "event 6 is answered by event 7 with the same four bytes; 7 raises PingResponseReceived; others nothing"
unfoldable pub event_wish : List ℕ → ℕ → Result Wish Refusal
event_wish s event =
    pick (eqb event 6) (ping_wish s (PingRequest (field_at 4 s 2)))
    (pick (eqb event 7) (ping_wish s (PingResponse (field_at 4 s 2)))
    (Ok Nothing))

-- "body over 4,096 bytes in types 4, 18, 20"; then "or user control under 2 bytes"
unfoldable pub control_wish : List ℕ → Result Wish Refusal
control_wish s =
    pick (ltb 4096 (length s)) (Err BodyTooLong)
    (pick (ltb (length s) 2) (Err NotAmf0)
    (event_wish s (field_at 2 s 0)))
