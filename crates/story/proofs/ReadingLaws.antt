-- What a message wants is never a refusal 15: that one is the door's alone.
use mathlib.Core.Path.{refl}
use Prim.Native.Nat.{ℕ}
use mathlib.Core.Bool.{Bool, true, false}
use mathlib.Core.List.{List}
use lib.Dec.{eqb, ltb}
use lib.ListN.{length}
use Rattle.std.specs.Prelude.{Option, Some, None, Result, Ok, Err}
use Rattle.numbers.specs.Choose.{pick}
use Rattle.numbers.specs.Fields.{field_at}
use Rattle.text.specs.Words.{command_of, text}
use Rattle.text.specs.declared.words.Command.{Command}
use Rattle.text.specs.declared.words.Command.TheVariants.{Connect}
use Rattle.amf0.specs.Bodies.{checked}
use Rattle.amf0.specs.declared.error.BodyError.{BodyError}
use Rattle.amf0.specs.declared.error.BodyError.TheVariants.{NotAmf0, TooDeep}
use Rattle.wishes.specs.Commands.{command_wish, known_command, whole_command}
use Rattle.wishes.specs.Connect.{connect_property, connect_wish}
use Rattle.wishes.specs.Control.{control_wish, event_wish, ping_wish}
use Rattle.wishes.specs.DataFrame.{data_wish}
use Rattle.wishes.specs.Outcome.{Outcome}
use Rattle.wishes.specs.Values.{bits_in, is_object, text_in, value_of}
use Rattle.wishes.specs.Wish.{and_then, if_whole, need, unless, whole_body}
use Rattle.wishes.specs.declared.outcome.Refusal.{Refusal}
use Rattle.wishes.specs.declared.wish.Wish.{Wish}
use Rattle.story.proofs.DecisionLaws.{Not15, Readable}

either : (b : Bool) (v w : Result Wish Refusal) → Readable v → Readable w → Readable (pick b v w)
either true v w f g = f
either false v w f g = g

other_wise : (b : Bool) (r : Refusal) (w : Result Wish Refusal) → Not15 (Err r) → Readable w → Readable (unless b r w)
other_wise true r w n f = f
other_wise false r w n f = n

given : {A : Type 0} (o : Option A) (r : Refusal) (f : A → Result Wish Refusal) → Not15 (Err r) → ((a : A) → Readable (f a)) → Readable (need o r f)
given (Some a) r f n k = k a
given None r f n k = n

-- ---- the tests of a whole body
whole_by : (c : Result (Unit {0}) BodyError) → Not15 (if_whole c)
whole_by (Ok u) = refl
whole_by (Err NotAmf0) = refl
whole_by (Err TooDeep) = refl

long_or : (b : Bool) (r : Refusal) (o : Outcome) → Not15 (Err r) → Not15 o → Not15 (pick b (Err r) o)
long_or true r o n f = n
long_or false r o n f = f

body : (s : List ℕ) → Not15 (whole_body s)
unfolding whole_body
body s = long_or (ltb 4096 (length s)) _ _ refl (whole_by (checked s))

after : (o : Outcome) (w : Result Wish Refusal) → Not15 o → Readable w → Readable (and_then o w)
after (Ok u) w n f = f
after (Err r) w n f = n

-- ---- commands
connects : (s : List ℕ) (t : ℕ) → Readable (connect_wish s t)
connects s t = other_wise (is_object (value_of s 2)) _ _ refl (given (text_in s (connect_property s (text "app"))) _ _ refl (λ app. tt))

known : (s : List ℕ) (t : ℕ) (c : Command) → Readable (known_command s t c)
known s t Connect = connects s t
known s t rest = tt

begun : (s : List ℕ) → Readable (whole_command s)
begun s =
    given (text_in s (value_of s 0)) _ _ refl
    (λ name. given (bits_in (value_of s 1)) _ _ refl (λ transaction. given (value_of s 2) _ _ refl (λ v. known s transaction (command_of name))))

pub command_readable : (s : List ℕ) → Readable (command_wish s)
unfolding command_wish
command_readable s = after (whole_body s) _ (body s) (begun s)

-- ---- data and user control
pub data_readable : (s : List ℕ) → Readable (data_wish s)
unfolding data_wish
data_readable s = after (whole_body s) _ (body s) tt

ping : (s : List ℕ) (w : Wish) → Readable (ping_wish s w)
unfolding ping_wish
ping s w = either (ltb (length s) 6) _ _ refl tt

pub control_readable : (s : List ℕ) → Readable (control_wish s)
unfolding control_wish event_wish
control_readable s =
    either (ltb 4096 (length s)) _ _ refl
    (either (ltb (length s) 2) _ _ refl
    (either (eqb (field_at 2 s 0) 6) _ _ (ping s _) (either (eqb (field_at 2 s 0) 7) _ _ (ping s _) tt)))
