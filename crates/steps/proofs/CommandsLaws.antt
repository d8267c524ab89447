-- The cases of the commands that file a request. Where one can be filed, there is a number and a place for it, and the name that it is filed under was given.
use mathlib.Core.Path.{◌≡◌, refl, sym, ap, ◌∙◌}
use Prim.Native.Nat.{ℕ, ◌≤◌, ◌<◌}
use mathlib.Core.Bool.{Bool, true, false}
use lib.Dec.{leb}
use borrow.Author.Tests.{eq-eqb, ne_eqb, le-leb, lt-leb}
use Rattle.std.specs.Prelude.{Option, Some, None, Result, Ok, Err}
use Rattle.numbers.specs.Choose.{pick}
use Rattle.numbers.proofs.ChooseLaws.{pick_eq, pick_le}
use Rattle.text.specs.declared.ids.StreamId.{StreamId}
use Rattle.text.specs.declared.names.Name.{Name}
use Rattle.wishes.specs.declared.outcome.Refusal.{Refusal}
use Rattle.wishes.specs.declared.outcome.Refusal.TheVariants.{NameTooLong, NumbersUsedUp, RequestsFull}
use Rattle.wishes.specs.declared.wish.PlayArguments.{PlayArguments}
use Rattle.wishes.specs.declared.wish.PlayFault.{PlayFault}
use Rattle.wishes.specs.declared.wish.PlayFault.TheVariants.{KeyNoString as PlayKeyNoString}
use Rattle.wishes.specs.declared.wish.PublishArguments.{PublishArguments}
use Rattle.wishes.specs.declared.wish.PublishFault.{PublishFault}
use Rattle.wishes.specs.declared.wish.PublishFault.TheVariants.{KeyNoString, ModeNoString, ModeUnknown}
use Rattle.session.specs.declared.decision.CommandFault.{CommandFault}
use Rattle.session.specs.declared.decision.CommandFault.TheVariants.{PublishFew, PublishUnconnected, PublishUnknownMode, PlayFew, PlayUnconnected}
use Rattle.session.specs.declared.decision.Decision.{Decision}
use Rattle.session.specs.declared.desk.Desk.{Desk}
use Rattle.steps.specs.Commands.{asked, failing, may_ask, on_asked, on_room, play, play_fault, publish, publish_fault, request_room}

abbrev pub Open : Desk → Option Name → Name → Type 0
Open d name n = (name ≡ Some n) × ((d.next_request ≡ 4294967295 → ⊥) × (d.request_count < 16))

abbrev pub OpenSays : Desk → Option Name → Result Name Refusal → Type 0
OpenSays d name (Ok n) = Open d name n
OpenSays d name (Err r) = Unit {0}

pub open_says : (d : Desk) (name : Option Name) → OpenSays d name (request_room d name)
unfolding request_room
open_says d (Some n) =
    pick_eq (OpenSays d (Some n)) (Err _) (pick (leb 16 d.request_count) (Err _) (Ok n)) d.next_request 4294967295 (λ k. tt)
    (λ k. pick_le (OpenSays d (Some n)) (Err _) (Ok n) 16 d.request_count (λ h. tt) (λ h. (refl, (k, h))))
open_says d None = tt

-- ---- whether a request can be filed
module _ (d : Desk) (name : Option Name) where
  pub room_6 : name ≡ None → Err NameTooLong ≡ request_room d name
  unfolding request_room
  room_6 q = simp q

  module _ (n : Name) (q : name ≡ Some n) where
    pub room_8 : d.next_request ≡ 4294967295 → Err NumbersUsedUp ≡ request_room d name
    unfolding request_room
    room_8 h = simp (q, eq-eqb d.next_request 4294967295 h)

    module _ (m : d.next_request ≡ 4294967295 → ⊥) where
      pub room_7 : 16 ≤ d.request_count → Err RequestsFull ≡ request_room d name
      unfolding request_room
      room_7 h = simp (q, ne_eqb d.next_request 4294967295 m, le-leb 16 d.request_count h)

      pub room_open : d.request_count < 16 → Ok n ≡ request_room d name
      unfolding request_room
      room_open h = simp (q, ne_eqb d.next_request 4294967295 m, lt-leb 16 d.request_count h)

  -- ---- filed, or refused
  module _ (f : Name → Decision) (x : Decision) where
    pub filing_open : (r : Result Name Refusal) (n : Name) → x ≡ f n → r ≡ request_room d name → r ≡ Ok n → x ≡ on_room (request_room d name) f
    filing_open r n k e q = k ∙ ap (λ (y : Result Name Refusal). on_room y f) (sym q ∙ e)

    module _ (id : StreamId) (t : ℕ) (u : CommandFault) where
      pub asking_off : x ≡ failing t u id → d.connected ≡ false → x ≡ on_asked (may_ask d id t u name) f
      asking_off k q = k ∙ simp q

      pub asking_on : x ≡ on_room (request_room d name) f → d.connected ≡ true → x ≡ on_asked (may_ask d id t u name) f
      asking_on k q = k ∙ go (request_room d name) ∙ simp q
        where
          go : (r : Result Name Refusal) → on_room r f ≡ on_asked (asked r) f
          go (Ok n) = refl
          go (Err r) = refl

-- ---- by the arguments
-- the fault by a test of "connected" is the fault by what stands there
pub fault_told : (d : Desk) (u f : CommandFault) (b : Bool) → d.connected ≡ b → pick b f u ≡ pick d.connected f u
fault_told d u f b q = ap (λ (x : Bool). pick x f u) (sym q)

-- each fault that counts behind "connected", by whether there is a connection
pub faults_told : (d : Desk) (b : Bool) → d.connected ≡ b
    → (pick b PublishFew PublishUnconnected ≡ publish_fault d.connected KeyNoString)
    × ((pick b PublishFew PublishUnconnected ≡ publish_fault d.connected ModeNoString)
    × ((pick b PublishUnknownMode PublishUnconnected ≡ publish_fault d.connected ModeUnknown)
    × (pick b PlayFew PlayUnconnected ≡ play_fault d.connected PlayKeyNoString)))
faults_told d b q = (fault_told d _ _ b q, (fault_told d _ _ b q, (fault_told d _ _ b q, fault_told d _ _ b q)))

pub publish_told : (d : Desk) (id : StreamId) (t : ℕ) (x y : Result PublishArguments PublishFault) (a : Decision) → a ≡ publish d id t y → x ≡ y → a ≡ publish d id t x
publish_told d id t x y a e q = e ∙ ap (publish d id t) (sym q)

pub play_told : (d : Desk) (id : StreamId) (t : ℕ) (x y : Result PlayArguments PlayFault) (a : Decision) → a ≡ play d id t y → x ≡ y → a ≡ play d id t x
play_told d id t x y a e q = e ∙ ap (play d id t) (sym q)
