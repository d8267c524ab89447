-- The projection: after further steps, each stream is where its own machine is, fed with the steps that belong to it.
use mathlib.Core.Path.{◌≡◌, refl, sym, ap, ap₂, ◌∙◌}
use Prim.Native.Nat.{ℕ, ◌+◌, ◌≤◌, ◌<◌}
use native.Mathlib.Omega.{arith}
use mathlib.Core.Bool.{true, false}
use mathlib.Core.List.{List, [], ◌∷◌}
use borrow.Author.Tests.{eq-eqb, ne_eqb}
use Rattle.std.specs.Option.{unwrap_or}
use Rattle.std.specs.Prelude.{Option, Some, None, Result, Ok, Err, is_some}
use Rattle.numbers.specs.Choose.{pick}
use Rattle.numbers.proofs.ChooseLaws.{pick_elim}
use Rattle.text.specs.declared.ids.RequestId.{RequestId}
use Rattle.text.specs.declared.ids.StreamId.{StreamId}
use Rattle.text.specs.declared.names.Name.{Name}
use Rattle.answers.specs.Sending.{sent}
use Rattle.tables.specs.declared.requests.Request.{Request}
use Rattle.tables.specs.declared.requests.RequestKind.TheVariants.{Connect}
use Rattle.tables.specs.declared.streams.Stream.{Stream}
use Rattle.wishes.specs.Outcome.{number_of}
use Rattle.wishes.specs.declared.outcome.Refusal.{Refusal}
use Rattle.wishes.specs.declared.wish.PlayArguments.{PlayArguments}
use Rattle.wishes.specs.declared.wish.PlayFault.{PlayFault}
use Rattle.wishes.specs.declared.wish.PublishArguments.{PublishArguments}
use Rattle.wishes.specs.declared.wish.PublishFault.{PublishFault}
use Rattle.wishes.specs.declared.wish.Wish.{Wish}
use Rattle.wishes.specs.declared.wish.Wish.TheVariants.{CreateStream, CloseStream, DeleteStream, Metadata}
use Rattle.wishes.specs.declared.wish.Wish.TheVariants.{Publish as PublishWish, Play as PlayWish}
use Rattle.session.specs.Changes.{applied}
use Rattle.session.specs.Desk.{desk_of}
use Rattle.session.specs.State.{connected, request_of, stream_of}
use Rattle.session.specs.declared.decision.Decision.{Decision}
use Rattle.session.specs.declared.decision.Event.{Event}
use Rattle.session.specs.declared.desk.Desk.{Desk}
use Rattle.session.specs.declared.session.Session.{Session}
use Rattle.streams.specs.Streams.{frame_of}
use Rattle.streams.specs.declared.streams.Frame.{Frame}
use Rattle.steps.specs.Deciding.{decided, subject_of}
use Rattle.sending.specs.declared.sends.PingSent.{PingSent}
use Rattle.replies.specs.Replies.{short}
use Rattle.story.specs.Steps.{Call, Response, accept, finish, media, message, pinged_as, reject, send_ping, sent_as, step}
use Rattle.story.specs.Doings.{Doing, Wants, Shows, Accepts, Rejects, doing}
use Rattle.story.specs.Orders.{Accept, Act, By, Connectless, Each, Finds, HasRoom, Log, NoConnect, Old, Plain, Ref, Reject, Tagged, act_ask, answer_to, ask_at, call_of, creates, creations_in, doing_ask, for_room, go, made_by, mine, number_in, owner, owner_of, owner_of_want, owns, plain, play_ask, publish_ask, request_in, resolve, stream_in, under, unnumbered, waiting_ask, want_ask}
use Rattle.story.proofs.LookLaws.{not_none, same_found, same_or}
use Rattle.story.proofs.SessionLaws.{Good, request_absent, request_below}
use Rattle.story.proofs.DecisionLaws.{Did, decision_at, shown_as}
use Rattle.story.proofs.StepLaws.{Constants, answer_by, constants_of, does, fitted, records_of, step_answer, step_next, written}
use Rattle.story.proofs.KeptLaws.{step_good}
use Rattle.story.proofs.OnceTheorems.{accept_missing, reject_missing}
use Rattle.story.proofs.MachineLaws.{Calm, Meets, accept_alike, answers_alike, bare, bare_call, desk_decision, desk_for, did_back, did_births, did_files, did_next, did_other, did_own, did_same, frame_seen, own_answer, own_decision, own_stream, owner_in, reject_alike, want_alike}

-- ---- what is held under a tag
module _ {A : Type 0} (t : ℕ) (p : Tagged A) (l : List (Tagged A)) where
  pub under_here : p.tag ≡ t → under t (p ∷ l) ≡ Some p.held
  unfolding under
  under_here h = simp (eq-eqb p.tag t h)

  pub under_past : (p.tag ≡ t → ⊥) → under t (p ∷ l) ≡ under t l
  unfolding under
  under_past h = simp (ne_eqb p.tag t h)

-- ---- the machine of stream x, over its own steps
unfoldable pub machine : Session → ℕ → List (Tagged Act) → Option Stream
machine s x [] = stream_of s x
machine s x (p ∷ own) = own_stream (own_decision s x (machine s x own) own p.held) (machine s x own)

unfoldable pub machine_answers : Session → ℕ → List (Tagged Act) → List (Tagged Response)
machine_answers s x [] = []
machine_answers s x (p ∷ own) = record { tag = p.tag; held = own_answer s x (machine s x own) own p.held } ∷ machine_answers s x own

-- the answers to the steps that belong to x, request numbers apart
abbrev pub reply : Session → Tagged Act → List (Tagged Act) → Tagged Response
reply s p older = record { tag = p.tag; held = plain (answer_to s older p.held) }

unfoldable pub replies_of : Session → ℕ → List (Tagged Act) → List (Tagged Response)
replies_of s x [] = []
replies_of s x (p ∷ older) = pick (owns x (owner s older p.held)) (reply s p older ∷ replies_of s x older) (replies_of s x older)

-- ---- what holds of the session after further steps
pub record Core (s : Session) (l : List (Tagged Act)) : Type 0 where
  pub good : Good (go s l).0
  pub on : connected (go s l).0 ≡ true
  pub same : constants_of (go s l).0 ≡ constants_of s
  pub app : (go s l).0.app ≡ s.app
  pub next : (go s l).0.next_stream ≡ s.next_stream + creations_in l
  pub base : s.next_request ≤ (go s l).0.next_request
  pub old : (n : ℕ) (q : Request) → n < s.next_request → request_of (go s l).0 n ≡ Some q → request_of s n ≡ Some q
  pub new : (t n : ℕ) → number_in (under t (go s l).1) ≡ Some n
      → (n < (go s l).0.next_request) × ((q : Request) → request_of (go s l).0 n ≡ Some q → act_ask (under t l) ≡ Some (unnumbered q))

pub record Sim (s : Session) (l : List (Tagged Act)) : Type 0 where
  pub core : Core s l
  pub agree : (x : ℕ) → stream_of (go s l).0 x ≡ machine s x (mine s x l)
  pub told : (x : ℕ) → replies_of s x l ≡ machine_answers s x (mine s x l)

-- ---- mine, step by step
module _ (s : Session) (p : Tagged Act) (older : List (Tagged Act)) where
  pub mine_own : (x : ℕ) → owner s older p.held ≡ Some x → mine s x (p ∷ older) ≡ p ∷ mine s x older
  unfolding mine
  mine_own x o = rw o (simp (eq-eqb x x refl))

  mine_other : (x y : ℕ) → owner s older p.held ≡ Some x → (x ≡ y → ⊥) → mine s y (p ∷ older) ≡ mine s y older
  unfolding mine
  mine_other x y o n = rw o (simp (ne_eqb x y n))

  mine_none : (y : ℕ) → owner s older p.held ≡ None → mine s y (p ∷ older) ≡ mine s y older
  unfolding mine
  mine_none y o = rw o

  pub replies_own : (x : ℕ) → owner s older p.held ≡ Some x → replies_of s x (p ∷ older) ≡ reply s p older ∷ replies_of s x older
  unfolding replies_of
  replies_own x o = rw o (simp (eq-eqb x x refl))

  replies_other : (x y : ℕ) → owner s older p.held ≡ Some x → (x ≡ y → ⊥) → replies_of s y (p ∷ older) ≡ replies_of s y older
  unfolding replies_of
  replies_other x y o n = rw o (simp (ne_eqb x y n))

  replies_none : (y : ℕ) → owner s older p.held ≡ None → replies_of s y (p ∷ older) ≡ replies_of s y older
  unfolding replies_of
  replies_none y o = rw o

-- ---- a filing step of x is among x's own
publish_owner : (x : StreamId) (a : Result PublishArguments PublishFault) (q : Request) → publish_ask x a ≡ Some q → Some x.0 ≡ Some q.stream.0
publish_owner x (Ok a) q h = ap stream_in h
publish_owner x (Err f) q h = absurd cc

play_owner : (x : StreamId) (a : Result PlayArguments PlayFault) (q : Request) → play_ask x a ≡ Some q → Some x.0 ≡ Some q.stream.0
play_owner x (Ok a) q h = ap stream_in h
play_owner x (Err f) q h = absurd cc

want_owner : (next : ℕ) (x : StreamId) (v : Result Wish Refusal) (q : Request) → want_ask x v ≡ Some q → owner_of_want next x v ≡ Some q.stream.0
want_owner next x (Ok (PublishWish t a)) q h = publish_owner x a q h
want_owner next x (Ok (PlayWish t a)) q h = play_owner x a q h
want_owner next x other q h = absurd cc

doing_owner : (next : ℕ) (g : Doing) (q : Request) → doing_ask g ≡ Some q → owner_of next g ≡ Some q.stream.0
doing_owner next (Wants x w) q h = want_owner next x w q h
doing_owner next other q h = absurd cc

asks_owner : (s : Session) (older : List (Tagged Act)) (act : Act) (q : Request) → act_ask (Some act) ≡ Some q → owner s older act ≡ Some q.stream.0
asks_owner s older (Plain c) q h = doing_owner _ (doing c) q h
asks_owner s older (Accept r clock out) q h = absurd cc
asks_owner s older (Reject r code description clock out) q h = absurd cc

mine_look : (s : Session) (t : ℕ) (q : Request) (l : List (Tagged Act)) → act_ask (under t l) ≡ Some q → under t (mine s q.stream.0 l) ≡ under t l
unfolding mine
mine_look s t q [] h = refl
mine_look s t q (p ∷ older) h =
    same_or p.tag t (under t (mine s q.stream.0 (p ∷ older)) ≡ under t (p ∷ older))
    (λ e. let o = asks_owner s older p.held q (ap act_ask (sym (under_here t p older e)) ∙ h) in
    ap (under t) (mine_own s p older q.stream.0 o) ∙ under_here t p (mine s q.stream.0 older) e ∙ sym (under_here t p older e))
    (λ e. let i = mine_look s t q older (ap act_ask (sym (under_past t p older e)) ∙ h) in
    pick_elim (λ (r : List (Tagged Act)). under t r ≡ under t (p ∷ older)) _ _ (owns q.stream.0 (owner s older p.held))
    (λ b. under_past t p (mine s q.stream.0 older) e ∙ i ∙ sym (under_past t p older e))
    (λ b. i ∙ sym (under_past t p older e)))

ask_mine : (s : Session) (older : List (Tagged Act)) (r : Ref) (q : Request) → ask_at s older r ≡ Some q → ask_at s (mine s q.stream.0 older) r ≡ Some q
ask_mine s older (Old n) q h = h
ask_mine s older (By t) q h = ap act_ask (mine_look s t q older h) ∙ h

-- ---- the desk of a call, and the machine's
-- the owner's number, and what stands there; without an owner, nothing
abbrev seat : Option ℕ → ℕ
seat None = 0
seat (Some x) = x

abbrev stands_at : Session → Option ℕ → Option Stream
stands_at z None = None
stands_at z (Some x) = stream_of z x

abbrev own_desk : Session → Name → Option ℕ → Desk
own_desk z app o = desk_for app (seat o) (stands_at z o)

meets : (z : Session) (v : Wish) (y : StreamId) → Meets (desk_of z (subject_of v y)) (seat (owner_of_want z.next_stream y (Ok v))) (stands_at z (owner_of_want z.next_stream y (Ok v))) (Ok v)
unfolding desk_of
meets z (CreateStream t) y = refl
meets z (CloseStream u) y = refl
meets z (DeleteStream u) y = refl
meets z (Metadata read) y = refl
meets z other y = tt

module _ (z : Session) (app : Name) (on : connected z ≡ true) (here : z.app ≡ app) where
  frame_alike : (y : StreamId) (e : Event) → frame_of z y (Some e) ≡ frame_seen (own_desk z app (Some y.0)) e
  unfolding frame_of
  frame_alike y e = rw (on, here) refl

  plain_alike : (g : Doing) → Connectless g → for_room (number_of (decision_at z g).outcome) ≡ false → bare (decision_at z g) ≡ bare (desk_decision (own_desk z app (owner_of z.next_stream g)) g)
  unfolding decided desk_of
  plain_alike (Wants y (Ok w)) n h = want_alike (desk_of z (subject_of w y)) app _ _ on here (Ok w) n (meets z w y) y h
  plain_alike (Shows y e) n h = ap (λ (f : Option Frame). bare (shown_as f)) (frame_alike y e)
  plain_alike (Accepts m) n h = absurd n
  plain_alike (Rejects m b) n h = absurd n
  plain_alike other n h = refl

plain_calm : (z : Session) (h : Good z) (g : Doing) → Connectless g → Calm z h g
plain_calm z h (Wants x w) n = n
plain_calm z h (Accepts m) n = absurd n
plain_calm z h (Rejects m b) n = absurd n
plain_calm z h other n = tt

plain_owner : (z : Session) (g : Doing) → Connectless g → owner_in z g ≡ owner_of z.next_stream g
plain_owner z (Accepts m) n = absurd n
plain_owner z (Rejects m b) n = absurd n
plain_owner z other n = refl

-- ---- a decision that is not answered 10 found a request
accept_found : (z : Session) → Good z → (n : RequestId) (clock : ℕ) (out : List ℕ) → (number_of (step z (accept n clock out)).0.outcome ≡ 10 → ⊥) → (r : Request) × (request_of z n.0 ≡ Some r)
accept_found z g n clock out h = at (request_of z n.0) refl
  where
    at : (o : Option Request) → request_of z n.0 ≡ o → (r : Request) × (request_of z n.0 ≡ Some r)
    at None e = absurd (h (ap (λ (p : Response × Session). number_of p.0.outcome) (accept_missing z g.sound n e clock out)))
    at (Some r) e = (r, e)

reject_found : (z : Session) → Good z → (n : RequestId) (code description : List ℕ) (clock : ℕ) (out : List ℕ) → (number_of (step z (reject n code description clock out)).0.outcome ≡ 10 → ⊥)
    → (r : Request) × (request_of z n.0 ≡ Some r)
reject_found z g n code description clock out h = at (request_of z n.0) refl
  where
    at : (o : Option Request) → request_of z n.0 ≡ o → (r : Request) × (request_of z n.0 ≡ Some r)
    at None e = absurd (h (ap (λ (p : Response × Session). number_of p.0.outcome) (reject_missing z g.sound n e clock out code description)))
    at (Some r) e = (r, e)

waiting_some : (o : Option Request) (q : Request) → waiting_ask o ≡ Some q → (r : Request) × (o ≡ Some r)
waiting_some None q e = absurd cc
waiting_some (Some r) q e = (r, refl)

module _ (s : Session) (g : Good s) (older : List (Tagged Act)) (m : Core s older) where
  -- the request that is found is the one that was meant
  meant : (r : Ref) (q p : Request) → ask_at s older r ≡ Some q → request_of (go s older).0 (resolve (go s older) r).0 ≡ Some p → q ≡ unnumbered p
  meant (Old n) q p a f =
      let b = waiting_some (request_of s n) q a in
      let k = m.old n p (request_below s g n b.0 b.1) f in
      same_found _ _ _ a (ap waiting_ask k)
  meant (By t) q p a f = at (number_in (under t (go s older).1)) refl f
    where
      at : (o : Option ℕ) → number_in (under t (go s older).1) ≡ o → request_of (go s older).0 (unwrap_or o (go s older).0.next_request) ≡ Some p → q ≡ unnumbered p
      at None e h = absurd (not_none _ _ h (request_absent (go s older).0 m.good (go s older).0.next_request (omega arith)))
      at (Some n) e h = same_found _ _ _ a ((m.new t n e).1 p h)

-- ---- what a step is to the session: calm, with the owner that it has over the steps alone
pub record Turn (s : Session) (older : List (Tagged Act)) (m : Core s older) (act : Act) : Type 0 where
  pub calm : Calm (go s older).0 m.good (doing (call_of (go s older) act))
  pub own : owner_in (go s older).0 (doing (call_of (go s older) act)) ≡ owner s older act
  pub alike : (x : ℕ) → owner s older act ≡ Some x
      → bare (decision_at (go s older).0 (doing (call_of (go s older) act))) ≡ bare (own_decision s x (stream_of (go s older).0 x) (mine s x older) act)
  pub free : owner s older act ≡ None
      → bare (decision_at (go s older).0 (doing (call_of (go s older) act))) ≡ bare (own_decision s 0 None [] act)

module _ (s : Session) (g : Good s) (older : List (Tagged Act)) (m : Core s older) where
  -- the session's decision is not refused for room
  roomy : (act : Act) → HasRoom s older act → for_room (number_of (decision_at (go s older).0 (doing (call_of (go s older) act))).outcome) ≡ false
  roomy act h = (step_next (go s older).0 m.good.sound (call_of (go s older) act) h).1

  asked_turn : (r : Ref) (q p : Request) → ask_at s older r ≡ Some q → request_of (go s older).0 (resolve (go s older) r).0 ≡ Some p → q ≡ unnumbered p
      → (x : ℕ) → stream_in (ask_at s older r) ≡ Some x → (p.stream.0 ≡ x) × (ask_at s (mine s x older) r ≡ Some (unnumbered p))
  asked_turn r q p a f e x o =
      let k : q.stream.0 ≡ x = same_found _ _ _ (ap stream_in a) o in
      (ap (λ (u : Request). u.stream.0) (sym e) ∙ k, ap (λ (n : ℕ). ask_at s (mine s n older) r) (sym k) ∙ ask_mine s older r q a ∙ ap Some e)

  pub turn : (act : Act) → NoConnect s older act → HasRoom s older act → Finds s older act → Turn s older m act
  turn (Plain c) n h f =
      let z : Session = (go s older).0 in
      let e : owner_of z.next_stream (doing c) ≡ owner s older (Plain c) = ap (λ (i : ℕ). owner_of i (doing c)) m.next in
      let at : Option ℕ → Decision = λ (i : Option ℕ). bare (desk_decision (own_desk z s.app i) (doing c)) in
      let q = plain_alike z s.app m.on m.app (doing c) n (roomy (Plain c) h) in
      record {
        calm = plain_calm z m.good (doing c) n;
        own = plain_owner z (doing c) n ∙ e;
        alike = λ x k. q ∙ ap at (e ∙ k);
        free = λ k. q ∙ ap at (e ∙ k);
      }
  turn (Accept r clock out) n h f =
      let z : Session = (go s older).0 in
      let q : Request = f.0.0 in
      let a : ask_at s older r ≡ Some q = f.0.1 in
      let b = accept_found z m.good (resolve (go s older) r) clock out f.1 in
      let p : Request = b.0 in
      let e : q ≡ unnumbered p = meant s g older m r q p a b.1 in
      let no : q.kind ≡ Connect → ⊥ = rw a at n in
      record {
        calm = λ u k w. no (ap (λ (i : Request). i.kind) (e ∙ ap unnumbered (same_found _ _ _ b.1 k)) ∙ w);
        own = ap stream_in b.1 ∙ ap (λ (i : Request). Some i.stream.0) (sym e) ∙ sym (ap stream_in a);
        alike = λ x k. let t = asked_turn r q p a b.1 e x k in rw (b.1, t.1, ← t.0) (accept_alike p (is_some (stream_of z p.stream.0)));
        free = λ k. absurd (not_none _ _ (ap stream_in a) k);
      }
  turn (Reject r code description clock out) n h f =
      let z : Session = (go s older).0 in
      let q : Request = f.0.0 in
      let a : ask_at s older r ≡ Some q = f.0.1 in
      let b = reject_found z m.good (resolve (go s older) r) code description clock out f.1 in
      let p : Request = b.0 in
      let e : q ≡ unnumbered p = meant s g older m r q p a b.1 in
      record {
        calm = tt;
        own = ap stream_in b.1 ∙ ap (λ (i : Request). Some i.stream.0) (sym e) ∙ sym (ap stream_in a);
        alike = λ x k. let t = asked_turn r q p a b.1 e x k in rw (b.1, t.1) (reject_alike p (short code description));
        free = λ k. absurd (not_none _ _ (ap stream_in a) k);
      }

-- ---- the number in an answer is the decision's
fitted_number : (d : Decision) (c : Option ℕ) (out : List ℕ) (n : ℕ) → request_in (fitted d c out).event ≡ Some n → request_in d.event ≡ Some n
fitted_number d (Some c) out n e = e
fitted_number d None out n e = absurd cc

written_number : (k : Constants) (d : Decision) (code description : List ℕ) (clock : ℕ) (out : List ℕ) (n : ℕ) → request_in (written k d code description clock out).event ≡ Some n → request_in d.event ≡ Some n
written_number k d code description clock out n e =
    let r = sent (records_of k d code description clock) out in
    fitted_number d r.0 r.1 n e

-- a send's answer has none
sent_none : (a : Result ℕ Refusal) (out : List ℕ) → request_in (sent_as a out).event ≡ None
sent_none (Ok n) out = refl
sent_none (Err r) out = refl

pinged_none : (a : Result PingSent Refusal) (out : List ℕ) → request_in (pinged_as a out).event ≡ None
pinged_none (Ok p) out = refl
pinged_none (Err r) out = refl

answer_number : (k : Constants) (d : Decision) (c : Call) (n : ℕ) → request_in (answer_by k d c).event ≡ Some n → request_in d.event ≡ Some n
answer_number k d (message type x timestamp clock body out) n e = written_number k d [] [] clock out n e
answer_number k d (media kind x timestamp) n e = e
answer_number k d (accept m clock out) n e = written_number k d [] [] clock out n e
answer_number k d (reject m code description clock out) n e = written_number k d code description clock out n e
answer_number k d (finish x clock out) n e = written_number k d [] [] clock out n e
answer_number k d (send_ping clock out) n e = absurd (not_none _ _ e (pinged_none _ _))
answer_number k d other n e = absurd (not_none _ _ e (sent_none _ _))

-- ---- of acts and their calls
births_call : (l : Log) (act : Act) → made_by (doing (call_of l act)) ≡ creates act
births_call l (Plain c) = refl
births_call l (Accept r clock out) = refl
births_call l (Reject r code description clock out) = refl

ask_call : (l : Log) (act : Act) → act_ask (Some act) ≡ doing_ask (doing (call_of l act))
ask_call l (Plain c) = refl
ask_call l (Accept r clock out) = refl
ask_call l (Reject r code description clock out) = refl

bare_call_lem : (l : Log) (k : Constants) (d : Decision) (act : Act) → answer_by k d (call_of l act) ≡ answer_by k d (bare_call act)
bare_call_lem l k d (Plain c) = refl
bare_call_lem l k d (Accept r clock out) = refl
bare_call_lem l k d (Reject r code description clock out) = refl

module _ (s : Session) (g : Good s) (p : Tagged Act) (older : List (Tagged Act)) (m : Core s older) (h : HasRoom s older p.held) (u : Turn s older m p.held) where
  abbrev was : Session
  was = (go s older).0

  abbrev called : Call
  called = call_of (go s older) p.held

  abbrev decision : Decision
  decision = decision_at was (doing called)

  did_it : Did was (doing called) decision
  did_it = does was called

  goes : ((step was called).1 ≡ applied was decision.change) × (for_room (number_of decision.outcome) ≡ false)
  goes = step_next was m.good.sound called h

  answers : (step was called).0 ≡ answer_by (constants_of s) decision called
  answers = step_answer was m.good.sound called ∙ ap (λ (k : Constants). answer_by k decision called) m.same

  core_step : Core s (p ∷ older)
  unfolding go creations_in
  core_step =
      let e = goes.0 in
      let k = did_same was m.good did_it u.calm in
      record {
        good = step_good was m.good called;
        on = rw e (k.2 ∙ m.on);
        same = rw e (k.0 ∙ m.same);
        app = rw e (k.1 ∙ m.app);
        next = rw e (let a = did_births was m.good did_it goes.1 in let b = births_call (go s older) p.held in let i = m.next in omega arith);
        base = rw e (let a = did_next was m.good did_it in let b = m.base in omega arith);
        old = λ n q lt. rw e (λ f. m.old n q lt (did_back was m.good did_it n q (let b = m.base in omega arith) f));
        new = λ t n. rw e (λ i. same_or p.tag t _
            (λ q. let a = did_files was m.good did_it u.calm n (answer_number (constants_of s) decision called n (ap (λ (r : Response). request_in r.event) (sym answers) ∙ sym (ap number_in (under_here t _ (go s older).1 q)) ∙ i)) in
            (a.0, λ y l. ap act_ask (under_here t p older q) ∙ ask_call (go s older) p.held ∙ a.1 y l))
            (λ q. let a = m.new t n (sym (ap number_in (under_past t _ (go s older).1 q)) ∙ i) in
            let lt = a.0 in
            let le = did_next was m.good did_it in
            (omega arith, λ y l. ap act_ask (under_past t p older q) ∙ a.1 y (did_back was m.good did_it n y lt l))));
      }

  -- the answer is the machine's
  pub own_answers : (x : ℕ) (o : Option Stream) (own : List (Tagged Act)) → bare decision ≡ bare (own_decision s x o own p.held) → plain (answer_to s older p.held) ≡ own_answer s x o own p.held
  own_answers x o own q =
      ap plain answers ∙ answers_alike (constants_of s) decision (own_decision s x o own p.held) called q ∙ ap plain (bare_call_lem (go s older) (constants_of s) (own_decision s x o own p.held) p.held)

  module _ (n : Sim s older) where
    sim_own : (x : ℕ) → owner s older p.held ≡ Some x → Sim s (p ∷ older)
    unfolding go machine machine_answers
    sim_own x o =
        let q = u.alike x o in
        let d = own_decision s x (stream_of was x) (mine s x older) p.held in
        record {
          core = core_step;
          agree = λ y. same_or x y _
              (λ i. rw (← i) (rw goes.0 (did_own was m.good did_it x (u.own ∙ o) ∙ ap (λ (z : Decision). own_stream z (stream_of was x)) q
              ∙ ap (λ (v : Option Stream). own_stream (own_decision s x v (mine s x older) p.held) v) (n.agree x) ∙ sym (ap (machine s x) (mine_own s p older x o)))))
              (λ i. rw goes.0 (did_other was m.good did_it y (ap (owns y) (u.own ∙ o) ∙ ne_eqb x y i) ∙ n.agree y ∙ sym (ap (machine s y) (mine_other s p older x y o i))));
          told = λ y. same_or x y _
              (λ i. rw (← i) (replies_own s p older x o
              ∙ ap₂ (λ (a : Response) (b : List (Tagged Response)). record { tag = p.tag; held = a } ∷ b)
              (own_answers x (stream_of was x) (mine s x older) q ∙ ap (λ (v : Option Stream). own_answer s x v (mine s x older) p.held) (n.agree x)) (n.told x)
              ∙ sym (ap (machine_answers s x) (mine_own s p older x o))))
              (λ i. replies_other s p older x y o i ∙ n.told y ∙ sym (ap (machine_answers s y) (mine_other s p older x y o i)));
        }

    sim_free : owner s older p.held ≡ None → Sim s (p ∷ older)
    unfolding go
    sim_free o =
        record {
          core = core_step;
          agree = λ y. rw goes.0 (did_other was m.good did_it y (ap (owns y) (u.own ∙ o)) ∙ n.agree y ∙ sym (ap (machine s y) (mine_none s p older y o)));
          told = λ y. replies_none s p older y o ∙ n.told y ∙ sym (ap (machine_answers s y) (mine_none s p older y o));
        }

-- ---- the simulation: the session after the common part is good and connected
pub sim : (s : Session) → Good s → connected s ≡ true → (l : List (Tagged Act)) → Each (NoConnect s) l → Each (HasRoom s) l → Each (Finds s) l → Sim s l
unfolding go creations_in machine machine_answers mine replies_of under
sim s g on [] n r f =
    record {
      core = record { good = g; on = on; same = refl; app = refl; next = omega arith; base = omega arith; old = λ i q lt h. h; new = λ t i h. absurd cc };
      agree = λ x. refl;
      told = λ x. refl;
    }
sim s g on (p ∷ older) n r f = at (sim s g on older n.1 r.1 f.1) (owner s older p.held) refl
  where
    at : Sim s older → (o : Option ℕ) → owner s older p.held ≡ o → Sim s (p ∷ older)
    at m None o = sim_free s g p older m.core r.0 (turn s g older m.core p.held n.0 r.0 f.0) m o
    at m (Some x) o = sim_own s g p older m.core r.0 (turn s g older m.core p.held n.0 r.0 f.0) m x o
