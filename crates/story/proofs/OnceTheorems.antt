-- Once only: what was filed is decided or waits, and what was decided is never decided again. And no run meets 15.
use mathlib.Core.Path.{◌≡◌, refl, sym, ap, ◌∙◌}
use Prim.Native.Nat.{ℕ, ◌+◌}
use native.Mathlib.Omega.{arith}
use mathlib.Core.Bool.{Bool, true, false}
use mathlib.Core.List.{List, [], ◌∷◌}
use borrow.Author.Tests.{eq-eqb, eqb-false, ne_eqb}
use Rattle.std.specs.Prelude.{Option, Some, None, Err}
use Rattle.numbers.specs.Choose.{pick}
use Rattle.text.specs.declared.ids.RequestId.{RequestId}
use Rattle.tables.specs.declared.requests.Request.{Request}
use Rattle.wishes.specs.Outcome.{number_of}
use Rattle.wishes.specs.declared.outcome.Refusal.TheVariants.{NoSuchRequest}
use Rattle.session.specs.Changes.{applied}
use Rattle.session.specs.State.{request_of, session_sound}
use Rattle.session.specs.declared.decision.Decision.{Decision}
use Rattle.session.specs.declared.session.Session.{Session}
use Rattle.decisions.specs.Answers.{accept_request, reject_request}
use Rattle.replies.specs.Answers.{answered}
use Rattle.replies.specs.Finishing.{finishing}
use Rattle.messages.specs.Messages.{guarded}
use Rattle.story.specs.Steps.{Call, Response, accept, plainly, reject, step}
use Rattle.story.specs.Doings.{Doing, doing}
use Rattle.story.specs.Runs.{Start, Told, after, told}
use Rattle.story.specs.History.{Filed, decided, decides, decisions, filed, filings, hits, is_it, times_decided, waiting}
use Rattle.story.specs.Stories.{as_filed, asked}
use Rattle.story.proofs.LookLaws.{not_none, same_found, same_or}
use Rattle.story.proofs.DecisionLaws.{Did, Not15, closed, deleted, grants, joined, missed, rejects, still}
use Rattle.story.proofs.StepLaws.{Took, sent_nothing, step_took, took}
use Rattle.story.proofs.FollowLaws.{Follows, still_decides}
use Rattle.story.proofs.RunLaws.{follows, good_after}

-- "Requests filed in the history equal those decided (answer 0, or 11 from an accept) plus those waiting."
-- as many, and the same ones: under each number the table holds what was filed and not decided since
pub filed_is_decided_and_waiting : (b : Start) (cs : List Call)
    → (filings (told b cs) ≡ decisions (told b cs) + (after b cs).request_count) × ((n : ℕ) → asked (request_of (after b cs) n) ≡ waiting n (told b cs))
filed_is_decided_and_waiting b cs = ((follows b cs).counts, (follows b cs).waits)

-- ---- a request that was decided
asked_none : (o : Option Request) → asked o ≡ None → o ≡ None
asked_none None e = refl
asked_none (Some r) e = absurd cc

pub gone : (b : Start) (cs : List Call) (n : ℕ) → decided n (told b cs) ≡ true → request_of (after b cs) n ≡ None
gone b cs n d = asked_none _ ((follows b cs).waits n ∙ rw d)

module _ (s : Session) (q : session_sound s ≡ true) (n : RequestId) (e : request_of s n.0 ≡ None) (clock : ℕ) (out : List ℕ) where
  pub accept_missing : step s (accept n clock out) ≡ (plainly (Err NoSuchRequest) 0 0 out, s)
  unfolding step guarded finishing answered applied accept_request
  accept_missing = rw (q, e, sent_nothing out)

  pub reject_missing : (code description : List ℕ) → step s (reject n code description clock out) ≡ (plainly (Err NoSuchRequest) 0 0 out, s)
  unfolding step guarded finishing answered applied reject_request
  reject_missing code description = rw (q, e, sent_nothing out)

-- "The like of it here is one request accepted twice": every later decision of it is answered 10, and changes nothing
pub never_accepted_twice : (b : Start) (cs : List Call) (n : RequestId) → decided n.0 (told b cs) ≡ true → (clock : ℕ) (out : List ℕ)
    → (step (after b cs) (accept n clock out) ≡ (plainly (Err NoSuchRequest) 0 0 out, after b cs))
    × ((code description : List ℕ) → step (after b cs) (reject n code description clock out) ≡ (plainly (Err NoSuchRequest) 0 0 out, after b cs))
never_accepted_twice b cs n d clock out =
    let q = (good_after b cs).sound in
    let e = gone b cs n.0 d in
    (accept_missing (after b cs) q n e clock out, reject_missing (after b cs) q n e clock out)

-- ---- what a step decides was not decided before
undone : (b : Bool) (o : Option Filed) (f : Filed) → pick b None o ≡ Some f → b ≡ false
undone true o f e = absurd cc
undone false o f e = refl

module _ (s : Session) (h : List Told) (v : Follows s h) where
  found_undecided : (n : RequestId) (r : Request) → request_of s n.0 ≡ Some r → (m : ℕ) → Some n.0 ≡ Some m → decided m h ≡ false
  found_undecided n r f m e = undone (decided m h) (filed m h) (as_filed r) (sym (v.waits m) ∙ ap asked (ap (request_of s) (sym (same_found _ _ _ refl e)) ∙ f))

  did_undecided : {k : Doing} {d : Decision} → Did s k d → (m : ℕ) → decides k d.outcome ≡ Some m → decided m h ≡ false
  did_undecided (still k d c n f i) m e = absurd (not_none _ _ e (still_decides s d k i))
  did_undecided (joined {n = n} {r = r} f k) m e = found_undecided n r f m e
  did_undecided (grants {n = n} {r = r} f k o) m e = found_undecided n r f m e
  did_undecided (missed {n = n} {r = r} f k o) m e = found_undecided n r f m e
  did_undecided (rejects {n = n} {r = r} f) m e = found_undecided n r f m e
  did_undecided other m e = absurd cc

took_undecided : {s : Session} {k : Doing} {a : Response} {t : Session} → Took s k a t → (h : List Told) → Follows s h → (m : ℕ) → decides k a.outcome ≡ Some m → decided m h ≡ false
took_undecided {s} (took d n t out k) h v = did_undecided s h v k

-- in no run is a request decided more than once
pub decided_once : (b : Start) (cs : List Call) (n : ℕ) → times_decided n (told b cs) ≡ pick (decided n (told b cs)) 1 0
unfolding told times_decided decided
decided_once b [] n = refl
decided_once b (c ∷ cs) n =
    at (decides (doing c) (step (after b cs) c).0.outcome) (decided_once b cs n) (took_undecided (step_took (after b cs) (good_after b cs).sound c) (told b cs) (follows b cs))
  where
    at : (o : Option ℕ) → times_decided n (told b cs) ≡ pick (decided n (told b cs)) 1 0 → ((m : ℕ) → o ≡ Some m → decided m (told b cs) ≡ false)
        → times_decided n (told b cs) + hits n o ≡ pick (is_it n o (decided n (told b cs))) 1 0
    at None i k = rw (← i) (omega arith)
    at (Some m) i k =
        same_or m n _
        (λ q. let z : decided n (told b cs) ≡ false = ap (λ (j : ℕ). decided j (told b cs)) (sym q) ∙ k m refl in rw (eq-eqb m n q, i, z))
        (λ q. rw (ne_eqb m n q, ← i) (omega arith))

-- ---- 15
never_15 : {s : Session} {g : Doing} {d : Decision} → Did s g d → Not15 d.outcome
never_15 (still g d c n f k) = n
never_15 (closed q c f k) = rw k.outcome
never_15 (deleted q c f k) = rw k.outcome
never_15 other = refl

took_not_15 : {s : Session} {g : Doing} {a : Response} {t : Session} → Took s g a t → Not15 a.outcome
took_not_15 (took d n t out k) = never_15 k

-- the session after any run passes the tests of refusal 15, and no call to it is answered 15
pub no_run_meets_15 : (b : Start) (cs : List Call) → (session_sound (after b cs) ≡ true) × ((c : Call) → number_of (step (after b cs) c).0.outcome ≡ 15 → ⊥)
no_run_meets_15 b cs =
    let q = (good_after b cs).sound in
    (q, λ c. eqb-false (number_of (step (after b cs) c).0.outcome) 15 (took_not_15 (step_took (after b cs) q c)))
