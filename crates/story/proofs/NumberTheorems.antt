-- "Numbers are never used again." And "Connected, which never ends."
use mathlib.Core.Path.{◌≡◌, refl, sym, ap, ◌∙◌}
use Prim.Native.Nat.{ℕ, ◌+◌, ◌<◌}
use native.Mathlib.Omega.{arith}
use mathlib.Core.Bool.{Bool, true, false}
use mathlib.Core.List.{List, [], ◌∷◌, ◌++◌}
use Rattle.std.specs.Prelude.{Option, Some, None}
use Rattle.numbers.specs.Choose.{pick}
use Rattle.text.specs.declared.names.Name.{Name}
use Rattle.tables.specs.declared.requests.Request.{Request}
use Rattle.tables.specs.declared.requests.RequestKind.{RequestKind}
use Rattle.tables.specs.declared.requests.RequestKind.TheVariants.{Connect, Publish, Play}
use Rattle.wishes.specs.Outcome.{Outcome}
use Rattle.session.specs.State.{connected, request_of, stream_of}
use Rattle.session.specs.declared.decision.Decision.{Decision}
use Rattle.session.specs.declared.session.Session.{Session}
use Rattle.story.specs.Steps.{Call, Response, step}
use Rattle.story.specs.Doings.{Doing, Accepts, doing}
use Rattle.story.specs.Runs.{Start, Told, after, told}
use Rattle.story.specs.History.{Filed, creations, decided, done, filed, filing, joined_by, joining_kind}
use Rattle.story.specs.History.{joined as joined_in, joining as joining_by}
use Rattle.story.specs.Stories.{asked}
use Rattle.story.proofs.LookLaws.{not_none, same_found}
use Rattle.story.proofs.SessionLaws.{Good, request_below, stream_absent}
use Rattle.story.proofs.DecisionLaws.{Did, closed, connects, deleted, files, still}
use Rattle.story.proofs.StepLaws.{Took, heard, step_took, took}
use Rattle.story.proofs.FollowLaws.{Follows, linked_on, still_files, unfiled}
use Rattle.story.proofs.RunLaws.{follows, good_after}

-- ---- requests
asked_some : (o : Option Request) (f : Filed) → asked o ≡ Some f → (r : Request) × (o ≡ Some r)
asked_some None f e = absurd cc
asked_some (Some r) f e = (r, refl)

module _ (s : Session) (g : Good s) (h : List Told) (v : Follows s h) where
  -- a number that was given is below the next one
  given_below : (n : ℕ) (f : Filed) → filed n h ≡ Some f → n < s.next_request
  given_below n f e = at (decided n h) refl
    where
      at : (b : Bool) → decided n h ≡ b → n < s.next_request
      at true d = v.gone n d
      at false d =
          let w : asked (request_of s n) ≡ Some f = v.waits n ∙ rw d e in
          let r = asked_some (request_of s n) f w in
          request_below s g n r.0 r.1

  -- and the one that is given is the next one
  did_gives : {k : Doing} {d : Decision} → Did s k d → (c t : ℕ) (out : List ℕ) (f : Filed) → filing k (heard d c t out) ≡ Some f → f.number ≡ s.next_request
  did_gives (still k d c n u i) m t out f e = absurd (not_none _ _ e (still_files s d k u m t out))
  did_gives (files {r = r} u i k a) c t out f e = ap (λ (z : Filed). z.number) (sym (same_found _ _ _ u e)) ∙ k.number
  did_gives (connects {r = r} u i k a) c t out f e = ap (λ (z : Filed). z.number) (sym (same_found _ _ _ u e)) ∙ k.number
  did_gives (closed {y = y} {d = d} q c u k) m t out f e = absurd (not_none _ _ e (unfiled y d.event d.app d.key k.files))
  did_gives (deleted {y = y} {d = d} q c u k) m t out f e = absurd (not_none _ _ e (unfiled y d.event d.app d.key k.files))
  did_gives other c t out f e = absurd cc

took_gives : {s : Session} {k : Doing} {a : Response} {t : Session} → Took s k a t → Good s → (h : List Told) → Follows s h → (f : Filed) → filing k a ≡ Some f → f.number ≡ s.next_request
took_gives {s} (took d n t out k) g h v = did_gives s g h v k n t out

absent_or : (o : Option Filed) → ((f : Filed) → o ≡ Some f → ⊥) → o ≡ None
absent_or None k = refl
absent_or (Some f) k = absurd (k f refl)

-- a request that a step files has a number that no request had before
pub requests_never_again : (b : Start) (cs : List Call) (c : Call) (f : Filed) → filing (doing c) (step (after b cs) c).0 ≡ Some f → filed f.number (told b cs) ≡ None
requests_never_again b cs c f e =
    let s = after b cs in
    let g = good_after b cs in
    let v = follows b cs in
    let n = took_gives (step_took s g.sound c) g (told b cs) v f e in
    absent_or (filed f.number (told b cs)) (λ old k. let lt = given_below s g (told b cs) v f.number old k in omega arith)

-- ---- streams: the next number counts the creations, and no stream has it yet
pub streams_count_up : (b : Start) (cs : List Call) → ((after b cs).next_stream ≡ creations (told b cs) + 1) × ((x : ℕ) → creations (told b cs) < x → stream_of (after b cs) x ≡ None)
streams_count_up b cs = let n = (follows b cs).makes_next in (n, λ x k. stream_absent (after b cs) (good_after b cs) x (omega arith))

-- ---- connected
abbrev Given : Option Name → Type 0
Given j = (app : Name) × (j ≡ Some app)

kind_stays : (k : RequestKind) (name : Name) (j : Option Name) → Given j → Given (joining_kind k name j)
kind_stays Connect name j p = (name, refl)
kind_stays Publish name j p = p
kind_stays Play name j p = p

ask_stays : (b : Bool) (f : Option Filed) (j : Option Name) → Given j → Given (pick b (joining_by f j) j)
ask_stays false f j p = p
ask_stays true None j p = p
ask_stays true (Some f) j p = kind_stays f.kind f.name j p

joins_stay : (g : Doing) (o : Outcome) (h : List Told) (j : Option Name) → Given j → Given (joined_by g o h j)
joins_stay (Accepts n) o h j p = ask_stays (done o) (filed n.0 h) j p
joins_stay other o h j p = p

stays : (b : Start) (newer older : List Call) → Given (joined_in (told b older)) → Given (joined_in (told b (newer ++ older)))
unfolding told joined_in
stays b [] older p = p
stays b (c ∷ newer) older p = joins_stay (doing c) (step (after b (newer ++ older)) c).0.outcome (told b (newer ++ older)) (joined_in (told b (newer ++ older))) (stays b newer older p)

-- once a connect was accepted, the session is connected after every longer run
pub connected_never_ends : (b : Start) (newer older : List Call) (app : Name) → joined_in (told b older) ≡ Some app → connected (after b (newer ++ older)) ≡ true
connected_never_ends b newer older app j =
    let s : Session = after b (newer ++ older) in
    let p = stays b newer older (app, j) in
    linked_on (connected s) s.app p.0 ((follows b (newer ++ older)).links ∙ p.1)
