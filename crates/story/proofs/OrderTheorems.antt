-- Demand 3, the second half: two runs with the same further steps, each stream's in the same order, give each step the same answer and end alike.
use mathlib.Core.Path.{◌≡◌, refl, sym, ap, ◌∙◌}
use Prim.Native.Nat.{ℕ}
use mathlib.Core.Bool.{true}
use mathlib.Core.List.{List, [], ◌∷◌, ◌++◌}
use lib.Dec.{eqb}
use Rattle.std.specs.Prelude.{Option, Some, None}
use Rattle.numbers.specs.Choose.{pick}
use Rattle.numbers.proofs.ChooseLaws.{pick_elim}
use Rattle.text.specs.declared.names.Name.{Name}
use Rattle.session.specs.State.{connected}
use Rattle.session.specs.declared.session.Session.{Session}
use Rattle.story.specs.Steps.{Call, Response, step}
use Rattle.story.specs.Runs.{Start, after, told}
use Rattle.story.specs.History.{joined}
use Rattle.story.specs.Orders.{Act, Alike, Each, Finds, HasRoom, NoConnect, Once, Permuted, Premises, Tagged, answer_to, call_of, calls_of, go, keep, nil, owner, owns, plain, plain_answer, swap, trans, under}
use Rattle.story.proofs.LookLaws.{not_none, same_found, same_or}
use Rattle.story.proofs.SessionLaws.{Good}
use Rattle.story.proofs.FollowLaws.{linked_on}
use Rattle.story.proofs.RunLaws.{follows, good_after}
use Rattle.story.proofs.MachineLaws.{own_answer}
use Rattle.story.proofs.SimulationLaws.{Sim, machine, machine_answers, own_answers, replies_own, replies_of, reply, sim, turn, under_here, under_past}

-- ---- a permutation of steps with tags given once: the same tags, each with the same act
absent : {A : Type 0} (t : ℕ) (p : Tagged A) (l : List (Tagged A)) → under t (p ∷ l) ≡ None → (p.tag ≡ t → ⊥) × (under t l ≡ None)
absent t p l h =
    same_or p.tag t ((p.tag ≡ t → ⊥) × (under t l ≡ None)) (λ e. absurd (not_none _ _ (under_here t p l e) h)) (λ e. (e, sym (under_past t p l e) ∙ h))

pub permuted_same : {A : Type 0} {l m : List (Tagged A)} → Permuted l m → Once l → Once m × ((t : ℕ) → under t l ≡ under t m)
unfolding under
permuted_same nil d = (tt, λ t. refl)
permuted_same (keep p q) d =
    let i = permuted_same q d.1 in
    ((sym (i.1 p.tag) ∙ d.0, i.0), λ t. ap (pick (eqb p.tag t) (Some p.held)) (i.1 t))
permuted_same (swap p q l) d =
    let b = absent p.tag q l d.0 in
    let ne : p.tag ≡ q.tag → ⊥ = λ e. b.0 (sym e) in (
      (under_past q.tag p l ne ∙ d.1.0, (b.1, d.1.1)),
      λ t. same_or p.tag t (under t (p ∷ (q ∷ l)) ≡ under t (q ∷ (p ∷ l)))
          (λ e. under_here t p (q ∷ l) e ∙ sym (under_past t q (p ∷ l) (λ k. b.0 (k ∙ sym e)) ∙ under_here t p l e))
          (λ e. under_past t p (q ∷ l) e ∙ sym (ap (pick (eqb q.tag t) (Some q.held)) (under_past t p l e))),
    )
permuted_same (trans a b) d =
    let i = permuted_same a d in
    let j = permuted_same b i.0 in
    (j.0, λ t. i.1 t ∙ j.1 t)

-- ---- where the answer to a tag comes from
abbrev answered : Session → Tagged Act → List (Tagged Act) → Tagged Response
answered s p older = record { tag = p.tag; held = answer_to s older p.held }

absent_answer : (s : Session) (t : ℕ) (l : List (Tagged Act)) → under t l ≡ None → under t (go s l).1 ≡ None
unfolding under go
absent_answer s t [] h = refl
absent_answer s t (p ∷ older) h =
    let b = absent t p older h in
    under_past t (answered s p older) (go s older).1 b.0 ∙ absent_answer s t older b.1

absent_reply : (s : Session) (x t : ℕ) (l : List (Tagged Act)) → under t l ≡ None → under t (replies_of s x l) ≡ None
unfolding under replies_of
absent_reply s x t [] h = refl
absent_reply s x t (p ∷ older) h =
    let b = absent t p older h in
    pick_elim (λ (r : List (Tagged Response)). under t r ≡ None) _ _ (owns x (owner s older p.held))
    (λ k. under_past t (reply s p older) (replies_of s x older) b.0 ∙ absent_reply s x t older b.1)
    (λ k. absent_reply s x t older b.1)

-- what x's own replies say of a tag is the answer to that tag
settled : (s : Session) (x t : ℕ) (a : Response) (l : List (Tagged Act)) → Once l → under t (replies_of s x l) ≡ Some a → plain_answer (under t (go s l).1) ≡ Some a
unfolding under replies_of go
settled s x t a [] d h = absurd cc
settled s x t a (p ∷ older) d h =
    same_or p.tag t (plain_answer (under t (answered s p older ∷ (go s older).1)) ≡ Some a)
    (λ e. ap plain_answer (under_here t (answered s p older) (go s older).1 e)
    ∙ pick_elim (λ (r : List (Tagged Response)). under t r ≡ Some a → Some (plain (answer_to s older p.held)) ≡ Some a) _ _ (owns x (owner s older p.held))
    (λ k i. sym (under_here t (reply s p older) (replies_of s x older) e) ∙ i)
    (λ k i. absurd (not_none _ _ i (absent_reply s x t older (ap (λ (j : ℕ). under j older) (sym e) ∙ d.0)))) h)
    (λ e. ap plain_answer (under_past t (answered s p older) (go s older).1 e) ∙ settled s x t a older d.1
    (pick_elim (λ (r : List (Tagged Response)). under t r ≡ Some a → under t (replies_of s x older) ≡ Some a) _ _ (owns x (owner s older p.held))
    (λ k i. sym (under_past t (reply s p older) (replies_of s x older) e) ∙ i) (λ k i. i) h))

-- the answer to a step without a stream, wherever it stands
abbrev free_answer : Session → Act → Response
free_answer s act = own_answer s 0 None [] act

data Fate (s : Session) (l : List (Tagged Act)) (t : ℕ) : Type 0 where
  missing : under t l ≡ None → Fate s l t
  freely : (act : Act) → under t l ≡ Some act → plain_answer (under t (go s l).1) ≡ Some (free_answer s act) → Fate s l t
  owned : (x : ℕ) (a : Response) → under t (replies_of s x l) ≡ Some a → plain_answer (under t (go s l).1) ≡ Some a → Fate s l t

module _ (s : Session) (g : Good s) (t : ℕ) (p : Tagged Act) (older : List (Tagged Act)) where
  fate_past : (p.tag ≡ t → ⊥) → Fate s older t → Fate s (p ∷ older) t
  unfolding go replies_of
  fate_past e (missing h) = missing (under_past t p older e ∙ h)
  fate_past e (freely act h k) = freely act (under_past t p older e ∙ h) (ap plain_answer (under_past t (answered s p older) (go s older).1 e) ∙ k)
  fate_past e (owned x a h k) =
      owned x a
      (pick_elim (λ (r : List (Tagged Response)). under t r ≡ Some a) _ _ (owns x (owner s older p.held)) (λ b. under_past t (reply s p older) (replies_of s x older) e ∙ h) (λ b. h))
      (ap plain_answer (under_past t (answered s p older) (go s older).1 e) ∙ k)

  fate_here : p.tag ≡ t → Sim s older → NoConnect s older p.held → HasRoom s older p.held → Finds s older p.held → Fate s (p ∷ older) t
  unfolding go
  fate_here e m n r f = at (owner s older p.held) refl
    where
      at : (o : Option ℕ) → owner s older p.held ≡ o → Fate s (p ∷ older) t
      at None o =
          let u = turn s g older m.core p.held n r f in
          freely p.held (under_here t p older e)
          (ap plain_answer (under_here t (answered s p older) (go s older).1 e) ∙ ap Some (own_answers s g p older m.core r u 0 None [] (u.free o)))
      at (Some x) o =
          owned x (plain (answer_to s older p.held))
          (ap (under t) (replies_own s p older x o) ∙ under_here t (reply s p older) (replies_of s x older) e)
          (ap plain_answer (under_here t (answered s p older) (go s older).1 e))

fate : (s : Session) → Good s → connected s ≡ true → (t : ℕ) (l : List (Tagged Act)) → Each (NoConnect s) l → Each (HasRoom s) l → Each (Finds s) l → Fate s l t
unfolding under
fate s g on t [] n r f = missing refl
fate s g on t (p ∷ older) n r f =
    same_or p.tag t (Fate s (p ∷ older) t) (λ e. fate_here s g t p older e (sim s g on older n.1 r.1 f.1) n.0 r.0 f.0)
    (λ e. fate_past s g t p older e (fate s g on t older n.1 r.1 f.1))

-- ---- from a session that is good and connected
from_connected : (s : Session) → Good s → connected s ≡ true → (l m : List (Tagged Act)) → Premises s l m → Alike s l m
from_connected s good on l m w =
    let n = w.no_connect in
    let r = w.has_room in
    let f = w.finds in
    let a = sim s good on l n.0 r.0 f.0 in
    let b = sim s good on m n.1 r.1 f.1 in
    let q = permuted_same w.same_steps w.tags in
    record {
      answers = λ t. by a b q t (fate s good on t l n.0 r.0 f.0) (fate s good on t m n.1 r.1 f.1);
      streams = λ x. a.agree x ∙ ap (machine s x) (w.same_order x) ∙ sym (b.agree x);
    }
  where
    by : Sim s l → Sim s m → Once m × ((t : ℕ) → under t l ≡ under t m) → (t : ℕ) → Fate s l t → Fate s m t → plain_answer (under t (go s l).1) ≡ plain_answer (under t (go s m).1)
    by a b q t (missing h) f = ap plain_answer (absent_answer s t l h ∙ sym (absent_answer s t m (sym (q.1 t) ∙ h)))
    by a b q t (owned x z h k) f = k ∙ sym (settled s x t z m q.0 (ap (under t) (b.told x ∙ sym (ap (machine_answers s x) (w.same_order x)) ∙ sym (a.told x)) ∙ h))
    by a b q t (freely v h k) (missing e) = absurd (not_none _ _ h (q.1 t ∙ e))
    by a b q t (freely v h k) (freely u e i) =
        let c : v ≡ u = same_found _ _ _ h (q.1 t ∙ e) in
        k ∙ ap (λ (j : Act). Some (free_answer s j)) c ∙ sym i
    by a b q t (freely v h k) (owned x z e i) = settled s x t z l w.tags (ap (under t) (a.told x ∙ ap (machine_answers s x) (w.same_order x) ∙ sym (b.told x)) ∙ e) ∙ sym i

-- "take two runs with the same steps up to an accepted connect", and with the premises on what follows:
-- "Then each step gives the same answer, request numbers apart, and each stream ends alike."
pub two_runs : (b : Start) (common : List Call) (app : Name) (l m : List (Tagged Act)) → joined (told b common) ≡ Some app → Premises (after b common) l m → Alike (after b common) l m
two_runs b common app l m j =
    let s : Session = after b common in
    from_connected s (good_after b common) (linked_on (connected s) s.app app ((follows b common).links ∙ j)) l m

-- ---- the further steps are steps of the run: the session and the answers of `go` are those of the calls that it makes, after the common part
pub go_is_run : (b : Start) (common : List Call) (l : List (Tagged Act)) → (go (after b common) l).0 ≡ after b (calls_of (after b common) l ++ common)
unfolding go calls_of after
go_is_run b common [] = refl
go_is_run b common (p ∷ older) = ap (λ (z : Session). (step z (call_of (go (after b common) older) p.held)).1) (go_is_run b common older)

pub go_is_told : (b : Start) (common : List Call) (p : Tagged Act) (older : List (Tagged Act))
    → told b (calls_of (after b common) (p ∷ older) ++ common)
    ≡ record { call = call_of (go (after b common) older) p.held; answer = answer_to (after b common) older p.held } ∷ told b (calls_of (after b common) older ++ common)
unfolding calls_of told
go_is_told b common p older =
    let c = call_of (go (after b common) older) p.held in
    ap (λ (z : Session). record { call = c; answer = (step z c).0 } ∷ told b (calls_of (after b common) older ++ common)) (sym (go_is_run b common older))
