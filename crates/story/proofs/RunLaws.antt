-- Every run from a start: its session is good, and follows what was told.
use mathlib.Core.Path.{◌≡◌, refl}
use Prim.Native.Nat.{ℕ}
use mathlib.Core.List.{List, [], ◌∷◌}
use lib.ListN.{length}
use Rattle.std.specs.Prelude.{Option, Some, None}
use Rattle.numbers.proofs.ChooseLaws.{pick_elim}
use Rattle.text.specs.Names.{empty_name, name_of}
use Rattle.text.specs.declared.names.Name.{Name}
use Rattle.record.specs.Records.{start_records}
use Rattle.answers.specs.Sending.{sent}
use Rattle.tables.specs.Tables.{look}
use Rattle.session.specs.State.{connected, fresh_session}
use Rattle.session.specs.declared.session.Session.{Session}
use Rattle.replies.specs.declared.answer.Answer.{Answer}
use Rattle.calls.specs.Calls.{bad_config, blank_session, opened, starting}
use Rattle.calls.proofs.SoundTheorems.{start_sound}
use Rattle.story.specs.Steps.{Call, Response}
use Rattle.story.specs.Doings.{doing}
use Rattle.story.specs.Runs.{Start, Told, after, start_of, told}
use Rattle.story.specs.History.{creations, decided, decisions, filed, filings, joined, last_effective}
use Rattle.story.proofs.SessionLaws.{Good}
use Rattle.story.proofs.StepLaws.{Took, step_took, took}
use Rattle.story.proofs.KeptLaws.{step_good}
use Rattle.story.proofs.FollowLaws.{Follows, did_agrees, did_counts, did_gone, did_links, did_makes, did_waits}

-- ---- a start, refused or not, hands back a fresh session
pub record Fresh (s : Session) : Type 0 where
  pub clock : ℕ
  pub version : Name
  pub is : s ≡ fresh_session clock version

blank : Fresh blank_session
blank = record { clock = 0; version = empty_name; is = refl }

opens : (clock : ℕ) (version : Name) (n : Option ℕ) → Fresh (opened clock version n).session
opens clock version (Some n) = record { clock = clock; version = version; is = refl }
opens clock version None = blank

pub start_fresh : (b : Start) → Fresh (start_of b).0.session
unfolding starting name_of
start_fresh b =
    pick_elim (λ (a : Answer × List ℕ). Fresh a.0.session) _ _ (bad_config b.chunk b.version) (λ q. blank)
    (λ q. opens b.clock (name_of b.version) (sent (start_records b.chunk b.window b.bandwidth b.finish) b.out).0)

fresh_follows : {s : Session} → Fresh s → Follows s []
unfolding connected look joined filed decided creations last_effective filings decisions
fresh_follows f =
    rw f.is (record { links = refl; waits = λ n. refl; gone = λ n e. absurd cc; makes_next = refl; agrees = λ x. refl; counts = refl })

start_good : (b : Start) → Good (start_of b).0.session
start_good b =
    let p = places (start_fresh b) in
    record { sound = start_sound b.chunk b.window b.bandwidth b.finish b.version b.clock b.out; stream_places = p.0; request_places = p.1 }
  where
    places : {s : Session} → Fresh s → (length s.streams ≡ 16) × (length s.requests ≡ 16)
    places f = rw f.is (refl, refl)

-- ---- after a step
follows_step : {s : Session} {c : Call} {a : Response} {t : Session} → Took s (doing c) a t → Good s → (h : List Told) → Follows s h → Follows t (record { call = c; answer = a } ∷ h)
unfolding joined filed decided creations last_effective filings decisions
follows_step {s} {c} (took d n t out k) g h v =
    record {
      links = did_links s g h v k;
      waits = did_waits s g h v k n t out;
      gone = did_gone s g h v k;
      makes_next = did_makes s g h v k;
      agrees = λ x. did_agrees s g h v x k;
      counts = did_counts s g h v k n t out;
    }

-- ---- over a run
pub good_after : (b : Start) (cs : List Call) → Good (after b cs)
unfolding after
good_after b [] = start_good b
good_after b (c ∷ cs) = step_good (after b cs) (good_after b cs) c

pub follows : (b : Start) (cs : List Call) → Follows (after b cs) (told b cs)
unfolding after told
follows b [] = fresh_follows (start_fresh b)
follows b (c ∷ cs) = follows_step (step_took (after b cs) (good_after b cs).sound c) (good_after b cs) (told b cs) (follows b cs)
