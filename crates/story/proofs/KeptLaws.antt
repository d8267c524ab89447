-- Every step of a good session leaves a good one.
use mathlib.Core.Path.{◌≡◌, ap, ◌∙◌}
use Prim.Native.Nat.{ℕ}
use mathlib.Core.Bool.{true}
use lib.ListN.{length}
use Rattle.std.specs.Prelude.{Some}
use Rattle.tables.specs.declared.requests.Request.{Request}
use Rattle.tables.specs.declared.streams.Stream.{Stream}
use Rattle.session.specs.Changes.{applied}
use Rattle.session.specs.State.{request_of, session_sound, stream_of, with_changed, with_request, with_stream, without_request, without_stream}
use Rattle.session.specs.declared.decision.Decision.{Decision}
use Rattle.session.specs.declared.session.Session.{Session}
use Rattle.calls.proofs.SoundTheorems.{accept_sound, finish_sound, message_sound, reject_sound}
use Rattle.story.specs.Steps.{Call, Response, accept, finish, message, reject, step}
use Rattle.story.specs.Doings.{Doing}
use Rattle.story.proofs.SessionLaws.{Good, dropped_places, filed_places, made_places, removed_places, request_number_lem, set_places, stream_number_lem}
use Rattle.story.proofs.DecisionLaws.{Did, closed, completes, connects, deleted, files, grants, joined, made, missed, rejects, still}
use Rattle.story.proofs.StepLaws.{Took, step_took, took}

-- what is found stands under its own number
pub own_stream_lem : (s : Session) → Good s → (x : ℕ) (e : Stream) → stream_of s x ≡ Some e → stream_of s e.id.0 ≡ Some e
own_stream_lem s g x e f = ap (stream_of s) (stream_number_lem s g x e f) ∙ f

pub own_request : (s : Session) → Good s → (n : ℕ) (r : Request) → request_of s n ≡ Some r → request_of s r.id.0 ≡ Some r
own_request s g n r f = ap (request_of s) (request_number_lem s g n r f) ∙ f

abbrev Places : Session → Type 0
Places s = (length s.streams ≡ 16) × (length s.requests ≡ 16)

places_kept : {s : Session} {g : Doing} {d : Decision} → Did s g d → Good s → Places (applied s d.change)
unfolding applied with_stream with_changed without_stream with_request without_request
places_kept (still g d c n f k) h = rw c (h.stream_places, h.request_places)
places_kept {s} (made q m k) h = (made_places s h _, h.request_places)
places_kept {s} (files {r = r} f i k a) h = (h.stream_places, filed_places s h r)
places_kept {s} (connects {r = r} f i k a) h = (h.stream_places, filed_places s h r)
places_kept {s} (closed {e = e} q c f k) h = rw k.change (set_places s h _, h.request_places)
places_kept {s} (deleted {x = x} {e = e} q c f k) h = rw k.change (removed_places s h e.id.0 e (own_stream_lem s h x.0 e f), h.request_places)
places_kept {s} (completes f) h = (set_places s h _, h.request_places)
places_kept {s} (joined {n = n} {r = r} f k) h = (h.stream_places, dropped_places s h r.id.0 r (own_request s h n.0 r f))
places_kept {s} (grants {n = n} {r = r} {a = a} f k o) h = (set_places s h a, dropped_places s h r.id.0 r (own_request s h n.0 r f))
places_kept {s} (missed {n = n} {r = r} f k o) h = (h.stream_places, dropped_places s h r.id.0 r (own_request s h n.0 r f))
places_kept {s} (rejects {n = n} {r = r} f) h = (h.stream_places, dropped_places s h r.id.0 r (own_request s h n.0 r f))

took_places : {s : Session} {g : Doing} {a : Response} {t : Session} → Took s g a t → Good s → Places t
took_places (took d n t out k) h = places_kept k h

step_sound : (s : Session) → Good s → (c : Call) → session_sound (step s c).1 ≡ true
unfolding step
step_sound s h (message type x timestamp clock body out) = message_sound s h.sound h.stream_places h.request_places type x timestamp clock body out
step_sound s h (accept n clock out) = accept_sound s h.sound h.stream_places h.request_places n clock out
step_sound s h (reject n code description clock out) = reject_sound s h.sound h.stream_places h.request_places n code description clock out
step_sound s h (finish x clock out) = finish_sound s h.sound h.stream_places h.request_places x clock out
step_sound s h other = h.sound

pub step_good : (s : Session) → Good s → (c : Call) → Good (step s c).1
step_good s h c = let p = took_places (step_took s h.sound c) h in record { sound = step_sound s h c; stream_places = p.0; request_places = p.1 }
