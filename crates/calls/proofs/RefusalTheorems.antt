-- "Every refusal leaves session and out buffer unchanged and raises nothing; only 11 from an accept removes the request. .. With 0, bytes past the written count stay as they were."
use mathlib.Core.Path.{◌≡◌, refl, sym, ap, ◌∙◌}
use Prim.Native.Nat.{ℕ}
use mathlib.Core.Bool.{Bool, true, false}
use mathlib.Core.List.{List, []}
use lib.Dec.{eqb, ltb}
use lib.ListN.{length, drop}
use lib.Seq.{drop-append_seam}
use Rattle.numbers.specs.Choose.{pick}
use Rattle.numbers.specs.Fields.{front}
use Rattle.text.specs.declared.ids.RequestId.{RequestId}
use Rattle.text.specs.declared.ids.StreamId.{StreamId}
use Rattle.text.specs.Names.{name_of}
use Rattle.text.specs.declared.names.Name.{Name}
use Rattle.record.specs.Clock.{time_of}
use Rattle.record.specs.Records.{start_records}
use Rattle.answers.specs.Sending.{sent}
use Rattle.std.specs.Prelude.{Option, Some, None, Result, Ok, Err}
use Rattle.wishes.specs.Commands.{command_wish}
use Rattle.wishes.specs.Control.{control_wish}
use Rattle.wishes.specs.DataFrame.{data_wish}
use Rattle.wishes.specs.declared.outcome.Action.{Action}
use Rattle.wishes.specs.declared.outcome.Refusal.{Refusal}
use Rattle.wishes.specs.declared.outcome.Refusal.TheVariants.{BadConfig, BadSession, NoRoom, WrongStream}
use Rattle.session.specs.Changes.{applied, dropping}
use Rattle.session.specs.Decisions.{refusing, refusing_with}
use Rattle.session.specs.State.{request_at, session_sound, stream_at, without_request}
use Rattle.session.specs.declared.changes.Change.{Change}
use Rattle.session.specs.declared.decision.Decision.{Decision}
use Rattle.session.specs.declared.decision.Event.TheVariants.{AudioDataReceived, VideoDataReceived}
use Rattle.session.specs.declared.session.Session.{Session}
use Rattle.session.proofs.FitsLaws.{request_number_lem}
use Rattle.session.proofs.RefusalTheorems.{Fate, done as is-done, kept}
use Rattle.streams.specs.Streams.{frame_of}
use Rattle.streams.specs.declared.streams.Frame.{Frame}
use Rattle.steps.specs.Deciding.{decided}
use Rattle.steps.proofs.RefusalTheorems.{decided_fate}
use Rattle.decisions.specs.Answers.{accepted, finished_on, rejected, stream_stands}
use Rattle.decisions.proofs.RefusalTheorems.{AcceptFate, accepted_fate, fate, finished_fate, gone, rejected_fate}
use Rattle.replies.proofs.RepliesLaws.{nothing_sent}
use Rattle.replies.specs.Answers.{answered, closed, refusal}
use Rattle.replies.specs.Finishing.{finishing}
use Rattle.replies.specs.Replies.{reply_records, short}
use Rattle.replies.specs.declared.answer.Answer.{Answer}
use Rattle.messages.specs.Messages.{by_type, frame_answer, guarded, handle_media, handle_message}
use Rattle.messages.specs.declared.messages.MediaKind.TheVariants.{Audio, Video}
use Rattle.calls.specs.Calls.{accepting, bad_config, blank_session, finishes, opened, rejecting, starting}

-- an answer is done, or it is a refusal that leaves the session and the buffer
pub data Leaves (s : Session) (out : List ℕ) (p : Answer × List ℕ) : Type 0 where
  done : p.0.outcome ≡ Ok tt → Leaves s out p
  left : (r : Refusal) → p ≡ (refusal r s, out) → Leaves s out p

either : (s : Session) (out : List ℕ) (b : Bool) (p q : Answer × List ℕ) → Leaves s out p → Leaves s out q → Leaves s out (pick b p q)
either s out true p q f g = f
either s out false p q f g = g

-- ---- a decision and its records
abbrev pair : Session → Decision → Option ℕ × List ℕ → Answer × List ℕ
pair s d r = (closed s d r.0, r.1)

-- nothing is written, or all of it
abbrev room : ℕ → List ℕ → List ℕ → Bool → Option ℕ × List ℕ
room n after out b = pick b (None, out) (Some n, after)

by_room : (s : Session) (d : Decision) (n : ℕ) (after out : List ℕ) (b : Bool) → d.outcome ≡ Ok tt → Leaves s out (pair s d (room n after out b))
by_room s d n after out true e = left NoRoom refl
by_room s d n after out false e = done e

-- a refused decision has no record, so the buffer stays
refused_stays : (s : Session) (o : Refusal) (c : Change) (code description : List ℕ) (clock : ℕ) (out : List ℕ) → finishing s (refusing_with o c) code description clock out ≡ (refusal o (applied s c), out)
unfolding finishing answered
refused_stays s o c code description clock out = ap (pair s (refusing_with o c)) (sym (nothing_sent out))

refused_leaves : (s : Session) (o : Refusal) (code description : List ℕ) (clock : ℕ) (out : List ℕ) → finishing s (refusing o) code description clock out ≡ (refusal o s, out)
unfolding applied
refused_leaves s o code description clock out = refused_stays s o _ code description clock out

finish_leaves : (s : Session) (d : Decision) (code description : List ℕ) (clock : ℕ) (out : List ℕ) → Fate d → Leaves s out (finishing s d code description clock out)
unfolding finishing answered sent
finish_leaves s d code description clock out (is-done e) =
    let records = reply_records d.reply d.name s.version s.encoding code description (time_of s.start clock) in
    by_room s d (length records) (front records out) out (ltb (length out) (length records)) e
finish_leaves s d code description clock out (kept o e) =
    left o (ap (λ (x : Decision). finishing s x code description clock out) e ∙ refused_leaves s o code description clock out)

-- ---- the calls
door : (s : Session) (out : List ℕ) (p : Answer × List ℕ) → Leaves s out p → Leaves s out (guarded s out p)
unfolding guarded
door s out p f = either s out (session_sound s) p (refusal BadSession s, out) f (left BadSession refl)

pub message_leaves : (s : Session) (type : ℕ) (x : StreamId) (timestamp clock : ℕ) (body out : List ℕ) → Leaves s out (handle_message s type x timestamp clock body out)
unfolding by_type
message_leaves s type x timestamp clock body out =
    door s out (by_type s type x timestamp clock body out)
    (either s out (eqb type 4) _ _ (finish_leaves s (decided s x (control_wish body)) [] [] clock out (decided_fate s x (control_wish body)))
    (either s out (eqb type 8) _ _ (shows (frame_of s x (Some (AudioDataReceived timestamp))))
    (either s out (eqb type 9) _ _ (shows (frame_of s x (Some (VideoDataReceived timestamp))))
    (either s out (eqb type 18) _ _ (finish_leaves s (decided s x (data_wish body)) [] [] clock out (decided_fate s x (data_wish body)))
    (either s out (eqb type 20) _ _ (finish_leaves s (decided s x (command_wish body)) [] [] clock out (decided_fate s x (command_wish body)))
    (done refl))))))
  where
    shows : (f : Option Frame) → Leaves s out (frame_answer s f, out)
    shows (Some f) = done refl
    shows None = done refl

pub reject_leaves : (s : Session) (id : RequestId) (code description : List ℕ) (clock : ℕ) (out : List ℕ) → Leaves s out (rejecting s id code description clock out)
reject_leaves s id code description clock out =
    door s out _ (finish_leaves s (rejected s id (short code description)) code description clock out (rejected_fate (request_at s id) (short code description)))

pub finish_playing_leaves : (s : Session) (id : StreamId) (clock : ℕ) (out : List ℕ) → Leaves s out (finishes s id clock out)
finish_playing_leaves s id clock out = door s out _ (finish_leaves s (finished_on s id) [] [] clock out (finished_fate (stream_at s id) id))

-- an accept may also be 11: the buffer stays, and of the session the request is gone
pub data AcceptLeaves (s : Session) (id : RequestId) (out : List ℕ) (p : Answer × List ℕ) : Type 0 where
  leaves : Leaves s out p → AcceptLeaves s id out p
  removed : (action : Action) (stream : StreamId) → p ≡ (refusal (WrongStream action stream) (without_request s id.0), out) → AcceptLeaves s id out p

accept_by : (s : Session) (id : RequestId) (clock : ℕ) (out : List ℕ) (b : Bool) (d : Decision) → AcceptFate (request_at s id) d → AcceptLeaves s id out (pick b (finishing s d [] [] clock out) (refusal BadSession s, out))
unfolding applied
accept_by s id clock out true d (fate f) = leaves (finish_leaves s d [] [] clock out f)
accept_by s id clock out true d (gone r h action stream e) =
    removed action stream
    (ap (λ (x : Decision). finishing s x [] [] clock out) e
    ∙ refused_stays s (WrongStream action stream) (dropping r) [] [] clock out
    ∙ ap (λ (n : ℕ). (refusal (WrongStream action stream) (without_request s n), out)) (request_number_lem s id r h))
accept_by s id clock out false d f = leaves (left BadSession refl)

pub accept_leaves : (s : Session) (id : RequestId) (clock : ℕ) (out : List ℕ) → AcceptLeaves s id out (accepting s id clock out)
unfolding guarded
accept_leaves s id clock out = accept_by s id clock out (session_sound s) (accepted s id) (accepted_fate (request_at s id) (stream_stands s (request_at s id)))

-- ---- with 0: the count is the sum of the records' lengths, and the bytes past it stay
by_count : (s : Session) (d : Decision) (n : ℕ) (after out : List ℕ) (b : Bool) → (pair s d (room n after out b)).0.outcome ≡ Ok tt → ((pair s d (room n after out b)).0.count ≡ n) × ((pair s d (room n after out b)).1 ≡ after)
by_count s d n after out true e = absurd cc
by_count s d n after out false e = (refl, refl)

pub written_whole : (s : Session) (d : Decision) (records out : List ℕ) → (answered s d records out).0.outcome ≡ Ok tt → ((answered s d records out).0.count ≡ length records) × ((answered s d records out).1 ≡ front records out)
unfolding answered sent
written_whole s d records out e = by_count s d (length records) (front records out) out (ltb (length out) (length records)) e

pub past_stays : (records out : List ℕ) → drop (length records) (front records out) ≡ drop (length records) out
unfolding front
past_stays records out = drop-append_seam records (drop (length records) out)

-- ---- `handle_media` is `handle_message` on types 8 and 9
abbrev from_media : Session → Result (Option Frame) Refusal → Answer
from_media s (Ok f) = frame_answer s f
from_media s (Err r) = refusal r s

alike : (s : Session) (f : Option Frame) (out : List ℕ) (b : Bool) → ◌≡◌ {A = Answer × List ℕ} (pick b (frame_answer s f, out) (refusal BadSession s, out)) (from_media s (pick b (Ok f) (Err BadSession)), out)
alike s f out true = refl
alike s f out false = refl

module _ (s : Session) (x : StreamId) (timestamp clock : ℕ) (body out : List ℕ) where
  pub audio_alike : handle_message s 8 x timestamp clock body out ≡ (from_media s (handle_media s Audio x timestamp), out)
  unfolding guarded by_type handle_media
  audio_alike = alike s (frame_of s x (Some (AudioDataReceived timestamp))) out (session_sound s)

  pub video_alike : handle_message s 9 x timestamp clock body out ≡ (from_media s (handle_media s Video x timestamp), out)
  unfolding guarded by_type handle_media
  video_alike = alike s (frame_of s x (Some (VideoDataReceived timestamp))) out (session_sound s)

-- ---- a start that is refused hands back the blank session, and the buffer stays
start_room : (clock : ℕ) (version : Name) (n : ℕ) (after out : List ℕ) (b : Bool) → Leaves blank_session out (opened clock version (room n after out b).0, (room n after out b).1)
start_room clock version n after out true = left NoRoom refl
start_room clock version n after out false = done refl

pub start_leaves : (chunk window bandwidth : ℕ) (finish : Bool) (version : List ℕ) (clock : ℕ) (out : List ℕ) → Leaves blank_session out (starting chunk window bandwidth finish version clock out)
unfolding starting sent
start_leaves chunk window bandwidth finish version clock out =
    let records = start_records chunk window bandwidth finish in
    either blank_session out (bad_config chunk version) _ _ (left BadConfig refl) (start_room clock (name_of version) (length records) (front records out) out (ltb (length out) (length records)))
