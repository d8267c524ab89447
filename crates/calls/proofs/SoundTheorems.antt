-- A session that passes the tests of refusal 15 passes them after every call. The tables of a session have 16 places each.
use mathlib.Core.Path.{◌≡◌}
use Prim.Native.Nat.{ℕ, ◌≤◌}
use mathlib.Core.Bool.{Bool, true, false}
use mathlib.Core.List.{List, []}
use lib.Dec.{eqb, lit≤}
use lib.ListN.{length}
use Rattle.numbers.specs.Choose.{pick}
use Rattle.numbers.proofs.ChooseLaws.{pick_elim}
use Rattle.text.specs.Names.{name_of}
use Rattle.text.specs.declared.ids.RequestId.{RequestId}
use Rattle.text.specs.declared.ids.StreamId.{StreamId}
use Rattle.text.specs.declared.names.Name.{Name}
use Rattle.record.specs.Clock.{time_of}
use Rattle.record.specs.Records.{start_records}
use Rattle.answers.specs.Sending.{sent}
use Rattle.wishes.specs.Commands.{command_wish}
use Rattle.wishes.specs.Control.{control_wish}
use Rattle.wishes.specs.DataFrame.{data_wish}
use Rattle.std.specs.Prelude.{Option, Some, None, Result}
use Rattle.wishes.specs.declared.outcome.Refusal.{Refusal}
use Rattle.wishes.specs.declared.outcome.Refusal.TheVariants.{BadSession}
use Rattle.wishes.specs.declared.wish.Wish.{Wish}
use Rattle.wishes.proofs.NameTheorems.{ShortRead, command_short, control_short, data_short}
use Rattle.session.specs.Changes.{applied}
use Rattle.session.specs.State.{session_sound}
use Rattle.session.specs.declared.decision.Decision.{Decision}
use Rattle.session.specs.declared.session.Session.{Session}
use Rattle.session.proofs.FitsLaws.{Fits}
use Rattle.session.proofs.SoundTheorems.{Sound, applied_sound, fresh_sound, is_sound, says_sound}
use Rattle.session.specs.declared.decision.Event.TheVariants.{AudioDataReceived, VideoDataReceived}
use Rattle.streams.specs.Streams.{frame_of}
use Rattle.streams.specs.declared.streams.Frame.{Frame}
use Rattle.steps.specs.Deciding.{decided}
use Rattle.steps.proofs.SoundTheorems.{decided_fits}
use Rattle.decisions.specs.Answers.{accepted, finished_on, rejected}
use Rattle.decisions.proofs.SoundTheorems.{accepted_fits, finished_fits, rejected_fits}
use Rattle.replies.specs.Answers.{answered, closed, refusal}
use Rattle.replies.specs.Finishing.{finishing}
use Rattle.replies.specs.Replies.{reply_records, short}
use Rattle.replies.specs.declared.answer.Answer.{Answer}
use Rattle.messages.specs.Messages.{by_type, frame_answer, guarded, handle_message, wished}
use Rattle.calls.specs.Calls.{accepting, bad_config, finishes, opened, rejecting, starting}
use Rattle.calls.proofs.StartsLaws.{version_short}

abbrev Stays : Answer × List ℕ → Type 0
Stays p = Sound p.0.session

either : (b : Bool) (p q : Answer × List ℕ) → Stays p → Stays q → Stays (pick b p q)
either true p q f g = f
either false p q f g = g

by_room : (s : Session) (d : Decision) (r : Option ℕ) → Sound s → Sound (applied s d.change) → Sound (closed s d r).session
by_room s d (Some n) f g = g
by_room s d None f g = f

module _ (s : Session) (h : Sound s) (ps : length s.streams ≡ 16) (pr : length s.requests ≡ 16) where
  finished_by : (d : Decision) (code description : List ℕ) (clock : ℕ) (out : List ℕ) → Fits s d.change → Stays (finishing s d code description clock out)
  unfolding finishing answered
  finished_by d code description clock out g =
      let records = reply_records d.reply d.name s.version s.encoding code description (time_of s.start clock) in
      by_room s d (sent records out).0 h (applied_sound s h ps pr d.change g)

  door : (out : List ℕ) (p : Answer × List ℕ) → Stays p → Stays (guarded s out p)
  unfolding guarded
  door out p f = either (session_sound s) p (refusal BadSession s, out) f h

  accepts : (id : RequestId) (clock : ℕ) (out : List ℕ) → Stays (accepting s id clock out)
  accepts id clock out = door out _ (finished_by (accepted s id) [] [] clock out (accepted_fits s h id))

  rejects : (id : RequestId) (code description : List ℕ) (clock : ℕ) (out : List ℕ) → Stays (rejecting s id code description clock out)
  rejects id code description clock out = door out _ (finished_by (rejected s id (short code description)) code description clock out (rejected_fits s id (short code description)))

  ends : (id : StreamId) (clock : ℕ) (out : List ℕ) → Stays (finishes s id clock out)
  ends id clock out = door out _ (finished_by (finished_on s id) [] [] clock out (finished_fits s id))

  wishes : (x : StreamId) (clock : ℕ) (out : List ℕ) (w : Result Wish Refusal) → ShortRead w → Stays (wished s x clock out w)
  wishes x clock out w k = finished_by (decided s x w) [] [] clock out (decided_fits s x w k)

  shows : (f : Option Frame) → Sound (frame_answer s f).session
  shows (Some f) = h
  shows None = h

  types : (type : ℕ) (x : StreamId) (timestamp clock : ℕ) (body out : List ℕ) → Stays (by_type s type x timestamp clock body out)
  unfolding by_type
  types type x timestamp clock body out =
      either (eqb type 4) _ _ (wishes x clock out (control_wish body) (control_short body))
      (either (eqb type 8) _ _ (shows (frame_of s x (Some (AudioDataReceived timestamp))))
      (either (eqb type 9) _ _ (shows (frame_of s x (Some (VideoDataReceived timestamp))))
      (either (eqb type 18) _ _ (wishes x clock out (data_wish body) (data_short body))
      (either (eqb type 20) _ _ (wishes x clock out (command_wish body) (command_short body)) h))))

  messages : (type : ℕ) (x : StreamId) (timestamp clock : ℕ) (body out : List ℕ) → Stays (handle_message s type x timestamp clock body out)
  messages type x timestamp clock body out = door out _ (types type x timestamp clock body out)

-- ---- stated with the test itself
module _ (s : Session) (h : session_sound s ≡ true) (ps : length s.streams ≡ 16) (pr : length s.requests ≡ 16) where
  pub accept_sound : (id : RequestId) (clock : ℕ) (out : List ℕ) → session_sound (accepting s id clock out).0.session ≡ true
  accept_sound id clock out = is_sound _ (accepts s (says_sound s h) ps pr id clock out)

  pub reject_sound : (id : RequestId) (code description : List ℕ) (clock : ℕ) (out : List ℕ) → session_sound (rejecting s id code description clock out).0.session ≡ true
  reject_sound id code description clock out = is_sound _ (rejects s (says_sound s h) ps pr id code description clock out)

  pub finish_sound : (id : StreamId) (clock : ℕ) (out : List ℕ) → session_sound (finishes s id clock out).0.session ≡ true
  finish_sound id clock out = is_sound _ (ends s (says_sound s h) ps pr id clock out)

  pub message_sound : (type : ℕ) (x : StreamId) (timestamp clock : ℕ) (body out : List ℕ) → session_sound (handle_message s type x timestamp clock body out).0.session ≡ true
  message_sound type x timestamp clock body out = is_sound _ (messages s (says_sound s h) ps pr type x timestamp clock body out)

-- ---- and a start hands back one that passes them, refused or not
opens : (clock : ℕ) (version : Name) (r : Option ℕ) → version.len ≤ 128 → Sound (opened clock version r).session
opens clock version (Some n) k = fresh_sound clock version k
opens clock version None k = fresh_sound 0 _ (lit≤ tt)

pub start_sound : (chunk window bandwidth : ℕ) (finish : Bool) (version : List ℕ) (clock : ℕ) (out : List ℕ) → session_sound (starting chunk window bandwidth finish version clock out).0.session ≡ true
unfolding starting name_of
start_sound chunk window bandwidth finish version clock out =
    let r = (sent (start_records chunk window bandwidth finish) out).0 in
    is_sound _ (pick_elim Stays _ _ (bad_config chunk version) (λ q. fresh_sound 0 _ (lit≤ tt)) (λ q. opens clock (name_of version) r (version_short chunk version q)))
