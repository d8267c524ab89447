-- A step of a sound session is its decision, written: made where the records fit, and refused for room with nothing changed where not.
use mathlib.Core.Path.{◌≡◌, refl, sym, ap, ◌∙◌}
use Prim.Native.Nat.{ℕ}
use mathlib.Core.Bool.{Bool, true, false, true≢false}
use mathlib.Core.List.{List, []}
use lib.Dec.{eqb, leb}
use lib.ListN.{length}
use Rattle.std.specs.Prelude.{Option, Some, None, Result, Ok, Err}
use Rattle.std.specs.Option.{ok_or}
use Rattle.numbers.specs.Choose.{pick}
use Rattle.text.specs.declared.ids.StreamId.{StreamId}
use Rattle.text.specs.declared.names.Name.{Name}
use Rattle.record.specs.Clock.{time_of}
use Rattle.record.specs.Records.{media as media_record, ping_request}
use Rattle.metadata.specs.Writing.{metadata_record}
use Rattle.metadata.specs.declared.metadata.StreamMetadata.{StreamMetadata}
use Rattle.answers.specs.Sending.{sent}
use Rattle.wishes.specs.Commands.{command_wish}
use Rattle.wishes.specs.Control.{control_wish}
use Rattle.wishes.specs.DataFrame.{data_wish}
use Rattle.wishes.specs.Outcome.{number_of}
use Rattle.wishes.specs.declared.outcome.Refusal.{Refusal}
use Rattle.wishes.specs.declared.outcome.Refusal.TheVariants.{NoRoom}
use Rattle.wishes.specs.declared.wish.Wish.{Wish}
use Rattle.wishes.specs.declared.wish.Wish.TheVariants.{CreateStream, CloseStream, DeleteStream}
use Rattle.session.specs.Changes.{applied}
use Rattle.session.specs.Decisions.{nothing, refusing}
use Rattle.session.specs.State.{session_sound}
use Rattle.session.specs.declared.decision.Decision.{Decision}
use Rattle.session.specs.declared.decision.Event.{Event}
use Rattle.session.specs.declared.decision.Event.TheVariants.{AudioDataReceived, VideoDataReceived}
use Rattle.session.specs.declared.session.Session.{Session}
use Rattle.streams.specs.Streams.{frame_of}
use Rattle.streams.specs.declared.streams.Frame.{Frame}
use Rattle.steps.specs.Deciding.{decided}
use Rattle.sending.specs.Answers.{sending}
use Rattle.sending.specs.Sends.{encoder_fits, guarded_send, media_sent, metadata_sent, ping_of, pinged, sends_ping}
use Rattle.replies.specs.Answers.{answered, closed, idle}
use Rattle.replies.specs.Finishing.{finishing}
use Rattle.replies.specs.Replies.{reply_records, short}
use Rattle.replies.proofs.RepliesLaws.{nothing_sent}
use Rattle.messages.specs.Messages.{by_type, frame_answer, guarded, handle_media, media_event, wished}
use Rattle.messages.specs.declared.messages.MediaKind.{MediaKind}
use Rattle.messages.specs.declared.messages.MediaKind.TheVariants.{Audio, Video}
use Rattle.story.specs.Steps.{Call, Response, accept, answering, finish, media, message, pinged_as, plainly, reject, send_audio, send_metadata, send_ping, send_video, sent_as, shown, step}
use Rattle.story.specs.Doings.{Doing, Wants, Shows, Rests, Accepts, Rejects, Finishes, Sends, doing, message_doing}
use Rattle.story.specs.Stories.{Raised, frame_in, nothing_raised}
use Rattle.story.specs.Orders.{for_room, request_in}
use Rattle.story.proofs.DecisionLaws.{Did, Not15, ReadableIn, StillWant, decision_at, did, shown_as, still}
use Rattle.story.proofs.ReadingLaws.{command_readable, control_readable, data_readable}

-- what is told of a decision
abbrev pub heard : Decision → ℕ → ℕ → List ℕ → Response
heard d n t out = record { outcome = d.outcome; event = d.event; app = d.app; key = d.key; metadata = d.metadata; count = n; timestamp = t; out = out }

-- what the bytes of an answer take from the session
pub record Constants : Type 0 where
  pub start : ℕ
  pub version : Name
  pub encoding : ℕ

abbrev pub constants_of : Session → Constants
constants_of s = record { start = s.start; version = s.version; encoding = s.encoding }

abbrev pub records_of : Constants → Decision → List ℕ → List ℕ → ℕ → List ℕ
records_of k d code description clock = reply_records d.reply d.name k.version k.encoding code description (time_of k.start clock)

abbrev pub fitted : Decision → Option ℕ → List ℕ → Response
fitted d (Some n) out = heard d n 0 out
fitted d None out = plainly (Err NoRoom) 0 0 out

abbrev pub written : Constants → Decision → List ℕ → List ℕ → ℕ → List ℕ → Response
written k d code description clock out = let r = sent (records_of k d code description clock) out in fitted d r.0 r.1

-- the answer to a call: a function of the call, of the decision, and of the constants
abbrev pub answer_by : Constants → Decision → Call → Response
answer_by k d (message type x timestamp clock body out) = written k d [] [] clock out
answer_by k d (media kind x timestamp) = heard d 0 0 []
answer_by k d (accept n clock out) = written k d [] [] clock out
answer_by k d (reject n code description clock out) = written k d code description clock out
answer_by k d (finish x clock out) = written k d [] [] clock out
answer_by k d (send_metadata x m clock out) = let a = metadata_sent x m (time_of k.start clock) out in sent_as a.0 a.1
answer_by k d (send_audio x timestamp droppable body out) = let a = media_sent 8 x timestamp droppable body out in sent_as a.0 a.1
answer_by k d (send_video x timestamp droppable body out) = let a = media_sent 9 x timestamp droppable body out in sent_as a.0 a.1
answer_by k d (send_ping clock out) = let a = pinged (time_of k.start clock) out in pinged_as a.0 a.1

-- the next session
abbrev if_fitted : Session → Decision → Option ℕ → Session
if_fitted s d (Some n) = applied s d.change
if_fitted s d None = s

abbrev keeps : Session → Decision → List ℕ → List ℕ → ℕ → List ℕ → Session
keeps s d code description clock out = if_fitted s d (sent (records_of (constants_of s) d code description clock) out).0

abbrev pub next_by : Session → Decision → Call → Session
next_by s d (message type x timestamp clock body out) = keeps s d [] [] clock out
next_by s d (accept n clock out) = keeps s d [] [] clock out
next_by s d (reject n code description clock out) = keeps s d code description clock out
next_by s d (finish x clock out) = keeps s d [] [] clock out
next_by s d other = applied s d.change

-- ---- no records always fit
pub sent_nothing : (out : List ℕ) → sent [] out ≡ (Some 0, out)
sent_nothing out = sym (nothing_sent out)

module _ (s : Session) where
  abbrev Is : Decision → List ℕ → List ℕ → ℕ → List ℕ → Response × Session → Type 0
  Is d code description clock out p = p ≡ (written (constants_of s) d code description clock out, keeps s d code description clock out)

  by_room : (d : Decision) (n : Option ℕ) (o : List ℕ) → answering (closed s d n, o) ≡ (fitted d n o, if_fitted s d n)
  by_room d (Some n) o = refl
  by_room d None o = refl

  finishes : (d : Decision) (code description : List ℕ) (clock : ℕ) (out : List ℕ) → Is d code description clock out (answering (finishing s d code description clock out))
  unfolding finishing answered
  finishes d code description clock out = let r = sent (records_of (constants_of s) d code description clock) out in by_room d r.0 r.1

  frames : (f : Option Frame) (clock : ℕ) (out : List ℕ) → Is (shown_as f) [] [] clock out (answering (frame_answer s f, out))
  unfolding applied
  frames None clock out = rw (sent_nothing out)
  frames (Some f) clock out = rw (sent_nothing out)

  alone : (f : Option Frame) → ◌≡◌ {A = Response × Session} (shown (Ok f), s) (heard (shown_as f) 0 0 [], applied s (shown_as f).change)
  unfolding applied
  alone None = refl
  alone (Some f) = refl

  types : (x : StreamId) (timestamp clock : ℕ) (body out : List ℕ) (b4 b8 b9 b18 b20 : Bool)
      → Is
      (decision_at s
      (pick b4 (Wants x (control_wish body)) (pick b8 (Shows x (AudioDataReceived timestamp)) (pick b9 (Shows x (VideoDataReceived timestamp)) (pick b18 (Wants x (data_wish body)) (pick b20 (Wants x (command_wish body)) Rests))))))
      [] [] clock out
      (answering
      (pick b4 (wished s x clock out (control_wish body))
      (pick b8 (frame_answer s (frame_of s x (Some (AudioDataReceived timestamp))), out)
      (pick b9 (frame_answer s (frame_of s x (Some (VideoDataReceived timestamp))), out)
      (pick b18 (wished s x clock out (data_wish body))
      (pick b20 (wished s x clock out (command_wish body)) (idle s 0, out)))))))
  unfolding applied
  types x timestamp clock body out true b8 b9 b18 b20 = finishes (decided s x (control_wish body)) [] [] clock out
  types x timestamp clock body out false true b9 b18 b20 = frames (frame_of s x (Some (AudioDataReceived timestamp))) clock out
  types x timestamp clock body out false false true b18 b20 = frames (frame_of s x (Some (VideoDataReceived timestamp))) clock out
  types x timestamp clock body out false false false true b20 = finishes (decided s x (data_wish body)) [] [] clock out
  types x timestamp clock body out false false false false true = finishes (decided s x (command_wish body)) [] [] clock out
  types x timestamp clock body out false false false false false = rw (sent_nothing out)

  pub step_is : session_sound s ≡ true → (c : Call) → step s c ≡ (answer_by (constants_of s) (decision_at s (doing c)) c, next_by s (decision_at s (doing c)) c)
  unfolding step guarded guarded_send sends_ping handle_media by_type message_doing applied
  step_is q (message type x timestamp clock body out) = rw q (types x timestamp clock body out (eqb type 4) (eqb type 8) (eqb type 9) (eqb type 18) (eqb type 20))
  step_is q (media kind x timestamp) = rw q (alone (frame_of s x (Some (media_event kind timestamp))))
  step_is q (accept n clock out) = rw q (finishes (decision_at s (Accepts n)) [] [] clock out)
  step_is q (reject n code description clock out) = rw q (finishes (decision_at s (Rejects n (short code description))) code description clock out)
  step_is q (finish x clock out) = rw q (finishes (decision_at s (Finishes x)) [] [] clock out)
  step_is q other = rw q

  pub step_answer : session_sound s ≡ true → (c : Call) → (step s c).0 ≡ answer_by (constants_of s) (decision_at s (doing c)) c
  step_answer q c = ap (λ (p : Response × Session). p.0) (step_is q c)

  -- ---- a step that is not refused for room: its decision is not either, and is made
  abbrev Made : Decision → Response → Session → Type 0
  Made d r t = for_room (number_of r.outcome) ≡ false → (t ≡ applied s d.change) × (for_room (number_of d.outcome) ≡ false)

  fits_made : (d : Decision) (n : Option ℕ) (o : List ℕ) → Made d (fitted d n o) (if_fitted s d n)
  fits_made d (Some n) o h = (refl, h)
  fits_made d None o h = absurd (true≢false h)

  written_made : (d : Decision) (code description : List ℕ) (clock : ℕ) (out : List ℕ) → Made d (written (constants_of s) d code description clock out) (keeps s d code description clock out)
  written_made d code description clock out = let r = sent (records_of (constants_of s) d code description clock) out in fits_made d r.0 r.1

  call_made : (c : Call) → Made (decision_at s (doing c)) (answer_by (constants_of s) (decision_at s (doing c)) c) (next_by s (decision_at s (doing c)) c)
  call_made (message type x timestamp clock body out) = written_made (decision_at s (message_doing type x timestamp body)) [] [] clock out
  call_made (media kind x timestamp) = λ h. (refl, h)
  call_made (accept n clock out) = written_made (decision_at s (Accepts n)) [] [] clock out
  call_made (reject n code description clock out) = written_made (decision_at s (Rejects n (short code description))) code description clock out
  call_made (finish x clock out) = written_made (decision_at s (Finishes x)) [] [] clock out
  call_made other = λ h. (refl, refl)

  pub step_next : session_sound s ≡ true → (c : Call) → Made (decision_at s (doing c)) (step s c).0 (step s c).1
  step_next q c = rw (step_is q c) (call_made c)

-- ---- what a call wants can be read
module _ (s : Session) where
  kind_none : (kind : MediaKind) (t : ℕ) → request_in (Some (media_event kind t)) ≡ None
  kind_none Audio t = refl
  kind_none Video t = refl

  types_readable : (x : StreamId) (timestamp : ℕ) (body : List ℕ) (b4 b8 b9 b18 b20 : Bool)
      → ReadableIn s (pick b4 (Wants x (control_wish body)) (pick b8 (Shows x (AudioDataReceived timestamp)) (pick b9 (Shows x (VideoDataReceived timestamp)) (pick b18 (Wants x (data_wish body)) (pick b20 (Wants x (command_wish body)) Rests)))))
  types_readable x timestamp body true b8 b9 b18 b20 = control_readable body
  types_readable x timestamp body false true b9 b18 b20 = refl
  types_readable x timestamp body false false true b18 b20 = refl
  types_readable x timestamp body false false false true b20 = data_readable body
  types_readable x timestamp body false false false false true = command_readable body
  types_readable x timestamp body false false false false false = tt

  readable : (c : Call) → ReadableIn s (doing c)
  unfolding message_doing
  readable (message type x timestamp clock body out) = types_readable x timestamp body (eqb type 4) (eqb type 8) (eqb type 9) (eqb type 18) (eqb type 20)
  readable (media kind x timestamp) = kind_none kind timestamp
  readable other = tt

  pub does : (c : Call) → Did s (doing c) (decision_at s (doing c))
  does c = did s (doing c) (readable c)

-- ---- so a step took a decision: its own, or that of 12
pub data Took (s : Session) (g : Doing) : Response → Session → Type 0 where
  took : (d : Decision) (n t : ℕ) (out : List ℕ) → Did s g d → Took s g (heard d n t out) (applied s d.change)

module _ (s : Session) where
  -- 12 changes nothing, whatever was wanted
  no_room_want : (v : Result Wish Refusal) → StillWant s v (Err NoRoom)
  no_room_want (Ok (CreateStream t)) = (refl, refl)
  no_room_want (Ok (CloseStream y)) = λ d. absurd (true≢false (sym d))
  no_room_want (Ok (DeleteStream y)) = λ d. absurd (true≢false (sym d))
  no_room_want other = tt

  no_room : (g : Doing) → Did s g (refusing NoRoom)
  no_room (Wants y w) = still (Wants y w) _ refl refl refl (no_room_want w)
  no_room (Shows y e) = still (Shows y e) _ refl refl refl tt
  no_room Rests = still Rests _ refl refl refl tt
  no_room (Accepts n) = still (Accepts n) _ refl refl refl (refl, refl)
  no_room (Rejects n b) = still (Rejects n b) _ refl refl refl refl
  no_room (Finishes x) = still (Finishes x) _ refl refl refl refl
  no_room (Sends x) = still (Sends x) _ refl refl refl tt

  fits_took : (g : Doing) (d : Decision) → Did s g d → (n : Option ℕ) (o : List ℕ) → Took s g (fitted d n o) (if_fitted s d n)
  unfolding applied
  fits_took g d k (Some n) o = took d n 0 o k
  fits_took g d k None o = took (refusing NoRoom) 0 0 o (no_room g)

  written_took : (g : Doing) (d : Decision) → Did s g d → (code description : List ℕ) (clock : ℕ) (out : List ℕ)
      → Took s g (written (constants_of s) d code description clock out) (keeps s d code description clock out)
  written_took g d k code description clock out = let r = sent (records_of (constants_of s) d code description clock) out in fits_took g d k r.0 r.1

  -- sends
  send_done : (x : Option ℕ) (n t : ℕ) (out : List ℕ) → Took s (Sends x) (plainly (Ok tt) n t out) s
  unfolding applied
  send_done x n t out = took nothing n t out (still (Sends x) _ refl refl refl tt)

  send_refused : (x : Option ℕ) (r : Refusal) (out : List ℕ) → Not15 (Err r) → Took s (Sends x) (plainly (Err r) 0 0 out) s
  unfolding applied
  send_refused x r out k = took (refusing r) 0 0 out (still (Sends x) _ refl k refl tt)

  abbrev Sent : Option ℕ → Result ℕ Refusal × List ℕ → Type 0
  Sent x a = Took s (Sends x) (sent_as a.0 a.1) s

  either : (x : Option ℕ) (b : Bool) (p q : Result ℕ Refusal × List ℕ) → Sent x p → Sent x q → Sent x (pick b p q)
  either x true p q f g = f
  either x false p q f g = g

  records_sent : (x : Option ℕ) (records out : List ℕ) → Sent x (sending records out)
  unfolding sending
  records_sent x records out = at (sent records out).0
    where
      at : (n : Option ℕ) → Sent x (ok_or n NoRoom, (sent records out).1)
      at (Some n) = send_done x n 0 _
      at None = send_refused x NoRoom _ refl

  metadata_took : (x : StreamId) (m : StreamMetadata) (time : ℕ) (out : List ℕ) → Sent (Some x.0) (metadata_sent x m time out)
  unfolding metadata_sent
  metadata_took x m time out = either _ (encoder_fits m.encoder) _ _ (records_sent _ (metadata_record m time x.0) out) (send_refused _ _ out refl)

  media_took : (type : ℕ) (x : StreamId) (timestamp : ℕ) (droppable : Bool) (body out : List ℕ) → Sent (Some x.0) (media_sent type x timestamp droppable body out)
  unfolding media_sent
  media_took type x timestamp droppable body out =
      either _ (leb (length body) 16777215) _ _ (records_sent _ (media_record type timestamp x.0 droppable body) out) (send_refused _ _ out refl)

  ping_took : (t : ℕ) (n : Option ℕ) (out : List ℕ) → Took s (Sends None) (pinged_as (ping_of t n) out) s
  ping_took t (Some n) out = send_done None n t out
  ping_took t None out = send_refused None NoRoom out refl

  call_took : (c : Call) → Took s (doing c) (answer_by (constants_of s) (decision_at s (doing c)) c) (next_by s (decision_at s (doing c)) c)
  unfolding applied
  call_took (message type x timestamp clock body out) = written_took (message_doing type x timestamp body) _ (does s (message type x timestamp clock body out)) [] [] clock out
  call_took (media kind x timestamp) = took (shown_as (frame_of s x (Some (media_event kind timestamp)))) 0 0 [] (does s (media kind x timestamp))
  call_took (accept n clock out) = written_took (Accepts n) _ (does s (accept n clock out)) [] [] clock out
  call_took (reject n code description clock out) = written_took (Rejects n (short code description)) _ (does s (reject n code description clock out)) code description clock out
  call_took (finish x clock out) = written_took (Finishes x) _ (does s (finish x clock out)) [] [] clock out
  call_took (send_metadata x m clock out) = metadata_took x m (time_of s.start clock) out
  call_took (send_audio x timestamp droppable body out) = media_took 8 x timestamp droppable body out
  call_took (send_video x timestamp droppable body out) = media_took 9 x timestamp droppable body out
  call_took (send_ping clock out) = let t = time_of s.start clock in let r = sent (ping_request t) out in ping_took t r.0 r.1

  pub step_took : session_sound s ≡ true → (c : Call) → Took s (doing c) (step s c).0 (step s c).1
  step_took q c = rw (step_is s q c) (call_took c)

-- ---- audio and video: what is shown is the frame, and the answer is done
abbrev pub raised : Option Frame → Raised
raised None = nothing_raised
raised (Some f) = record { event = f.event; app = f.app; key = f.key }

abbrev Brings : Call → Constants → Option Frame → Type 0
Brings c k f = (frame_in (answer_by k (shown_as f) c) ≡ raised f) × ((answer_by k (shown_as f) c).outcome ≡ Ok tt)

brings : (c : Call) (x : StreamId) (e : Event) → doing c ≡ Shows x e → (k : Constants) (f : Option Frame) → Brings c k f
brings (message type y timestamp clock body out) x e q k None = rw (sent_nothing out) (refl, refl)
brings (message type y timestamp clock body out) x e q k (Some f) = rw (sent_nothing out) (refl, refl)
brings (media kind y timestamp) x e q k None = (refl, refl)
brings (media kind y timestamp) x e q k (Some f) = (refl, refl)
brings other x e q k f = absurd cc

pub media_answer_lem : (s : Session) → session_sound s ≡ true → (c : Call) (x : StreamId) (e : Event) → doing c ≡ Shows x e
    → (frame_in (step s c).0 ≡ raised (frame_of s x (Some e))) × ((step s c).0.outcome ≡ Ok tt)
media_answer_lem s g c x e q =
    let b = brings c x e q (constants_of s) (frame_of s x (Some e)) in
    let a : (step s c).0 ≡ answer_by (constants_of s) (shown_as (frame_of s x (Some e))) c = step_answer s g c ∙ ap (λ (d : Doing). answer_by (constants_of s) (decision_at s d) c) q in
    (ap frame_in a ∙ b.0, ap (λ (r : Response). r.outcome) a ∙ b.1)
