-- Every step leaves a session that the arrays can hold: nothing past its counts, and numbers that are u32.
use mathlib.Core.Path.{◌≡◌, refl, ap}
use Prim.Native.Nat.{ℕ, zero, suc, ◌+◌}
use native.Mathlib.Omega.{arith}
use mathlib.Core.Bool.{true, not}
use mathlib.Core.List.{List, [], ◌∷◌, ◌++◌}
use Rattle.std.specs.Prelude.{Option, Some, None, Result, Ok, Err}
use lib.Dec.{eqb, leb, ltb}
use lib.ListN.{drop, length, set, take}
use borrow.Author.Tests.{ltb-true}
use Rattle.numbers.proofs.ChooseLaws.{pick_elim, pick_eq}
use Rattle.text.specs.declared.ids.StreamId.{StreamId}
use Rattle.text.specs.declared.names.Name.{Name}
use Rattle.tables.specs.Entries.{no_request, request_name, request_number, stream_name, stream_number}
use Rattle.tables.specs.Tables.{closed as closing, has, look, remove, removed, sound, table_sound}
use Rattle.tables.specs.declared.requests.Request.{Request}
use Rattle.tables.specs.declared.streams.Stream.{Stream}
use Rattle.tables.proofs.SoundLaws.{both}
use Rattle.wishes.specs.declared.outcome.Refusal.{Refusal}
use Rattle.wishes.specs.declared.wish.PlayArguments.{PlayArguments}
use Rattle.wishes.specs.declared.wish.PlayFault.{PlayFault}
use Rattle.wishes.specs.declared.wish.PublishArguments.{PublishArguments}
use Rattle.wishes.specs.declared.wish.PublishFault.{PublishFault}
use Rattle.wishes.specs.declared.wish.Wish.{Wish}
use Rattle.wishes.specs.declared.wish.Wish.TheVariants.{Nothing, Connect, CreateStream, CloseStream, DeleteStream, Metadata, Play, PingRequest, PingResponse, Publish}
use Rattle.session.specs.Changes.{applied, applied_by, dropping, filing_connect, filing_of, granting, joining, no_change, removing, setting}
use Rattle.session.specs.State.{following, fresh_session, with_changed, with_request, with_stream, without_request, without_stream}
use Rattle.session.specs.declared.changes.Change.{Change}
use Rattle.session.specs.declared.changes.Effect.{Effect}
use Rattle.session.specs.declared.changes.Effect.TheVariants.{Nothing as NoEffect, StreamMade, StreamSet, StreamRemoved, RequestFiled, ConnectFiled, ConnectAccepted, StreamAccepted, RequestRemoved}
use Rattle.session.specs.declared.decision.Decision.{Decision}
use Rattle.session.specs.declared.session.Session.{Session}
use Rattle.session.proofs.SoundTheorems.{says_sound}
use Rattle.streams.specs.Streams.{created}
use Rattle.decisions.specs.Answers.{completed}
use Rattle.written.proofs.RoundTheorems.{All, Fits, RequestFits, Tidy, Typed, requests_in, streams_in}
use Rattle.written.proofs.TidyTheorems.{There, tidy_applied, tidy_fresh}
use Rattle.story.specs.Steps.{Call, Response, accept, finish, media, message, reject, send_audio, send_metadata, send_ping, send_video, step}
use Rattle.story.specs.Doings.{Doing, Wants, Shows, Rests, Accepts, Rejects, Finishes, Sends, doing, message_doing}
use Rattle.story.specs.Orders.{play_ask, publish_ask, stream_in, want_ask}
use Rattle.story.proofs.SessionLaws.{Good}
use Rattle.story.proofs.DecisionLaws.{Did, closed, completes, connects, deleted, files, grants, joined, made, missed, rejects, still}
use Rattle.story.proofs.LookLaws.{not_none, same_found}
use Rattle.story.proofs.KeptLaws.{own_request, own_stream_lem}
use Rattle.story.proofs.RunLaws.{Fresh}
use Rattle.story.proofs.StepLaws.{Took, step_took, took}
use Rattle.mirror.specs.Hosts.{Narrow}

-- ---- what holds of all entries of a list holds of what is made of them
module _ {A : Type 0} (p : A → Type 0) where
  all_set : (l : List A) (i : ℕ) (x : A) → All p l → p x → All p (set l i x)
  unfolding All
  all_set [] i x h k = tt
  all_set (y ∷ l) zero x h k = (k, h.1)
  all_set (y ∷ l) (suc i) x h k = (h.0, all_set l i x h.1 k)

  all_take : (n : ℕ) (l : List A) → All p l → All p (take n l)
  unfolding All
  all_take zero l h = tt
  all_take (suc n) [] h = tt
  all_take (suc n) (x ∷ l) h = (h.0, all_take n l h.1)

  all_drop : (n : ℕ) (l : List A) → All p l → All p (drop n l)
  unfolding All
  all_drop zero l h = h
  all_drop (suc n) [] h = tt
  all_drop (suc n) (x ∷ l) h = all_drop n l h.1

  all_append : (l m : List A) → All p l → All p m → All p (l ++ m)
  unfolding All
  all_append [] m h k = k
  all_append (x ∷ l) m h k = (h.0, all_append l m h.1 k)

  module _ (number : A → ℕ) (blank : A) (id : ℕ) where
    all_remove : (l : List A) → All p l → All p (remove number id l)
    unfolding remove All
    all_remove [] h = tt
    all_remove (x ∷ l) h = pick_elim (All p) _ _ (eqb (number x) id) (λ q. h.1) (λ q. (h.0, all_remove l h.1))

    all_closed : (rest past l : List A) (o : Option A) → All p rest → p blank → All p past → All p l → All p (closing number blank rest past l o)
    unfolding All
    all_closed rest past l None f k g h = h
    all_closed rest past l (Some x) f k g h = all_append rest (blank ∷ past) f (k, g)

    all_removed : (n : ℕ) (l : List A) → p blank → All p l → All p (removed number blank id n l)
    unfolding removed
    all_removed n l k h = all_closed (remove number id (take n l)) (drop n l) l (look number id (take n l)) (all_remove (take n l) (all_take n l h)) k (all_drop n l h) h

-- ---- a session that the arrays can hold
abbrev OnFits : Request → Type 0
OnFits r = Fits r.stream.0

pub record Held (s : Session) : Type 0 where
  pub tidy : Tidy s
  pub next_stream_fits : Fits s.next_stream
  pub next_request_fits : Fits s.next_request
  pub on_streams : All OnFits s.requests

-- numbers that are below the next one are u32
below : {A : Type 0} (number : A → ℕ) (name : A → Name) (next : ℕ) (l : List A) → sound number name next l ≡ true → Fits next → All (λ (x : A). Fits (number x)) l
unfolding sound All
below number name next [] e k = tt
below number name next (x ∷ l) e k =
    let a = both (leb (name x).len 128) _ e in
    let b = both (ltb (number x) next) _ a.1 in
    let c = both (not (has number (number x) l)) _ b.1 in
    let z = ltb-true (number x) next b.0 in
    (omega (arith, z, k), below number name next l c.1 k)

two : (l : List Request) → All (λ (r : Request). Fits r.id.0) l → All OnFits l → All RequestFits l
unfolding All
two [] h k = tt
two (r ∷ l) h k = ((h.0, k.0), two l h.1 k.1)

pub held_typed : (s : Session) → Good s → Held s → Typed s
unfolding table_sound
held_typed s g h =
    let v = says_sound s g.sound in
    let a = both (leb s.stream_count (length s.streams)) _ v.streams in
    let b = both (leb s.request_count (length s.requests)) _ v.requests in
    record {
      next_stream_fits = h.next_stream_fits;
      next_request_fits = h.next_request_fits;
      stream_numbers = below stream_number stream_name s.next_stream (streams_in s) a.1 h.next_stream_fits;
      request_numbers = two (requests_in s) (below request_number request_name s.next_request (requests_in s) b.1 h.next_request_fits) (all_take OnFits s.request_count s.requests h.on_streams);
    }

-- ---- every change that a step makes leaves such a session
following_fits : (n : ℕ) → Fits n → Fits (following n)
following_fits n h = pick_eq Fits n (n + 1) n 4294967295 (λ e. h) (λ e. omega (arith, h, e))

-- a request that is filed is on a stream whose number is a u32
abbrev Filing : Effect → Request → Type 0
Filing NoEffect r = Unit {0}
Filing StreamMade r = Unit {0}
Filing StreamSet r = Unit {0}
Filing StreamRemoved r = Unit {0}
Filing RequestFiled r = OnFits r
Filing (ConnectFiled encoding) r = OnFits r
Filing ConnectAccepted r = Unit {0}
Filing StreamAccepted r = Unit {0}
Filing RequestRemoved r = Unit {0}

module _ (s : Session) (h : Held s) where
  filed : (r : Request) → OnFits r → All OnFits (set s.requests s.request_count r)
  filed r k = all_set OnFits s.requests s.request_count r h.on_streams k

  gone : (n : ℕ) → All OnFits (removed request_number no_request n s.request_count s.requests)
  gone n = all_removed OnFits request_number no_request n s.request_count s.requests (omega arith) h.on_streams

  numbers : (effect : Effect) (e : Stream) (r : Request) → Filing effect r → Tidy (applied_by effect s e r) → Held (applied_by effect s e r)
  unfolding with_stream with_changed without_stream with_request without_request
  numbers NoEffect e r k t = record { tidy = t; next_stream_fits = h.next_stream_fits; next_request_fits = h.next_request_fits; on_streams = h.on_streams }
  numbers StreamMade e r k t = record { tidy = t; next_stream_fits = following_fits s.next_stream h.next_stream_fits; next_request_fits = h.next_request_fits; on_streams = h.on_streams }
  numbers StreamSet e r k t = record { tidy = t; next_stream_fits = h.next_stream_fits; next_request_fits = h.next_request_fits; on_streams = h.on_streams }
  numbers StreamRemoved e r k t = record { tidy = t; next_stream_fits = h.next_stream_fits; next_request_fits = h.next_request_fits; on_streams = h.on_streams }
  numbers RequestFiled e r k t = record { tidy = t; next_stream_fits = h.next_stream_fits; next_request_fits = following_fits s.next_request h.next_request_fits; on_streams = filed r k }
  numbers (ConnectFiled encoding) e r k t = record { tidy = t; next_stream_fits = h.next_stream_fits; next_request_fits = following_fits s.next_request h.next_request_fits; on_streams = filed r k }
  numbers ConnectAccepted e r k t = record { tidy = t; next_stream_fits = h.next_stream_fits; next_request_fits = h.next_request_fits; on_streams = gone r.id.0 }
  numbers StreamAccepted e r k t = record { tidy = t; next_stream_fits = h.next_stream_fits; next_request_fits = h.next_request_fits; on_streams = gone r.id.0 }
  numbers RequestRemoved e r k t = record { tidy = t; next_stream_fits = h.next_stream_fits; next_request_fits = h.next_request_fits; on_streams = gone r.id.0 }

  held_applied : (c : Change) → There c.effect s c.stream c.request → Filing c.effect c.request → Held (applied s c)
  unfolding applied
  held_applied c t k = numbers c.effect c.stream c.request k (tidy_applied s c h.tidy t)

-- ---- the stream of a request that a message files is the message's
publish_on : (y : StreamId) (a : Result PublishArguments PublishFault) (n : ℕ) → stream_in (publish_ask y a) ≡ Some n → n ≡ y.0
publish_on y (Ok a) n e = same_found _ _ _ e refl
publish_on y (Err f) n e = absurd (not_none _ _ e refl)

play_on : (y : StreamId) (a : Result PlayArguments PlayFault) (n : ℕ) → stream_in (play_ask y a) ≡ Some n → n ≡ y.0
play_on y (Ok a) n e = same_found _ _ _ e refl
play_on y (Err f) n e = absurd (not_none _ _ e refl)

ask_on : (y : StreamId) (w : Result Wish Refusal) (n : ℕ) → stream_in (want_ask y w) ≡ Some n → n ≡ y.0
ask_on y (Ok Nothing) n e = absurd (not_none _ _ e refl)
ask_on y (Ok (Connect t encoding app)) n e = absurd (not_none _ _ e refl)
ask_on y (Ok (CreateStream t)) n e = absurd (not_none _ _ e refl)
ask_on y (Ok (CloseStream x)) n e = absurd (not_none _ _ e refl)
ask_on y (Ok (DeleteStream x)) n e = absurd (not_none _ _ e refl)
ask_on y (Ok (Publish t a)) n e = publish_on y a n e
ask_on y (Ok (Play t a)) n e = play_on y a n e
ask_on y (Ok (Metadata read)) n e = absurd (not_none _ _ e refl)
ask_on y (Ok (PingRequest v)) n e = absurd (not_none _ _ e refl)
ask_on y (Ok (PingResponse v)) n e = absurd (not_none _ _ e refl)
ask_on y (Err r) n e = absurd (not_none _ _ e refl)

abbrev Aims : Doing → Type 0
Aims (Wants y w) = Fits y.0
Aims (Shows y e) = Unit {0}
Aims Rests = Unit {0}
Aims (Accepts n) = Unit {0}
Aims (Rejects n short) = Unit {0}
Aims (Finishes x) = Unit {0}
Aims (Sends x) = Unit {0}

narrow_aims : (c : Call) → Narrow c → Aims (doing c)
unfolding message_doing
narrow_aims (message type x timestamp clock body out) h =
    pick_elim Aims _ _ (eqb type 4) (λ q. h)
    (λ q. pick_elim Aims _ _ (eqb type 8) (λ q. tt)
    (λ q. pick_elim Aims _ _ (eqb type 9) (λ q. tt)
    (λ q. pick_elim Aims _ _ (eqb type 18) (λ q. h)
    (λ q. pick_elim Aims _ _ (eqb type 20) (λ q. h) (λ q. tt)))))
narrow_aims (media kind x timestamp) h = tt
narrow_aims (accept n clock out) h = tt
narrow_aims (reject n code description clock out) h = tt
narrow_aims (finish x clock out) h = tt
narrow_aims (send_metadata x m clock out) h = tt
narrow_aims (send_audio x timestamp droppable body out) h = tt
narrow_aims (send_video x timestamp droppable body out) h = tt
narrow_aims (send_ping clock out) h = tt

-- ---- a step
held_kept : {s : Session} {g : Doing} {d : Decision} → Did s g d → Aims g → Good s → Held s → Held (applied s d.change)
held_kept {s} (still g d c n f k) v w h = rw c (held_applied s h no_change tt tt)
held_kept {s} (made q m k) v w h = held_applied s h _ tt tt
held_kept {s} (files {y = y} {w = want} {r = r} f i k a) v w h =
    let z = ask_on y want r.stream.0 (ap stream_in a) in
    held_applied s h (filing_of r) tt (omega (arith, z, v))
held_kept {s} (connects {r = r} {encoding = encoding} f i k a) v w h = let z = a.1 in held_applied s h (filing_connect r encoding) tt (omega (arith, z))
held_kept {s} (closed {e = e} q c f k) v w h = rw k.change (held_applied s h (setting (created e.id)) tt tt)
held_kept {s} (deleted {x = x} {e = e} q c f k) v w h = rw k.change (held_applied s h (removing e) (e, own_stream_lem s w x.0 e f) tt)
held_kept {s} (completes {x = x} f) v w h = held_applied s h (setting (completed x)) tt tt
held_kept {s} (joined {n = n} {r = r} f k) v w h = held_applied s h (joining r) (r, own_request s w n.0 r f) tt
held_kept {s} (grants {n = n} {r = r} {a = a} f k o) v w h = held_applied s h (granting r a) (r, own_request s w n.0 r f) tt
held_kept {s} (missed {n = n} {r = r} f k o) v w h = held_applied s h (dropping r) (r, own_request s w n.0 r f) tt
held_kept {s} (rejects {n = n} {r = r} f) v w h = held_applied s h (dropping r) (r, own_request s w n.0 r f) tt

held_took : {s : Session} {g : Doing} {a : Response} {t : Session} → Took s g a t → Aims g → Good s → Held s → Held t
held_took (took d n t out k) v w h = held_kept k v w h

pub held_step : (s : Session) → Good s → Held s → (c : Call) → Narrow c → Held (step s c).1
held_step s w h c k = held_took (step_took s w.sound c) (narrow_aims c k) w h

-- ---- a start
fresh_held : (clock : ℕ) (version : Name) → Held (fresh_session clock version)
unfolding All
fresh_held clock version =
    let z : Fits 0 = omega arith in
    record { tidy = tidy_fresh clock version; next_stream_fits = omega arith; next_request_fits = z; on_streams = (z, (z, (z, (z, (z, (z, (z, (z, (z, (z, (z, (z, (z, (z, (z, (z, tt)))))))))))))))) }

pub held_start : {s : Session} → Fresh s → Held s
held_start f = rw f.is (fresh_held f.clock f.version)
