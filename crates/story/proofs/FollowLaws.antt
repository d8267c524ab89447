-- A session's tables are what its history tells: one law for each word of the history, by the cases of a decision.
use mathlib.Core.Path.{◌≡◌, refl, sym, ap, ◌∙◌}
use Prim.Native.Nat.{ℕ, ◌+◌, ◌≤◌, ◌<◌}
use native.Mathlib.Omega.{arith}
use mathlib.Core.Bool.{Bool, true, false}
use mathlib.Core.List.{List}
use lib.Dec.{eqb}
use borrow.Author.Tests.{eq-eqb, ne_eqb}
use Rattle.std.specs.Prelude.{Option, Some, None, Result, Ok}
use Rattle.numbers.specs.Choose.{pick}
use Rattle.numbers.proofs.ChooseLaws.{pick_elim, pick_eq}
use Rattle.text.specs.Names.{empty_name}
use Rattle.text.specs.declared.ids.StreamId.{StreamId}
use Rattle.text.specs.declared.names.Name.{Name}
use Rattle.tables.specs.declared.requests.Request.{Request}
use Rattle.tables.specs.declared.requests.RequestKind.{RequestKind}
use Rattle.tables.specs.declared.requests.RequestKind.TheVariants.{Connect, Publish, Play}
use Rattle.tables.specs.declared.streams.Stream.{Stream}
use Rattle.tables.specs.declared.streams.StreamState.{StreamState}
use Rattle.tables.specs.declared.streams.StreamState.TheVariants.{Created, Publishing, Playing, Completed}
use Rattle.wishes.specs.Outcome.{Outcome}
use Rattle.wishes.specs.declared.outcome.Refusal.{Refusal}
use Rattle.wishes.specs.declared.wish.Wish.{Wish}
use Rattle.wishes.specs.declared.wish.Wish.TheVariants.{CreateStream, CloseStream, DeleteStream}
use Rattle.session.specs.Changes.{applied}
use Rattle.session.specs.State.{connected, request_of, stream_of, with_changed, with_request, with_stream, without_request, without_stream}
use Rattle.session.specs.declared.decision.Decision.{Decision}
use Rattle.session.specs.declared.decision.Event.{Event}
use Rattle.session.specs.declared.decision.Event.TheVariants.{ConnectionRequested, PublishStreamRequested, PlayStreamRequested}
use Rattle.session.specs.declared.session.Session.{Session}
use Rattle.streams.specs.Streams.{created}
use Rattle.decisions.specs.Answers.{completed, playing, publishing}
use Rattle.story.specs.Doings.{Doing, Wants, Accepts, Rejects, Finishes}
use Rattle.story.specs.Runs.{Told}
use Rattle.story.specs.History.{Filed, Last, Never, Creation, Closing, Deletion, PublishAccepted, PlayAccepted, Finishing, acceptance, creation, creations, decided, decides, decisions, done, effect, effect_of_want, ending, filed, filed_by, filing, filings, is_it, joined_by, joining_kind, last_effective, makes, numbered, one_for, stands, waiting}
use Rattle.story.specs.History.{joined as joined_in}
use Rattle.story.specs.Stories.{as_filed, asked}
use Rattle.story.specs.Orders.{request_in}
use Rattle.story.proofs.LookLaws.{same_or}
use Rattle.story.proofs.SessionLaws.{Good, dropped_count, dropped_other, dropped_same, filed_other, filed_same, made_other, made_same, next_count, next_number, removed_other, removed_same, request_below, request_number_lem, set_other, set_same, stream_number_lem}
use Rattle.story.proofs.DecisionLaws.{Did, Next, Still, StillWant, becomes, closed, completes, connects, deleted, files, grants, joined, made, missed, rejects, still}
use Rattle.story.proofs.StepLaws.{heard}

-- ---- what the tables show, in the history's words
abbrev pub link : Session → Option Name
link s = pick (connected s) (Some s.app) None

abbrev pub standing : Option Stream → Option (StreamState × Name)
standing None = None
standing (Some e) = Some (e.state, e.key)

abbrev pub state_of : Last → Option (StreamState × Name)
state_of Never = None
state_of Creation = Some (Created, empty_name)
state_of Closing = Some (Created, empty_name)
state_of Deletion = None
state_of (PublishAccepted key) = Some (Publishing, key)
state_of (PlayAccepted key) = Some (Playing, key)
state_of Finishing = Some (Completed, empty_name)

pub record Follows (s : Session) (h : List Told) : Type 0 where
  pub links : link s ≡ joined_in h
  pub waits : (n : ℕ) → asked (request_of s n) ≡ waiting n h
  pub gone : (n : ℕ) → decided n h ≡ true → n < s.next_request
  pub makes_next : s.next_stream ≡ creations h + 1
  pub agrees : (x : ℕ) → standing (stream_of s x) ≡ state_of (last_effective x h)
  pub counts : filings h ≡ decisions h + s.request_count

-- an event with no request's number files nothing
pub unfiled : (x : StreamId) (e : Option Event) (app key : Name) → request_in e ≡ None → filed_by x e app key ≡ None
unfiled x (Some (ConnectionRequested n)) app key k = absurd cc
unfiled x (Some (PublishStreamRequested n mode)) app key k = absurd cc
unfiled x (Some (PlayStreamRequested n start duration reset y)) app key k = absurd cc
unfiled x other app key k = refl

-- and one that files has the request's number
pub filed_number : (x : StreamId) (e : Option Event) (app key : Name) (f : Filed) → filed_by x e app key ≡ Some f → request_in e ≡ Some f.number
filed_number x (Some (ConnectionRequested n)) app key f k = let q : record { number = n.0; kind = Connect; stream = 0; name = app } ≡ f = cc in ap Some (ap (λ (z : Filed). z.number) q)
filed_number x (Some (PublishStreamRequested n mode)) app key f k = let q : record { number = n.0; kind = Publish; stream = x.0; name = key } ≡ f = cc in ap Some (ap (λ (z : Filed). z.number) q)
filed_number x (Some (PlayStreamRequested n start duration reset y)) app key f k = let q : record { number = n.0; kind = Play; stream = y.0; name = key } ≡ f = cc in ap Some (ap (λ (z : Filed). z.number) q)
filed_number x other app key f k = absurd cc

-- ---- a step that changed nothing is told as nothing
module _ (s : Session) (d : Decision) where
  pub still_files : (g : Doing) → request_in d.event ≡ None → (n t : ℕ) (out : List ℕ) → filing g (heard d n t out) ≡ None
  still_files (Wants x w) k n t out = unfiled x d.event d.app d.key k
  still_files other k n t out = refl

  pub still_decides : (g : Doing) → Still s g d → decides g d.outcome ≡ None
  still_decides (Accepts m) k = rw (k.0, k.1)
  still_decides (Rejects m b) k = rw k
  still_decides other k = refl

  still_joins : (g : Doing) → Still s g d → (h : List Told) (old : Option Name) → joined_by g d.outcome h old ≡ old
  still_joins (Accepts m) k h old = rw k.0
  still_joins other k h old = refl

  none_made : (b : Bool) → ◌≡◌ {A = ℕ} (pick b 0 0) 0
  none_made true = refl
  none_made false = refl

  still_want : (v : Result Wish Refusal) (o : Outcome) → StillWant s v o → pick (done o) (makes v) 0 ≡ 0
  still_want (Ok (CreateStream t)) o k = rw k.0
  still_want other o k = none_made (done o)

  still_makes : (g : Doing) → Still s g d → creation g d.outcome ≡ 0
  still_makes (Wants x w) k = still_want w d.outcome k
  still_makes other k = refl

-- ---- requests
found_filed : (b : Bool) (o : Option Filed) (f : Filed) → pick b None o ≡ Some f → o ≡ Some f
found_filed true o f e = absurd cc
found_filed false o f e = e

-- what waits was filed
pub waits_filed : (s : Session) (h : List Told) → Follows s h → (n : ℕ) (r : Request) → request_of s n ≡ Some r → filed n h ≡ Some (as_filed r)
waits_filed s h v n r f = found_filed (decided n h) (filed n h) (as_filed r) (sym (v.waits n) ∙ ap asked f)

undecided : (s : Session) (h : List Told) → Follows s h → (n : ℕ) → s.next_request ≤ n → decided n h ≡ false
undecided s h v n k = at (decided n h) refl
  where
    at : (b : Bool) → decided n h ≡ b → b ≡ false
    at true e = let z = v.gone n e in absurd (omega arith)
    at false e = refl

module _ (s : Session) (g : Good s) (h : List Told) (v : Follows s h) where
  filed_waits : (r : Request) → Next s r → (n : ℕ) → asked (request_of (with_request s r) n) ≡ pick (decided n h) None (pick (eqb r.id.0 n) (Some (as_filed r)) (filed n h))
  filed_waits r k n =
      same_or r.id.0 n _
      (λ q. let z = k.number in
      ap asked (ap (request_of (with_request s r)) (sym q) ∙ filed_same s g r k.place k.number) ∙ rw (undecided s h v n (omega arith), eq-eqb r.id.0 n q))
      (λ q. ap asked (filed_other s g r k.place n q) ∙ v.waits n ∙ rw (ne_eqb r.id.0 n q))

  module _ (m : ℕ) (r : Request) (f : request_of s m ≡ Some r) where
    dropped_waits : (n : ℕ) → asked (request_of (without_request s r.id.0) n) ≡ pick (pick (eqb m n) true (decided n h)) None (filed n h)
    dropped_waits n =
        rw (request_number_lem s g m r f)
        (same_or m n _
        (λ q. ap asked (ap (request_of (without_request s m)) (sym q) ∙ dropped_same s g m r f) ∙ rw (eq-eqb m n q))
        (λ q. ap asked (dropped_other s g m r f n q) ∙ v.waits n ∙ rw (ne_eqb m n q)))

    dropped_gone : (n : ℕ) → pick (eqb m n) true (decided n h) ≡ true → n < s.next_request
    dropped_gone n = pick_eq (λ (b : Bool). b ≡ true → n < s.next_request) _ _ m n (λ q e. omega (arith, request_below s g m r f)) (λ q e. v.gone n e)

    dropped_counts : filings h ≡ decisions h + 1 + (without_request s r.id.0).request_count
    dropped_counts = let z = v.counts in rw (request_number_lem s g m r f) (omega (arith, dropped_count s g m r f))

-- ---- streams
stands_none : (l : Last) → state_of l ≡ None → stands l ≡ false
stands_none Never e = refl
stands_none Deletion e = refl
stands_none other e = absurd cc

stands_some : (l : Last) (v : StreamState × Name) → state_of l ≡ Some v → stands l ≡ true
stands_some Never v e = absurd cc
stands_some Deletion v e = absurd cc
stands_some other v e = refl

pub linked_on : (b : Bool) (app a : Name) → pick b (Some app) None ≡ Some a → b ≡ true
linked_on true app a e = refl
linked_on false app a e = absurd cc

end_none : (new : Last) (j : Option Name) (old : Last) → ((a : Name) → j ≡ Some a → stands old ≡ false) → ending new j old ≡ old
end_none new None old k = refl
end_none new (Some a) old k = rw (k a refl)

pub kind_state : (k : RequestKind) (r : Request) (a : Stream) (old : Last) → becomes k r ≡ Some a → (a.id.0 ≡ r.stream.0) × (state_of (acceptance k r.name old) ≡ Some (a.state, a.key))
kind_state Connect r a old e = absurd cc
kind_state Publish r a old e = let q : publishing r ≡ a = cc in rw (← q) (refl, refl)
kind_state Play r a old e = let q : playing r ≡ a = cc in rw (← q) (refl, refl)

kind_joins : (k : RequestKind) (r : Request) (a : Stream) (old : Option Name) → becomes k r ≡ Some a → joining_kind k r.name old ≡ old
kind_joins Connect r a old e = absurd cc
kind_joins Publish r a old e = refl
kind_joins Play r a old e = refl

module _ (s : Session) (g : Good s) (h : List Told) (v : Follows s h) (x : ℕ) where
  linked : connected s ≡ true → joined_in h ≡ Some s.app
  linked c = sym v.links ∙ rw c

  -- a close or a delete that did nothing
  still_ends : (new : Last) (y : ℕ) (o : Outcome) → (done o ≡ true → connected s ≡ true → stream_of s y ≡ None)
      → standing (stream_of s x) ≡ state_of (pick (done o) (pick (eqb y x) (ending new (joined_in h) (last_effective x h)) (last_effective x h)) (last_effective x h))
  still_ends new y o k =
      pick_elim (λ (l : Last). standing (stream_of s x) ≡ state_of l) _ _ (done o)
      (λ b. pick_eq (λ (l : Last). standing (stream_of s x) ≡ state_of l) _ _ y x
      (λ q. v.agrees x ∙ ap state_of (sym (end_none new (joined_in h) (last_effective x h)
      (λ a e. stands_none (last_effective x h) (sym (v.agrees x) ∙ ap standing (ap (stream_of s) (sym q) ∙ k b (linked_on (connected s) s.app a (v.links ∙ e))))))))
      (λ q. v.agrees x))
      (λ b. v.agrees x)

  same_pick : (b : Bool) → standing (stream_of s x) ≡ state_of (pick b (last_effective x h) (last_effective x h))
  same_pick true = v.agrees x
  same_pick false = v.agrees x

  still_wanted : (w : Result Wish Refusal) (o : Outcome) → StillWant s w o → standing (stream_of s x) ≡ state_of (pick (done o) (effect_of_want x w h (last_effective x h)) (last_effective x h))
  still_wanted (Ok (CreateStream t)) o k = rw k.0 (v.agrees x)
  still_wanted (Ok (CloseStream y)) o k = still_ends Closing y.0 o k
  still_wanted (Ok (DeleteStream y)) o k = still_ends Deletion y.0 o k
  still_wanted other o k = same_pick (done o)

  still_agrees : (d : Decision) (k : Doing) → Still s k d → standing (stream_of s x) ≡ state_of (effect x k d.outcome h (last_effective x h))
  still_agrees d (Wants y w) i = still_wanted w d.outcome i
  still_agrees d (Accepts n) i = rw i.0 (v.agrees x)
  still_agrees d (Finishes y) i = rw i (v.agrees x)
  still_agrees d other i = v.agrees x

  -- a stream of number y is now e
  set_agrees : (e old : Stream) (y : ℕ) (new : Last) → e.id.0 ≡ y → stream_of s y ≡ Some old → (y ≡ x → state_of new ≡ Some (e.state, e.key))
      → standing (stream_of (with_changed s e) x) ≡ state_of (pick (eqb y x) new (last_effective x h))
  set_agrees e old y new q f k =
      pick_eq (λ (l : Last). standing (stream_of (with_changed s e) x) ≡ state_of l) _ _ y x
      (λ z. ap standing (ap (stream_of (with_changed s e)) (sym (q ∙ z)) ∙ set_same s g e old (ap (stream_of s) q ∙ f)) ∙ sym (k z))
      (λ z. ap standing (set_other s g e x (λ u. z (sym q ∙ u))) ∙ v.agrees x)

  -- a stream that stood was closed or deleted while connected
  ends : (new : Last) (y : ℕ) (e : Stream) → connected s ≡ true → stream_of s y ≡ Some e → y ≡ x → ending new (joined_in h) (last_effective x h) ≡ new
  ends new y e c f q = rw (linked c, stands_some (last_effective x h) (e.state, e.key) (sym (v.agrees x) ∙ ap standing (ap (stream_of s) (sym q) ∙ f)))

  pub did_agrees : {k : Doing} {d : Decision} → Did s k d → standing (stream_of (applied s d.change) x) ≡ state_of (effect x k d.outcome h (last_effective x h))
  unfolding applied without_request with_request with_changed
  did_agrees (still k d c n f i) = rw c (still_agrees d k i)
  did_agrees (made {t = t} q m k) =
      let e : Stream = created (record { 0 = s.next_stream }) in
      rw q (pick_eq (λ (l : Last). standing (stream_of (with_stream s e) x) ≡ state_of l) _ _ (creations h + 1) x
      (λ z. let u = v.makes_next in ap standing (ap (stream_of (with_stream s e)) (sym (v.makes_next ∙ z)) ∙ made_same s g e k refl))
      (λ z. ap standing (made_other s g e k x (λ u. z (sym v.makes_next ∙ u))) ∙ v.agrees x))
  did_agrees (files f i k a) = v.agrees x ∙ ap state_of (sym (i.effectless x h (last_effective x h)))
  did_agrees (connects f i k a) = v.agrees x ∙ ap state_of (sym (i.effectless x h (last_effective x h)))
  did_agrees (closed {x = y} {e = e} q c f k) =
      rw (k.change, k.outcome, q) (set_agrees (created e.id) e y.0 _ (stream_number_lem s g y.0 e f) f (λ z. ap state_of (ends Closing y.0 e c f z)))
  did_agrees (deleted {x = y} {e = e} q c f k) =
      rw (k.change, k.outcome, q, stream_number_lem s g y.0 e f)
      (pick_eq (λ (l : Last). standing (stream_of (without_stream s y.0) x) ≡ state_of l) _ _ y.0 x
      (λ z. ap standing (ap (stream_of (without_stream s y.0)) (sym z) ∙ removed_same s g y.0 e f) ∙ ap state_of (sym (ends Deletion y.0 e c f z)))
      (λ z. ap standing (removed_other s g y.0 e f x z) ∙ v.agrees x))
  did_agrees (completes {x = y} {e = e} f) = set_agrees (completed y) e y.0 Finishing refl f (λ z. refl)
  did_agrees (joined {n = n} {r = r} f k) =
      rw (waits_filed s h v n.0 r f, k) (same_pick (eqb r.stream.0 x))
  did_agrees (grants {n = n} {r = r} {a = a} {old = old} f k o) =
      rw (waits_filed s h v n.0 r f)
      (set_agrees a old r.stream.0 _ (kind_state r.kind r a (last_effective x h) k).0 o (λ z. (kind_state r.kind r a (last_effective x h) k).1))
  did_agrees (missed f k o) = v.agrees x
  did_agrees (rejects f) = v.agrees x

-- ---- all of it, after a step
module _ (s : Session) (g : Good s) (h : List Told) (v : Follows s h) where
  pub did_links : {k : Doing} {d : Decision} → Did s k d → link (applied s d.change) ≡ joined_by k d.outcome h (joined_in h)
  unfolding applied connected with_stream with_changed without_stream with_request without_request
  did_links (still k d c n f i) = rw c (v.links ∙ sym (still_joins s d k i h (joined_in h)))
  did_links (closed q c f k) = rw k.change v.links
  did_links (deleted q c f k) = rw k.change v.links
  did_links (joined {n = n} {r = r} f k) = rw (waits_filed s h v n.0 r f, k)
  did_links (grants {n = n} {r = r} {a = a} f k o) = rw (waits_filed s h v n.0 r f) (v.links ∙ sym (kind_joins r.kind r a (joined_in h) k))
  did_links other = v.links

  pub did_waits : {k : Doing} {d : Decision} → Did s k d → (c t : ℕ) (out : List ℕ) (n : ℕ)
      → asked (request_of (applied s d.change) n) ≡ pick (is_it n (decides k d.outcome) (decided n h)) None (numbered n (filing k (heard d c t out)) (filed n h))
  unfolding applied with_stream with_changed without_stream without_request with_request
  did_waits (still k d c z f i) m t out n = rw (c, still_decides s d k i, still_files s d k f m t out) (v.waits n)
  did_waits (made q m k) c t out n = v.waits n
  did_waits (files {r = r} f i k a) c t out n = rw f (filed_waits s g h v r k n)
  did_waits (connects {r = r} f i k a) c t out n = rw f (filed_waits s g h v r k n)
  did_waits (closed {y = y} {d = d} q c f k) m t out n = rw (k.change, unfiled y d.event d.app d.key k.files) (v.waits n)
  did_waits (deleted {y = y} {d = d} q c f k) m t out n = rw (k.change, unfiled y d.event d.app d.key k.files) (v.waits n)
  did_waits (completes f) c t out n = v.waits n
  did_waits (joined {n = m} {r = r} f k) c t out n = dropped_waits s g h v m.0 r f n
  did_waits (grants {n = m} {r = r} f k o) c t out n = dropped_waits s g h v m.0 r f n
  did_waits (missed {n = m} {r = r} f k o) c t out n = dropped_waits s g h v m.0 r f n
  did_waits (rejects {n = m} {r = r} f) c t out n = dropped_waits s g h v m.0 r f n

  pub did_gone : {k : Doing} {d : Decision} → Did s k d → (n : ℕ) → is_it n (decides k d.outcome) (decided n h) ≡ true → n < (applied s d.change).next_request
  unfolding applied with_stream with_changed without_stream without_request with_request
  did_gone (still k d c z f i) n = rw (c, still_decides s d k i) (v.gone n)
  did_gone (made q m k) n = v.gone n
  did_gone (files f i k a) n = rw (next_number s.next_request k.more) (λ e. let z = v.gone n e in omega arith)
  did_gone (connects f i k a) n = rw (next_number s.next_request k.more) (λ e. let z = v.gone n e in omega arith)
  did_gone (closed q c f k) n = rw k.change (v.gone n)
  did_gone (deleted q c f k) n = rw k.change (v.gone n)
  did_gone (completes f) n = v.gone n
  did_gone (joined {n = m} {r = r} f k) n = dropped_gone s g h v m.0 r f n
  did_gone (grants {n = m} {r = r} f k o) n = dropped_gone s g h v m.0 r f n
  did_gone (missed {n = m} {r = r} f k o) n = dropped_gone s g h v m.0 r f n
  did_gone (rejects {n = m} {r = r} f) n = dropped_gone s g h v m.0 r f n

  pub did_makes : {k : Doing} {d : Decision} → Did s k d → (applied s d.change).next_stream ≡ creations h + creation k d.outcome + 1
  unfolding applied with_stream with_changed without_stream without_request with_request
  did_makes (still k d c z f i) = let u = v.makes_next in rw (c, still_makes s d k i) (omega arith)
  did_makes (made q m k) = let u = v.makes_next in rw (q, next_number s.next_stream m) (omega arith)
  did_makes (files f i k a) = let u = v.makes_next in rw i.makes_none (omega arith)
  did_makes (connects f i k a) = let u = v.makes_next in rw i.makes_none (omega arith)
  did_makes (closed q c f k) = let u = v.makes_next in rw (k.change, k.outcome, q) (omega arith)
  did_makes (deleted q c f k) = let u = v.makes_next in rw (k.change, k.outcome, q) (omega arith)
  did_makes other = let u = v.makes_next in omega arith

  pub did_counts : {k : Doing} {d : Decision} → Did s k d → (c t : ℕ) (out : List ℕ)
      → filings h + one_for (filing k (heard d c t out)) ≡ decisions h + one_for (decides k d.outcome) + (applied s d.change).request_count
  unfolding applied with_stream with_changed without_stream without_request with_request
  did_counts (still k d c z f i) m t out = let u = v.counts in rw (c, still_decides s d k i, still_files s d k f m t out) (omega arith)
  did_counts (made q m k) c t out = let u = v.counts in omega arith
  did_counts (files f i k a) c t out = let u = v.counts in rw (f, next_count s.request_count k.place) (omega arith)
  did_counts (connects f i k a) c t out = let u = v.counts in rw (f, next_count s.request_count k.place) (omega arith)
  did_counts (closed {y = y} {d = d} q c f k) m t out = let u = v.counts in rw (k.change, unfiled y d.event d.app d.key k.files) (omega arith)
  did_counts (deleted {y = y} {d = d} q c f k) m t out = let u = v.counts in rw (k.change, unfiled y d.event d.app d.key k.files) (omega arith)
  did_counts (completes f) c t out = let u = v.counts in omega arith
  did_counts (joined {n = m} {r = r} f k) c t out = omega (arith, dropped_counts s g h v m.0 r f)
  did_counts (grants {n = m} {r = r} f k o) c t out = omega (arith, dropped_counts s g h v m.0 r f)
  did_counts (missed {n = m} {r = r} f k o) c t out = omega (arith, dropped_counts s g h v m.0 r f)
  did_counts (rejects {n = m} {r = r} f) c t out = omega (arith, dropped_counts s g h v m.0 r f)
