-- What a session's searches say after each change to it.
use mathlib.Core.Path.{◌≡◌, ap, ◌∙◌}
use Prim.Native.Nat.{ℕ, ◌+◌, ◌≤◌, ◌<◌}
use native.Mathlib.Omega.{arith}
use mathlib.Core.Bool.{true}
use mathlib.Core.List.{[], ◌∷◌, ◌++◌}
use lib.ListN.{length, take, set, length-set}
use borrow.Author.Tests.{lt-leb, ne_eqb}
use Rattle.std.specs.Prelude.{Some, None}
use Rattle.tables.specs.Entries.{no_request, no_stream, request_name, request_number, stream_name, stream_number}
use Rattle.tables.specs.Tables.{look, table_sound}
use Rattle.tables.specs.declared.requests.Request.{Request}
use Rattle.tables.specs.declared.streams.Stream.{Stream}
use Rattle.tables.proofs.KeptTheorems.{found_number}
use Rattle.session.specs.State.{following, one_more, request_of, session_sound, stream_of, with_changed, with_request, with_stream, without_request, without_stream}
use Rattle.session.specs.declared.session.Session.{Session}
use Rattle.session.proofs.SoundTheorems.{says_sound}
use Rattle.story.proofs.LookLaws.{count_removed, in_order, length_changed, length_removed, look_absent, look_append_other, look_append_same, look_below, look_change_other, look_change_same, look_remove_other, look_remove_same, take_changed, take_removed, take_set}

-- a session that passes the tests of refusal 15, and whose tables have 16 places, as its type says
pub record Good (s : Session) : Type 0 where
  pub sound : session_sound s ≡ true
  pub stream_places : length s.streams ≡ 16
  pub request_places : length s.requests ≡ 16

-- ---- a number that was given, and a place that was free
pub next_number : (n : ℕ) → (n ≡ 4294967295 → ⊥) → following n ≡ n + 1
next_number n h = simp (ne_eqb n 4294967295 h)

pub next_count : (n : ℕ) → n < 16 → one_more n ≡ n + 1
next_count n h = simp (lt-leb 16 n h)

module _ (s : Session) (g : Good s) where
  streams_sound : table_sound stream_number stream_name s.next_stream s.stream_count s.streams ≡ true
  streams_sound = (says_sound s g.sound).streams

  requests_sound : table_sound request_number request_name s.next_request s.request_count s.requests ≡ true
  requests_sound = (says_sound s g.sound).requests

  -- ---- streams
  pub stream_number_lem : (x : ℕ) (e : Stream) → stream_of s x ≡ Some e → e.id.0 ≡ x
  stream_number_lem x e f = found_number stream_number stream_name x _ e f

  pub stream_absent : (x : ℕ) → s.next_stream ≤ x → stream_of s x ≡ None
  stream_absent x h = look_absent stream_number stream_name _ x _ (in_order stream_number stream_name _ _ _ streams_sound) h

  module _ (e : Stream) (k : s.stream_count < 16) where
    stream_places_lem : take (one_more s.stream_count) (set s.streams s.stream_count e) ≡ take s.stream_count s.streams ++ e ∷ []
    stream_places_lem =
        let q = g.stream_places in
        ap (λ (n : ℕ). take n (set s.streams s.stream_count e)) (next_count s.stream_count k)
        ∙ take_set stream_number stream_name _ _ _ streams_sound e (omega arith)

    pub made_same : e.id.0 ≡ s.next_stream → stream_of (with_stream s e) e.id.0 ≡ Some e
    unfolding with_stream
    made_same q = ap (look stream_number e.id.0) stream_places_lem ∙ look_append_same stream_number e _ (stream_absent e.id.0 (omega arith))

    pub made_other : (x : ℕ) → (e.id.0 ≡ x → ⊥) → stream_of (with_stream s e) x ≡ stream_of s x
    unfolding with_stream
    made_other x n = ap (look stream_number x) stream_places_lem ∙ look_append_other stream_number x e _ n

  pub set_same : (e old : Stream) → stream_of s e.id.0 ≡ Some old → stream_of (with_changed s e) e.id.0 ≡ Some e
  unfolding with_changed
  set_same e old f = ap (look stream_number e.id.0) (take_changed stream_number stream_name _ _ _ streams_sound e) ∙ look_change_same stream_number e old _ f

  pub set_other : (e : Stream) (x : ℕ) → (e.id.0 ≡ x → ⊥) → stream_of (with_changed s e) x ≡ stream_of s x
  unfolding with_changed
  set_other e x n = ap (look stream_number x) (take_changed stream_number stream_name _ _ _ streams_sound e) ∙ look_change_other stream_number x e _ n

  module _ (y : ℕ) (e : Stream) (f : stream_of s y ≡ Some e) where
    pub removed_same : stream_of (without_stream s y) y ≡ None
    unfolding without_stream
    removed_same =
        ap (look stream_number y) (take_removed stream_number stream_name _ _ _ streams_sound no_stream y e f)
        ∙ look_remove_same stream_number stream_name _ y _ (in_order stream_number stream_name _ _ _ streams_sound)

    pub removed_other : (x : ℕ) → (y ≡ x → ⊥) → stream_of (without_stream s y) x ≡ stream_of s x
    unfolding without_stream
    removed_other x n = ap (look stream_number x) (take_removed stream_number stream_name _ _ _ streams_sound no_stream y e f) ∙ look_remove_other stream_number x y _ n

    pub removed_places : length (without_stream s y).streams ≡ 16
    unfolding without_stream
    removed_places = length_removed stream_number stream_name _ _ _ streams_sound no_stream y e f ∙ g.stream_places

  pub made_places : (e : Stream) → length (with_stream s e).streams ≡ 16
  unfolding with_stream
  made_places e = length-set s.streams s.stream_count e ∙ g.stream_places

  pub set_places : (e : Stream) → length (with_changed s e).streams ≡ 16
  unfolding with_changed
  set_places e = length_changed stream_number stream_name _ _ _ streams_sound e ∙ g.stream_places

  -- ---- requests
  pub request_number_lem : (n : ℕ) (r : Request) → request_of s n ≡ Some r → r.id.0 ≡ n
  request_number_lem n r f = found_number request_number request_name n _ r f

  pub request_below : (n : ℕ) (r : Request) → request_of s n ≡ Some r → n < s.next_request
  request_below n r f = look_below request_number request_name _ n _ r (in_order request_number request_name _ _ _ requests_sound) f

  pub request_absent : (n : ℕ) → s.next_request ≤ n → request_of s n ≡ None
  request_absent n h = look_absent request_number request_name _ n _ (in_order request_number request_name _ _ _ requests_sound) h

  module _ (r : Request) (k : s.request_count < 16) where
    request_places_lem : take (one_more s.request_count) (set s.requests s.request_count r) ≡ take s.request_count s.requests ++ r ∷ []
    request_places_lem =
        let q = g.request_places in
        ap (λ (n : ℕ). take n (set s.requests s.request_count r)) (next_count s.request_count k)
        ∙ take_set request_number request_name _ _ _ requests_sound r (omega arith)

    pub filed_same : r.id.0 ≡ s.next_request → request_of (with_request s r) r.id.0 ≡ Some r
    unfolding with_request
    filed_same q = ap (look request_number r.id.0) request_places_lem ∙ look_append_same request_number r _ (request_absent r.id.0 (omega arith))

    pub filed_other : (n : ℕ) → (r.id.0 ≡ n → ⊥) → request_of (with_request s r) n ≡ request_of s n
    unfolding with_request
    filed_other n h = ap (look request_number n) request_places_lem ∙ look_append_other request_number n r _ h

  pub filed_places : (r : Request) → length (with_request s r).requests ≡ 16
  unfolding with_request
  filed_places r = length-set s.requests s.request_count r ∙ g.request_places

  module _ (m : ℕ) (r : Request) (f : request_of s m ≡ Some r) where
    pub dropped_same : request_of (without_request s m) m ≡ None
    unfolding without_request
    dropped_same =
        ap (look request_number m) (take_removed request_number request_name _ _ _ requests_sound no_request m r f)
        ∙ look_remove_same request_number request_name _ m _ (in_order request_number request_name _ _ _ requests_sound)

    pub dropped_other : (n : ℕ) → (m ≡ n → ⊥) → request_of (without_request s m) n ≡ request_of s n
    unfolding without_request
    dropped_other n h = ap (look request_number n) (take_removed request_number request_name _ _ _ requests_sound no_request m r f) ∙ look_remove_other request_number n m _ h

    pub dropped_places : length (without_request s m).requests ≡ 16
    unfolding without_request
    dropped_places = length_removed request_number request_name _ _ _ requests_sound no_request m r f ∙ g.request_places

    pub dropped_count : (without_request s m).request_count + 1 ≡ s.request_count
    unfolding without_request
    dropped_count = count_removed request_number request_name _ _ _ requests_sound no_request m r f
