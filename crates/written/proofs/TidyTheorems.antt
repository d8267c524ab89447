-- A start has nothing past its counts, and every change leaves it so; of a removal, where what is removed is there.
use mathlib.Core.Path.{◌≡◌, refl, sym, ap, ◌∙◌, subst}
use mathlib.Core.Logic.{inl, inr}
use Prim.Native.Nat.{ℕ, suc, ◌+◌, ◌-◌, ◌≤◌}
use native.Mathlib.Omega.{arith}
use mathlib.Core.List.{List, [], ◌∷◌, ◌++◌}
use Rattle.std.specs.Prelude.{Some}
use lib.ListN.{drop, length, length-append, length-replicate, replicate, set, take}
use lib.Seq.{append_snoc, drop_at, set_at, set_out, take_at}
use borrow.Author.Tests.{le-leb, lt-leb}
use Rattle.numbers.proofs.ChooseLaws.{pick_eq}
use Rattle.numbers.proofs.PatternLaws.{le_or_lt}
use Rattle.text.specs.declared.names.Name.{Name}
use Rattle.tables.specs.Entries.{no_request, no_stream, request_number, stream_number}
use Rattle.tables.specs.Tables.{change, changed, closed, look, remove, removed}
use Rattle.tables.specs.declared.requests.Request.{Request}
use Rattle.tables.specs.declared.streams.Stream.{Stream}
use Rattle.tables.proofs.TablesLaws.{look_no}
use Rattle.session.specs.Changes.{applied, applied_by}
use Rattle.session.specs.State.{fresh_session, one_more, request_of, stream_of, with_changed, with_request, with_stream, without_request, without_stream}
use Rattle.session.specs.declared.changes.Change.{Change}
use Rattle.session.specs.declared.changes.Effect.{Effect}
use Rattle.session.specs.declared.changes.Effect.TheVariants.{Nothing, StreamMade, StreamSet, StreamRemoved, RequestFiled, ConnectFiled, ConnectAccepted, StreamAccepted, RequestRemoved}
use Rattle.session.specs.declared.session.Session.{Session}
use Rattle.written.proofs.RoundTheorems.{Tidy}

-- ---- a table
pub record Table {A : Type 0} (blank : A) (n : ℕ) (l : List A) : Type 0 where
  pub blanks : l ≡ take n l ++ replicate (16 - n) blank
  pub used : length (take n l) ≡ n
  pub places : n ≤ 16

module _ {A : Type 0} (number : A → ℕ) where
  change_length : (y : A) (l : List A) → length (change number y l) ≡ length l
  unfolding change
  change_length y [] = refl
  change_length y (x ∷ l) = pick_eq (λ (t : List A). length t ≡ suc (length l)) (y ∷ l) (x ∷ change number y l) (number x) (number y) (λ e. refl) (λ e. ap suc (change_length y l))

  remove_length : (id : ℕ) (l : List A) (x : A) → look number id l ≡ Some x → suc (length (remove number id l)) ≡ length l
  unfolding look remove
  remove_length id [] x e = let z : ◌≡◌ {A = ℕ} 0 1 = cc in absurd (omega arith)
  remove_length id (y ∷ l) x e =
      pick_eq (λ (t : List A). suc (length t) ≡ suc (length l)) l (y ∷ remove number id l) (number y) id (λ q. refl) (λ no. ap suc (remove_length id l x (sym (look_no number id y l no) ∙ e)))

module _ {A : Type 0} (blank : A) where
  table_of_any : (n : ℕ) (l t : List A) → length t ≡ n → n ≤ 16 → l ≡ t ++ replicate (16 - n) blank → Table blank n l
  table_of_any n l t h g e =
      let front : take n l ≡ t = ap (take n) e ∙ take_at t (replicate (16 - n) blank) n h in
      record { blanks = e ∙ ap (λ (u : List A). u ++ replicate (16 - n) blank) (sym front); used = ap length front ∙ h; places = g }

module _ {A : Type 0} (blank : A) (n : ℕ) (l : List A) where
  module _ (h : Table blank n l) where
    pub behind : drop n l ≡ replicate (16 - n) blank
    behind = ap (drop n) h.blanks ∙ drop_at (take n l) (replicate (16 - n) blank) n h.used

    pub long : length l ≡ 16
    long = ap length h.blanks ∙ omega (arith, length-append (take n l) (replicate (16 - n) blank), h.used, length-replicate (16 - n) blank, h.places)

    table_put : (number : A → ℕ) (y : A) → Table blank n (changed number y n l)
    unfolding changed
    table_put number y =
        table_of_any blank n (changed number y n l) (change number y (take n l)) (change_length number y (take n l) ∙ h.used) h.places (ap (λ (t : List A). change number y (take n l) ++ t) behind)

    table_cut : (number : A → ℕ) (id : ℕ) (x : A) → look number id (take n l) ≡ Some x → Table blank (n - 1) (removed number blank id n l)
    unfolding removed
    table_cut number id x e =
        let k = remove_length number id (take n l) x e in
        let some-there : suc (16 - n) ≡ 16 - (n - 1) = omega (arith, k, h.used, h.places) in
        table_of_any blank (n - 1) (removed number blank id n l) (remove number id (take n l)) (omega (arith, k, h.used)) (omega (arith, h.places))
        (ap (closed number blank (remove number id (take n l)) (drop n l) l) e
        ∙ ap (λ (t : List A). remove number id (take n l) ++ blank ∷ t) behind
        ∙ ap (λ (j : ℕ). remove number id (take n l) ++ replicate j blank) some-there)

    table_add : (e : A) → Table blank (one_more n) (set l n e)
    table_add e = elim (le_or_lt 16 n) [
      | inl g ↦
          let more : n ≡ one_more n = simp (le-leb 16 n g) in
          let same : l ≡ set l n e = sym (set_out l n e (omega (arith, long, g))) in
          subst (λ (p : ℕ × List A). Table blank p.0 p.1) (λ i. (more i, same i)) h
      | inr g ↦
          let more : n + 1 ≡ one_more n = simp (lt-leb 16 n g) in
          let k : ℕ = 16 - (n + 1) in
          let m : 16 - n ≡ suc k = omega (arith, g) in
          subst (λ (j : ℕ). Table blank j (set l n e)) more
          (table_of_any blank (n + 1) (set l n e) (take n l ++ (e ∷ [])) (omega (arith, length-append (take n l) (e ∷ []), h.used)) (omega (arith, g))
          (ap (λ (t : List A). set t n e) h.blanks
          ∙ ap (λ (j : ℕ). set (take n l ++ replicate j blank) n e) m
          ∙ set_at (take n l) blank (replicate k blank) e n h.used
          ∙ sym (append_snoc (take n l) e (replicate k blank))))
    ]

-- ---- a session
module _ (s : Session) (h : Tidy s) where
  pub streams_table : Table no_stream s.stream_count s.streams
  streams_table = record { blanks = h.streams; used = h.stream_count_fits; places = h.stream_places_lem }

  pub requests_table : Table no_request s.request_count s.requests
  requests_table = record { blanks = h.requests; used = h.request_count_fits; places = h.request_places_lem }

tidy_of : (s : Session) → Table no_stream s.stream_count s.streams → Table no_request s.request_count s.requests → Tidy s
tidy_of s a b = record { streams = a.blanks; requests = b.blanks; stream_count_fits = a.used; request_count_fits = b.used; stream_places_lem = a.places; request_places_lem = b.places }

pub tidy_fresh : (clock : ℕ) (version : Name) → Tidy (fresh_session clock version)
tidy_fresh clock version = record { streams = refl; requests = refl; stream_count_fits = refl; request_count_fits = refl; stream_places_lem = omega arith; request_places_lem = omega arith }

-- what a change removes is there
abbrev pub There : Effect → Session → Stream → Request → Type 0
There Nothing s e r = Unit
There StreamMade s e r = Unit
There StreamSet s e r = Unit
There StreamRemoved s e r = (x : Stream) × stream_of s e.id.0 ≡ Some x
There RequestFiled s e r = Unit
There (ConnectFiled encoding) s e r = Unit
There ConnectAccepted s e r = (x : Request) × request_of s r.id.0 ≡ Some x
There StreamAccepted s e r = (x : Request) × request_of s r.id.0 ≡ Some x
There RequestRemoved s e r = (x : Request) × request_of s r.id.0 ≡ Some x

tidy_by : (effect : Effect) (s : Session) (e : Stream) (r : Request) → Tidy s → There effect s e r → Tidy (applied_by effect s e r)
unfolding with_stream with_changed without_stream with_request without_request
tidy_by Nothing s e r h t = h
tidy_by StreamMade s e r h t = tidy_of _ (table_add no_stream s.stream_count s.streams (streams_table s h) e) (requests_table s h)
tidy_by StreamSet s e r h t = tidy_of _ (table_put no_stream s.stream_count s.streams (streams_table s h) stream_number e) (requests_table s h)
tidy_by StreamRemoved s e r h t = tidy_of _ (table_cut no_stream s.stream_count s.streams (streams_table s h) stream_number e.id.0 t.0 t.1) (requests_table s h)
tidy_by RequestFiled s e r h t = tidy_of _ (streams_table s h) (table_add no_request s.request_count s.requests (requests_table s h) r)
tidy_by (ConnectFiled encoding) s e r h t = tidy_of _ (streams_table s h) (table_add no_request s.request_count s.requests (requests_table s h) r)
tidy_by ConnectAccepted s e r h t = tidy_of _ (streams_table s h) (table_cut no_request s.request_count s.requests (requests_table s h) request_number r.id.0 t.0 t.1)
tidy_by StreamAccepted s e r h t =
    tidy_of _ (table_put no_stream s.stream_count s.streams (streams_table s h) stream_number e) (table_cut no_request s.request_count s.requests (requests_table s h) request_number r.id.0 t.0 t.1)
tidy_by RequestRemoved s e r h t = tidy_of _ (streams_table s h) (table_cut no_request s.request_count s.requests (requests_table s h) request_number r.id.0 t.0 t.1)

pub tidy_applied : (s : Session) (c : Change) → Tidy s → There c.effect s c.stream c.request → Tidy (applied s c)
unfolding applied
tidy_applied s c h t = tidy_by c.effect s c.stream c.request h t
