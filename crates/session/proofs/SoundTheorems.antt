-- What the tests of refusal 15 say, and that every change to a session keeps them.
use mathlib.Core.Path.{◌≡◌, refl}
use Prim.Native.Nat.{ℕ, ◌≤◌}
use native.Mathlib.Omega.{arith}
use mathlib.Core.Bool.{true}
use Rattle.std.specs.Prelude.{Some}
use lib.Dec.{leb}
use lib.ListN.{length}
use borrow.Author.Tests.{le-leb, leb-true, lt-leb, ne_eqb}
use Rattle.text.specs.declared.names.Name.{Name}
use Rattle.tables.specs.Entries.{no_request, no_stream, request_name, request_number, stream_name, stream_number}
use Rattle.tables.specs.Tables.{sound, table_sound}
use Rattle.tables.specs.declared.requests.Request.{Request}
use Rattle.tables.specs.declared.streams.Stream.{Stream}
use Rattle.tables.proofs.KeptTheorems.{append_sound, change_sound, found_in, remove_sound}
use Rattle.tables.proofs.SoundLaws.{both}
use Rattle.session.specs.Changes.{applied, applied_by}
use Rattle.session.specs.State.{app_fits, connected_to, fresh_session, request_of, session_sound, stream_of, with_changed, with_encoding, with_request, with_stream, without_request, without_stream}
use Rattle.session.specs.declared.changes.Change.{Change}
use Rattle.session.specs.declared.changes.Effect.{Effect}
use Rattle.session.specs.declared.changes.Effect.TheVariants.{Nothing, StreamMade, StreamSet, StreamRemoved, RequestFiled, ConnectFiled, ConnectAccepted, StreamAccepted, RequestRemoved}
use Rattle.session.specs.declared.session.Session.{Session}
use Rattle.session.proofs.FitsLaws.{Fits, FitsBy, NewRequest, NewStream}

-- what the tests say, and that the tables have their sixteen places
pub record Sound (s : Session) : Type 0 where
  pub version : s.version.len ≤ 128
  pub app : app_fits s.has_app s.app.len ≡ true
  pub streams : table_sound stream_number stream_name s.next_stream s.stream_count s.streams ≡ true
  pub requests : table_sound request_number request_name s.next_request s.request_count s.requests ≡ true

pub says_sound : (s : Session) → session_sound s ≡ true → Sound s
unfolding session_sound
says_sound s e =
    let a = both (leb s.version.len 128) _ e in
    let b = both (app_fits s.has_app s.app.len) _ a.1 in
    let c = both (table_sound stream_number stream_name s.next_stream s.stream_count s.streams) _ b.1 in
    record { version = leb-true s.version.len 128 a.0; app = b.0; streams = c.0; requests = c.1 }

pub is_sound : (s : Session) → Sound s → session_sound s ≡ true
unfolding session_sound
is_sound s h = simp (le-leb s.version.len 128 h.version, h.app, h.streams, h.requests)

-- ---- each part that a change touches
module _ (s : Session) (h : Sound s) where
  stream_made : (e : Stream) → length s.streams ≡ 16 → NewStream s e → Sound (with_stream s e)
  unfolding with_stream
  stream_made e q f =
      let t = append_sound stream_number stream_name s.next_stream s.stream_count s.streams e h.streams (omega (arith, f.1.0)) f.1.1.0 f.1.1.1 in
      record { version = h.version; app = h.app; streams = simp (ne_eqb s.next_stream 4294967295 f.0, lt-leb 16 s.stream_count f.1.0, t); requests = h.requests }

  request_filed : (r : Request) → length s.requests ≡ 16 → NewRequest s r → Sound (with_request s r)
  unfolding with_request
  request_filed r q f =
      let t = append_sound request_number request_name s.next_request s.request_count s.requests r h.requests (omega (arith, f.1.0)) f.1.1.0 f.1.1.1 in
      record { version = h.version; app = h.app; streams = h.streams; requests = simp (ne_eqb s.next_request 4294967295 f.0, lt-leb 16 s.request_count f.1.0, t) }

  stream_changed : (e : Stream) → e.key.len ≤ 128 → Sound (with_changed s e)
  unfolding with_changed
  stream_changed e k = record { version = h.version; app = h.app; streams = change_sound stream_number stream_name _ _ _ e h.streams k; requests = h.requests }

  stream_removed : (x : ℕ) (e : Stream) → stream_of s x ≡ Some e → Sound (without_stream s x)
  unfolding without_stream
  stream_removed x e f = record { version = h.version; app = h.app; streams = remove_sound stream_number stream_name _ _ _ no_stream x e h.streams f; requests = h.requests }

  request_removed : (n : ℕ) (r : Request) → request_of s n ≡ Some r → Sound (without_request s n)
  unfolding without_request
  request_removed n r f = record { version = h.version; app = h.app; streams = h.streams; requests = remove_sound request_number request_name _ _ _ no_request n r h.requests f }

  app_set : (name : Name) → name.len ≤ 128 → Sound (connected_to s name)
  app_set name k = record { version = h.version; app = le-leb name.len 128 k; streams = h.streams; requests = h.requests }

  pub request_short : (n : ℕ) (r : Request) → request_of s n ≡ Some r → r.name.len ≤ 128
  request_short n r f = found_in request_number request_name _ _ _ n r h.requests f

encoding_set : (t : Session) (encoding : ℕ) → Sound t → Sound (with_encoding t encoding)
encoding_set t encoding g = record { version = g.version; app = g.app; streams = g.streams; requests = g.requests }

-- ---- every change that fits keeps the tests
module _ (s : Session) (h : Sound s) (ps : length s.streams ≡ 16) (pr : length s.requests ≡ 16) where
  by_effect : (x : Effect) (e : Stream) (r : Request) → FitsBy x s e r → Sound (applied_by x s e r)
  by_effect Nothing e r f = h
  by_effect StreamMade e r f = stream_made s h e ps f
  by_effect StreamSet e r f = stream_changed s h e f
  by_effect StreamRemoved e r f = stream_removed s h e.id.0 e f
  by_effect RequestFiled e r f = request_filed s h r pr f
  by_effect (ConnectFiled encoding) e r f = encoding_set (with_request s r) encoding (request_filed s h r pr f)
  by_effect ConnectAccepted e r f = app_set (without_request s r.id.0) (request_removed s h r.id.0 r f) r.name (request_short s h r.id.0 r f)
  by_effect StreamAccepted e r f = stream_changed (without_request s r.id.0) (request_removed s h r.id.0 r f.0) e f.1
  by_effect RequestRemoved e r f = request_removed s h r.id.0 r f

  pub applied_sound : (c : Change) → Fits s c → Sound (applied s c)
  unfolding applied
  applied_sound c f = by_effect c.effect c.stream c.request f

-- a start whose version is a name begins so
pub fresh_sound : (clock : ℕ) (version : Name) → version.len ≤ 128 → Sound (fresh_session clock version)
unfolding table_sound sound
fresh_sound clock version k = record { version = k; app = refl; streams = refl; requests = refl }
