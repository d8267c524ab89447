-- A session's tests, each from what the code found.
use mathlib.Core.Path.{◌≡◌, sym, ap, ◌∙◌}
use Prim.Native.Nat.{◌≤◌, ◌<◌}
use mathlib.Core.Bool.{Bool, true, false}
use borrow.Author.Tests.{le-leb, lt-leb}
use Rattle.tables.specs.Entries.{request_name, request_number, stream_name, stream_number}
use Rattle.tables.specs.Tables.{table_sound}
use Rattle.session.specs.State.{app_fits, connected, connected_in, session_sound}
use Rattle.session.specs.declared.session.Session.{Session}
use Rattle.session.specs.declared.session.SessionState.{SessionState}

pub connected_told : (s : Session) (x : SessionState) → s.state ≡ x → connected_in x s.has_app ≡ connected s
unfolding connected
connected_told s x e = ap (λ (y : SessionState). connected_in y s.has_app) (sym e)

-- ---- refusal 15
module _ (s : Session) where
  pub version_long : 128 < s.version.len → false ≡ session_sound s
  unfolding session_sound
  version_long h = simp (lt-leb s.version.len 128 h)

  module _ (h : s.version.len ≤ 128) (a : Bool) (e : a ≡ app_fits s.has_app s.app.len) where
    pub app_long : a ≡ false → false ≡ session_sound s
    unfolding session_sound
    app_long q = simp (le-leb s.version.len 128 h, sym e ∙ q)

    module _ (q : a ≡ true) (t : Bool) (f : t ≡ table_sound stream_number stream_name s.next_stream s.stream_count s.streams) where
      pub streams_unsound : t ≡ false → false ≡ session_sound s
      unfolding session_sound
      streams_unsound p = simp (le-leb s.version.len 128 h, sym e ∙ q, sym f ∙ p)

      pub requests_decide : t ≡ true → (u : Bool) → u ≡ table_sound request_number request_name s.next_request s.request_count s.requests → u ≡ session_sound s
      unfolding session_sound
      requests_decide p u g = g ∙ simp (le-leb s.version.len 128 h, sym e ∙ q, sym f ∙ p)
