-- What is read from the rows in use is what the session says.
use mathlib.Core.Path.{◌≡◌, sym, ap, ◌∙◌}
use Prim.Native.Nat.{ℕ}
use native.Mathlib.Omega.{arith}
use mathlib.Core.List.{List}
use Rattle.std.specs.Prelude.{Option}
use Rattle.text.specs.declared.ids.RequestId.{RequestId}
use Rattle.text.specs.declared.ids.StreamId.{StreamId}
use Rattle.tables.specs.Entries.{no_request, no_stream, request_number, stream_number}
use Rattle.tables.specs.Tables.{look}
use Rattle.tables.specs.declared.requests.Request.{Request}
use Rattle.tables.specs.declared.streams.Stream.{Stream}
use Rattle.session.specs.State.{request_at, stream_at}
use Rattle.image.specs.Image.{Shaped, cell, joined, keys_of, request_of, session_at, stream_of, titles_of, used_requests, used_streams}
use Rattle.image.proofs.RowsLaws.{all_length, used_front}

-- ---- the entry of a number
module _ (facts : List ℕ) (streams requests names : List (List ℕ)) (shape : Shaped facts streams requests names) where
  pub stream_seen : (id : StreamId) (f : Option Stream) → f ≡ look stream_number id.0 (used_streams (cell facts 8) streams names) → f ≡ stream_at (session_at facts streams requests names) id
  unfolding session_at
  stream_seen id f e =
      e ∙ ap (λ (t : List Stream). look stream_number id.0 t) (sym (used_front (joined stream_of streams (keys_of names)) (all_length stream_of streams names 2 shape.sixteen_streams (omega (arith, shape.thirty_four))) no_stream (cell facts 8)))

  pub request_seen : (id : RequestId) (f : Option Request) → f ≡ look request_number id.0 (used_requests (cell facts 9) requests names) → f ≡ request_at (session_at facts streams requests names) id
  unfolding session_at
  request_seen id f e =
      e ∙ ap (λ (t : List Request). look request_number id.0 t) (sym (used_front (joined request_of requests (titles_of names)) (all_length request_of requests names 18 shape.sixteen_requests (omega (arith, shape.thirty_four))) no_request (cell facts 9)))
