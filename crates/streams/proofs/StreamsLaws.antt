-- The cases of the steps that go by a stream.
use mathlib.Core.Path.{◌≡◌, sym, ap, ◌∙◌}
use Prim.Native.Nat.{ℕ, ◌≤◌, ◌<◌}
use mathlib.Core.Bool.{Bool, true, false}
use borrow.Author.Tests.{eq-eqb, ne_eqb, le-leb, lt-leb}
use Rattle.std.specs.Prelude.{Option, Some, None, Result}
use Rattle.text.specs.Names.{empty_name}
use Rattle.text.specs.declared.ids.StreamId.{StreamId}
use Rattle.text.specs.declared.names.Name.{Name}
use Rattle.metadata.specs.declared.metadata.StreamMetadata.{StreamMetadata}
use Rattle.metadata.specs.declared.reading.LongEncoder.{LongEncoder}
use Rattle.tables.specs.declared.streams.Stream.{Stream}
use Rattle.tables.specs.declared.streams.StreamState.{StreamState}
use Rattle.wishes.specs.declared.outcome.Refusal.TheVariants.{NumbersUsedUp, StreamsFull}
use Rattle.session.specs.Changes.{making}
use Rattle.session.specs.Decisions.{nothing, refusing, replying}
use Rattle.session.specs.State.{connected, stream_of}
use Rattle.session.specs.declared.changes.Change.{Change}
use Rattle.session.specs.declared.decision.Decision.{Decision}
use Rattle.session.specs.declared.decision.Event.{Event}
use Rattle.session.specs.declared.decision.Reply.TheVariants.{StreamCreated}
use Rattle.session.specs.declared.desk.Desk.{Desk}
use Rattle.session.specs.declared.session.Session.{Session}
use Rattle.streams.specs.Streams.{create_stream, created, described, ended, following_stream, frame_of, on_stream, shown}
use Rattle.streams.specs.declared.streams.Frame.{Frame}

-- ---- createStream
module _ (d : Desk) (t : ℕ) (r : Decision) where
  pub create_8 : r ≡ refusing NumbersUsedUp → d.next_stream ≡ 4294967295 → r ≡ create_stream d t
  unfolding create_stream
  create_8 e h = e ∙ simp (eq-eqb d.next_stream 4294967295 h)

  module _ (n : d.next_stream ≡ 4294967295 → ⊥) where
    pub create_9 : r ≡ refusing StreamsFull → 16 ≤ d.stream_count → r ≡ create_stream d t
    unfolding create_stream
    create_9 e h = e ∙ simp (ne_eqb d.next_stream 4294967295 n, le-leb 16 d.stream_count h)

    pub create_done : r ≡ replying (StreamCreated t (following_stream d)) empty_name (making (created (following_stream d))) → d.stream_count < 16 → r ≡ create_stream d t
    unfolding create_stream
    create_done e h = e ∙ simp (ne_eqb d.next_stream 4294967295 n, lt-leb 16 d.stream_count h)

-- ---- a stream that a connected session has, or not
module _ (d : Desk) (f : Stream → Decision) (r : Decision) where
  pub on_off : r ≡ nothing → d.connected ≡ false → r ≡ on_stream d f
  unfolding on_stream
  on_off e h = e ∙ simp h

  module _ (h : d.connected ≡ true) where
    pub on_none : r ≡ nothing → d.seen ≡ None → r ≡ on_stream d f
    unfolding on_stream
    on_none e g = e ∙ simp (h, g)

    pub on_some : (x : Stream) → r ≡ f x → d.seen ≡ Some x → r ≡ on_stream d f
    unfolding on_stream
    on_some x e g = e ∙ simp (h, g)

module _ (s : Session) (id : StreamId) (event : Option Event) (d : Option Frame) (c : Bool) (q : c ≡ connected s) where
  pub frame_off : d ≡ None → c ≡ false → d ≡ frame_of s id event
  unfolding frame_of
  frame_off e h = e ∙ simp (sym q ∙ h)

  module _ (h : c ≡ true) where
    pub frame_none : d ≡ None → stream_of s id.0 ≡ None → d ≡ frame_of s id event
    unfolding frame_of
    frame_none e g = e ∙ simp (sym q ∙ h, g)

    pub frame_some : (e : Stream) → d ≡ shown e.state event s.app e.key → stream_of s id.0 ≡ Some e → d ≡ frame_of s id event
    unfolding frame_of
    frame_some e k g = k ∙ simp (sym q ∙ h, g)

-- ---- by the stream's state
pub ended_told : (x y : StreamState) (app key : Name) (c : Change) (r : Decision) → r ≡ ended y app key c → x ≡ y → r ≡ ended x app key c
ended_told x y app key c r e q = e ∙ ap (λ (z : StreamState). ended z app key c) (sym q)

pub described_told : (x y : StreamState) (app key : Name) (read : Result StreamMetadata LongEncoder) (r : Decision) → r ≡ described y app key read → x ≡ y → r ≡ described x app key read
described_told x y app key read r e q = e ∙ ap (λ (z : StreamState). described z app key read) (sym q)

pub shown_told : (x y : StreamState) (event : Option Event) (app key : Name) (d : Option Frame) → d ≡ shown y event app key → x ≡ y → d ≡ shown x event app key
shown_told x y event app key d e q = e ∙ ap (λ (z : StreamState). shown z event app key) (sym q)
