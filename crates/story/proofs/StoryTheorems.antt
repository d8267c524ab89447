-- Demand 3, the first half: "A frame's key depends on its own stream's story."
use mathlib.Core.Path.{◌≡◌, refl, sym, ap, ap₂, ◌∙◌}
use mathlib.Core.Logic.{◌↔◌}
use Prim.Native.Nat.{ℕ}
use mathlib.Core.Bool.{Bool, true, false}
use mathlib.Core.List.{List}
use Rattle.std.specs.Option.{option_and_then}
use Rattle.std.specs.Prelude.{Option, Some, None, Ok}
use Rattle.numbers.specs.Choose.{pick}
use Rattle.text.specs.declared.ids.StreamId.{StreamId}
use Rattle.text.specs.declared.names.Name.{Name}
use Rattle.tables.specs.declared.streams.Stream.{Stream}
use Rattle.tables.specs.declared.streams.StreamState.{StreamState}
use Rattle.session.specs.State.{connected, stream_of}
use Rattle.session.specs.declared.decision.Event.{Event}
use Rattle.session.specs.declared.decision.Event.TheVariants.{AudioDataReceived, VideoDataReceived}
use Rattle.session.specs.declared.session.Session.{Session}
use Rattle.streams.specs.Streams.{frame_of, shown, shown_found}
use Rattle.messages.specs.Messages.{media_event}
use Rattle.messages.specs.declared.messages.MediaKind.{MediaKind}
use Rattle.story.specs.Steps.{Call, media, message, step}
use Rattle.story.specs.Doings.{Shows, doing, message_doing}
use Rattle.story.specs.Runs.{Start, after, told}
use Rattle.story.specs.History.{Last, PublishAccepted, joined, last_effective}
use Rattle.story.specs.Stories.{Raised, frame_in, nothing_raised, story_frame}
use Rattle.story.proofs.LookLaws.{not_none}
use Rattle.story.proofs.StepLaws.{media_answer_lem, raised}
use Rattle.story.proofs.FollowLaws.{link, standing, state_of}
use Rattle.story.proofs.RunLaws.{follows, good_after}

-- ---- the calls that bring audio or video: types 8 and 9 by `handle_message`, and `handle_media`
pub audio_shows : (x : StreamId) (t clock : ℕ) (body out : List ℕ) → doing (message 8 x t clock body out) ≡ Shows x (AudioDataReceived t)
unfolding message_doing
audio_shows x t clock body out = refl

pub video_shows : (x : StreamId) (t clock : ℕ) (body out : List ℕ) → doing (message 9 x t clock body out) ≡ Shows x (VideoDataReceived t)
unfolding message_doing
video_shows x t clock body out = refl

pub media_shows : (kind : MediaKind) (x : StreamId) (t : ℕ) → doing (media kind x t) ≡ Shows x (media_event kind t)
media_shows kind x t = refl

-- ---- a frame by what the session shows
abbrev frame_by : Option Name → Option (StreamState × Name) → Event → Raised
frame_by None v e = nothing_raised
frame_by (Some app) None e = nothing_raised
frame_by (Some app) (Some v) e = raised (shown v.0 (Some e) app v.1)

by_link : (b : Bool) (app : Name) (o : Option Stream) (e : Event) → raised (pick b (option_and_then (shown_found (Some e) app) o) None) ≡ frame_by (pick b (Some app) None) (standing o) e
by_link true app None e = refl
by_link true app (Some d) e = refl
by_link false app o e = refl

by_last : (j : Option Name) (l : Last) (e : Event) → frame_by j (state_of l) e ≡ story_frame j l e
by_last None l e = refl
by_last (Some app) (PublishAccepted key) e = refl
by_last (Some app) other e = refl

shown_is : (s : Session) (x : StreamId) (e : Event) → raised (frame_of s x (Some e)) ≡ frame_by (link s) (standing (stream_of s x.0)) e
unfolding frame_of
shown_is s x e = by_link (connected s) s.app (stream_of s x.0) e

-- the whole of it: what audio or video on x raises is a function of the app joined and of the last effective step on x; and it is never refused
pub frame_by_story : (b : Start) (cs : List Call) (c : Call) (x : StreamId) (e : Event) → doing c ≡ Shows x e
    → (frame_in (step (after b cs) c).0 ≡ story_frame (joined (told b cs)) (last_effective x.0 (told b cs)) e) × ((step (after b cs) c).0.outcome ≡ Ok tt)
frame_by_story b cs c x e q =
    let s : Session = after b cs in
    let v = follows b cs in
    let a = media_answer_lem s (good_after b cs).sound c x e q in
    (a.0 ∙ shown_is s x e ∙ ap₂ (λ (j : Option Name) (o : Option (StreamState × Name)). frame_by j o e) v.links (v.agrees x.0) ∙ by_last (joined (told b cs)) (last_effective x.0 (told b cs)) e, a.1)

-- ---- the exact condition
abbrev Under : Event → Name → Name → Raised
Under e app key = record { event = Some e; app = app; key = key }

nothing_says : (e : Event) (app key : Name) → nothing_raised ≡ Under e app key → ⊥
nothing_says e app key q = not_none _ _ refl (ap (λ (f : Raised). f.event) (sym q))

story_says : (j : Option Name) (l : Last) (e : Event) (app key : Name) → story_frame j l e ≡ Under e app key → (j ≡ Some app) × (l ≡ PublishAccepted key)
story_says None l e app key q = absurd (nothing_says e app key q)
story_says (Some a) (PublishAccepted k) e app key q = (ap Some (ap (λ (f : Raised). f.app) q), ap PublishAccepted (ap (λ (f : Raised). f.key) q))
story_says (Some a) other e app key q = absurd (nothing_says e app key q)

-- after any run from a fresh session, audio or video on x raises its event under this app and key exactly when the last accepted connect was to this app
-- and the last effective step on x accepted a publish request with this key
pub its_own_story : (b : Start) (cs : List Call) (c : Call) (x : StreamId) (e : Event) → doing c ≡ Shows x e → (app key : Name)
    → (frame_in (step (after b cs) c).0 ≡ record { event = Some e; app = app; key = key }) ↔ ((joined (told b cs) ≡ Some app) × (last_effective x.0 (told b cs) ≡ PublishAccepted key))
its_own_story b cs c x e q app key =
    let f = (frame_by_story b cs c x e q).0 in
    let h = told b cs in
    (λ k. story_says (joined h) (last_effective x.0 h) e app key (sym f ∙ k), λ k. f ∙ rw (k.0, k.1))

-- otherwise it raises nothing: no other event, no app, no key
pub or_nothing : (b : Start) (cs : List Call) (c : Call) (x : StreamId) (e : Event) → doing c ≡ Shows x e
    → ((key : Name) → last_effective x.0 (told b cs) ≡ PublishAccepted key → ⊥) → frame_in (step (after b cs) c).0 ≡ nothing_raised
or_nothing b cs c x e q n = (frame_by_story b cs c x e q).0 ∙ at (joined (told b cs)) (last_effective x.0 (told b cs)) n
  where
    at : (j : Option Name) (l : Last) → ((key : Name) → l ≡ PublishAccepted key → ⊥) → story_frame j l e ≡ nothing_raised
    at None l k = refl
    at (Some app) (PublishAccepted key) k = absurd (k key refl)
    at (Some app) other k = refl
