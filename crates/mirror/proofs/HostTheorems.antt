-- A run through a host's calls is a run of the session: its arrays hold the session of the run, and each call tells what that session's call tells.
use mathlib.Core.Path.{◌≡◌, refl, sym, ap, ◌∙◌}
use Prim.Native.Nat.{ℕ}
use native.Mathlib.Omega.{arith}
use mathlib.Core.Bool.{Bool, true, false}
use mathlib.Core.List.{List, [], ◌∷◌}
use Rattle.numbers.specs.Choose.{pick}
use Rattle.tables.proofs.SoundLaws.{both}
use Rattle.std.specs.Prelude.{Option, Some, None, Result, Ok, Err}
use Rattle.wishes.specs.Outcome.{Outcome, number_of}
use Rattle.wishes.specs.declared.outcome.Refusal.{Refusal}
use Rattle.text.specs.declared.ids.StreamId.{StreamId}
use Rattle.session.specs.declared.session.Session.{Session}
use Rattle.streams.specs.declared.streams.Frame.{Frame}
use Rattle.replies.specs.declared.answer.Answer.{Answer}
use Rattle.messages.specs.Messages.{handle_media, handle_message, media_event}
use Rattle.messages.specs.declared.messages.MediaKind.{MediaKind}
use Rattle.messages.specs.declared.messages.MediaKind.TheVariants.{Audio, Video}
use Rattle.calls.specs.Calls.{accepting, finishes, rejecting}
use Rattle.calls.proofs.RefusalTheorems.{AcceptLeaves, Leaves, accept_leaves, done, finish_playing_leaves, leaves, left, message_leaves, reject_leaves, removed}
use Rattle.image.specs.Image.{Arrays, readable_at, sound_at}
use Rattle.written.specs.Kept.{image_of, kept_at}
use Rattle.written.proofs.ImageTheorems.{image_again, image_kept, image_sound}
use Rattle.parts.specs.Parts.{Shown}
use Rattle.arrays.specs.Turns.{hosted, keeps, kept, session_in, started, told as tells, turned}
use Rattle.host.specs.Frames.{hosted_media, media_of, media_told}
use Rattle.story.specs.Steps.{Call, accept, finish, media, message, reject, send_audio, send_metadata, send_ping, send_video, shown, step}
use Rattle.story.specs.Runs.{Start, after, told}
use Rattle.story.specs.History.{joined, last_effective}
use Rattle.story.specs.Stories.{frame_in, story_frame}
use Rattle.story.proofs.SessionLaws.{Good}
use Rattle.story.proofs.StoryTheorems.{frame_by_story, media_shows}
use Rattle.story.proofs.RunLaws.{good_after, start_fresh}
use Rattle.mirror.specs.Hosts.{AllNarrow, Narrow, handed, held_after, story_told, type_byte}
use Rattle.mirror.proofs.HeldLaws.{Held, held_start, held_step, held_typed}

abbrev readable : Arrays → Bool
readable a = readable_at a.0 a.1.0 a.1.1.0

-- ---- the image of a session that a run leaves is read as that session
module _ (s : Session) (g : Good s) (h : Held s) where
  image_reads : session_in (image_of s) ≡ s
  image_reads = image_again s h.tidy (held_typed s g h)

  image_readable : readable (image_of s) ≡ true
  unfolding sound_at
  image_readable = (both (readable (image_of s)) _ (image_sound s h.tidy (held_typed s g h) ∙ g.sound)).0

  -- ---- a call on it
  turns : (also : ℕ) (out : List ℕ) (call : Session → Answer × List ℕ) → hosted also (image_of s) out call ≡ turned also (image_of s) (call s)
  unfolding hosted
  turns also out call = simp image_readable (ap (λ (t : Session). turned also (image_of s) (call t)) image_reads)

  -- what is kept is the image of the next session: with a refusal the session is the same
  keeps_image : (also : ℕ) (a : Answer) → Held a.session → (keeps also (number_of a.outcome) ≡ false → a.session ≡ s) → kept also (image_of s) a ≡ image_of a.session
  unfolding kept
  keeps_image also a k f = by_keeping (keeps also (number_of a.outcome)) f
    where
      by_keeping : (b : Bool) → (b ≡ false → a.session ≡ s) → pick b (kept_at (image_of s) a.session) (image_of s) ≡ image_of a.session
      by_keeping true q = image_kept s a.session h.tidy k.tidy
      by_keeping false q = ap image_of (sym (q refl))

  next : (also : ℕ) (out : List ℕ) (call : Session → Answer × List ℕ) → Held (call s).0.session → (keeps also (number_of (call s).0.outcome) ≡ false → (call s).0.session ≡ s)
      → (hosted also (image_of s) out call).0.0 ≡ image_of (call s).0.session
  next also out call k f = ap (λ (x : (Arrays × (ℕ × Shown)) × List ℕ). x.0.0) (turns also out call) ∙ keeps_image also (call s).0 k f

-- ---- a call that does not keep its session left it as it was
never : {A : Type 0} (b : Bool) → b ≡ true → b ≡ false → A
never true e q = let z : ◌≡◌ {A = ℕ} 0 1 = cc in absurd (omega arith)
never false e q = let z : ◌≡◌ {A = ℕ} 0 1 = cc in absurd (omega arith)

kept_done : (also : ℕ) (o : Outcome) → o ≡ Ok tt → keeps also (number_of o) ≡ true
kept_done also o e = ap (λ (x : Outcome). keeps also (number_of x)) e

left_same : (also : ℕ) (s : Session) (out : List ℕ) (p : Answer × List ℕ) → Leaves s out p → keeps also (number_of p.0.outcome) ≡ false → p.0.session ≡ s
left_same also s out p (done e) q = never _ (kept_done also p.0.outcome e) q
left_same also s out p (left o e) q = ap (λ (x : Answer × List ℕ). x.0.session) e

accept_same : (s : Session) (n : _) (out : List ℕ) (p : Answer × List ℕ) → AcceptLeaves s n out p → keeps 11 (number_of p.0.outcome) ≡ false → p.0.session ≡ s
accept_same s n out p (leaves f) q = left_same 11 s out p f q
accept_same s n out p (removed action stream e) q = never (keeps 11 (number_of p.0.outcome)) (ap (λ (x : Answer × List ℕ). keeps 11 (number_of x.0.outcome)) e) q

-- ---- a run
step_held : (s : Session) → Good s → Held s → (c : Call) → Narrow c → handed (image_of s) c ≡ image_of (step s c).1
unfolding handed step
step_held s g h (message type x timestamp clock body out) k =
    next s g h 0 out (λ (t : Session). handle_message t type x timestamp clock body out) (held_step s g h (message type x timestamp clock body out) k) (left_same 0 s out _ (message_leaves s type x timestamp clock body out))
step_held s g h (media kind x timestamp) k = refl
step_held s g h (accept n clock out) k = next s g h 11 out (λ (t : Session). accepting t n clock out) (held_step s g h (accept n clock out) k) (accept_same s n out _ (accept_leaves s n clock out))
step_held s g h (reject n code description clock out) k =
    next s g h 0 out (λ (t : Session). rejecting t n code description clock out) (held_step s g h (reject n code description clock out) k) (left_same 0 s out _ (reject_leaves s n code description clock out))
step_held s g h (finish x clock out) k = next s g h 0 out (λ (t : Session). finishes t x clock out) (held_step s g h (finish x clock out) k) (left_same 0 s out _ (finish_playing_leaves s x clock out))
step_held s g h (send_metadata x m clock out) k = refl
step_held s g h (send_audio x timestamp droppable body out) k = refl
step_held s g h (send_video x timestamp droppable body out) k = refl
step_held s g h (send_ping clock out) k = refl

held_run : (b : Start) (cs : List Call) → AllNarrow cs → Held (after b cs)
unfolding after AllNarrow
held_run b [] k = held_start (start_fresh b)
held_run b (c ∷ cs) k = held_step (after b cs) (good_after b cs) (held_run b cs k.1) c k.0

-- after any run the arrays are the whole image of the session after that run
pub host_after : (b : Start) (cs : List Call) → AllNarrow cs → held_after b cs ≡ image_of (after b cs)
unfolding held_after after AllNarrow started
host_after b [] k = refl
host_after b (c ∷ cs) k = ap (λ (a : Arrays). handed a c) (host_after b cs k.1) ∙ step_held (after b cs) (good_after b cs) (held_run b cs k.1) c k.0

module _ (b : Start) (cs : List Call) (k : AllNarrow cs) where
  abbrev s : Session
  s = after b cs

  -- no run leaves arrays that hold no session, and what is read from them is the session of the run. Frames and sends read just this
  pub host_reads : (readable_at (held_after b cs).0 (held_after b cs).1.0 (held_after b cs).1.1.0 ≡ true) × (session_in (held_after b cs) ≡ after b cs)
  host_reads =
      let e = host_after b cs k in
      (ap readable e ∙ image_readable s (good_after b cs) (held_run b cs k), ap session_in e ∙ image_reads s (good_after b cs) (held_run b cs k))

  -- a call on the arrays tells the number, the event and its parts, and leaves the buffer, as the call on the session of the run
  pub host_tells : (also : ℕ) (out : List ℕ) (call : Session → Answer × List ℕ)
      → ((hosted also (held_after b cs) out call).0.1 ≡ tells (call (after b cs)).0) × ((hosted also (held_after b cs) out call).1 ≡ (call (after b cs)).1)
  host_tells also out call =
      let e = ap (λ (a : Arrays). hosted also a out call) (host_after b cs k) ∙ turns s (good_after b cs) (held_run b cs k) also out call in
      (ap (λ (x : (Arrays × (ℕ × Shown)) × List ℕ). x.0.1) e, ap (λ (x : (Arrays × (ℕ × Shown)) × List ℕ). x.1) e)

  -- a frame: by the session's own call
  shows : (kind : MediaKind) (x : StreamId) (timestamp : ℕ) → media_of (type_byte kind) (after b cs) x timestamp ≡ handle_media (after b cs) kind x timestamp
  unfolding media_of
  shows Audio x timestamp = refl
  shows Video x timestamp = refl

  -- what is told of a frame is what the session's answer shows
  told_shown : (a : Result (Option Frame) Refusal) → media_told a ≡ (number_of (shown a).outcome, (story_told (frame_in (shown a))).1)
  told_shown (Ok (Some f)) = refl
  told_shown (Ok None) = refl
  told_shown (Err r) = refl

  by_story : (kind : MediaKind) (x : StreamId) (timestamp : ℕ)
      → media_told (handle_media (after b cs) kind x timestamp) ≡ story_told (story_frame (joined (told b cs)) (last_effective x.0 (told b cs)) (media_event kind timestamp))
  unfolding step
  by_story kind x timestamp =
      let p = frame_by_story b cs (media kind x timestamp) x (media_event kind timestamp) (media_shows kind x timestamp) in
      told_shown (handle_media (after b cs) kind x timestamp) ∙ (λ i. (number_of (p.1 i), (story_told (p.0 i)).1))

  -- audio or video through `chungvator_handle_media`, after any run through the host's calls: the number is 0, and event, app and key are those of its own stream's story
  pub host_own_story : (kind : MediaKind) (x : StreamId) (timestamp : ℕ)
      → hosted_media (readable_at (held_after b cs).0 (held_after b cs).1.0 (held_after b cs).1.1.0) (media_of (type_byte kind) (session_in (held_after b cs)) x timestamp)
      ≡ story_told (story_frame (joined (told b cs)) (last_effective x.0 (told b cs)) (media_event kind timestamp))
  unfolding hosted_media
  host_own_story kind x timestamp =
      (λ i. hosted_media (host_reads.0 i) (media_of (type_byte kind) (host_reads.1 i) x timestamp)) ∙ ap media_told (shows kind x timestamp) ∙ by_story kind x timestamp
