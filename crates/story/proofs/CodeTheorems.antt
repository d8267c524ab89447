-- A run of the code is a run of `step`: what each function's contract says of its answer r and of the lent buffer afterwards, o, is the step.
use mathlib.Core.Path.{◌≡◌, sym, ap}
use Prim.Native.Nat.{ℕ}
use mathlib.Core.Bool.{Bool}
use mathlib.Core.List.{List, []}
use Rattle.std.specs.Prelude.{Option, Result}
use Rattle.text.specs.declared.ids.RequestId.{RequestId}
use Rattle.text.specs.declared.ids.StreamId.{StreamId}
use Rattle.metadata.specs.declared.metadata.StreamMetadata.{StreamMetadata}
use Rattle.wishes.specs.declared.outcome.Refusal.{Refusal}
use Rattle.session.specs.declared.session.Session.{Session}
use Rattle.streams.specs.declared.streams.Frame.{Frame}
use Rattle.sending.specs.Sends.{sends_media, sends_metadata, sends_ping}
use Rattle.sending.specs.declared.sends.PingSent.{PingSent}
use Rattle.replies.specs.declared.answer.Answer.{Answer}
use Rattle.messages.specs.Messages.{handle_media, handle_message}
use Rattle.messages.specs.declared.messages.MediaKind.{MediaKind}
use Rattle.calls.specs.Calls.{accepting, finishes, rejecting, starting}
use Rattle.story.specs.Steps.{accept, answering, finish, media, message, pinging_of, reject, send_audio, send_metadata, send_ping, send_video, sending_of, showing, step}
use Rattle.story.specs.Runs.{Start, after}

module _ (s : Session) where
  module _ (r : Answer) (o : List ℕ) where
    pub handle_message_is : (kind : ℕ) (x : StreamId) (timestamp clock : ℕ) (body out : List ℕ)
        → ◌≡◌ {A = Answer × List ℕ} (r, o) (handle_message s kind x timestamp clock body out) → step s (message kind x timestamp clock body out) ≡ answering (r, o)
    unfolding step
    handle_message_is kind x timestamp clock body out e = ap answering (sym e)

    pub accept_request_is : (n : RequestId) (clock : ℕ) (out : List ℕ) → ◌≡◌ {A = Answer × List ℕ} (r, o) (accepting s n clock out) → step s (accept n clock out) ≡ answering (r, o)
    unfolding step
    accept_request_is n clock out e = ap answering (sym e)

    pub reject_request_is : (n : RequestId) (code description : List ℕ) (clock : ℕ) (out : List ℕ)
        → ◌≡◌ {A = Answer × List ℕ} (r, o) (rejecting s n code description clock out) → step s (reject n code description clock out) ≡ answering (r, o)
    unfolding step
    reject_request_is n code description clock out e = ap answering (sym e)

    pub finish_playing_is : (x : StreamId) (clock : ℕ) (out : List ℕ) → ◌≡◌ {A = Answer × List ℕ} (r, o) (finishes s x clock out) → step s (finish x clock out) ≡ answering (r, o)
    unfolding step
    finish_playing_is x clock out e = ap answering (sym e)

  pub handle_media_is : (r : Result (Option Frame) Refusal) (kind : MediaKind) (x : StreamId) (timestamp : ℕ) → r ≡ handle_media s kind x timestamp → step s (media kind x timestamp) ≡ showing s r
  unfolding step
  handle_media_is r kind x timestamp e = ap (showing s) (sym e)

  module _ (r : Result ℕ Refusal) (o : List ℕ) where
    pub send_metadata_is : (x : StreamId) (m : StreamMetadata) (clock : ℕ) (out : List ℕ)
        → ◌≡◌ {A = Result ℕ Refusal × List ℕ} (r, o) (sends_metadata s x m clock out) → step s (send_metadata x m clock out) ≡ sending_of s (r, o)
    unfolding step
    send_metadata_is x m clock out e = ap (sending_of s) (sym e)

    pub send_audio_data_is : (x : StreamId) (timestamp : ℕ) (droppable : Bool) (body out : List ℕ)
        → ◌≡◌ {A = Result ℕ Refusal × List ℕ} (r, o) (sends_media 8 s x timestamp droppable body out) → step s (send_audio x timestamp droppable body out) ≡ sending_of s (r, o)
    unfolding step
    send_audio_data_is x timestamp droppable body out e = ap (sending_of s) (sym e)

    pub send_video_data_is : (x : StreamId) (timestamp : ℕ) (droppable : Bool) (body out : List ℕ)
        → ◌≡◌ {A = Result ℕ Refusal × List ℕ} (r, o) (sends_media 9 s x timestamp droppable body out) → step s (send_video x timestamp droppable body out) ≡ sending_of s (r, o)
    unfolding step
    send_video_data_is x timestamp droppable body out e = ap (sending_of s) (sym e)

  pub send_ping_request_is : (r : Result PingSent Refusal) (o : List ℕ) (clock : ℕ) (out : List ℕ) → ◌≡◌ {A = Result PingSent Refusal × List ℕ} (r, o) (sends_ping s clock out) → step s (send_ping clock out) ≡ pinging_of s (r, o)
  unfolding step
  send_ping_request_is r o clock out e = ap (pinging_of s) (sym e)

-- and the session that `start` hands back is the one that runs begin with
pub start_is : (r : Answer) (o : List ℕ) (b : Start) → ◌≡◌ {A = Answer × List ℕ} (r, o) (starting b.chunk b.window b.bandwidth b.finish b.version b.clock b.out) → after b [] ≡ r.session
unfolding after
start_is r o b e = ap (λ (a : Answer × List ℕ). a.0.session) (sym e)
