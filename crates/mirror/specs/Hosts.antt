-- A run through a host's calls: what stands in its arrays after each of them.
use Rattle.std.specs.Prelude.{ℕ, ◌<◌, List, [], ◌∷◌}
use Rattle.session.specs.declared.session.Session.{Session}
use Rattle.messages.specs.Messages.{handle_message}
use Rattle.messages.specs.declared.messages.MediaKind.{MediaKind}
use Rattle.messages.specs.declared.messages.MediaKind.TheVariants.{Audio, Video}
use Rattle.calls.specs.Calls.{accepting, finishes, rejecting}
use Rattle.image.specs.Image.{Arrays, cell}
use Rattle.arrays.specs.Turns.{hosted, started}
use Rattle.parts.specs.Parts.{event_numbers, media_shown}
use Rattle.host.specs.Frames.{FrameShown}
use Rattle.story.specs.Steps.{Call, accept, finish, media, message, reject, send_audio, send_metadata, send_ping, send_video}
use Rattle.story.specs.Runs.{Start, start_of}
use Rattle.story.specs.Stories.{Raised}

-- the arrays after a call, as the contract of the host's function says; a frame and a send only read them
unfoldable pub handed : Arrays → Call → Arrays
handed a (message type x timestamp clock body out) = (hosted 0 a out (λ (s : Session). handle_message s type x timestamp clock body out)).0.0
handed a (media kind x timestamp) = a
handed a (accept n clock out) = (hosted 11 a out (λ (s : Session). accepting s n clock out)).0.0
handed a (reject n code description clock out) = (hosted 0 a out (λ (s : Session). rejecting s n code description clock out)).0.0
handed a (finish x clock out) = (hosted 0 a out (λ (s : Session). finishes s x clock out)).0.0
handed a (send_metadata x m clock out) = a
handed a (send_audio x timestamp droppable body out) = a
handed a (send_video x timestamp droppable body out) = a
handed a (send_ping clock out) = a

-- the arrays after a run: a start, then calls, the newest first
unfoldable pub held_after : Start → List Call → Arrays
held_after b [] = (started (start_of b)).0.0
held_after b (c ∷ cs) = handed (held_after b cs) c

-- a message's stream is a u32, as the function's argument is
abbrev pub Narrow : Call → Type 0
Narrow (message type x timestamp clock body out) = x.0 < 4294967296
Narrow (media kind x timestamp) = Unit {0}
Narrow (accept n clock out) = Unit {0}
Narrow (reject n code description clock out) = Unit {0}
Narrow (finish x clock out) = Unit {0}
Narrow (send_metadata x m clock out) = Unit {0}
Narrow (send_audio x timestamp droppable body out) = Unit {0}
Narrow (send_video x timestamp droppable body out) = Unit {0}
Narrow (send_ping clock out) = Unit {0}

unfoldable pub AllNarrow : List Call → Type 0
AllNarrow [] = Unit {0}
AllNarrow (c ∷ cs) = Narrow c × AllNarrow cs

-- "8 audio, 9 video"
abbrev pub type_byte : MediaKind → ℕ
type_byte Audio = 8
type_byte Video = 9

-- what a host is told of a frame: the number 0, the event with its timestamp, the app and the key
abbrev pub story_told : Raised → ℕ × FrameShown
story_told f = (0, media_shown (cell (event_numbers f.event) 0) (cell (event_numbers f.event) 9) f.app f.key)
