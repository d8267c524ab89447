-- Every wish that is read carries names of at most 128 bytes, or none where the text was longer.
use Prim.Native.Nat.{ℕ, ◌≤◌}
use mathlib.Core.Bool.{Bool, true, false}
use mathlib.Core.List.{List}
use lib.Dec.{eqb, ltb}
use lib.ListN.{length}
use Rattle.std.specs.Prelude.{Option, Some, None, Result, Ok, Err}
use Rattle.numbers.specs.Choose.{pick}
use Rattle.numbers.specs.Fields.{field_at}
use Rattle.numbers.proofs.ChooseLaws.{pick_lt}
use Rattle.text.specs.Names.{name_of, name_read}
use Rattle.numbers.specs.declared.play.PlayStartValue.{PlayStartValue}
use Rattle.text.specs.declared.ids.StreamId.{StreamId}
use Rattle.text.specs.Words.{command_of, mode_of, text}
use Rattle.text.specs.declared.names.Name.{Name}
use Rattle.text.specs.declared.words.Command.{Command}
use Rattle.text.specs.declared.words.Command.TheVariants.{Connect, CreateStream, CloseStream, DeleteStream, Publish, Play, Other}
use Rattle.text.specs.declared.words.PublishMode.{PublishMode}
use Rattle.amf0.specs.Bodies.{place_of}
use Rattle.amf0.specs.declared.plain.Plain.{Plain}
use Rattle.metadata.specs.Reading.{metadata_at}
use Rattle.wishes.specs.Commands.{command_wish, known_command}
use Rattle.wishes.specs.Connect.{connect_property, without_slash}
use Rattle.wishes.specs.Control.{control_wish, event_wish, ping_wish}
use Rattle.wishes.specs.DataFrame.{data_wish, sets_metadata, whole_data}
use Rattle.wishes.specs.Outcome.{Outcome}
use Rattle.wishes.specs.Play.{play_of}
use Rattle.wishes.specs.Publish.{publish_of}
use Rattle.wishes.specs.Streams.{if_stream, stream_in}
use Rattle.wishes.specs.Values.{bits_in, is_object, text_in, value_of}
use Rattle.wishes.specs.Wish.{and_then, need, unless, whole_body}
use Rattle.wishes.specs.declared.outcome.Refusal.{Refusal}
use Rattle.wishes.specs.declared.wish.PlayArguments.{PlayArguments}
use Rattle.wishes.specs.declared.wish.PlayFault.{PlayFault}
use Rattle.wishes.specs.declared.wish.PublishArguments.{PublishArguments}
use Rattle.wishes.specs.declared.wish.PublishFault.{PublishFault}
use Rattle.wishes.specs.declared.wish.Wish.{Wish}
use Rattle.wishes.specs.declared.wish.Wish.TheVariants.{Nothing, Connect as Connects, CreateStream as Creates, CloseStream as Closes, DeleteStream as Deletes, Publish as Publishes, Play as Plays, Metadata, PingRequest, PingResponse}

abbrev pub ShortName : Option Name → Type 0
ShortName (Some n) = n.len ≤ 128
ShortName None = Unit {0}

abbrev pub ShortKey : Result PublishArguments PublishFault → Type 0
ShortKey (Ok a) = ShortName a.key
ShortKey (Err f) = Unit {0}

abbrev pub ShortPlayed : Result PlayArguments PlayFault → Type 0
ShortPlayed (Ok a) = ShortName a.key
ShortPlayed (Err f) = Unit {0}

abbrev pub Short : Wish → Type 0
Short Nothing = Unit {0}
Short (Connects t e app) = ShortName app
Short (Creates t) = Unit {0}
Short (Closes id) = Unit {0}
Short (Deletes id) = Unit {0}
Short (Publishes t a) = ShortKey a
Short (Plays t a) = ShortPlayed a
Short (Metadata m) = Unit {0}
Short (PingRequest v) = Unit {0}
Short (PingResponse v) = Unit {0}

abbrev pub ShortRead : Result Wish Refusal → Type 0
ShortRead (Ok w) = Short w
ShortRead (Err r) = Unit {0}

named : (t : List ℕ) → ShortName (name_read t)
unfolding name_read name_of
named t = pick_lt ShortName None (Some (name_of t)) 128 (length t) (λ h. tt) (λ h. h)

either : (b : Bool) (v w : Result Wish Refusal) → ShortRead v → ShortRead w → ShortRead (pick b v w)
either true v w f g = f
either false v w f g = g

-- ---- commands
module _ (s : List ℕ) where
  connect_named : (app : Option (List ℕ)) (r : Refusal) (t e : ℕ) → ShortRead (need app r λ a. Ok (Connects t e (name_read (without_slash a))))
  connect_named (Some a) r t e = named (without_slash a)
  connect_named None r t e = tt

  connects : (b : Bool) (r : Refusal) (w : Result Wish Refusal) → ShortRead w → ShortRead (unless b r w)
  connects true r w f = f
  connects false r w f = tt

  mode_named : (k : List ℕ) (m : Option PublishMode) (r : PublishFault) → ShortKey (need m r λ x. Ok (record { mode = x; key = name_read k }))
  mode_named k (Some m) r = named k
  mode_named k None r = tt

  word_named : (k : List ℕ) (w : Option (List ℕ)) (r q : PublishFault) → ShortKey (need w r λ x. need (mode_of x) q λ m. Ok (record { mode = m; key = name_read k }))
  word_named k (Some w) r q = mode_named k (mode_of w) q
  word_named k None r q = tt

  key_named : (key w : Option (List ℕ)) (r q p : PublishFault) → ShortKey (need key r λ k. need w q λ x. need (mode_of x) p λ m. Ok (record { mode = m; key = name_read k }))
  key_named (Some k) w r q p = word_named k w q p
  key_named None w r q p = tt

  publishes : (key mode : Option Plain) → ShortKey (publish_of s key mode)
  publishes key (Some m) = key_named (text_in s key) (text_in s (Some m)) _ _ _
  publishes key None = tt

  play_named : (key : Option (List ℕ)) (r : PlayFault) (start : PlayStartValue) (duration : Option ℕ) (reset : Bool) → ShortPlayed (need key r λ k. Ok (record { start = start; duration = duration; reset = reset; key = name_read k }))
  play_named (Some k) r start duration reset = named k
  play_named None r start duration reset = tt

  plays : (key : Option Plain) → ShortPlayed (play_of s key)
  plays (Some k) = play_named (text_in s (Some k)) _ _ _ _
  plays None = tt

  closes : (x : Option StreamId) → Short (if_stream Closes x)
  closes (Some x) = tt
  closes None = tt

  deletes : (x : Option StreamId) → Short (if_stream Deletes x)
  deletes (Some x) = tt
  deletes None = tt

  known : (t : ℕ) (c : Command) → ShortRead (known_command s t c)
  known t Connect = connects (is_object (value_of s 2)) _ _ (connect_named (text_in s (connect_property s (text "app"))) _ t _)
  known t CreateStream = tt
  known t CloseStream = closes (stream_in (value_of s 3))
  known t DeleteStream = deletes (stream_in (value_of s 3))
  known t Publish = publishes (value_of s 3) (value_of s 4)
  known t Play = plays (value_of s 3)
  known t Other = tt

  value_named : (v : Option Plain) (r : Refusal) (t : ℕ) (c : Command) → ShortRead (need v r λ _. known_command s t c)
  value_named (Some v) r t c = known t c
  value_named None r t c = tt

  bits_named : (b : Option ℕ) (r q : Refusal) (c : Command) → ShortRead (need b r λ t. need (value_of s 2) q λ _. known_command s t c)
  bits_named (Some b) r q c = value_named (value_of s 2) q b c
  bits_named None r q c = tt

  begun : (name : Option (List ℕ)) (r q p : Refusal) → ShortRead (need name r λ n. need (bits_in (value_of s 1)) q λ t. need (value_of s 2) p λ _. known_command s t (command_of n))
  begun (Some n) r q p = bits_named (bits_in (value_of s 1)) q p (command_of n)
  begun None r q p = tt

after : (o : Outcome) (w : Result Wish Refusal) → ShortRead w → ShortRead (and_then o w)
after (Ok u) w f = f
after (Err r) w f = tt

pub command_short : (s : List ℕ) → ShortRead (command_wish s)
unfolding command_wish
command_short s = after (whole_body s) _ (begun s (text_in s (value_of s 0)) _ _ _)

-- ---- data and user control carry none
described : (b : Bool) (s : List ℕ) → Short (pick b (Metadata (metadata_at s (place_of s 2))) Nothing)
described true s = tt
described false s = tt

pub data_short : (s : List ℕ) → ShortRead (data_wish s)
unfolding data_wish whole_data
data_short s = after (whole_body s) _ (described (sets_metadata s) s)

ping : (s : List ℕ) (w : Wish) → Short w → ShortRead (ping_wish s w)
unfolding ping_wish
ping s w f = either (ltb (length s) 6) _ _ tt f

pub control_short : (s : List ℕ) → ShortRead (control_wish s)
unfolding control_wish event_wish
control_short s =
    either (ltb 4096 (length s)) _ _ tt
    (either (ltb (length s) 2) _ _ tt
    (either (eqb (field_at 2 s 0) 6) _ _ (ping s _ tt) (either (eqb (field_at 2 s 0) 7) _ _ (ping s _ tt) tt)))
