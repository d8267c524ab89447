-- What `send_metadata` writes, the metadata reader reads back the same.
use mathlib.Core.Path.{◌≡◌, refl, ap, ◌∙◌, subst}
use Prim.Native.Nat.{ℕ, ◌≤◌, ◌<◌, ◌^◌}
use native.Mathlib.Omega.{arith}
use mathlib.Core.Bool.{Bool, true, false}
use mathlib.Core.List.{List, [], ◌∷◌}
use lib.Dec.{T, lit≤}
use Rattle.std.proofs.Common.{rules}
use lib.Ieee.{Float, binary32, fits}
use lib.ListN.{length}
use borrow.Author.Tests.{le-ltb}
use Rattle.std.specs.Prelude.{Option, Some, None, IfSome, Ok, option_and_then, option_map}
use Rattle.numbers.specs.Choose.{pick}
use Rattle.numbers.proofs.ExactLaws.{single_back, single_lt}
use Rattle.numbers.proofs.WholeLaws.{double_lt, whole_back}
use Rattle.text.specs.Names.{name_of, name_read, text_of}
use Rattle.text.specs.Words.{same, text}
use Rattle.text.specs.declared.names.Name.{Name}
use Rattle.amf0.specs.Bodies.{place_of}
use Rattle.amf0.specs.Grammar.{Value, depth, depth_in, depth_of, string}
use Rattle.amf0.specs.Plain.{plain_at, property_at}
use Rattle.amf0.specs.Properties.{last_property}
use Rattle.amf0.specs.Showing.{Finds, Standing, last_of, nth, plain_shown}
use Rattle.amf0.specs.Writing.{Fits, FitsIn, FitsOf, encode_of}
use Rattle.amf0.specs.declared.plain.Plain.{Plain}
use Rattle.amf0.proofs.PlainLaws.{plain_stands}
use Rattle.amf0.proofs.ReadTheorems.{shows}
use Rattle.amf0.proofs.WriteTheorems.{written_property}
use Rattle.metadata.specs.Metadata.{Held, tidy}
use Rattle.metadata.specs.Reading.{flag_in, metadata_at, named_as, rate_in, rest_at, whole_in, with_encoder}
use Rattle.metadata.specs.Writing.{Listed, flag, listed, metadata_row, named, rate, set_ones, whole}
use Rattle.metadata.specs.declared.metadata.StreamMetadata.{StreamMetadata}

-- ---- a list of properties that can be written, and that nest no further
abbrev Good : Option Value → Type 0
Good (Some v) = Fits v × (depth v ≤ 0)
Good None = Unit {0}

abbrev AllGood : List Listed → Type 0
AllGood [] = Unit {0}
AllGood ((w, x) ∷ xs) = ((0 < length w) × (length w < 2 ^ 16)) × (Good x × AllGood xs)

good_whole : (o : Option ℕ) → Good (whole o)
unfolding Fits depth
good_whole (Some n) = (double_lt n, lit≤ tt)
good_whole None = tt

good_rate : (o : Option Float) → IfSome o (λ x. T (fits binary32 x)) → Good (rate o)
unfolding Fits depth
good_rate (Some x) h = (single_lt x h, lit≤ tt)
good_rate None h = tt

good_flag : (o : Option Bool) → Good (flag o)
unfolding Fits depth
good_flag (Some b) = (tt, lit≤ tt)
good_flag None = tt

good_named : (o : Option Name) → IfSome o (λ e. length (text_of e) ≤ 128) → Good (named o)
unfolding Fits depth
good_named (Some e) h = (omega (arith, h), lit≤ tt)
good_named None h = tt

fits_set : (xs : List Listed) → AllGood xs → FitsIn (set_ones xs) × (depth_in (set_ones xs) ≤ 0)
unfolding set_ones FitsIn depth_in
fits_set [] g = (tt, lit≤ tt)
fits_set ((w, Some v) ∷ xs) g = let r = fits_set xs g.1.1 in ((g.0.0, (g.0.1, (g.1.0.0, r.0))), omega (arith, g.1.0.1, r.1))
fits_set ((w, None) ∷ xs) g = fits_set xs g.1.1

-- ---- the last of a name among those that are set
abbrev or_else : Option Value → Option Value → Option Value
or_else (Some v) best = Some v
or_else None best = best

unfoldable last_listed : List ℕ → List Listed → Option Value → Option Value
last_listed w [] best = best
last_listed w ((t, x) ∷ xs) best = last_listed w xs (pick (same t w) (or_else x best) best)

last_set : (w : List ℕ) (xs : List Listed) (best : Option Value) → last_of w (set_ones xs) best ≡ last_listed w xs best
unfolding set_ones last_of last_listed
last_set w [] best = refl
last_set w ((t, Some v) ∷ xs) best = last_set w xs (pick (same t w) (Some v) best)
last_set w ((t, None) ∷ xs) best = last_set w xs best ∙ ap (last_listed w xs) (unchanged (same t w))
  where
    unchanged : (b : Bool) → best ≡ pick b best best
    unchanged true = refl
    unchanged false = refl

or_nothing : (x : Option Value) → or_else x None ≡ x
or_nothing (Some v) = refl
or_nothing None = refl

-- ---- a field that is read where its property was written
module _ (s : List ℕ) where
  -- a value shows what it was made of, and nothing shows nothing
  field_back : {F X : Type 0} (made : F → Value) (read : Option Plain → X) (back : Option F → X) (holds : F → Type 0)
      → read None ≡ back None → ((x : F) (p : ℕ) → holds x → Standing s p (made x) → read (Some (plain_shown (made x) p)) ≡ back (Some x))
      → (o : Option F) → IfSome o holds → (f : Option ℕ) → Finds s f (option_map made o) → read (option_and_then (plain_at s) f) ≡ back o
  field_back made read back holds z g (Some x) h (Some p) i = ap read (plain_stands (made x) s p i) ∙ g x p h i
  field_back made read back holds z g (Some x) h None i = absurd i
  field_back made read back holds z g None h (Some p) i = absurd i
  field_back made read back holds z g None h None i = z

  module _ (at : ℕ) (w : List ℕ) where
    whole_field : (o : Option ℕ) → IfSome o (λ n. n < 4294967296) → Finds s (last_property s at w) (whole o) → whole_in (property_at s at w) ≡ o
    unfolding property_at
    whole_field o h f = field_back _ whole_in (λ x. x) _ refl (λ n p l i. ap Some (whole_back n l)) o h (last_property s at w) f

    rate_field : (o : Option Float) → IfSome o (λ x. T (fits binary32 x)) → Finds s (last_property s at w) (rate o) → rate_in (property_at s at w) ≡ o
    unfolding property_at
    rate_field o h f = field_back _ rate_in (λ x. x) _ refl (λ x p l i. ap Some (single_back x l)) o h (last_property s at w) f

    flag_field : (o : Option Bool) → Finds s (last_property s at w) (flag o) → flag_in (property_at s at w) ≡ o
    unfolding property_at
    flag_field o f = field_back _ flag_in (λ x. x) (λ b. Unit {0}) refl (λ b p l i. refl) o (any o) (last_property s at w) f
      where
        any : (x : Option Bool) → IfSome x (λ b. Unit {0})
        any (Some b) = tt
        any None = tt

    module _ (m : StreamMetadata) where
      abbrev rest : StreamMetadata
      rest = record m { encoder = None }

      encoder_field : (o : Option Name) → IfSome o (λ e. length (text_of e) ≤ 128) → Finds s (last_property s at w) (named o)
          → with_encoder s (property_at s at w) rest ≡ Ok (record m { encoder = option_map (λ e. name_of (text_of e)) o })
      unfolding property_at name_read
      encoder_field o h f =
          field_back (λ (e : Name). string (text_of e)) (λ (p : Option Plain). with_encoder s p rest) (λ (x : Option Name). Ok (record m { encoder = option_map (λ e. name_of (text_of e)) x })) (λ (e : Name). length (text_of e) ≤ 128) refl
          (λ e p l i. ap (λ (t : List ℕ). named_as (name_read t) rest) (shows (string (text_of e)) s i.rest i.bytes p i.spells i.here).content ∙ ap (λ (b : Bool). named_as (pick b None (Some (name_of (text_of e)))) rest) (le-ltb 128 (length (text_of e)) l))
          o h (last_property s at w) f

-- ---- the theorem
module _ (m : StreamMetadata) (h : Held m) where
  abbrev s : List ℕ
  s = encode_of (metadata_row m)

  abbrev at : ℕ
  at = place_of s 1

  good : AllGood (listed m)
  unfolding listed
  good = search (rules, good_whole, good_flag, good_rate m.video_frame_rate h.rate, good_named m.encoder h.encoder)

  found : (w : List ℕ) (x : Option Value) → last_listed w (listed m) None ≡ or_else x None → Finds s (last_property s at w) x
  unfolding metadata_row FitsOf depth_of nth
  found w x e =
      let g = fits_set (listed m) good in
      let p = written_property (metadata_row m) (lit≤ tt, (g.0, tt)) (omega (arith, g.1)) 1 (set_ones (listed m)) w refl (omega (arith, g.1)) in
      subst (Finds s (last_property s at w)) (last_set w (listed m) None ∙ e ∙ or_nothing x) p

  rest_back : rest_at s at ≡ record m { encoder = None }
  unfolding listed last_listed same rest_at
  rest_back = λ i. record {
    video_width = whole_field s at (text "width") m.video_width h.video_width_fits (found (text "width") (whole m.video_width) refl) i;
    video_height = whole_field s at (text "height") m.video_height h.video_height_fits (found (text "height") (whole m.video_height) refl) i;
    video_codec_id = whole_field s at (text "videocodecid") m.video_codec_id h.video_codec_id_fits (found (text "videocodecid") (whole m.video_codec_id) refl) i;
    video_bitrate_kbps = whole_field s at (text "videodatarate") m.video_bitrate_kbps h.video_bitrate_kbps_fits (found (text "videodatarate") (whole m.video_bitrate_kbps) refl) i;
    video_frame_rate = rate_field s at (text "framerate") m.video_frame_rate h.rate (found (text "framerate") (rate m.video_frame_rate) refl) i;
    audio_codec_id = whole_field s at (text "audiocodecid") m.audio_codec_id h.audio_codec_id_fits (found (text "audiocodecid") (whole m.audio_codec_id) refl) i;
    audio_bitrate_kbps = whole_field s at (text "audiodatarate") m.audio_bitrate_kbps h.audio_bitrate_kbps_fits (found (text "audiodatarate") (whole m.audio_bitrate_kbps) refl) i;
    audio_sample_rate = whole_field s at (text "audiosamplerate") m.audio_sample_rate h.audio_sample_rate_fits (found (text "audiosamplerate") (whole m.audio_sample_rate) refl) i;
    audio_channels = whole_field s at (text "audiochannels") m.audio_channels h.audio_channels_fits (found (text "audiochannels") (whole m.audio_channels) refl) i;
    audio_is_stereo = flag_field s at (text "stereo") m.audio_is_stereo (found (text "stereo") (flag m.audio_is_stereo) refl) i;
    encoder = None;
  }

  -- the same fields with their values, a NaN too
  pub metadata_back : metadata_at s at ≡ Ok (tidy m)
  unfolding listed last_listed same metadata_at tidy
  metadata_back =
      ap (with_encoder s (property_at s at (text "encoder"))) rest_back
      ∙ encoder_field s at (text "encoder") m m.encoder h.encoder (found (text "encoder") (named m.encoder) refl)
