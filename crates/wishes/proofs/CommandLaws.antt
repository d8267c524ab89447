-- The commands, each case from what it is read from.
use mathlib.Core.Path.{◌≡◌, refl, sym, ap, ◌∙◌}
use Prim.Native.Nat.{ℕ}
use native.Mathlib.Omega.{arith}
use mathlib.Core.Bool.{true≢false}
use mathlib.Core.List.{List, [], ◌∷◌}
use lib.ListN.{length}
use Rattle.std.specs.Prelude.{Option, Some, None, Result, Ok}
use Rattle.std.specs.Option.{is_some}
use Rattle.text.specs.Names.{name_read}
use Rattle.text.specs.Words.{mode_of, same}
use Rattle.text.specs.declared.words.Command.{Command}
use Rattle.text.specs.declared.words.PublishMode.{PublishMode}
use Rattle.amf0.specs.declared.plain.Plain.{Plain}
use Rattle.wishes.specs.Commands.{known_command}
use Rattle.wishes.specs.Connect.{without_slash}
use Rattle.wishes.specs.Publish.{publish_of}
use Rattle.wishes.specs.Values.{text_in}
use Rattle.wishes.specs.Wish.{need}
use Rattle.wishes.specs.declared.outcome.Refusal.{Refusal}
use Rattle.wishes.specs.declared.wish.PublishFault.TheVariants.{ModeUnknown}
use Rattle.wishes.specs.declared.wish.Wish.{Wish}
use Rattle.wishes.specs.declared.wish.Wish.TheVariants.{Publish}

pub known_told : (s : List ℕ) (t : ℕ) (k l : Command) (r : Result Wish Refusal) → r ≡ known_command s t l → k ≡ l → r ≡ known_command s t k
known_told s t k l r e f = e ∙ ap (known_command s t) (sym f)

-- ---- the slash
pub slash_none : (t : List ℕ) → length t ≡ 0 → t ≡ without_slash t
unfolding without_slash same
slash_none [] h = refl
slash_none (x ∷ xs) h = absurd (omega arith)

-- ---- a publish
-- a publish of this key, by what its mode says
abbrev pub publish_as : ℕ → List ℕ → Option PublishMode → Wish
publish_as t key mode = Publish t (need mode ModeUnknown λ m. Ok (record { mode = m; key = name_read key }))

pub publish_told : (t : ℕ) (key : List ℕ) (k l : Option PublishMode) (r : Wish) → r ≡ publish_as t key l → k ≡ l → r ≡ publish_as t key k
publish_told t key k l r e f = e ∙ ap (publish_as t key) (sym f)

-- where the key and the mode are strings, that is what the publish wants
module _ (s : List ℕ) (t : ℕ) (key word : List ℕ) (v : Option Plain) (q : text_in s v ≡ Some key) (l : Option PublishMode) (r : Wish) (e : r ≡ publish_as t key l) (f : mode_of word ≡ l) where
  pub publish_wanted : (m : Option Plain) → text_in s m ≡ Some word → r ≡ Publish t (publish_of s v m)
  publish_wanted (Some m) g = publish_told t key (mode_of word) l r e f ∙ sym (simp (q, g))
  publish_wanted None g = absurd (true≢false (sym (ap is_some g)))
