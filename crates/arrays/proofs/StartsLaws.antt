-- A start over the arrays.
use mathlib.Core.Path.{◌≡◌, sym, ap, ◌∙◌}
use Prim.Native.Nat.{ℕ}
use mathlib.Core.List.{List}
use lib.ListN.{replicate, set}
use Rattle.text.specs.declared.names.Name.{Name}
use Rattle.session.specs.State.{fresh_session}
use Rattle.replies.specs.declared.answer.Answer.{Answer}
use Rattle.image.specs.Image.{Arrays}
use Rattle.written.specs.Kept.{facts_of, image_of}
use Rattle.parts.specs.Parts.{Shown}
use Rattle.parts.specs.Told.{told_of}
use Rattle.arrays.specs.Turns.{started}

pub fresh_is :
    (start : ℕ) (version : Name) (f : List ℕ) → f ≡ facts_of (fresh_session start version)
    → ◌≡◌ {A = Arrays} (f, (replicate 16 (replicate 4 0), (replicate 16 (replicate 6 0), set (replicate 34 (replicate 128 0)) 0 version.bytes))) (image_of (fresh_session start version))
unfolding image_of
fresh_is start version f k = ap {B = Arrays} (λ (x : List ℕ). (x, (replicate 16 (replicate 4 0), (replicate 16 (replicate 6 0), set (replicate 34 (replicate 128 0)) 0 version.bytes)))) k

-- an answer that hands back a fresh session
pub start_told :
    (start : ℕ) (version : Name) (x : Answer) (o : List ℕ) (c : Answer × List ℕ) (y : Arrays) (t : ℕ × Shown) → x.session ≡ fresh_session start version → y ≡ image_of (fresh_session start version)
    → t ≡ told_of x.outcome x.event x.app x.key x.metadata x.count → ◌≡◌ {A = Answer × List ℕ} (x, o) c → ◌≡◌ {A = (Arrays × (ℕ × Shown)) × List ℕ} ((y, t), o) (started c)
unfolding started
start_told start version x o c y t q k w e = (λ i. (((k ∙ ap image_of (sym q)) i, w i), o)) ∙ ap started e
