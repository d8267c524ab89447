use mathlib.Core.Path.{ap, ◌∙◌}
use Prim.Native.Nat.{ℕ}
use lib.Ieee.{binary32, binary64}
use Rattle.numbers.specs.Fields.{bytes_of}
use Rattle.numbers.specs.Single.{recode}
use Rattle.spelling.specs.Text.{hex_of}
use Rattle.spelling.proofs.TextLaws.{put_as, put_then}
use Rattle.lines.proofs.metadata_fields.put_rate.Goals as goal

pub returns-in-Some : goal.returns-in-Some
returns-in-Some c = rw c.in-Some.is (put_then _ _ _ _ _ c.put_word-to.ensures (put_as _ _ _ _ c.put_single.ensures (ap (λ (n : ℕ). hex_of (bytes_of 4 n)) (c.single_of.ensures ∙ ap (recode binary64 binary32) c.bits_of_f32.ensures))))
