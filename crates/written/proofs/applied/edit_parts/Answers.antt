use Rattle.written.proofs.EditsLaws.{edited_length, parts_edited, titles_between}
use native.Mathlib.Omega.{arith}
use mathlib.Core.Path.{◌≡◌, ap, ◌∙◌}
use mathlib.Core.List.{List, ◌++◌}
use Prim.Native.Nat.{ℕ}
use lib.ListN.{drop, length, length-drop, take}
use lib.Seq.{length-take-le}
use Rattle.image.specs.Image.{keys_of}
use Rattle.written.specs.Edits.{edited}
use Rattle.written.specs.Kept.{blank_bytes}
use Rattle.written.proofs.applied.edit_parts.Goals as goal

pub returns : goal.returns
returns c =
    let a = c.args in
    let k = length-take-le 16 (drop 2 a.names.now) (omega (arith, length-drop 2 a.names.now)) in
    let l : length (edited blank_bytes a.e a.n a.key (keys_of a.names.now)) ≡ 16 = edited_length blank_bytes a.e a.n a.key (keys_of a.names.now) (omega (arith, k)) ∙ k in
    let q = ap (λ (t : List (List ℕ)). take 2 a.names.now ++ (t ++ drop 16 (drop 2 a.names.now))) c.make_edit.ensures in
    parts_edited (edited blank_bytes a.e a.n a.key (keys_of a.names.now)) l a.names.now (omega arith) _ q _ _ (c.make_edit-2.ensures ∙ ap (edited blank_bytes a.f a.m a.title) (titles_between (edited blank_bytes a.e a.n a.key (keys_of a.names.now)) l a.names.now (omega arith) _ q))
