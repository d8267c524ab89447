-- Any two outcomes that one contract allows coincide. Every public contract of a call is of the form `(answer, buffer) ≡ definition inputs`, or `answer ≡ definition inputs`.
use mathlib.Core.Path.{◌≡◌, sym, ◌∙◌}

pub one_outcome : {A : Type 0} (defined first second : A) → first ≡ defined → second ≡ defined → first ≡ second
one_outcome defined first second e f = e ∙ sym f
