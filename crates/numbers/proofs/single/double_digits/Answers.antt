use Prim.Native.Nat.{◌%◌, ◌/◌}
use native.Mathlib.Omega.{arith}
use borrow.Author.Tests.{eq-eqb, ne_eqb}
use Rattle.numbers.proofs.single.double_digits.Goals as goal

pub returns-then-x-eq0 : goal.returns-then-x-eq0
returns-then-x-eq0 c = (simp (eq-eqb (c.args.bits % 9223372036854775808 / 4503599627370496) 0 (omega arith)) (omega arith), omega arith)

pub returns : goal.returns
returns c = (simp (ne_eqb (c.args.bits % 9223372036854775808 / 4503599627370496) 0 (omega arith)), omega arith)
