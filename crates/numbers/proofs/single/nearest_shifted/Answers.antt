use Rattle.numbers.proofs.NearestLaws.{closest_le}
use mathlib.Core.Path.{sym}
use native.Mathlib.Omega.{arith}
use lib.Pow.{pow_pos}
use Prim.Native.Nat.{◌^◌}
use Rattle.numbers.proofs.NearestLaws.{nearest_none, one_shifted}
use Rattle.numbers.proofs.single.nearest_shifted.Goals as goal

pub returns-then-s-ge54 : goal.returns-then-s-ge54
returns-then-s-ge54 c = (nearest_none c.args.q c.args.s (omega arith) (omega arith), omega arith)

pub nearest_whole-requires : goal.nearest_whole-requires
nearest_whole-requires c = omega (arith, one_shifted c.args.s (omega arith), pow_pos c.args.s)

pub returns : goal.returns
returns c = let e = one_shifted c.args.s (omega arith) in (rw (sym e) c.nearest_whole.ensures, omega (arith, closest_le c.args.q (2 ^ c.args.s), rw e at c.nearest_whole.ensures))
