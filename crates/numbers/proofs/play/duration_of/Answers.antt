use lib.Ieee.{of_bits}
use Rattle.numbers.proofs.PlayLaws.{duration_none, duration_seconds}
use Rattle.numbers.proofs.play.duration_of.Goals as goal

pub returns-then-x : goal.returns-then-x
unfolding of_bits
returns-then-x c = duration_seconds _ _ _ c.f64_of-x.ensures c.if-x.true c.u32_of.ensures

pub returns : goal.returns
unfolding of_bits
returns c = duration_none _ 0 _ c.f64_of-x.ensures c.if-x.false
