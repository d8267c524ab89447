use lib.Ieee.{of_bits, neg}
use Rattle.numbers.proofs.PlayLaws.{start_one, start_other, start_seconds, start_two}
use Rattle.numbers.proofs.play.start_of.Goals as goal

-- -2.0 is `neg` of a pattern's value: with `of_bits` and `neg` unfolded the tests are those of the definition
pub returns-then-x : goal.returns-then-x
unfolding of_bits neg
returns-then-x c = start_two _ 0 _ c.f64_of-x.ensures c.if-x.true

pub returns-then-x-2 : goal.returns-then-x-2
unfolding of_bits neg
returns-then-x-2 c = start_one _ 0 _ c.f64_of-x.ensures c.if-x.false c.if-x-2.true

pub returns-then-x-3 : goal.returns-then-x-3
unfolding of_bits neg
returns-then-x-3 c = start_seconds _ _ _ c.f64_of-x.ensures c.if-x.false c.if-x-2.false c.if-x-3.true c.u32_of.ensures

pub returns : goal.returns
unfolding of_bits neg
returns c = start_other _ 0 _ c.f64_of-x.ensures c.if-x.false c.if-x-2.false c.if-x-3.false
