use native.Mathlib.Omega.{arith}
use Rattle.image.proofs.RowsLaws.{wide}
use Rattle.image.proofs.shape.slices_say.Goals as goal

pub returns : goal.returns
returns c = record {
  ten = omega arith;
  sixteen_streams = omega arith;
  sixteen_requests = omega arith;
  thirty_four = omega arith;
  four_wide = wide 4 _ c.told-streams;
  six_wide = wide 6 _ c.told-requests;
}
