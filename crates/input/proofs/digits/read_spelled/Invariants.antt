use Rattle.std.proofs.Common.{ℕ, List, ◌≡◌, ◌*◌, ◌-◌, ◌≤◌, length, take}
use Rattle.std.specs.Io.KnownBytes.{Consumes}
use Rattle.input.specs.Digits.{spelled}
use Rattle.input.proofs.digits.read_spelled.Given as goal

-- the digits that were read spell the bytes up to here
abbrev pub invariant-loop-bytes : goal.invariant-loop-bytes
invariant-loop-bytes g l = record {
  same_length : length l.bytes ≡ length l.initial.bytes;
  in_bounds : l.done ≤ length l.bytes;
  read : (digits : List ℕ) × (Consumes (g.R.Read.remaining l.initial.input) (g.R.Read.remaining l.input) digits × ((length digits ≡ 2 * l.done) × (spelled digits ≡ take l.done l.bytes)));
}

abbrev pub decreases-loop-bytes : goal.decreases-loop-bytes
decreases-loop-bytes g l = length l.bytes - l.done
