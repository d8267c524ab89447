use Rattle.std.proofs.Common.{◌≡◌, ◌*◌, length, take}
use Rattle.input.specs.Digits.{spelled}
use Rattle.input.proofs.digits.spell.Given as goal

-- the digits up to here spell the bytes up to here
abbrev pub invariant-loop-i : goal.invariant-loop-i
invariant-loop-i l = (length l.bytes ≡ length l.initial.bytes) × (spelled (take (2 * l.i) l.digits) ≡ take l.i l.bytes)
