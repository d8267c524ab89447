use Rattle.std.proofs.Common.{◌≡◌, length, map, take}
use Rattle.metadata.specs.Writing.{listing, pieces}
use Rattle.metadata.proofs.writing.room_of.Given as goal

-- of those before this one
abbrev pub invariant-loop-property : goal.invariant-loop-property
invariant-loop-property l = l.room ≡ length (pieces (map listing (take l.property-index l.properties)))
