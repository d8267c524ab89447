use Rattle.std.proofs.Common.{◌≡◌, length, map, take}
use Rattle.numbers.specs.Fields.{Run}
use Rattle.metadata.specs.Writing.{listing, pieces}
use Rattle.metadata.proofs.writing.write_properties.Given as goal

-- those before this one stand from `at` on
abbrev pub invariant-loop-property : goal.invariant-loop-property
invariant-loop-property l = (length l.out ≡ length l.initial.out) × Run l.initial.out l.at (pieces (map listing (take l.property-index l.properties))) l.p l.out
