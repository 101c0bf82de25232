use Rattle.std.proofs.Common.{◌≡◌, map, take}
use Rattle.real_copper.specs.Figures.{shifted_part}
use Rattle.real_copper.proofs.moving.moved_parts.Given as goal

abbrev pub invariant-loop-part : goal.invariant-loop-part
invariant-loop-part l = l.made.items ≡ map (shifted_part l.fn.by.x l.fn.by.y) (take l.part-index l.fn.parts)
