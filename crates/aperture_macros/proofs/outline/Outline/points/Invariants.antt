use Rattle.std.proofs.Common.{◌≡◌, ◌+◌, ◌-◌, []}
use Rattle.aperture_macros.specs.Images.{set_down}
use Rattle.aperture_macros.specs.Outlines.{moved_from}
use Rattle.aperture_macros.proofs.outline.Outline.points.Given as goal

abbrev pub invariant-loop : goal.invariant-loop
invariant-loop l = moved_from (set_down l.by.rotation l.by.at) l.points.items (l.self.edges + 1 - l.counter) l.rest l.self.parameters.now l.self.unit ≡ moved_from (set_down l.by.rotation l.by.at) [] (l.self.edges + 1) l.self.text.now l.self.parameters.now l.self.unit
