use Rattle.std.proofs.Common.{◌≡◌, ◌-◌}
use Rattle.aperture_macros.specs.BodyWord.{past}
use Rattle.aperture_macros.specs.Outlines.{last_from}
use Rattle.aperture_macros.proofs.outline.Outline.last_point.Given as goal

abbrev pub invariant-loop : goal.invariant-loop
invariant-loop l = last_from l.last (l.self.edges - l.counter) l.rest l.self.parameters.now l.self.unit ≡ last_from l.fn.first l.self.edges (past 2 l.self.text.now) l.self.parameters.now l.self.unit
