use Rattle.std.proofs.Common.{refl, rules}
use Rattle.planar.proofs.Signs.{over_zero, zero, below_zero, neither, both}
use Rattle.planar.proofs.sides.which_side.Goals as goal

pub returns-then-turn-gt0 : goal.returns-then-turn-gt0
returns-then-turn-gt0 c =
    let h = over_zero (search rules) c.if-turn-gt0.true c.cross-turn.ensures in
    record { left = both refl h.0; on = neither (λ k. cc) h.1; right = neither (λ k. cc) h.2 }

pub returns-then-turn-eq0 : goal.returns-then-turn-eq0
returns-then-turn-eq0 c =
    let h = zero (search rules) c.if-turn-eq0.true c.cross-turn.ensures in
    record { left = neither (λ k. cc) h.0; on = both refl h.1; right = neither (λ k. cc) h.2 }

pub returns-else-turn-eq0 : goal.returns-else-turn-eq0
returns-else-turn-eq0 c =
    let h = below_zero (search rules) c.if-turn-gt0.false c.if-turn-eq0.false c.cross-turn.ensures in
    record { left = neither (λ k. cc) h.0; on = neither (λ k. cc) h.1; right = both refl h.2 }
