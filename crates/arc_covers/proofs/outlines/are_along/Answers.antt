use Rattle.std.proofs.Common.{ℕ, subst}
use Rattle.board_shapes.specs.Pieces.{plain_pieces}
use Rattle.turned_outlines.specs.Taken.{OutlineAbove}
use Rattle.arc_covers.specs.Bounds.{figures_of}
use Rattle.arc_covers.proofs.Outlined.{no_capsules, one_radius}
use Rattle.arc_covers.proofs.outlines.are_along.Goals as goal

pub returns-then-are_capsules : goal.returns-then-are_capsules
returns-then-are_capsules c = (
  λ yes. (c.in-Some.r, c.are_capsules.ensures.0 c.if-are_capsules.true, c.is_above_outline.ensures.taken.0 yes),
  λ (s, same, taken). c.is_above_outline.ensures.taken.1
      (subst (λ (n : ℕ). OutlineAbove c.args.figure.now.contour.items c.args.figure.now.about c.args.figure.now.angle c.args.corners.now n)
      (one_radius c.args.corners.now (figures_of (plain_pieces c.args.pieces.now)) s c.in-Some.r c.requires same (c.are_capsules.ensures.0 c.if-are_capsules.true)) taken),
)

pub returns-in-None : goal.returns-in-None
returns-in-None c = (λ yes. absurd cc, λ (s, same, taken). absurd (no_capsules c.args.corners.now (figures_of (plain_pieces c.args.pieces.now)) s c.requires c.in-None.ensures.none same))
