use Rattle.std.proofs.Common.{ap, arith, drop, pos, sym, ◌≡◌, ◌∙◌, ◌∷◌, ℤ}
use Rattle.std.proofs.lemmas.Int.{ints}
use Rattle.board_shapes.specs.Figures.{round}
use Rattle.board_shapes.specs.Pieces.{plain_pieces}
use Rattle.board_shapes.specs.declared.shape.Shape.TheVariants.{Round}
use Rattle.arc_covers.specs.Bounds.{figures_of}
use Rattle.arc_covers.proofs.Figures.{as_shape}
use Rattle.arc_covers.proofs.regions.radius_of.Goals as goal

pub returns-in-Round-clause-some : goal.returns-in-Round-clause-some
returns-in-Round-clause-some c =
    let same : c.in-Round.capsule.r ≡ pos c.unsigned_abs.result = omega (arith, ints, c.in-Round.capsule.radius.0, c.in-Round.capsule.radius.1) in (
      c.in-Round.capsule.a,
      c.in-Round.capsule.b,
      figures_of (plain_pieces (drop 1 c.args.pieces.now)),
      as_shape c.args.pieces.now c.in-Some.first.now (Round c.in-Round.capsule) (sym c.in-Some.ensures.value) c.in-Round.is
          ∙ ap (λ (r : ℤ). round (record { a = c.in-Round.capsule.a; b = c.in-Round.capsule.b; r = r }) ∷ figures_of (plain_pieces (drop 1 c.args.pieces.now))) same,
    )
