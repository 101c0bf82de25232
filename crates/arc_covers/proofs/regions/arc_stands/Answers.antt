use Rattle.std.proofs.Common.{arith, ◌∙◌}
use Rattle.std.proofs.lemmas.Bool.{both_ways}
use Rattle.board_shapes.specs.Pieces.{plain_pieces}
use Rattle.arc_covers.specs.Bounds.{figures_of}
use Rattle.arc_covers.proofs.Parts.{arc_alike, figures_length, too_few, untaken, without_end}
use Rattle.arc_covers.proofs.regions.arc_stands.Goals as goal

pub returns-in-None-clause-none : goal.returns-in-None-clause-none
returns-in-None-clause-none c = without_end c.args.start c.args.bend c.args.corners.now (figures_of (plain_pieces c.args.pieces.now)) c.in-None.ensures.none

pub returns-then-pieces-n-clause-none : goal.returns-then-pieces-n-clause-none
returns-then-pieces-n-clause-none c =
    let long = figures_length c.args.pieces.now in
    too_few c.args.start c.args.bend c.args.corners.now (figures_of (plain_pieces c.args.pieces.now)) c.in-Some.n c.in-Some.ensures.some.0 c.in-Some.ensures.some.1 (omega (arith, long))

pub returns-then-is_arc-clause-some : goal.returns-then-is_arc-clause-some
returns-then-is_arc-clause-some c = (
  c.in-Some.ensures.some.0,
  omega arith,
  (c.in-Some.ensures.some.1, (arc_alike c.args.start c.args.bend c.deref.result.now c.args.corners.now c.args.pieces.now c.in-Some.n (c.deref.ensures.value ∙ c.in_ok-chain.ensures)).0 (c.is_arc.ensures.0 c.if-is_arc.true)),
)

pub returns-clause-none : goal.returns-clause-none
returns-clause-none c =
    let long = figures_length c.args.pieces.now in
    untaken c.args.start c.args.bend c.args.corners.now (figures_of (plain_pieces c.args.pieces.now)) c.in-Some.n c.in-Some.ensures.some.0 (omega (arith, long)) c.in-Some.ensures.some.1
    (λ stands. both_ways c.is_arc.result c.if-is_arc.false (c.is_arc.ensures.1 ((arc_alike c.args.start c.args.bend c.deref.result.now c.args.corners.now c.args.pieces.now c.in-Some.n (c.deref.ensures.value ∙ c.in_ok-chain.ensures)).1 stands)))
