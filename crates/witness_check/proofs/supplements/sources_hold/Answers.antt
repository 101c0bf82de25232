use Rattle.std.proofs.Common.{◌≢◌, ◌∙◌, rules, tests}
use Rattle.std.proofs.lemmas.Iterator.{YieldsList-from_slice, YieldsList-from_zip, cases_from_all}
use Rattle.board_shapes.specs.Pieces.{plain_piece, plain_pieces}
use Rattle.board_shapes.specs.Tables.{source_of as source_on}
use Rattle.board_shapes.specs.declared.placed.Placed.{Placed}
use Rattle.board_shapes.specs.declared.shape.Shape.{Shape}
use Rattle.verdict.specs.Right.{source_of}
use Rattle.witness_check.proofs.Mapped.{IsMade, all_tell, both_maps}
use Rattle.witness_check.proofs.supplements.sources_hold.Goals as goal

pub returns-then-pieces-sources : goal.returns-then-pieces-sources
returns-then-pieces-sources c =
    let made = λ (p : Placed Shape). source_of (source_on (plain_piece p)) in
    let whole = both_maps source_of source_on (plain_pieces c.args.pieces.now) ∙ both_maps (λ p. source_of (source_on p)) plain_piece c.args.pieces.now in
    all_tell made c.args.pieces.now c.args.sources.now _ c.all.result whole c.if-pieces-sources.true
    (cases_from_all c.all.new.self _ c.all.result (IsMade made) (λ p. p.1 ≢ made p.0) c.all.ensures.ran (YieldsList-from_zip (YieldsList-from_slice c.args.pieces.now cc) (YieldsList-from_slice c.args.sources.now cc)) (λ x q k. search (rules, tests)) (λ x q k. search (rules, tests)))
