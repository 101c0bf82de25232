use Rattle.std.proofs.Common.{List, map, sym, ap, ◌∙◌}
use Rattle.board_shapes.specs.Pieces.{PlainPiece}
use Rattle.board_shapes.specs.Tables.{point_of, source_of as source_on}
use Rattle.board_shapes.specs.declared.probe.Probe.{Probe}
use Rattle.tables.specs.Tables.{Source, TestPoint}
use Rattle.verdict.specs.Right.{source_of, spot_of}
use Rattle.judge.proofs.Supplied.{right_with}
use Rattle.judge.proofs.supplements.supplement.Goals as goal

pub returns-clause-spots : goal.returns-clause-spots
returns-clause-spots c = λ t is. c.in_ok-spots.ensures ∙ ap (λ (ps : List TestPoint). map spot_of ps) (ap (λ (ps : List Probe). map point_of ps) c.probes.ensures.items ∙ sym is.points)

pub returns-clause-sources : goal.returns-clause-sources
returns-clause-sources c = λ t is. c.in_ok-sources.ensures ∙ ap (λ (ss : List Source). map source_of ss) (ap (λ (ps : List PlainPiece). map source_on ps) c.pieces.ensures.plain ∙ sym is.sources)

pub returns-clause-right : goal.returns-clause-right
returns-clause-right c = λ t v is right. right_with t v _ (returns-clause-spots c t is) (returns-clause-sources c t is) right
