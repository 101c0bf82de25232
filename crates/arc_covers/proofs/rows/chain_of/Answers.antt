use Rattle.std.proofs.Common.{arith, pos, rules}
use Rattle.std.proofs.lemmas.Grind.{common_steps}
use Rattle.arc_covers.proofs.Figures.{cut_at, stopped, walked, whole_row}
use Rattle.arc_covers.proofs.rows.chain_of.Goals as goal

pub loop-piece-init : goal.loop-piece-init
loop-piece-init c = record { walked = search rules; left = λ rest e. (rest, e) }

pub loop-piece-preserved : goal.loop-piece-preserved
loop-piece-preserved c = record {
  walked = grind (arith, common_steps);
  left = λ rest e. walked c.args.pieces.now c.loop-piece.piece-index c.piece-item.result c.loop-piece.from c.in-Some.to (pos c.args.r) (cut_at c.args.pieces.now c.loop-piece.piece-index c.piece-item.result c.loop-piece-test.true c.piece-item.is) c.in-Some.ensures.some (c.loop-piece.invariant.left rest e);
}

pub returns-in-None-clause-none : goal.returns-in-None-clause-none
returns-in-None-clause-none c = λ rest e. stopped c.args.pieces.now c.loop-piece.piece-index c.piece-item.result c.loop-piece.from (pos c.args.r) (cut_at c.args.pieces.now c.loop-piece.piece-index c.piece-item.result c.loop-piece-test.true c.piece-item.is) c.in-None.ensures.none (c.loop-piece.invariant.left rest e)

pub returns-clause-some : goal.returns-clause-some
returns-clause-some c = whole_row c.loop-piece.chain.items c.args.pieces.now c.loop-piece.from (pos c.args.r) c.loop-piece.piece-index (omega arith) c.loop-piece.invariant.walked
