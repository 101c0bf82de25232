use Rattle.std.proofs.Common.{pos}
use Rattle.gaps.proofs.Bridge.{grown_all, grown_more}
use Rattle.gaps.proofs.fats.fats_of.Goals as goal

pub loop-piece-preserved : goal.loop-piece-preserved
loop-piece-preserved c =
    grown_more (pos c.args.grow) c.args.pieces.now c.loop-piece.piece-index c.piece-item.result c.loop-piece.fats.items c.push.new.self.items c.grown.result c.loop-piece-test.true c.piece-item.is c.loop-piece.invariant c.in_ok-push.ensures.items c.grown.ensures.piece c.grown.ensures.growth

pub returns : goal.returns
returns c = grown_all (pos c.args.grow) c.args.pieces.now c.loop-piece.piece-index c.loop-piece.fats.items c.loop-piece-test.false c.loop-piece.invariant
