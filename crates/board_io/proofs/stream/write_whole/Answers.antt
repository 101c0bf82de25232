use Rattle.std.proofs.Common.{◌-◌, length, take, drop, refl}
use Rattle.board_io.proofs.Edge.{more}
use Rattle.board_io.proofs.stream.write_whole.Goals as goal

pub loop-count-preserved : goal.loop-count-preserved
loop-count-preserved g c =
    let piece = c.args.piece.now in
    more piece (take (length piece - c.loop-count.count) (drop c.loop-count.count piece)) (g.W.Write.contents c.args.writer.now) (g.W.Write.contents c.loop-count.writer) (g.W.Write.contents c.write.new.self) c.loop-count.count c.in-Ok.more
    c.loop-count.invariant.0 refl c.loop-count.invariant.1 c.in-Ok.ensures.bound c.in-Ok.ensures.bytes
