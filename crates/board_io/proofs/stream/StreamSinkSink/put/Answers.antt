use Rattle.std.proofs.Common.{[], Some, ap, take, ◌∙◌}
use Rattle.board_io.proofs.Notes.{noted, written}
use Rattle.board_io.specs.Handed.{taken}
use Rattle.board_io.proofs.stream.StreamSinkSink.put.Goals as goal

pub returns-in-Ok-clause-told : goal.returns-in-Ok-clause-told
returns-in-Ok-clause-told g c = ap Some (noted c.args.self.now.past.log.notes c.note.new.self.notes c.args.piece.now c.args.piece.now [] c.note.ensures)

pub returns-in-Ok-clause-written : goal.returns-in-Ok-clause-written
returns-in-Ok-clause-written g c = written (g.W.Write.contents c.args.self.now.writer) (g.W.Write.contents c.write_whole.new.writer) c.args.piece.now c.args.self.now.past.log.notes c.note.new.self.notes c.in-Ok.ensures.whole c.note.ensures

pub returns-in-Err-clause-told : goal.returns-in-Err-clause-told
returns-in-Err-clause-told g c =
    (c.in-Err.count, c.in-Err.ensures.front.0, ap Some (ap taken c.fail.ensures.notes ∙ noted c.args.self.now.past.log.notes c.note-in-Err.new.self.notes c.args.piece.now (take c.in-Err.count c.args.piece.now) [] c.note-in-Err.ensures))

pub returns-in-Err-clause-written : goal.returns-in-Err-clause-written
returns-in-Err-clause-written g c =
    (c.in-Err.count, c.in-Err.ensures.front.0, c.in-Err.ensures.front.1, ap taken c.fail.ensures.notes ∙ noted c.args.self.now.past.log.notes c.note-in-Err.new.self.notes c.args.piece.now (take c.in-Err.count c.args.piece.now) [] c.note-in-Err.ensures)
