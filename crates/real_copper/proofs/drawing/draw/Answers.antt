use Rattle.std.proofs.Common.{[], ◌∷◌, Some, None}
use Rattle.gerber_reading.specs.Command.{bending_of}
use Rattle.real_copper.specs.RealReader.{known, plain}
use Rattle.real_copper.specs.Rows.{draw}
use Rattle.real_copper.proofs.Carrying.{draw_is, draw_stops, has_performed, takes_nothing}
use Rattle.real_copper.proofs.drawing.draw.Goals as goal

pub returns-in-Ok-clause-ok : goal.returns-in-Ok-clause-ok
returns-in-Ok-clause-ok c =
    let drawn = rw c.in-Ok-Some.field-0-is at c.in-Ok-Some.ensures.value in
    has_performed c.args.reader.now c.add_piece.new.self (draw (known c.args.reader.now) (bending_of c.args.bending.now) c.args.to) c.args.to (plain c.in-Ok-Some.figure ∷ []) (draw_is (known c.args.reader.now) (bending_of c.args.bending.now) c.args.to (Some (plain c.in-Ok-Some.figure)) drawn) c.in-Ok.ensures.ok

pub returns-in-Ok-None-clause-ok : goal.returns-in-Ok-None-clause-ok
returns-in-Ok-None-clause-ok c =
    let drawn = rw c.in-Ok-None.field-0-is at c.in-Ok-None.ensures.value in
    has_performed c.args.reader.now c.args.reader.now (draw (known c.args.reader.now) (bending_of c.args.bending.now) c.args.to) c.args.to [] (draw_is (known c.args.reader.now) (bending_of c.args.bending.now) c.args.to None drawn) (takes_nothing c.args.reader.now)

pub returns-in-Err-clause-halt : goal.returns-in-Err-clause-halt
returns-in-Err-clause-halt c = draw_stops (known c.args.reader.now) (bending_of c.args.bending.now) c.args.to c.in-Err.kind c.in-Err.ensures.value
