use Rattle.std.proofs.Common.{refl, arith}
use Rattle.real_copper.specs.RealReader.{known}
use Rattle.real_copper.proofs.Closed.{has_repeated, repeat_stops}
use Rattle.real_copper.proofs.obeying.repeat.Goals as goal

pub returns-in-Ok-end_block-clause-ok : goal.returns-in-Ok-end_block-clause-ok
returns-in-Ok-end_block-clause-ok c =
    has_repeated c.args.reader.now c.end_block.new.reader _ c.args.text.now c.in-Ok.next c.if-reader.false c.in-Ok.ensures.value c.in-Ok-end_block.ensures.ok refl refl refl refl refl refl (omega (arith, c.len-reader.ensures, c.end_block.new.reader.pieces.ok.0))

pub returns-in-Err-end_block-clause-halt : goal.returns-in-Err-end_block-clause-halt
returns-in-Err-end_block-clause-halt c =
    repeat_stops (known c.args.reader.now) c.args.text.now c.in-Ok.next c.if-reader.false c.in-Ok.ensures.value c.in-Err-end_block.halt c.in-Err-end_block.ensures.halt
