use Rattle.std.proofs.Common.{◌≡◌, ◌+◌, false, sym, ◌∙◌, arith}
use Rattle.std.specs.Prelude.{nat_le}
use Rattle.std.proofs.lemmas.Bool.Decides.{nat_tests}
use Rattle.area_contact.specs.declared.TheConstants.{MOST_CONTOUR_EDGES}
use Rattle.gerber_reading.specs.Command.{bending_of}
use Rattle.gerber_reading.specs.CommandEffects.{edges_in, exceed}
use Rattle.real_copper.specs.Figures.{real_handling}
use Rattle.real_copper.specs.RealReader.{known}
use Rattle.real_copper.proofs.Closed.{extend_stops, longer_right, room_for_edge}
use Rattle.real_copper.proofs.closing.extend.Goals as goal

pub returns-in-Ok-extend-clause-right : goal.returns-in-Ok-extend-clause-right
returns-in-Ok-extend-clause-right c = longer_right c.args.reader.now c.extend.new.self c.args.to c.in-Ok.bend c.requires.lawful c.in-Ok-extend.ensures.ok c.in-Ok.ensures.near c.in-Ok-extend.ensures.counted

pub returns-in-Err-extend-clause-halt : goal.returns-in-Err-extend-clause-halt
returns-in-Err-extend-clause-halt c =
    let short : nat_le MOST_CONTOUR_EDGES (edges_in (known c.args.reader.now).contour) ≡ false = rw (← c.contour_edges-edges.ensures.value) (grind (arith, nat_tests)) in
    let fits : exceed real_handling (known c.args.reader.now) (edges_in (known c.args.reader.now).contour + 1) ≡ false = rw (← c.contour_edges-edges.ensures.value) (sym c.exceeds.ensures ∙ c.if-exceeds.false) in
    rw c.halted.ensures (extend_stops (known c.args.reader.now) (bending_of c.args.bending.now) c.args.to c.in-Ok.bend (room_for_edge (known c.args.reader.now) c.args.to c.in-Ok.bend short fits) c.in-Err-extend.halt c.in-Err-extend.ensures.halt)
