use Rattle.std.proofs.Common.{arith}
use Rattle.judge.proofs.FirstSeats.{further_at}
use Rattle.judge.proofs.seats.seat_point.Goals as goal

pub seat_further-requires-clause-further : goal.seat_further-requires-clause-further
seat_further-requires-clause-further c = further_at c.args.groups.now c.args.name c.index-groups-name.result c.as_slice.result.now _ c.args.seat c.requires.name c.as_slice.ensures (omega (arith, c.in-len1-up.len_at_least)) c.if-first-seat.false
