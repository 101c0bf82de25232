use Rattle.std.proofs.Common.{arith, rules, ◌-◌, ◌*◌, ◌/◌, ◌+◌}
use Rattle.std.proofs.lemmas.Int.{ints}
use Rattle.arcs.specs.Copper.{spread}
use Rattle.arcs.proofs.Radii.{apart_some, spread_read}
use Rattle.arcs.proofs.Read.{held}
use Rattle.arcs.proofs.rings.spread_of.Goals as goal

pub nonzero_div-unsigned_abs : goal.nonzero_div-unsigned_abs
nonzero_div-unsigned_abs c = omega (arith, ints, apart_some c.args.arc.now (omega (arith, ints)))

pub returns-then-swing-lt0 : goal.returns-then-swing-lt0
returns-then-swing-lt0 c =
    held c.checked_mul.result ((c.squares_of-near.result.1 - c.squares_of-near.result.0) * (c.unsigned_abs.result / c.square_of-apart.result + 1)) (spread c.args.arc.now) c.checked_mul.ensures
    (spread_read c.args.arc.now c.squares_of-near.result.0 c.squares_of-near.result.1 c.unsigned_abs.result c.square_of-apart.result c.cross-swing.result (omega (arith, ints)) c.cross-swing.ensures (search rules) c.unsigned_abs.ensures.value c.squares_of-near.ensures.near c.squares_of-near.ensures.far c.squares_of-near.ensures.order c.square_of-apart.ensures.value)
