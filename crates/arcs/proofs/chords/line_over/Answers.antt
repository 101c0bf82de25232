use Rattle.std.proofs.Common.{arith, rules}
use Rattle.std.proofs.lemmas.Int.{ints}
use Rattle.planar.specs.Plane.{cross_of, dot_of}
use Rattle.planar.proofs.SpotWithin.{whole_from_zero}
use Rattle.arcs.proofs.Read.{line_read}
use Rattle.arcs.proofs.Reaching.{not_over, reachable}
use Rattle.arcs.proofs.chords.line_over.Goals as goal

pub returns-then-off-gt0 : goal.returns-then-off-gt0
returns-then-off-gt0 c =
    line_read c.args.near c.unsigned_abs.result c.unsigned_abs-then-off-gt0.result c.dot.result c.cross-off.result (dot_of c.args.a c.args.b c.args.b) (cross_of c.args.c c.args.a c.args.b) c.line_beyond.result c.dot.ensures c.cross-off.ensures
    (omega (arith, ints, c.dot.ensures, whole_from_zero c.args.a c.args.b)) (omega (arith, ints)) (search rules) (search rules) c.unsigned_abs.ensures.value c.unsigned_abs-then-off-gt0.ensures.value c.line_beyond.ensures

pub cross-off-requires-clause-o_reachable : goal.cross-off-requires-clause-o_reachable
cross-off-requires-clause-o_reachable c = reachable c.args.c c.requires.c_placed

pub dot-requires-clause-o_reachable : goal.dot-requires-clause-o_reachable
dot-requires-clause-o_reachable c = reachable c.args.a c.requires.a_placed

pub returns-else-off-gt0 : goal.returns-else-off-gt0
returns-else-off-gt0 c = (λ t. absurd (let f = t in cc), λ h. absurd (not_over c.cross-off.result (cross_of c.args.c c.args.a c.args.b) c.cross-off.ensures (search rules) c.if-off-gt0.false h.0))
