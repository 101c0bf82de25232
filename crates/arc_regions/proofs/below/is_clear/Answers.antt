use Rattle.std.proofs.Common.{arith, ◌∙◌}
use Rattle.std.proofs.lemmas.Int.{ints}
use Rattle.std.specs.Int.{w64}
use Rattle.std.proofs.Math.Facts.{to_z_pos}
use Rattle.arc_regions.proofs.Read.{clear_read}
use Rattle.arc_regions.proofs.below.is_clear.Goals as goal

pub new-capsule-requires-clause-a_placed : goal.new-capsule-requires-clause-a_placed
new-capsule-requires-clause-a_placed g c = (c.both_placed.ensures.0 c.if-not-both_placed.false).0

pub new-capsule-requires-clause-b_placed : goal.new-capsule-requires-clause-b_placed
new-capsule-requires-clause-b_placed g c = (c.both_placed.ensures.0 c.if-not-both_placed.false).1

pub returns : goal.returns
returns g c =
    clear_read c.capsule_clear.result c.args.frame c.args.area.now.points.items c.args.r c.args.a c.args.b c.new-capsule.result.a c.new-capsule.result.b c.new-capsule.result.r c.new-capsule.ensures.start c.new-capsule.ensures.end (c.new-capsule.ensures.radius ∙ to_z_pos w64 (omega (arith, ints, c.if-r.false)))
    (c.both_placed.ensures.0 c.if-not-both_placed.false).0 (c.both_placed.ensures.0 c.if-not-both_placed.false).1 (omega (arith, ints), omega (arith, ints, c.if-r.false)) c.capsule_clear.ensures
