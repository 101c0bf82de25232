use Rattle.std.proofs.Common.{rules}
use Rattle.contact.specs.Round.{box_of}
use Rattle.contact.proofs.Rounds.{half_reach, in_frame, in_bounds, radius_read, has_read, out_of_box}
use Rattle.contact.proofs.round.CapsuleClosed.has.Goals as goal

pub segments_within-requires-clause-a_in_frame : goal.segments_within-requires-clause-a_in_frame
segments_within-requires-clause-a_in_frame c = (in_frame c.args.self.now.a c.args.self.now.b c.args.self.now.r c.args.frame c.bounds.ensures.lawful.2.0 c.requires.inside).0

pub segments_within-requires-clause-b_in_frame : goal.segments_within-requires-clause-b_in_frame
segments_within-requires-clause-b_in_frame c = (in_frame c.args.self.now.a c.args.self.now.b c.args.self.now.r c.args.frame c.bounds.ensures.lawful.2.0 c.requires.inside).1

pub segments_within-requires-clause-c_in_frame : goal.segments_within-requires-clause-c_in_frame
segments_within-requires-clause-c_in_frame c =
    in_bounds (box_of c.args.self.now.a c.args.self.now.b c.args.self.now.r) c.bounds.result c.args.frame c.args.p c.bounds.ensures.value c.requires.inside (c.holds.ensures.0 c.if-holds.true)

pub segments_within-requires-clause-d_in_frame : goal.segments_within-requires-clause-d_in_frame
segments_within-requires-clause-d_in_frame c =
    in_bounds (box_of c.args.self.now.a c.args.self.now.b c.args.self.now.r) c.bounds.result c.args.frame c.args.p c.bounds.ensures.value c.requires.inside (c.holds.ensures.0 c.if-holds.true)

pub segments_within-requires-clause-radius : goal.segments_within-requires-clause-radius
segments_within-requires-clause-radius c = radius_read c.args.self.now.r (search rules) c.bounds.ensures.lawful.2.0 (half_reach c.args.self.now.r c.bounds.ensures.lawful.2)

pub returns-then-holds : goal.returns-then-holds
returns-then-holds c = has_read c.args.self.now.a c.args.self.now.b c.args.p c.args.self.now.r _ (search rules) c.bounds.ensures.lawful.2.0 c.segments_within.ensures

pub returns-else-holds : goal.returns-else-holds
returns-else-holds c = out_of_box c.args.self.now.a c.args.self.now.b c.args.p c.args.self.now.r c.bounds.result c.holds.result c.bounds.ensures.lawful c.bounds.ensures.value c.if-holds.false c.holds.ensures
