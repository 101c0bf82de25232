use Rattle.std.proofs.Common.{rules}
use Rattle.contact.proofs.Rounds.{half_reach, in_frame, radii_read, meets_read}
use Rattle.contact.proofs.round.capsules_share.Goals as goal

pub segments_within-requires-clause-a_in_frame : goal.segments_within-requires-clause-a_in_frame
segments_within-requires-clause-a_in_frame c = (in_frame c.args.first.now.a c.args.first.now.b c.args.first.now.r c.args.frame c.args.first.now.radius.0 c.requires.first_inside).0

pub segments_within-requires-clause-b_in_frame : goal.segments_within-requires-clause-b_in_frame
segments_within-requires-clause-b_in_frame c = (in_frame c.args.first.now.a c.args.first.now.b c.args.first.now.r c.args.frame c.args.first.now.radius.0 c.requires.first_inside).1

pub segments_within-requires-clause-c_in_frame : goal.segments_within-requires-clause-c_in_frame
segments_within-requires-clause-c_in_frame c = (in_frame c.args.second.now.a c.args.second.now.b c.args.second.now.r c.args.frame c.args.second.now.radius.0 c.requires.second_inside).0

pub segments_within-requires-clause-d_in_frame : goal.segments_within-requires-clause-d_in_frame
segments_within-requires-clause-d_in_frame c = (in_frame c.args.second.now.a c.args.second.now.b c.args.second.now.r c.args.frame c.args.second.now.radius.0 c.requires.second_inside).1

pub segments_within-requires-clause-radius : goal.segments_within-requires-clause-radius
segments_within-requires-clause-radius c =
    radii_read c.args.first.now.r c.args.second.now.r (search rules) (search rules)
    c.args.first.now.radius.0 (half_reach c.args.first.now.r c.args.first.now.radius)
    c.args.second.now.radius.0 (half_reach c.args.second.now.r c.args.second.now.radius)

pub returns : goal.returns
returns c =
    meets_read c.args.first.now.a c.args.first.now.b c.args.first.now.r c.args.second.now.a c.args.second.now.b c.args.second.now.r _ (search rules) (search rules)
    c.args.first.now.radius.0 (half_reach c.args.first.now.r c.args.first.now.radius)
    c.args.second.now.radius.0 (half_reach c.args.second.now.r c.args.second.now.radius)
    c.segments_within.ensures
