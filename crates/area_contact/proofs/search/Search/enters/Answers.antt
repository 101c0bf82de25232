use Rattle.std.proofs.Common.{rules}
use Rattle.area_contact.proofs.Told.{parts_in_frame, parts_radius, reach_read, reach_none}
use Rattle.area_contact.proofs.search.Search.enters.Goals as goal

pub segments_within-requires-clause-c_in_frame : goal.segments_within-requires-clause-c_in_frame
segments_within-requires-clause-c_in_frame c =
    (parts_in_frame c.args.self.now.capsule.now.a c.args.self.now.capsule.now.b c.parts-r.result.0 c.parts-r.result.1 c.args.self.now.capsule.now.r c.args.self.now.frame c.args.self.now.capsule.now.radius.0 c.parts-r.ensures.start c.parts-r.ensures.end c.args.self.now.inside).0

pub segments_within-requires-clause-d_in_frame : goal.segments_within-requires-clause-d_in_frame
segments_within-requires-clause-d_in_frame c =
    (parts_in_frame c.args.self.now.capsule.now.a c.args.self.now.capsule.now.b c.parts-r.result.0 c.parts-r.result.1 c.args.self.now.capsule.now.r c.args.self.now.frame c.args.self.now.capsule.now.radius.0 c.parts-r.ensures.start c.parts-r.ensures.end c.args.self.now.inside).1

pub segments_within-requires-clause-radius : goal.segments_within-requires-clause-radius
segments_within-requires-clause-radius c =
    parts_radius c.args.self.now.capsule.now.r c.parts-r.result.2 (search rules) c.args.self.now.capsule.now.radius c.parts-r.ensures.radius

pub returns-else-r-eq0 : goal.returns-else-r-eq0
returns-else-r-eq0 c =
    reach_read c.args.start c.args.end c.args.self.now.capsule.now.a c.args.self.now.capsule.now.b c.parts-r.result.0 c.parts-r.result.1 c.args.self.now.capsule.now.r c.parts-r.result.2 c.segments_within.result (search rules)
    c.parts-r.ensures.start c.parts-r.ensures.end c.parts-r.ensures.radius c.segments_within.ensures

pub returns-then-r-eq0 : goal.returns-then-r-eq0
returns-then-r-eq0 c =
    reach_none c.args.start c.args.end c.args.self.now.capsule.now.a c.args.self.now.capsule.now.b c.parts-r.result.0 c.parts-r.result.1 c.args.self.now.capsule.now.r c.parts-r.result.2 c.segments_meet.result (search rules)
    c.parts-r.ensures.start c.parts-r.ensures.end c.parts-r.ensures.radius c.if-r-eq0.true c.segments_meet.ensures
