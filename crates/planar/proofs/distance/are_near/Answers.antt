use Rattle.std.proofs.Common.{pos, inl, inr}
use Rattle.planar.proofs.SpotWithin.{start_reaches, end_reaches}
use Rattle.planar.proofs.distance.are_near.Goals as goal

pub returns-then-spots_within : goal.returns-then-spots_within
returns-then-spots_within c = λ h. inl (start_reaches c.args.c c.args.d (pos c.args.r) c.args.a (c.spots_within.ensures.0 c.if-spots_within.true))

pub returns-else-spots_within : goal.returns-else-spots_within
returns-else-spots_within c = λ h. inr (end_reaches c.args.c c.args.d (pos c.args.r) c.args.b (c.spots_within-else-spots_within.ensures.0 h))
