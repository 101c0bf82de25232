use Rattle.std.proofs.Common.{pos}
use Rattle.planar.specs.Plane.{at}
use Rattle.planar.specs.declared.Spot.{Spot}
use Rattle.slants.specs.Copper.{InSlant}
use Rattle.slants.specs.Taken.{Each}
use Rattle.tables.proofs.Links.{is_not, is_so, link_fails, link_more, links_left}
use Rattle.slants.proofs.below.has_corners.Goals as goal

pub loop-q-preserved : goal.loop-q-preserved
loop-q-preserved c =
    let within : Spot → Type 0 = λ q. InSlant c.args.slant.now (at q) in
    link_more (λ o q. within q) (λ o qs. Each within qs) (Each within c.args.points.now) record { x = pos 0; y = pos 0 } c.args.points.now c.loop-q.q-index record { x = pos 0; y = pos 0 } c.loop-q-test.true (λ q qs. (λ h. h, λ h. h)) c.loop-q.invariant (c.has_corner.ensures.0 c.if-not-has_corner.false)

pub returns-then-not-has_corner : goal.returns-then-not-has_corner
returns-then-not-has_corner c =
    let within : Spot → Type 0 = λ q. InSlant c.args.slant.now (at q) in
    is_not (link_fails (λ o q. within q) (λ o qs. Each within qs) (Each within c.args.points.now) record { x = pos 0; y = pos 0 } c.args.points.now c.loop-q.q-index record { x = pos 0; y = pos 0 } c.loop-q-test.true (λ q qs. (λ h. h, λ h. h)) c.loop-q.invariant (λ h. (let yes = c.has_corner.ensures.1 h in let not_so = c.if-not-has_corner.true in cc)))

pub returns : goal.returns
returns c =
    let within : Spot → Type 0 = λ q. InSlant c.args.slant.now (at q) in
    is_so ((links_left (λ o qs. Each within qs) (Each within c.args.points.now) record { x = pos 0; y = pos 0 } c.args.points.now c.loop-q.q-index c.loop-q-test.false c.loop-q.invariant).0 tt)
