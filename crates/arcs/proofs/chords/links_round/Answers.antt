use Rattle.std.proofs.Common.{pos}
use Rattle.planar.specs.declared.Spot.{Spot}
use Rattle.planar.specs.Plane.{EachFrom}
use Rattle.arcs.specs.Chains.{EndsAt, IsLink}
use Rattle.tables.proofs.Links.{is_not, link_fails, link_more, links_left}
use Rattle.arcs.proofs.chords.links_round.Goals as goal

pub loop-to-preserved : goal.loop-to-preserved
loop-to-preserved c =
    let link : Spot → Spot → Type 0 = IsLink c.args.arc.now.centre (pos c.args.ring.0) (pos c.args.ring.1) in (
      c.requires.rest_placed c.loop-to.to-index _ c.loop-to-test.true,
      link_more link (EachFrom link) (EachFrom link c.args.start c.args.rest.now) c.loop-to.from c.args.rest.now c.loop-to.to-index _ c.loop-to-test.true (λ to xs. (λ h. h, λ h. h)) c.loop-to.invariant.1 (c.is_chord.ensures.0 c.if-not-is_chord.false),
      link_more (λ a b. Unit {0}) (EndsAt c.args.arc.now.end) (EndsAt c.args.arc.now.end c.args.start c.args.rest.now) c.loop-to.from c.args.rest.now c.loop-to.to-index _ c.loop-to-test.true (λ to xs. (λ h. (tt, h), λ h. h.1)) c.loop-to.invariant.2 tt,
    )

pub returns-then-not-is_chord : goal.returns-then-not-is_chord
returns-then-not-is_chord c =
    let link : Spot → Spot → Type 0 = IsLink c.args.arc.now.centre (pos c.args.ring.0) (pos c.args.ring.1) in
    is_not (λ q. link_fails link (EachFrom link) (EachFrom link c.args.start c.args.rest.now) c.loop-to.from c.args.rest.now c.loop-to.to-index record { x = pos 0; y = pos 0 } c.loop-to-test.true (λ to xs. (λ h. h, λ h. h)) c.loop-to.invariant.1 (λ h. (let yes = c.is_chord.ensures.1 h in let not_so = c.if-not-is_chord.true in cc)) q.0)

pub returns : goal.returns
returns c =
    let link : Spot → Spot → Type 0 = IsLink c.args.arc.now.centre (pos c.args.ring.0) (pos c.args.ring.1) in
    let each = links_left (EachFrom link) (EachFrom link c.args.start c.args.rest.now) c.loop-to.from c.args.rest.now c.loop-to.to-index c.loop-to-test.false c.loop-to.invariant.1 in
    let end = links_left (EndsAt c.args.arc.now.end) (EndsAt c.args.arc.now.end c.args.start c.args.rest.now) c.loop-to.from c.args.rest.now c.loop-to.to-index c.loop-to-test.false c.loop-to.invariant.2 in
    (λ yes. (each.0 tt, end.0 (c.is_same.ensures.same.0 yes)), λ q. c.is_same.ensures.same.1 (end.1 q.1))
