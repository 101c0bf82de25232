use Rattle.std.proofs.Common.{pos}
use Rattle.planar.specs.declared.Spot.{Spot}
use Rattle.planar.specs.Plane.{EachFrom}
use Rattle.arcs.specs.Chains.{IsInner}
use Rattle.tables.proofs.Links.{is_not, is_so, link_fails, link_more, links_left}
use Rattle.arcs.proofs.chords.links_inside.Goals as goal

pub loop-to-preserved : goal.loop-to-preserved
loop-to-preserved c =
    let inner : Spot → Spot → Type 0 = IsInner c.args.arc.now.centre c.args.arc.now.start c.args.arc.now.end (pos c.args.ring.0) (pos c.args.ring.1) in (
      c.requires.rest_placed c.loop-to.to-index _ c.loop-to-test.true,
      link_more inner (EachFrom inner) (EachFrom inner c.args.start c.args.rest.now) c.loop-to.from c.args.rest.now c.loop-to.to-index _ c.loop-to-test.true (λ to xs. (λ h. h, λ h. h)) c.loop-to.invariant.1 (c.is_inner.ensures.0 c.if-not-is_inner.false),
    )

pub returns-then-not-is_inner : goal.returns-then-not-is_inner
returns-then-not-is_inner c =
    let inner : Spot → Spot → Type 0 = IsInner c.args.arc.now.centre c.args.arc.now.start c.args.arc.now.end (pos c.args.ring.0) (pos c.args.ring.1) in
    is_not (link_fails inner (EachFrom inner) (EachFrom inner c.args.start c.args.rest.now) c.loop-to.from c.args.rest.now c.loop-to.to-index record { x = pos 0; y = pos 0 } c.loop-to-test.true (λ to xs. (λ h. h, λ h. h)) c.loop-to.invariant.1 (λ h. (let yes = c.is_inner.ensures.1 h in let not_so = c.if-not-is_inner.true in cc)))

pub returns : goal.returns
returns c =
    let inner : Spot → Spot → Type 0 = IsInner c.args.arc.now.centre c.args.arc.now.start c.args.arc.now.end (pos c.args.ring.0) (pos c.args.ring.1) in
    is_so ((links_left (EachFrom inner) (EachFrom inner c.args.start c.args.rest.now) c.loop-to.from c.args.rest.now c.loop-to.to-index c.loop-to-test.false c.loop-to.invariant.1).0 tt)
