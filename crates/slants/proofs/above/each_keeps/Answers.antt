use Rattle.std.proofs.Common.{pos}
use Rattle.planar.specs.declared.Spot.{Spot}
use Rattle.planar.specs.Plane.{EachFrom}
use Rattle.slants.specs.Rounds.{on_way}
use Rattle.slants.specs.Taken.{Keeps}
use Rattle.tables.proofs.Links.{is_not, is_so, link_fails, link_more, links_left}
use Rattle.slants.proofs.above.each_keeps.Goals as goal

pub loop-to-preserved : goal.loop-to-preserved
loop-to-preserved c =
    let keeps : Spot → Spot → Type 0 = on_way c.args.back (Keeps c.args.slant.now (pos c.args.root)) in (
      c.requires.rest_placed c.loop-to.to-index _ c.loop-to-test.true,
      link_more keeps (EachFrom keeps) (EachFrom keeps c.args.start c.args.rest.now) c.loop-to.from c.args.rest.now c.loop-to.to-index _ c.loop-to-test.true (λ to xs. (λ h. h, λ h. h)) c.loop-to.invariant.1 (c.keeps_so.ensures.0 c.if-not-keeps_so.false),
    )

pub returns-then-not-keeps_so : goal.returns-then-not-keeps_so
returns-then-not-keeps_so c =
    let keeps : Spot → Spot → Type 0 = on_way c.args.back (Keeps c.args.slant.now (pos c.args.root)) in
    is_not (link_fails keeps (EachFrom keeps) (EachFrom keeps c.args.start c.args.rest.now) c.loop-to.from c.args.rest.now c.loop-to.to-index record { x = pos 0; y = pos 0 } c.loop-to-test.true (λ to xs. (λ h. h, λ h. h)) c.loop-to.invariant.1 (λ h. (let yes = c.keeps_so.ensures.1 h in let not_so = c.if-not-keeps_so.true in cc)))

pub returns : goal.returns
returns c =
    let keeps : Spot → Spot → Type 0 = on_way c.args.back (Keeps c.args.slant.now (pos c.args.root)) in
    is_so ((links_left (EachFrom keeps) (EachFrom keeps c.args.start c.args.rest.now) c.loop-to.from c.args.rest.now c.loop-to.to-index c.loop-to-test.false c.loop-to.invariant.1).0 tt)
