use Rattle.std.proofs.Common.{ℕ, pos, refl}
use Rattle.planar.specs.declared.Spot.{Spot}
use Rattle.slants.specs.Discs.{DiscAbove}
use Rattle.turned_outlines.specs.Taken.{EachOfBoth, corner_of}
use Rattle.turned_outlines.proofs.Both.{as_long, done, next, turn}
use Rattle.turned_outlines.proofs.above.are_near.Goals as goal

abbrev zero_spot : Spot
zero_spot = record { x = pos 0; y = pos 0 }

abbrev Stays : Spot → ℕ → ℕ → Spot → Spot → Type 0
Stays about angle r a b = DiscAbove (corner_of a about angle) b r

pub returns-then-figure-corners : goal.returns-then-figure-corners
returns-then-figure-corners c = (λ t. absurd (let f = t in cc), λ h. absurd (c.if-figure-corners.true (as_long (Stays c.args.about c.args.angle c.args.r) c.args.figure.now c.args.corners.now h)))

pub loop-i-preserved : goal.loop-i-preserved
loop-i-preserved c =
    turn (Stays c.args.about c.args.angle c.args.r) c.args.figure.now c.args.corners.now c.loop-i.i zero_spot c.if-figure-corners.false c.loop-i-test.true
    (EachOfBoth (Stays c.args.about c.args.angle c.args.r) c.args.figure.now c.args.corners.now) (c.is_near.ensures.0 c.if-not-is_near.false) c.loop-i.invariant

pub returns-then-not-is_near : goal.returns-then-not-is_near
returns-then-not-is_near c = (
  λ t. absurd (let f = t in cc),
  λ w.
      let t = c.is_near.ensures.1 (next (Stays c.args.about c.args.angle c.args.r) c.args.figure.now c.args.corners.now c.loop-i.i zero_spot c.if-figure-corners.false c.loop-i-test.true (c.loop-i.invariant.1 w)) in
      let f = c.if-not-is_near.true in
      absurd cc,
)

pub returns : goal.returns
returns c = (λ t. c.loop-i.invariant.0 (done (Stays c.args.about c.args.angle c.args.r) c.args.figure.now c.args.corners.now c.loop-i.i c.if-figure-corners.false c.loop-i-test.false), λ w. refl)
