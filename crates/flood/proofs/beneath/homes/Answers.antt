use Rattle.std.proofs.Common.{◌<◌, IfSome, arith}
use Rattle.std.proofs.lemmas.List.Elements.{All-push, All-get_or}
use Rattle.planar.specs.Plane.{IsPlaced}
use Rattle.flood.proofs.Points.{homes_more, homes_all}
use Rattle.flood.proofs.beneath.homes.Goals as goal

pub least_at-home-requires : goal.least_at-home-requires
least_at-home-requires g c = All-get_or (λ probe. IsPlaced probe.at) c.args.probes.now c.loop-i.i _ (omega arith) c.requires

pub loop-i-preserved : goal.loop-i-preserved
loop-i-preserved g c =
    rw c.in_ok-push.ensures.ok (
      homes_more (g.F.Field.beneath c.args.field.now) c.args.probes.now c.loop-i.rows c.loop-i.i _ c.least_at-home.result (omega arith) c.loop-i.invariant.0 c.least_at-home.ensures.least,
      All-push (λ home. IfSome home (λ piece. piece < g.F.Field.size c.args.field.now)) c.loop-i.rows c.least_at-home.result c.loop-i.invariant.1 c.least_at-home.ensures.piece,
    )

pub returns-clause-least : goal.returns-clause-least
returns-clause-least g c = homes_all (g.F.Field.beneath c.args.field.now) c.args.probes.now c.loop-i.rows c.loop-i.i (omega arith) c.loop-i.invariant.0
