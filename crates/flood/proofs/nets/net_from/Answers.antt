use Rattle.std.proofs.Common.{◌≡◌, ℕ, List, length, arith, Contains, get_or, subst, sym, ap, None}
use Rattle.verdict.specs.declared.verdict.Twig.{Twig}
use Rattle.verdict.specs.Forest.{pieces_of}
use Rattle.cell_index.specs.Field.{IsNear, rivals_of}
use Rattle.flood.proofs.Seen.{unseen-set}
use Rattle.flood.proofs.Net.{asked_start, asked_step, asked_all, asked_ticks, failed_ticks, net_short, piece_inside, piece_below}
use Rattle.flood.proofs.nets.net_from.Goals as goal

pub returns-in_err-push-clause-ticks : goal.returns-in_err-push-clause-ticks
returns-in_err-push-clause-ticks g c =
    let e = unseen-set (rivals_of (g.F.Field.size c.args.field.now) (g.F.Field.extent c.args.field.now) (g.F.Field.top c.args.field.now) (g.F.Field.bottom c.args.field.now)) 0 c.args.seen.now c.args.first (omega arith) c.requires.fresh in omega arith

pub loop-at-init : goal.loop-at-init
loop-at-init g c =
    rw (c.in_ok-push.ensures.ok, c.in_ok-net.ensures) (asked_start (IsNear (g.F.Field.size c.args.field.now) (g.F.Field.touch c.args.field.now)) (rivals_of (g.F.Field.size c.args.field.now) (g.F.Field.extent c.args.field.now) (g.F.Field.top c.args.field.now) (g.F.Field.bottom c.args.field.now)) c.args.seen.now c.args.first c.args.tests.now (omega arith) c.requires.fresh c.requires.below)

pub spread-requires-clause-piece : goal.spread-requires-clause-piece
spread-requires-clause-piece g c =
    let near : ℕ → ℕ → Type 0 = IsNear (g.F.Field.size c.args.field.now) (g.F.Field.touch c.args.field.now) in
    let d : Twig = record { piece = 0; parent = None } in
    let inside = piece_inside c.loop-at.net c.loop-at.at (omega (arith, ap length c.as_slice.ensures)) in
    let below = piece_below near c.args.seen.now c.args.first c.loop-at.net c.loop-at.seen (get_or c.loop-at.net c.loop-at.at d).piece c.loop-at.invariant.grown inside in
    let same : (get_or c.as_slice-in-loop-at.result.now c.loop-at.at d).piece ≡ (get_or c.loop-at.net c.loop-at.at d).piece = ap (λ (xs : List Twig). (get_or xs c.loop-at.at d).piece) c.as_slice-in-loop-at.ensures in
    omega arith

pub spread-requires-clause-inside : goal.spread-requires-clause-inside
spread-requires-clause-inside g c =
    let d : Twig = record { piece = 0; parent = None } in
    let same : (get_or c.as_slice-in-loop-at.result.now c.loop-at.at d).piece ≡ (get_or c.loop-at.net c.loop-at.at d).piece = ap (λ (xs : List Twig). (get_or xs c.loop-at.at d).piece) c.as_slice-in-loop-at.ensures in
    subst (λ (x : ℕ). Contains (pieces_of c.loop-at.net) x) (sym same) (piece_inside c.loop-at.net c.loop-at.at (omega (arith, ap length c.as_slice.ensures)))

pub returns-in_err-spread-clause-ticks : goal.returns-in_err-spread-clause-ticks
returns-in_err-spread-clause-ticks g c =
    let d : Twig = record { piece = 0; parent = None } in
    failed_ticks _ (rivals_of (g.F.Field.size c.args.field.now) (g.F.Field.extent c.args.field.now) (g.F.Field.top c.args.field.now) (g.F.Field.bottom c.args.field.now)) _ _ _ c.loop-at.net c.loop-at.seen c.spread.new.seen c.loop-at.at _ _ _ c.loop-at.invariant (omega (arith, ap length c.as_slice.ensures))
    (ap (λ (xs : List Twig). (get_or xs c.loop-at.at d).piece) c.as_slice-in-loop-at.ensures) (c.spread.ensures.fewer (rivals_of (g.F.Field.size c.args.field.now) (g.F.Field.extent c.args.field.now) (g.F.Field.top c.args.field.now) (g.F.Field.bottom c.args.field.now))) c.spread.ensures.ticks

pub loop-at-smaller : goal.loop-at-smaller
loop-at-smaller g c =
    let e = net_short _ _ _ _ _ _ _ _ _ c.loop-at.invariant in omega (arith, ap length c.as_slice.ensures)

pub loop-at-preserved : goal.loop-at-preserved
loop-at-preserved g c =
    let d : Twig = record { piece = 0; parent = None } in
    asked_step _ _ _ _ _ c.loop-at.net c.spread.new.net c.in_ok-spread.ensures.more.0 c.loop-at.seen c.spread.new.seen c.loop-at.at _ _ _ c.loop-at.invariant (omega (arith, ap length c.as_slice.ensures))
    (ap (λ (xs : List Twig). (get_or xs c.loop-at.at d).piece) c.as_slice-in-loop-at.ensures)
    (c.in_ok-spread.ensures.grown c.args.seen.now c.args.first c.loop-at.invariant.grown) c.in_ok-spread.ensures.more.1 c.in_ok-spread.ensures.stays c.in_ok-spread.ensures.all c.in_ok-spread.ensures.kept c.spread.ensures.ticks

pub returns-clause-whole : goal.returns-clause-whole
returns-clause-whole g c = asked_all _ _ _ _ _ _ _ _ _ c.loop-at.invariant (omega (arith, ap length c.as_slice.ensures))

pub returns-clause-ticks : goal.returns-clause-ticks
returns-clause-ticks g c = asked_ticks _ _ _ _ _ _ _ _ _ c.loop-at.invariant (omega (arith, ap length c.as_slice.ensures))
