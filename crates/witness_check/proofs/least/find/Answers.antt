use Rattle.std.proofs.Common.{◌+◌, ◌<◌, IfSome, List, None, Option, arith, false, get_or, length, refl, subst, sym, ℕ}
use Rattle.std.proofs.lemmas.List.Elements.{All-get_or}
use Rattle.board_shapes.specs.Plain.{plain_board}
use Rattle.board_shapes.specs.Touching.{UnderAt}
use Rattle.witness_check.specs.Strips.{IsEnough}
use Rattle.witness_check.specs.declared.least.ProbePlace.{ProbePlace}
use Rattle.witness_check.proofs.Sweeping.{AreCounted, counted_more, counted_past, kept_all, under_all}
use Rattle.witness_check.proofs.least.find.Goals as goal

pub returns-then-point-interval-clause-counted : goal.returns-then-point-interval-clause-counted
returns-then-point-interval-clause-counted c = counted_past (UnderAt (plain_board c.args.board.now)) c.args.wanted.now c.loop-j.homes c.args.interval c.args.points.now c.args.from c.loop-j.j _ c.requires.places (omega arith) c.if-point-interval.true c.loop-j.invariant.2

pub loop-j-preserved : goal.loop-j-preserved
loop-j-preserved c =
    let U = UnderAt (plain_board c.args.board.now) in
    let homes = c.loop-j.homes in
    let met = c.meet.ensures in
    let next = met.next in
    let probe : ProbePlace = get_or c.args.points.now c.loop-j.j (record { place = 0; probe = 0 }) in
    let known : probe.probe < length (plain_board c.args.board.now).probes = All-get_or (λ s. s.probe < length (plain_board c.args.board.now).probes) c.args.points.now c.loop-j.j _ (omega arith) c.requires.probes in
    let room : probe.probe < length homes = let long = c.loop-j.auto.homes in let all = c.requires.room in omega arith in (
      (λ k h. subst (λ (hs : List (Option ℕ)). IfSome (get_or hs k None) (U k)) (sym met.is) (under_all U homes probe.probe next room met.right k (c.loop-j.invariant.0 k h))),
      (λ k p h. subst (λ (hs : List (Option ℕ)). IsEnough (get_or c.args.wanted.now k false) (get_or hs k None) p) (sym met.is) (kept_all c.args.wanted.now homes probe.probe next room met.kept k p (c.loop-j.invariant.1 k p h))),
      subst (λ (hs : List (Option ℕ)). AreCounted U c.args.wanted.now hs c.args.interval c.args.points.now c.args.from (c.loop-j.j + 1)) (sym met.is) (counted_more U c.args.wanted.now homes c.args.interval c.args.points.now c.args.from c.loop-j.j probe.probe _ next (omega arith) room refl met.kept met.counted c.loop-j.invariant.2),
    )
