use Rattle.std.proofs.Common.{List, None, ◌<◌, arith, false, get_or, length, rules, subst, sym, ℕ}
use Rattle.std.proofs.lemmas.List.{get_or_default}
use Rattle.std.proofs.lemmas.Option.{slice_get_within}
use Rattle.board_shapes.proofs.Kept.{board_is_lawful}
use Rattle.board_shapes.specs.Plain.{plain_board}
use Rattle.board_shapes.specs.Touching.{UnderAt}
use Rattle.witness_check.specs.Strips.{AreIntervals, IsEnough}
use Rattle.witness_check.specs.declared.least.ProbePlace.{ProbePlace}
use Rattle.witness_check.specs.declared.strips.Interval.{Interval}
use Rattle.witness_check.proofs.Filing.{has_place, under_within}
use Rattle.witness_check.proofs.Sweeping.{counted_enough, found_more, found_none, least_found, one_found}
use Rattle.witness_check.proofs.least.find_all.Goals as goal

pub loop-interval-init : goal.loop-interval-init
loop-interval-init c = found_none (UnderAt (plain_board c.args.board.now)) c.args.wanted.now _ c.args.points.now _ c.args.homes.now c.requires.room c.requires.none

pub loop-interval-preserved : goal.loop-interval-preserved
loop-interval-preserved c =
    let b = plain_board c.args.board.now in
    let xs : List Interval = c.as_slice-intervals.result.now in
    let are = subst (AreIntervals b c.args.strips.now.height) (sym c.as_slice-intervals.ensures.value) c.requires.strips in
    found_more (UnderAt b) c.args.wanted.now xs c.args.points.now (length b.probes) c.loop-interval.interval-index c.loop-interval.from c.first_from-from.result _ c.loop-interval.homes c.find.new.homes are.rising (omega arith) (get_or_default xs c.loop-interval.interval-index _ _ (omega arith)) c.loop-interval.invariant
    c.first_from-from.ensures.within c.first_from-from.ensures.before (search rules) c.find.ensures.under c.find.ensures.kept c.find.ensures.counted

pub returns : goal.returns
returns c =
    let b = plain_board c.args.board.now in
    let height = c.args.strips.now.height in
    let xs : List Interval = c.as_slice-intervals.result.now in
    let ps : List ProbePlace = c.args.points.now in
    let are = subst (AreIntervals b height) (sym c.as_slice-intervals.ensures.value) c.requires.strips in
    let inv = c.loop-interval.invariant in
    let W = c.args.wanted.now in
    let enough : (k q : ℕ) → k < length b.probes → UnderAt b k q → IsEnough (get_or W k false) (get_or c.loop-interval.homes k None) q = λ k q below u. (
    let one = are.filed q (slice_get_within b.pieces q u.piece u.piece_is) in
    let set = c.requires.points.set k below in
    let within = under_within b height k q xs set.away (board_is_lawful c.args.board.now) one set.is u in
    counted_enough (UnderAt b) W c.loop-interval.homes xs ps k q _ (λ i j d e here there. inv.least i j d e (omega arith) there) (has_place b height q xs set.away (omega (arith, are.high)) one within) (set.listed within.along within.up) u
    ) in
    record {
      many = inv.long;
      each = λ k below. one_found (UnderAt b k) (get_or W k false) _ (inv.under k) (λ q u. enough k q below u);
      least = λ k below on. least_found (UnderAt b k) (get_or W k false) _ on (inv.under k) (λ q u. enough k q below u);
    }
