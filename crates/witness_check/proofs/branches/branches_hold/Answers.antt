use Rattle.std.proofs.Common.{ℕ, ◌+◌, ◌<◌, ◌∷◌, [], List, length, set, arith, subst, ◌∙◌}
use Rattle.std.proofs.lemmas.List.{get_or_read, length-set}
use Rattle.verdict.specs.declared.verdict.Branch.{Branch}
use Rattle.verdict.specs.declared.verdict.Twig.{Twig}
use Rattle.verdict.specs.declared.verdict.Mark.{Mark}
use Rattle.verdict.specs.Forest.{first_piece}
use Rattle.verdict.specs.Right.{AreBranches, BeginsAtHome}
use Rattle.witness_check.specs.Marked.{AreStamped}
use Rattle.witness_check.proofs.Told.{refuted, proved, told, denied}
use Rattle.witness_check.proofs.Stamping.{stamped_first}
use Rattle.witness_check.proofs.Branching.{IsInHand, first_placed, hand_placed, in_hand, right_done, right_more, right_stops}
use Rattle.witness_check.proofs.branches.branches_hold.Goals as goal

pub are_branches-requires-clause-places : goal.are_branches-requires-clause-places
are_branches-requires-clause-places c =
    let s = c.index-shorts-i.result in
    let net : List Twig = c.as_slice-net.result.now in
    let row : List Mark = c.as_slice-names.result.now in
    let hand : IsInHand c.args.nets.now c.args.marks.now c.args.shorts.now c.loop-i.i s net row =
    in_hand c.args.nets.now c.args.marks.now c.args.shorts.now c.loop-i.i s net row c.requires.long c.requires.marked (omega arith) c.index-shorts-i.is
    (λ there. c.as_slice-net.ensures ∙ get_or_read c.args.nets.now s.net c.index-nets-short.result there c.index-nets-short.is [])
    (λ there. c.as_slice-names.ensures ∙ get_or_read c.args.marks.now s.net c.index-marks-short.result there c.index-marks-short.is []) in
    hand_placed c.args.nets.now c.args.marks.now c.args.shorts.now c.loop-i.i s net row c.args.places.now hand c.requires.placed

pub bounds-stamps-first_of : goal.bounds-stamps-first_of
bounds-stamps-first_of c =
    let s = c.index-shorts-i.result in
    let net : List Twig = c.as_slice-net.result.now in
    let row : List Mark = c.as_slice-names.result.now in
    let hand : IsInHand c.args.nets.now c.args.marks.now c.args.shorts.now c.loop-i.i s net row =
    in_hand c.args.nets.now c.args.marks.now c.args.shorts.now c.loop-i.i s net row c.requires.long c.requires.marked (omega arith) c.index-shorts-i.is
    (λ there. c.as_slice-net.ensures ∙ get_or_read c.args.nets.now s.net c.index-nets-short.result there c.index-nets-short.is [])
    (λ there. c.as_slice-names.ensures ∙ get_or_read c.args.marks.now s.net c.index-marks-short.result there c.index-marks-short.is []) in
    let e = first_placed c.args.nets.now c.args.marks.now c.args.shorts.now c.loop-i.i s net row c.args.places.now c.max.result hand c.requires.placed c.max.ensures in
    let f = c.as_mut_slice-stamps.ensures.len in
    let g = c.in_ok-ends.ensures.len in
    let h = c.loop-i.invariant.long in
    omega (arith, c.first_of.ensures.value)

pub are_branches-requires-clause-first : goal.are_branches-requires-clause-first
are_branches-requires-clause-first c =
    let s = c.index-shorts-i.result in
    let net : List Twig = c.as_slice-net.result.now in
    let row : List Mark = c.as_slice-names.result.now in
    let hand : IsInHand c.args.nets.now c.args.marks.now c.args.shorts.now c.loop-i.i s net row =
    in_hand c.args.nets.now c.args.marks.now c.args.shorts.now c.loop-i.i s net row c.requires.long c.requires.marked (omega arith) c.index-shorts-i.is
    (λ there. c.as_slice-net.ensures ∙ get_or_read c.args.nets.now s.net c.index-nets-short.result there c.index-nets-short.is [])
    (λ there. c.as_slice-names.ensures ∙ get_or_read c.args.marks.now s.net c.index-marks-short.result there c.index-marks-short.is []) in
    let e = first_placed c.args.nets.now c.args.marks.now c.args.shorts.now c.loop-i.i s net row c.args.places.now c.max.result hand c.requires.placed c.max.ensures in
    let f = c.as_mut_slice-stamps.ensures.len in
    let g = c.in_ok-ends.ensures.len in
    let h = c.loop-i.invariant.long in
    let below : c.first_of.result < length c.loop-i.stamps = omega (arith, c.first_of.ensures.value) in
    subst (λ (q : ℕ). AreStamped (q ∷ []) (c.loop-i.i + 1) (set c.loop-i.stamps c.first_of.result (c.loop-i.i + 1))) c.first_of.ensures.value (stamped_first c.loop-i.i (c.loop-i.i + 1) c.loop-i.stamps c.first_of.result (omega arith) below c.loop-i.invariant.highest)

pub returns-then-not-are_branches : goal.returns-then-not-are_branches
returns-then-not-are_branches c = λ lines firsts.
    let s = c.index-shorts-i.result in
    let net : List Twig = c.as_slice-net.result.now in
    let row : List Mark = c.as_slice-names.result.now in
    let hand : IsInHand c.args.nets.now c.args.marks.now c.args.shorts.now c.loop-i.i s net row =
    in_hand c.args.nets.now c.args.marks.now c.args.shorts.now c.loop-i.i s net row c.requires.long c.requires.marked (omega arith) c.index-shorts-i.is
    (λ there. c.as_slice-net.ensures ∙ get_or_read c.args.nets.now s.net c.index-nets-short.result there c.index-nets-short.is [])
    (λ there. c.as_slice-names.ensures ∙ get_or_read c.args.marks.now s.net c.index-marks-short.result there c.index-marks-short.is []) in
    refuted _ (right_stops c.args.nets.now c.args.marks.now c.args.homes.now c.args.shorts.now c.loop-i.i s net row hand
    (λ number ls first. subst (λ (bs : List Branch). AreBranches net (BeginsAtHome c.args.homes.now) ls number (first_piece net ∷ []) bs → ⊥) c.as_slice-branches.ensures (denied c.are_branches.result _ (c.are_branches.ensures.right number ls first) c.if-not-are_branches.true)) lines firsts)

pub loop-i-preserved : goal.loop-i-preserved
loop-i-preserved c =
    let s = c.index-shorts-i.result in
    let net : List Twig = c.as_slice-net.result.now in
    let row : List Mark = c.as_slice-names.result.now in
    let hand : IsInHand c.args.nets.now c.args.marks.now c.args.shorts.now c.loop-i.i s net row =
    in_hand c.args.nets.now c.args.marks.now c.args.shorts.now c.loop-i.i s net row c.requires.long c.requires.marked (omega arith) c.index-shorts-i.is
    (λ there. c.as_slice-net.ensures ∙ get_or_read c.args.nets.now s.net c.index-nets-short.result there c.index-nets-short.is [])
    (λ there. c.as_slice-names.ensures ∙ get_or_read c.args.marks.now s.net c.index-marks-short.result there c.index-marks-short.is []) in
    let long = length-set c.loop-i.stamps c.first_of.result (c.loop-i.i + 1) in
    right_more c.args.nets.now c.args.marks.now c.args.homes.now c.args.shorts.now _ c.loop-i.i c.loop-i.stamps c.are_branches.new.stamps s net row hand (omega arith) c.are_branches.ensures.highest
    (λ number ls first. subst (AreBranches net (BeginsAtHome c.args.homes.now) ls number (first_piece net ∷ [])) c.as_slice-branches.ensures (told c.are_branches.result _ (c.are_branches.ensures.right number ls first) c.if-not-are_branches.false)) c.loop-i.invariant

pub returns : goal.returns
returns c = λ lines firsts. proved _ (right_done c.args.nets.now c.args.marks.now c.args.homes.now c.args.shorts.now _ c.loop-i.i c.loop-i.stamps (omega arith) c.loop-i.invariant lines firsts)
