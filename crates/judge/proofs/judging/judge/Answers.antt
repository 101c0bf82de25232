use Rattle.std.proofs.Common.{◌≡◌, ℕ, ◌<◌, ◌^◌, List, Option, All, sym, ap, ◌∙◌, subst, length}
use Rattle.board_shapes.specs.Plain.{PlainBoard, plain_board}
use Rattle.board_shapes.specs.Tables.{IsNear}
use Rattle.board_shapes.specs.Touching.{UnderAt}
use Rattle.tables.specs.Lists.{AreLeast}
use Rattle.verdict.specs.declared.verdict.PointLine.{PointLine}
use Rattle.verdict.specs.declared.verdict.Twig.{Twig}
use Rattle.verdict.specs.Forest.{IsForest}
use Rattle.verdict.specs.Right.{BeginsAtHome, HasBranches, all_opens, all_shorts, bare_from}
use Rattle.judge.specs.Judged.{AreLinesOn}
use Rattle.judge.proofs.Rights.{judged_right, pieces_long}
use Rattle.judge.proofs.judging.judge.Goals as goal

pub findings-requires : goal.findings-requires
findings-requires c = record {
  few = subst (λ (ns : List (List ℕ)). length ns < 2 ^ 32) (sym (c.as_slice.ensures ∙ c.in_ok-names.ensures)) c.names.ensures.few;
  names = c.as_slice.ensures ∙ (c.in_ok-names.ensures ∙ c.names.ensures.items);
  trees = subst (λ (ns : List (List Twig)). IsForest (length (plain_board c.args.board.now).pieces) (IsNear (plain_board c.args.board.now)) ns) (sym c.as_slice-nets.ensures) c.requires.trees;
  homes = subst (λ (hs : List (Option ℕ)). AreLeast (length (plain_board c.args.board.now).probes) (UnderAt (plain_board c.args.board.now)) hs) (sym c.as_slice-rows.ensures) c.requires.homes;
  lines = subst (λ (ls : List PointLine). AreLinesOn (plain_board c.args.board.now) c.as_slice-nets.result.now c.as_slice-rows.result.now ls) (sym c.as_slice-lines.ensures) c.in_ok-points.ensures;
}

pub returns-clause-right : goal.returns-clause-right
returns-clause-right c = λ t tables.
    let b : PlainBoard = plain_board c.args.board.now in
    let nets : List (List Twig) = c.as_slice-nets.result.now in
    let homes : List (Option ℕ) = c.as_slice-rows.result.now in
    let lines : List PointLine = c.as_slice-lines.result.now in
    let names : c.as_slice.result.now ≡ c.in_ok-names.names = c.as_slice.ensures in
    let points : lines ≡ c.in_ok-points.points = c.as_slice-lines.ensures in
    let on : AreLinesOn b c.args.trees c.args.homes c.in_ok-points.points = subst (λ (ns : List (List Twig)). AreLinesOn b ns c.args.homes c.in_ok-points.points) c.as_slice-nets.ensures (subst (λ (hs : List (Option ℕ)). AreLinesOn b nets hs c.in_ok-points.points) c.as_slice-rows.ensures c.in_ok-points.ensures) in
    judged_right b c.args.homes c.args.trees on.numbers c.in_ok-points.points c.in_ok-opens.opens c.in_ok-opens.shorts c.in_ok-bare.bare (length c.pieces-pieces.result.now) c.in_ok-names.names
    (pieces_long b c.pieces-pieces.result.now c.pieces-pieces.ensures.plain) (c.in_ok-names.ensures ∙ c.names.ensures.items) c.requires.trees on.told c.requires.homes on.made
    (c.in_ok-bare.ensures ∙ ap (bare_from 0) points)
    (c.in_ok-opens.ensures.opens ∙ (ap (λ (ns : List (List ℕ)). all_opens 0 ns lines) names ∙ ap (all_opens 0 c.in_ok-names.names) points))
    (c.in_ok-opens.ensures.outlines ∙ (ap (λ (xs : List (List Twig)). all_shorts 0 xs c.as_slice.result.now lines) c.as_slice-nets.ensures ∙ (ap (λ (ns : List (List ℕ)). all_shorts 0 c.args.trees ns lines) names ∙ ap (all_shorts 0 c.args.trees c.in_ok-names.names) points)))
    (subst (λ (xs : List (List Twig)). All (HasBranches xs (BeginsAtHome c.args.homes) c.in_ok-points.points) c.in_ok-opens.shorts) c.as_slice-nets.ensures
    (subst (λ (hs : List (Option ℕ)). All (HasBranches nets (BeginsAtHome hs) c.in_ok-points.points) c.in_ok-opens.shorts) c.as_slice-rows.ensures
    (subst (λ (ls : List PointLine). All (HasBranches nets (BeginsAtHome homes) ls) c.in_ok-opens.shorts) points c.in_ok-opens.ensures.branches)))
    t tables
