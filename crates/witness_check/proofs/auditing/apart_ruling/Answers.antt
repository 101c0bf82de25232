use Rattle.std.proofs.Common.{arith, inr, ℕ, List, get_or, ap, subst, ◌∙◌}
use Rattle.board_shapes.specs.Plain.{plain_board}
use Rattle.verdict.specs.declared.verdict.Twig.{Twig}
use Rattle.verdict.specs.Forest.{Holds}
use Rattle.witness_check.proofs.Parts.{apart_denied, apart_told}
use Rattle.witness_check.proofs.Clauses.{apart_fail}
use Rattle.witness_check.proofs.auditing.apart_ruling.Goals as goal

pub stand_apart-requires-clause-known : goal.stand_apart-requires-clause-known
stand_apart-requires-clause-known g c = λ i p h. c.requires.trees.known i p (subst (λ (n : List (List Twig)). Holds n i p) c.as_slice-nets.ensures h)

pub stand_apart-requires-clause-numbers : goal.stand_apart-requires-clause-numbers
stand_apart-requires-clause-numbers g c = λ i p h. ap (λ (xs : List ℕ). get_or xs p 0) c.as_slice-numbers.ensures.value ∙ c.requires.stood.numbered i p (subst (λ (n : List (List Twig)). Holds n i p) c.as_slice-nets.ensures h)

pub returns-then-not-stand_apart-clause-rules : goal.returns-then-not-stand_apart-clause-rules
returns-then-not-stand_apart-clause-rules g c =
    λ t is. apart_fail (plain_board c.args.board.now) t c.args.v.now is c.requires.trees c.requires.stood.once (apart_denied (plain_board c.args.board.now) c.as_slice-nets.result.now c.args.v.now.nets c.stand_apart.result c.as_slice-nets.ensures c.stand_apart.ensures.apart c.if-not-stand_apart.true)

pub points_ruling-requires-clause-forest : goal.points_ruling-requires-clause-forest
points_ruling-requires-clause-forest g c = record {
  trees = c.requires.trees;
  covers = c.requires.stood.once;
  apart = apart_told (plain_board c.args.board.now) c.as_slice-nets.result.now c.args.v.now.nets c.stand_apart.result c.as_slice-nets.ensures c.stand_apart.ensures.apart c.if-not-stand_apart.false;
}

pub returns-then-not-stand_apart-clause-tests : goal.returns-then-not-stand_apart-clause-tests
returns-then-not-stand_apart-clause-tests g c = let apart = c.stand_apart.ensures.tests in inr (record { height = c.in_ok-strips.strips.height; intervals = c.in_ok-strips.strips.intervals.items; are = c.in_ok-strips.ensures; few = omega (arith, apart) })

pub returns-clause-tests : goal.returns-clause-tests
returns-clause-tests g c = let apart = c.stand_apart.ensures.tests in inr (record { height = c.in_ok-strips.strips.height; intervals = c.in_ok-strips.strips.intervals.items; are = c.in_ok-strips.ensures; few = omega (arith, apart) })
