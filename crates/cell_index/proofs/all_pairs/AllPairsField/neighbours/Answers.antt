use Rattle.std.proofs.Common.{◌∙◌, ◌<◌, ◌∷◌, ◌++◌, [], List, ℕ, true, length, add-one, ap, arith, refl, sym, subst}
use Rattle.std.specs.Prelude.{All, Contains}
use Rattle.cell_index.specs.Among.{TouchAmong}
use Rattle.cell_index.specs.Field.{IsNear}
use Rattle.cell_index.proofs.Found.{listed_rises, passing_has, passing_known}
use Rattle.cell_index.proofs.Whole.{near_listed}
use Rattle.cell_index.proofs.all_pairs.AllPairsField.neighbours.Goals as goal

pub loop-q-preserved : goal.loop-q-preserved
loop-q-preserved g c = rw add-one (c.in_default.ensures.items ∙ ap (λ (xs : List ℕ). xs ++ c.loop-q.q ∷ []) c.loop-q.invariant)

pub keep_near-requires-clause-known : goal.keep_near-requires-clause-known
keep_near-requires-clause-known g c =
    let end = c.loop-q.auto.q-end in
    subst (λ (xs : List ℕ). All (λ q. q < length c.args.self.now.items.now) xs) (sym c.loop-q.invariant) (passing_known (λ p. true) c.loop-q.q (length c.args.self.now.items.now) (omega arith))

pub keep_near-requires-clause-rising : goal.keep_near-requires-clause-rising
keep_near-requires-clause-rising g c = listed_rises (λ p. true) c.loop-q.q c.loop-q.into.items c.loop-q.invariant

pub returns-clause-near : goal.returns-clause-near
returns-clause-near g c = near_listed (IsNear (length c.args.self.now.items.now) (TouchAmong g.S.Closed.holds c.args.self.now.items.now) c.args.i) c.loop-q.into.items c.keep_near.new.into.items
    (λ q near. let below = near.second in subst (λ (xs : List ℕ). Contains xs q) (sym c.loop-q.invariant) (passing_has (λ p. true) c.loop-q.q q (omega arith) refl))
    c.keep_near.ensures.near
