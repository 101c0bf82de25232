use Rattle.std.proofs.Common.{arith, below_more, below_none}
use Rattle.std.proofs.lemmas.Option.{slice_get_within}
use Rattle.cell_index.specs.Among.{UnderAmong}
use Rattle.cell_index.proofs.Pairs.{not_below}
use Rattle.cell_index.proofs.all_pairs.AllPairsField.least_at.Goals as goal

pub loop-p-init : goal.loop-p-init
loop-p-init g c = below_none (λ q. UnderAmong g.S.Closed.holds c.args.self.now.items.now c.args.at c.args.layer q → ⊥)

pub loop-p-preserved : goal.loop-p-preserved
loop-p-preserved g c = below_more (λ q. UnderAmong g.S.Closed.holds c.args.self.now.items.now c.args.at c.args.layer q → ⊥) c.loop-p.p c.loop-p.invariant (λ u. (let t = c.is_under.ensures.1 u in let f = c.if-is_under.false in cc))

pub returns-then-is_under-clause-least : goal.returns-then-is_under-clause-least
returns-then-is_under-clause-least g c = (c.is_under.ensures.0 c.if-is_under.true, λ p u. not_below p c.loop-p.p (λ below. c.loop-p.invariant p below u))

pub returns-clause-least : goal.returns-clause-least
returns-clause-least g c = λ p u. let inside = slice_get_within c.args.self.now.items.now p u.item u.there in c.loop-p.invariant p (omega arith) u
