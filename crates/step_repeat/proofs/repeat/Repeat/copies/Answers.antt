use Rattle.std.proofs.Common.{◌≡◌, length, Ok, rules, ap, sym, ◌∙◌}
use Rattle.std.proofs.lemmas.Bool.{eqb-true}
use Rattle.step_repeat.specs.Copies.{copies_by, pieces_by}
use Rattle.step_repeat.proofs.Listing.{few, no_copies, no_room_fault}
use Rattle.step_repeat.proofs.repeat.Repeat.copies.Goals as goal

pub returns-then-is_empty-clause-ok : goal.returns-then-is_empty-clause-ok
returns-then-is_empty-clause-ok g c =
    let none : length c.args.block.now ≡ 0 = eqb-true _ _ (sym c.is_empty.ensures ∙ c.if-is_empty.true) in
    no_copies g.F.Figure.plain g.F.Figure.handling c.args.self.now c.args.room c.args.block.now c.new-copies.result.items none (ap length c.new-copies.ensures.items)

pub returns-then-is_empty-clause-by_room : goal.returns-then-is_empty-clause-by_room
returns-then-is_empty-clause-by_room g c =
    let none : length c.args.block.now ≡ 0 = eqb-true _ _ (sym c.is_empty.ensures ∙ c.if-is_empty.true) in
    rw (no_room_fault g.F.Figure.plain g.F.Figure.handling c.args.self.now c.args.room c.args.block.now none) tt

pub returns-clause-few : goal.returns-clause-few
unfolding copies_by
returns-clause-few g c =
    let made : copies_by g.F.Figure.handling c.args.self.now c.args.room (pieces_by g.F.Figure.plain c.args.block.now) ≡ Ok (pieces_by g.F.Figure.plain c.push_all.new.copies.items) = search rules in
    few g.F.Figure.plain g.F.Figure.handling c.args.self.now c.args.room (pieces_by g.F.Figure.plain c.args.block.now) c.push_all.new.copies.items made
