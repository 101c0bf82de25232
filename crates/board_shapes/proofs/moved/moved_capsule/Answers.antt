use Rattle.std.proofs.lemmas.Result.{err_from_is_err_and}
use Rattle.std.proofs.Common.{◌∙◌, ap}
use Rattle.planar.specs.declared.Spot.{Spot}
use Rattle.board_shapes.specs.Moved.{shifted}
use Rattle.board_shapes.proofs.Shifts.{ends_stay, start_leaves, end_leaves}
use Rattle.board_shapes.proofs.moved.moved_capsule.Goals as goal

pub returns-in_err-a-clause-fault : goal.returns-in_err-a-clause-fault
returns-in_err-a-clause-fault c =
    let p = err_from_is_err_and c.from_residual.result c.from_residual.ensures.1 in
    rw (p.1, p.2) (start_leaves c.args.by.x c.args.by.y (record { a = c.args.capsule.now.a; b = c.args.capsule.now.b; r = c.args.capsule.now.r }) c.parts-r.result.0 c.in_err-a.field-0.0 c.parts-r.ensures.start c.in_err-a.ensures.fault)

pub returns-in_err-b-clause-fault : goal.returns-in_err-b-clause-fault
returns-in_err-b-clause-fault c =
    let p = err_from_is_err_and c.from_residual-in_err-b.result c.from_residual-in_err-b.ensures.1 in
    rw (p.1, p.2) (end_leaves c.args.by.x c.args.by.y (record { a = c.args.capsule.now.a; b = c.args.capsule.now.b; r = c.args.capsule.now.r }) c.parts-r.result.1 c.in_err-b.field-0.0 c.parts-r.ensures.end c.in_err-b.ensures.fault)

pub returns-clause-placed : goal.returns-clause-placed
returns-clause-placed c =
    ends_stay (shifted c.args.by.x c.args.by.y) c.args.capsule.now.a c.args.capsule.now.b c.in_ok-a.a c.in_ok-b.b (c.in_ok-a.ensures.ok ∙ ap (λ (q : Spot). shifted c.args.by.x c.args.by.y q) c.parts-r.ensures.start)
    (c.in_ok-b.ensures.ok ∙ ap (λ (q : Spot). shifted c.args.by.x c.args.by.y q) c.parts-r.ensures.end) c.in_ok-a.ensures.placed c.in_ok-b.ensures.placed
