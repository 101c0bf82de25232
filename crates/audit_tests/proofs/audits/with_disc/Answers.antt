use Rattle.std.proofs.Common.{◌≡◌, List, All, sym, subst, arith}
use Rattle.std.proofs.lemmas.List.Elements.{All-push}
use Rattle.board_shapes.specs.Lawful.{IsOnLayers}
use Rattle.board_shapes.specs.declared.placed.Placed.{Placed}
use Rattle.board_shapes.specs.declared.shape.Shape.{Shape}
use Rattle.audit_tests.proofs.audits.with_disc.Goals as goal

pub returns-clause-spans : goal.returns-clause-spans
returns-clause-spans c =
    let top = c.disc.ensures.top in
    let bottom = c.disc.ensures.bottom in
    subst (λ (pieces : List (Placed Shape)). All (IsOnLayers 1) pieces) (sym {A = List (Placed Shape)} c.in_ok-push.ensures.items)
    (All-push (IsOnLayers 1) c.args.pieces.items c.disc.result c.requires.spans (omega arith, omega arith, omega arith))
