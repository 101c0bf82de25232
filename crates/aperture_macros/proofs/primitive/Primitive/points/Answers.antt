use Rattle.std.proofs.Common.{◌≡◌, ◌≤◌, ◌+◌, [], length, Ok, arith, sym}
use Rattle.area_contact.specs.Contour.{IsClosed}
use Rattle.aperture_macros.specs.Images.{outline_at, set_down}
use Rattle.aperture_macros.specs.Outlines.{moved_from}
use Rattle.aperture_macros.specs.Parts.{IsPoints, IsPointsFault}
use Rattle.aperture_macros.specs.Seen.{IsRefusal}
use Rattle.aperture_macros.proofs.Closings.{judged_refused, outlined_by}
use Rattle.aperture_macros.proofs.PointsRead.{if_err, if_ok, points_are, points_fault}
use Rattle.aperture_macros.proofs.primitive.Primitive.points.Goals as goal

pub returns-in-Ok-clause-ok : goal.returns-in-Ok-clause-ok
returns-in-Ok-clause-ok c =
    let text = c.args.self.now.lengths.now in
    let given = c.args.parameters.now in
    if_ok (λ points. moved_from (set_down c.args.by.rotation c.args.by.at) [] (c.args.edges + 1) text given c.args.unit ≡ Ok points.items) (λ points. IsPoints c.args.by.rotation c.args.by.at (outline_at c.args.edges text given c.args.unit) points.items) (λ points made. points_are c.args.by.rotation c.args.by.at c.args.edges text given c.args.unit points.items (sym c.in-Ok.ensures) made) c.points.result c.points.ensures.ok

pub returns-in-Ok-clause-closed : goal.returns-in-Ok-clause-closed
returns-in-Ok-clause-closed c =
    let text = c.args.self.now.lengths.now in
    let given = c.args.parameters.now in
    if_ok (λ points. moved_from (set_down c.args.by.rotation c.args.by.at) [] (c.args.edges + 1) text given c.args.unit ≡ Ok points.items) (λ points. IsClosed points.items) (λ points made. (outlined_by (set_down c.args.by.rotation c.args.by.at) c.args.edges text given c.args.unit points.items (sym c.in-Ok.ensures) made).closed) c.points.result c.points.ensures.ok

pub returns-in-Ok-clause-enough : goal.returns-in-Ok-clause-enough
returns-in-Ok-clause-enough c =
    let text = c.args.self.now.lengths.now in
    let given = c.args.parameters.now in
    if_ok (λ points. moved_from (set_down c.args.by.rotation c.args.by.at) [] (c.args.edges + 1) text given c.args.unit ≡ Ok points.items) (λ points. 4 ≤ length points.items) (λ points made. omega (arith, (outlined_by (set_down c.args.by.rotation c.args.by.at) c.args.edges text given c.args.unit points.items (sym c.in-Ok.ensures) made).long, c.requires.sized.0)) c.points.result c.points.ensures.ok

pub returns-in-Ok-clause-few : goal.returns-in-Ok-clause-few
returns-in-Ok-clause-few c =
    let text = c.args.self.now.lengths.now in
    let given = c.args.parameters.now in
    if_ok (λ points. moved_from (set_down c.args.by.rotation c.args.by.at) [] (c.args.edges + 1) text given c.args.unit ≡ Ok points.items) (λ points. length points.items ≤ 5001) (λ points made. omega (arith, (outlined_by (set_down c.args.by.rotation c.args.by.at) c.args.edges text given c.args.unit points.items (sym c.in-Ok.ensures) made).long, c.requires.sized.1)) c.points.result c.points.ensures.ok

pub returns-in-Ok-clause-fault : goal.returns-in-Ok-clause-fault
returns-in-Ok-clause-fault c =
    let text = c.args.self.now.lengths.now in
    let given = c.args.parameters.now in
    if_err (IsRefusal (moved_from (set_down c.args.by.rotation c.args.by.at) [] (c.args.edges + 1) text given c.args.unit)) (IsPointsFault (outline_at c.args.edges text given c.args.unit)) (points_fault c.args.by.rotation c.args.by.at c.args.edges text given c.args.unit) c.points.result c.points.ensures.fault

pub returns-in-Err-clause-fault : goal.returns-in-Err-clause-fault
returns-in-Err-clause-fault c =
    judged_refused c.args.edges c.args.self.now.lengths.now c.args.parameters.now c.args.unit c.in-Err.fault (sym c.in-Err.ensures)
