use Rattle.std.proofs.Common.{refl, sym}
use Rattle.aperture_macros.proofs.Closings.{judged_refused}
use Rattle.aperture_macros.proofs.outline.Outline.figure.Goals as goal

pub returns-in-Err : goal.returns-in-Err
returns-in-Err c =
    let refused = judged_refused c.args.self.now.edges c.args.self.now.text.now c.args.self.now.parameters.now c.args.self.now.unit c.in-Err.fault (sym c.in-Err.ensures) in
    rw refused refl
