use Rattle.std.proofs.Common.{arith}
use Rattle.board_io.proofs.Agreeing.{grows_on}
use Rattle.board_package.proofs.Lift.{climbs, faultless_both, leaves_on}
use Rattle.board_shapes.specs.Plain.{plain_board}
use Rattle.boardnet.proofs.Readings.{counts_reason, left_after, left_real, lower_reason, real_reason, upper_reason}
use Rattle.boardnet.specs.Answers.{unreal_of}
use Rattle.boardnet.specs.Words.{bound_names}
use Rattle.boardnet.specs.declared.answer.Unanswered.TheVariants.{Stopped}
use Rattle.real_package.specs.RealBoards.{plain_real_board}
use Rattle.boardnet.proofs.commands.between.taken.Goals as goal

pub returns-in_err-real-clause-spared : goal.returns-in_err-real-clause-spared
returns-in_err-real-clause-spared g c =
    climbs _ _ c.from_residual.result (unreal_of c.in_err-real.field-0.0) c.from_residual.ensures.1 (left_real _ _ _ _ c.in_err-real.field-0.0 c.in_err-real.ensures.spared)

pub returns-in_err-real-clause-reason : goal.returns-in_err-real-clause-reason
returns-in_err-real-clause-reason g c =
    climbs _ _ c.from_residual.result (unreal_of c.in_err-real.field-0.0) c.from_residual.ensures.1
    (real_reason (bound_names c.args.names.real c.args.names.lower c.args.names.upper c.args.names.counts) (g.P.Package.handed c.args.package.now) (g.P.Package.handed c.build_real.new.package) _ _ _ c.in_err-real.field-0.0 c.in_err-real.ensures.handed)

pub returns-in_err-lower-clause-leaves : goal.returns-in_err-lower-clause-leaves
returns-in_err-lower-clause-leaves g c = leaves_on c.build_real.ensures.leaves c.bound.ensures.leaves

pub returns-in_err-lower-clause-spared : goal.returns-in_err-lower-clause-spared
returns-in_err-lower-clause-spared g c =
    climbs _ _ c.from_residual-in_err-lower.result c.in_err-lower.field-0.0 c.from_residual-in_err-lower.ensures.1 (left_after _ _ _ _ _ _ c.in_err-lower.field-0.0 c.in_ok-real.ensures.spared c.in_err-lower.ensures.spared)

pub returns-in_err-lower-clause-reason : goal.returns-in_err-lower-clause-reason
returns-in_err-lower-clause-reason g c =
    climbs _ _ c.from_residual-in_err-lower.result c.in_err-lower.field-0.0 c.from_residual-in_err-lower.ensures.1
    (lower_reason (bound_names c.args.names.real c.args.names.lower c.args.names.upper c.args.names.counts) (g.P.Package.handed c.args.package.now) (g.P.Package.handed c.build_real.new.package) (g.P.Package.handed c.bound.new.package) (plain_real_board c.in_ok-real.real) _ _ _ _ c.in_err-lower.field-0.0
    c.build_real.ensures.leaves.later c.build_real.ensures.leaves.grows c.bound.ensures.leaves.grows c.in_ok-real.ensures.handed c.in_err-lower.ensures.reason)

pub returns-in_err-upper-clause-leaves : goal.returns-in_err-upper-clause-leaves
returns-in_err-upper-clause-leaves g c = leaves_on (leaves_on c.build_real.ensures.leaves c.bound.ensures.leaves) c.bound-2.ensures.leaves

pub returns-in_err-upper-clause-spared : goal.returns-in_err-upper-clause-spared
returns-in_err-upper-clause-spared g c =
    climbs _ _ c.from_residual-in_err-upper.result c.in_err-upper.field-0.0 c.from_residual-in_err-upper.ensures.1
    (left_after _ _ _ _ _ _ c.in_err-upper.field-0.0 (faultless_both _ _ _ _ _ _ c.in_ok-real.ensures.spared c.in_ok-lower.ensures.spared) c.in_err-upper.ensures.spared)

pub returns-in_err-upper-clause-reason : goal.returns-in_err-upper-clause-reason
returns-in_err-upper-clause-reason g c =
    let a = g.P.Package.handed c.args.package.now in
    let b = g.P.Package.handed c.build_real.new.package in
    let d = g.P.Package.handed c.bound.new.package in
    let e = g.P.Package.handed c.bound-2.new.package in
    let le = c.build_real.ensures.leaves.later in
    let le' = c.bound.ensures.leaves.later in
    climbs _ _ c.from_residual-in_err-upper.result c.in_err-upper.field-0.0 c.from_residual-in_err-upper.ensures.1
    (upper_reason (bound_names c.args.names.real c.args.names.lower c.args.names.upper c.args.names.counts) a b d e (plain_real_board c.in_ok-real.real) (plain_board c.in_ok-lower.lower) _ _ _ _ c.in_err-upper.field-0.0
    (omega (arith, le, le')) c.build_real.ensures.leaves.grows c.bound.ensures.leaves.grows c.bound-2.ensures.leaves.grows (grows_on b d e c.bound.ensures.leaves.grows c.bound-2.ensures.leaves.grows) c.in_ok-real.ensures.handed c.in_ok-lower.ensures.handed c.in_err-upper.ensures.reason)

pub returns-in_err-take_file-clause-leaves : goal.returns-in_err-take_file-clause-leaves
returns-in_err-take_file-clause-leaves g c = leaves_on (leaves_on (leaves_on c.build_real.ensures.leaves c.bound.ensures.leaves) c.bound-2.ensures.leaves) c.take_file.ensures.leaves

pub returns-in_err-take_file-clause-spared : goal.returns-in_err-take_file-clause-spared
returns-in_err-take_file-clause-spared g c =
    climbs _ _ c.from_residual-in_err-take_file.result (Stopped c.in_err-take_file.field-0.0) c.from_residual-in_err-take_file.ensures.1
    (left_after _ _ _ _ _ _ (Stopped c.in_err-take_file.field-0.0) (faultless_both _ _ _ _ _ _ (faultless_both _ _ _ _ _ _ c.in_ok-real.ensures.spared c.in_ok-lower.ensures.spared) c.in_ok-upper.ensures.spared) c.in_err-take_file.ensures.spared)

pub returns-in_err-take_file-clause-reason : goal.returns-in_err-take_file-clause-reason
returns-in_err-take_file-clause-reason g c =
    let a = g.P.Package.handed c.args.package.now in
    let b = g.P.Package.handed c.build_real.new.package in
    let d = g.P.Package.handed c.bound.new.package in
    let e = g.P.Package.handed c.bound-2.new.package in
    let f = g.P.Package.handed c.take_file.new.package in
    let le = c.build_real.ensures.leaves.later in
    let le' = c.bound.ensures.leaves.later in
    let le'' = c.bound-2.ensures.leaves.later in
    let near = grows_on d e f c.bound-2.ensures.leaves.grows c.take_file.ensures.leaves.grows in
    climbs _ _ c.from_residual-in_err-take_file.result (Stopped c.in_err-take_file.field-0.0) c.from_residual-in_err-take_file.ensures.1
    (counts_reason (bound_names c.args.names.real c.args.names.lower c.args.names.upper c.args.names.counts) a b d e f (plain_real_board c.in_ok-real.real) (plain_board c.in_ok-lower.lower) (plain_board c.in_ok-upper.upper) _ _ _ _ c.in_err-take_file.field-0.0
    (omega (arith, le, le', le'')) c.build_real.ensures.leaves.grows c.bound.ensures.leaves.grows c.bound-2.ensures.leaves.grows c.take_file.ensures.leaves.grows (grows_on b d f c.bound.ensures.leaves.grows near) near
    c.in_ok-real.ensures.handed c.in_ok-lower.ensures.handed c.in_ok-upper.ensures.handed c.in_err-take_file.ensures.handed_cause)

pub returns-clause-leaves : goal.returns-clause-leaves
returns-clause-leaves g c = leaves_on (leaves_on (leaves_on c.build_real.ensures.leaves c.bound.ensures.leaves) c.bound-2.ensures.leaves) c.take_file.ensures.leaves

pub returns-clause-spared : goal.returns-clause-spared
returns-clause-spared g c = faultless_both _ _ _ _ _ _ (faultless_both _ _ _ _ _ _ (faultless_both _ _ _ _ _ _ c.in_ok-real.ensures.spared c.in_ok-lower.ensures.spared) c.in_ok-upper.ensures.spared) c.in_ok-take_file.ensures.spared

pub returns-clause-handed : goal.returns-clause-handed
returns-clause-handed g c =
    let b = g.P.Package.handed c.build_real.new.package in
    let d = g.P.Package.handed c.bound.new.package in
    let e = g.P.Package.handed c.bound-2.new.package in
    let f = g.P.Package.handed c.take_file.new.package in
    let near = grows_on d e f c.bound-2.ensures.leaves.grows c.take_file.ensures.leaves.grows in
    (b, (c.build_real.ensures.leaves.grows, grows_on b d f c.bound.ensures.leaves.grows near), c.in_ok-real.ensures.handed, (d, (c.bound.ensures.leaves.grows, near), c.in_ok-lower.ensures.handed, (e, (c.bound-2.ensures.leaves.grows, c.take_file.ensures.leaves.grows), c.in_ok-upper.ensures.handed, c.in_ok-take_file.ensures.handed)))
