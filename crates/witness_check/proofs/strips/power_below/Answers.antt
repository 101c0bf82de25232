use Rattle.std.proofs.Common.{◌≡◌, ◌*◌, ◌%◌, ◌^◌, arith}
use Rattle.std.proofs.lemmas.Nat.{one_shl}
use Rattle.witness_check.proofs.strips.power_below.Goals as goal

pub invariant_of-result : goal.invariant_of-result
invariant_of-result c =
    let log = c.ilog2-shift.ensures in
    let whole : 1 * 2 ^ c.ilog2-shift.result % 2 ^ 64 ≡ 2 ^ c.ilog2-shift.result = one_shl c.ilog2-shift.result 64 log.bound in
    record { power = whole; small = log.bound; enough = omega (arith, whole, log.next_power_gt, c.requires) }
