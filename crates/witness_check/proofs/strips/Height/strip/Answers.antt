use Rattle.std.proofs.Common.{◌/◌, ap, sym, ℕ}
use Rattle.witness_check.proofs.strips.Height.strip.Goals as goal

pub returns : goal.returns
returns c = ap (λ (n : ℕ). c.args.up / n) (sym c.args.self.power)
