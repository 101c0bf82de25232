use Rattle.std.proofs.Common.{◌≡◌, ◌+◌, ◌-◌, ◌++◌, List, ℕ, option_map, subst, sym, ◌∙◌}
use Rattle.gerber_reading.specs.Tools.{decimals_in}
use Rattle.gerber_reading.proofs.Bodies.{none_more, one_decimal}
use Rattle.gerber_reading.proofs.parameters.decimals.Goals as goal

pub returns-in_default : goal.returns-in_default
returns-in_default c =
    let read = rw c.before_byte.ensures at c.read_decimal.ensures in
    sym (c.loop.invariant ∙ none_more c.args.n c.loop.counter c.loop.rest.now c.loop.decimals.items c.loop-test.true (sym read ∙ c.in_default.is))

pub loop-preserved : goal.loop-preserved
loop-preserved c =
    let read = rw c.before_byte.ensures at c.read_decimal.ensures in
    subst (λ (xs : List ℕ). decimals_in c.args.n c.args.text.now ≡ option_map (λ more. c.push.new.self.items ++ more) (decimals_in (c.args.n - (c.loop.counter + 1)) xs)) (sym c.after_byte-rest.ensures)
    (c.loop.invariant ∙ one_decimal c.args.n c.loop.counter c.loop.rest.now c.loop.decimals.items c.push.new.self.items c.in-Some.decimal c.loop-test.true (sym read ∙ c.in-Some.is) c.in_default-push.ensures.items)
