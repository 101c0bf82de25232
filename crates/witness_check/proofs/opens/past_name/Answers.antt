use Rattle.std.proofs.Common.{[], Bool, List, if◌then◌else◌, subst, sym, ◌∙◌}
use Rattle.verdict.specs.declared.verdict.Seat.{Seat}
use Rattle.verdict.specs.Right.{opens_against}
use Rattle.witness_check.specs.Opened.{IsPast}
use Rattle.witness_check.proofs.opens.past_name.Goals as goal

pub returns : goal.returns
returns c =
    subst (λ (b : Bool). IsPast c.args.opens.now (if b then [] else opens_against c.args.name c.args.seats.now) c.args.next c.past_opens.result) (sym (sym c.is_left_alone.ensures ∙ c.if-is_left_alone.false))
    (subst (λ (xs : List Seat). IsPast c.args.opens.now (opens_against c.args.name xs) c.args.next c.past_opens.result) (sym c.in-Some.ensures.cases.0) c.past_opens.ensures)
