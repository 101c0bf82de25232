use Rattle.std.proofs.Common.{[], ◌∷◌, ◌++◌, List, ap, ◌∙◌}
use Rattle.std.proofs.lemmas.List.{get_or-set_other, get_or-set_same, get_or_default}
use Rattle.judge.proofs.FirstSeats.{seat_put, told_new}
use Rattle.verdict.specs.Seats.{seats_at}
use Rattle.verdict.specs.declared.verdict.Seat.{Seat}
use Rattle.judge.proofs.seats.seat_further.Goals as goal

pub returns-in_ok-push-clause-seated : goal.returns-in_ok-push-clause-seated
returns-in_ok-push-clause-seated c = (
  get_or-set_same c.args.groups.now c.args.name c.push.new.self [] c.requires.name ∙
      seat_put (seats_at c.args.groups.now c.args.name) c.push.new.self c.args.seat c.requires.further
      (told_new _ _ _ c.in_ok-first.ensures.added c.if-first.true (c.requires.agree c.args.name c.args.seat.net))
      (c.in_ok-push.ensures.ok ∙ ap (λ (xs : List Seat). xs ++ c.args.seat ∷ []) (get_or_default c.args.groups.now c.args.name c.index-groups-name.result [] c.requires.name)),
  λ other off. get_or-set_other c.args.groups.now c.args.name other c.push.new.self [] off,
)
