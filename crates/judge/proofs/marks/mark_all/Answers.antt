use Rattle.std.proofs.Common.{◌≡◌, ℕ, ◌<◌, List, [], All, arith, length, sym, subst, ◌∙◌}
use Rattle.std.proofs.lemmas.List.{get_or_read}
use Rattle.verdict.specs.declared.verdict.Seat.{Seat}
use Rattle.verdict.specs.Seats.{seats_at}
use Rattle.judge.proofs.marks.mark_all.Goals as goal

pub mark_seats-requires : goal.mark_seats-requires
mark_seats-requires c =
    let same : c.as_slice.result.now ≡ seats_at c.args.groups.now c.loop-n.n = c.as_slice.ensures ∙ get_or_read c.args.groups.now c.loop-n.n c.index-groups-n.result (omega arith) c.index-groups-n.is [] in
    let long : length c.loop-n.marks ≡ length c.args.marks.now = omega arith in
    subst (λ (n : ℕ). All (λ s. s.net < n) c.as_slice.result.now) (sym long) (subst (λ (xs : List Seat). All (λ s. s.net < length c.args.marks.now) xs) (sym same) (c.requires.nets c.loop-n.n (omega arith)))
