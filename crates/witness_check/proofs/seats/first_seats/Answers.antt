use Rattle.std.proofs.Common.{ap, arith, List, [], ◌+◌, ◌∙◌, refl, sym, subst, length}
use Rattle.std.proofs.lemmas.List.{get_or_read}
use Rattle.verdict.specs.declared.verdict.Seat.{Seat}
use Rattle.verdict.specs.Right.{fresh}
use Rattle.witness_check.proofs.Seating.{AreFirstTo, AreMarksTo, first_more, row_netted, rows_more}
use Rattle.witness_check.proofs.seats.first_seats.Goals as goal

pub firsts-requires-clause-nets : goal.firsts-requires-clause-nets
firsts-requires-clause-nets c = row_netted (length c.args.marks.now) _ c.loop-name.name c.args.rows.now c.args.rows.now c.as_slice.result.now c.args.lines.now c.requires.have refl (c.as_slice.ensures ∙ get_or_read c.args.rows.now c.loop-name.name c.index-rows-name.result c.loop-name-test.true c.index-rows-name.is []) c.requires.netted c.loop-name.invariant.0.long

pub loop-name-preserved : goal.loop-name-preserved
loop-name-preserved c =
    let same = c.as_slice.ensures ∙ get_or_read c.args.rows.now c.loop-name.name c.index-rows-name.result c.loop-name-test.true c.index-rows-name.is [] in
    let to = c.loop-name.invariant.0 in (
      subst (λ (gs : List (List Seat)). AreFirstTo c.args.lines.now (length c.args.marks.now) (c.loop-name.name + 1) gs c.firsts.new.stamps) (sym c.in_ok-push.ensures.items)
          (first_more c.args.lines.now (length c.args.marks.now) c.loop-name.name c.loop-name.groups.items c.in_ok-firsts.field-0 c.as_slice.result.now c.loop-name.stamps c.firsts.new.stamps to c.in_ok-firsts.ensures.firsts (ap (fresh []) same ∙ c.requires.have.firsts c.loop-name.name c.loop-name-test.true) c.firsts.ensures.highest (omega arith)),
      subst (λ (gs : List (List Seat)). AreMarksTo gs c.firsts.new.marks) (sym c.in_ok-push.ensures.items) (rows_more c.loop-name.groups.items c.in_ok-firsts.field-0 c.loop-name.name c.loop-name.marks c.firsts.new.marks to.many c.loop-name.invariant.1 c.in_ok-firsts.ensures.marks),
    )
