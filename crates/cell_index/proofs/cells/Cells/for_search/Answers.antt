use Rattle.std.proofs.Common.{◌≡◌, List, length, All, ap, subst, sym, arith}
use Rattle.std.proofs.lemmas.List.Elements.{All-nil}
use Rattle.std.proofs.lemmas.Option.{slice_get_within}
use Rattle.cell_index.specs.declared.bins.Bins.{Bins}
use Rattle.cell_index.proofs.Standing.{met_of, held_of}
use Rattle.cell_index.proofs.Stretching.{copies_hold, copies_meet}
use Rattle.cell_index.proofs.cells.Cells.for_search.Goals as goal

pub invariant_of-result : goal.invariant_of-result
invariant_of-result g c =
    let none = ap (λ (xs : List Bins). length xs) c.new-sheets.ensures.items in record {
      few = c.requires.few;
      inside = c.requires.inside;
      met = copies_meet g.S.Closed.holds g.S.Closed.extent c.in_ok-finer.finer.stretch c.args.items.now c.in_ok-finer.finer.copies.items c.in_ok-finer.ensures.copies (met_of g.S.Closed.holds g.S.Closed.extent g.S.Closed.is_lawful c.args.items.now (λ s t h k m. g.met.S.Meets.within_boxes s t h k m) c.in_ok-finer.ensures.lawful);
      held = copies_hold g.S.Closed.holds g.S.Closed.extent c.in_ok-finer.finer.stretch c.args.items.now c.in_ok-finer.finer.copies.items c.in_ok-finer.ensures.copies (held_of g.S.Closed.holds g.S.Closed.extent g.S.Closed.is_lawful c.args.items.now (λ s x h k. g.met.S.Closed.boxed s x h k) c.in_ok-finer.ensures.lawful);
      copied = c.in_ok-finer.ensures.copies.long;
      many = none;
      long = subst (λ (xs : List Bins). All (λ b. length b.starts.items ≡ 16386) xs) (sym c.new-sheets.ensures.items) (All-nil (λ (b : Bins). length b.starts.items ≡ 16386));
      filed = λ k row b here below. (let within = slice_get_within c.new-sheets.result.items k b here in absurd (omega (arith, none)));
    }
