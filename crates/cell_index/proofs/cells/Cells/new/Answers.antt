use Rattle.cell_index.proofs.Standing.{sheets_long}
use Rattle.cell_index.proofs.cells.Cells.new.Goals as goal

pub invariant_of-result : goal.invariant_of-result
invariant_of-result g c =
    let s = c.in_ok-search.search in record {
      few = s.few;
      inside = s.inside;
      met = s.met;
      held = s.held;
      copied = s.copied;
      many = c.in_ok-sheets.ensures.many;
      long = sheets_long g.S.Closed.extent c.args.frame c.args.items.now c.in_ok-sheets.sheets.items c.in_ok-sheets.ensures.each;
      filed = λ k row b here below. rw (c.in_ok-search.ensures.items, c.in_ok-search.ensures.frame) ((c.in_ok-sheets.ensures.each k b here).each row below);
    }
