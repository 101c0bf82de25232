use Rattle.std.proofs.Common.{◌≡◌, ◌∙◌, length}
use Rattle.cell_index.specs.Among.{bottom_in, extent_in, top_in}
use Rattle.cell_index.specs.Cells.{is_in_wide, wide_of}
use Rattle.cell_index.specs.Stretched.{corner}
use Rattle.cell_index.proofs.Found.{listed_known, listed_rises}
use Rattle.cell_index.proofs.Standing.{wide_row}
use Rattle.cell_index.proofs.finer.Finer.wide.Goals as goal

pub returns : goal.returns
returns c =
    let is : c.row.result.now ≡ wide_of (λ s. s.bounds) corner c.args.self.now.copies.items 1 = c.row.ensures ∙ wide_row (λ s. s.bounds) corner c.args.self.now.copies.items 1 in record {
      wide = is;
      known = listed_known (λ p. is_in_wide corner (extent_in (λ s. s.bounds) c.args.self.now.copies.items p) (top_in c.args.self.now.copies.items p) (bottom_in c.args.self.now.copies.items p) 1) (length c.args.self.now.copies.items) c.row.result.now is;
      rising = listed_rises (λ p. is_in_wide corner (extent_in (λ s. s.bounds) c.args.self.now.copies.items p) (top_in c.args.self.now.copies.items p) (bottom_in c.args.self.now.copies.items p) 1) (length c.args.self.now.copies.items) c.row.result.now is;
    }
