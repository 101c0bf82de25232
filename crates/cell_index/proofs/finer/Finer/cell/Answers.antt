use Rattle.std.proofs.Common.{◌≡◌, ◌∙◌, length}
use Rattle.cell_index.specs.Among.{bottom_in, extent_in, top_in}
use Rattle.cell_index.specs.Cells.{cell_of, is_in_cell}
use Rattle.cell_index.specs.Stretched.{corner}
use Rattle.cell_index.proofs.Found.{listed_known, listed_rises}
use Rattle.cell_index.proofs.Standing.{cell_row}
use Rattle.cell_index.proofs.finer.Finer.cell.Goals as goal

pub returns : goal.returns
returns c =
    let is : c.row.result.now ≡ cell_of (λ s. s.bounds) corner c.args.self.now.copies.items 1 c.args.across c.args.up = c.row.ensures ∙ cell_row (λ s. s.bounds) corner c.args.self.now.copies.items 1 c.args.across c.args.up c.requires.across c.requires.up in record {
      cell = is;
      known = listed_known (λ p. is_in_cell corner (extent_in (λ s. s.bounds) c.args.self.now.copies.items p) (top_in c.args.self.now.copies.items p) (bottom_in c.args.self.now.copies.items p) 1 c.args.across c.args.up) (length c.args.self.now.copies.items) c.row.result.now is;
      rising = listed_rises (λ p. is_in_cell corner (extent_in (λ s. s.bounds) c.args.self.now.copies.items p) (top_in c.args.self.now.copies.items p) (bottom_in c.args.self.now.copies.items p) 1 c.args.across c.args.up) (length c.args.self.now.copies.items) c.row.result.now is;
    }
