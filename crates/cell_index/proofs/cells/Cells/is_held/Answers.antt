use Rattle.std.proofs.Common.{◌<◌, length, refl, sym, subst, arith}
use Rattle.std.proofs.lemmas.Option.{slice_get_read}
use Rattle.contact.specs.Solid.{InBox}
use Rattle.contact.specs.declared.Bounds.{Bounds}
use Rattle.planar.specs.Plane.{at}
use Rattle.planar.specs.declared.Spot.{Spot}
use Rattle.cell_index.specs.Stretched.{copy_in}
use Rattle.cell_index.proofs.Whole.{ext_at}
use Rattle.cell_index.proofs.cells.Cells.is_held.Goals as goal

pub returns-then-not-holds : goal.returns-then-not-holds
returns-then-not-holds g c = (
  λ t. (let f = t in cc),
  λ u. (
      let below = c.requires.piece in
      let long = c.args.self.now.copied in
      let within : c.args.p < length c.args.self.now.finer.copies.items = omega arith in
      let copy = ext_at (λ s. s.bounds) c.args.self.now.finer.copies.items c.args.p c.index.result.now (slice_get_read c.args.self.now.finer.copies.items (length c.args.self.now.finer.copies.items) c.args.p c.index.result.now refl within c.index.ensures) in
      let held : InBox (copy_in c.args.self.now.finer.copies.items c.args.p) (at c.args.place) = subst (λ (s : Spot). InBox (copy_in c.args.self.now.finer.copies.items c.args.p) (at s)) (sym c.requires.place) (c.args.self.now.held c.args.at c.args.layer c.args.p u) in
      let h = c.holds.ensures.1 (subst (λ (b : Bounds). InBox b (at c.args.place)) copy held) in
      let f = c.if-not-holds.true in
      cc),
)
