use Rattle.std.proofs.Common.{All, List, ◌<◌, ◌^◌, ◌≤◌, length, subst, sym}
use Rattle.board_shapes.specs.declared.placed.Placed.{Placed}
use Rattle.contact.specs.Solid.{IsInside}
use Rattle.cell_index.specs.Rows.{IsSheet}
use Rattle.cell_index.specs.Stretched.{corner}
use Rattle.cell_index.specs.declared.plate.Plate.{Plate}
use Rattle.cell_index.proofs.Stretching.{copies_few, copies_spans}
use Rattle.cell_index.proofs.finer.Finer.new.Goals as goal

pub invariant_of-plan : goal.invariant_of-plan
invariant_of-plan g c = record {
  few = subst (λ (xs : List (Placed Plate)). length xs < 2 ^ 32) (sym c.as_slice.ensures.value) (copies_few g.S.Closed.extent c.over-stretch.result c.args.items.now c.in_ok-copies.copies.items c.requires.few c.in_ok-copies.ensures.copies);
  inside = subst (λ (xs : List (Placed Plate)). All (λ p. IsInside p.shape.bounds corner) xs) (sym c.as_slice.ensures.value) c.in_ok-copies.ensures.copies.inside;
  spans = subst (λ (xs : List (Placed Plate)). All (λ p. p.top ≤ p.bottom) xs) (sym c.as_slice.ensures.value) (copies_spans c.in_ok-copies.copies.items c.in_ok-copies.ensures.copies.flat);
}

pub invariant_of-result : goal.invariant_of-result
invariant_of-result g c =
    let sheet : IsSheet (λ s. s.bounds) corner c.in_ok-copies.copies.items 1 c.in_ok-rows.rows = subst (λ (xs : List (Placed Plate)). IsSheet (λ s. s.bounds) corner xs 1 c.in_ok-rows.rows) c.as_slice.ensures.value c.in_ok-rows.ensures in record {
      few = copies_few g.S.Closed.extent c.over-stretch.result c.args.items.now c.in_ok-copies.copies.items c.requires.few c.in_ok-copies.ensures.copies;
      flat = c.in_ok-copies.ensures.copies.flat;
      inside = c.in_ok-copies.ensures.copies.inside;
      long = sheet.rows;
      filed = sheet.each;
    }

pub returns : goal.returns
returns g c = record { copies = c.in_ok-copies.ensures.copies; lawful = c.in_ok-copies.ensures.lawful }
