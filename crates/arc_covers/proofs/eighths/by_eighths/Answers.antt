use Rattle.std.proofs.Common.{List, ap, arith, drop, ◌+◌, subst, sym, ◌++◌, ◌∙◌}
use Rattle.planar.specs.Plane.{IsPlaced}
use Rattle.arc_regions.specs.Taken.{all_chained}
use Rattle.arc_regions.specs.declared.Stretch.{Stretch}
use Rattle.arc_covers.specs.Eighths as spec
use Rattle.arc_covers.proofs.Turning.{end_placed, eighths_turn, there_placed}
use Rattle.arc_covers.proofs.eighths.by_eighths.Goals as goal

pub loop-part-preserved : goal.loop-part-preserved
loop-part-preserved c = record {
  so =
      ap (λ (xs : List Stretch). all_chained xs ++ spec.by_eighths c.end_of-from.result (drop (c.loop-part.part-index + 1) c.args.parts.now)) c.in_ok-push.ensures.items
      ∙ eighths_turn c.loop-part.from c.args.start c.end_of-from.result c.args.parts.now c.loop-part.part-index _ c.loop-part.all.items c.in_ok-stretch.stretch (omega arith) c.in_ok-stretch.ensures c.end_of-from.ensures c.loop-part.invariant.so;
  placed = subst IsPlaced (sym c.end_of-from.ensures) (end_placed _ (there_placed c.args.parts.now c.loop-part.part-index _ (omega arith) c.requires.placed));
}
