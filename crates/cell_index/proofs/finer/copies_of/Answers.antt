use Rattle.std.proofs.Common.{rules, ◌≡◌, ◌+◌, ◌∷◌, ◌++◌, [], ℕ, List, Some, slice_get, ◌∙◌, sym, ap, subst, arith}
use Rattle.std.proofs.lemmas.Option.{slice_get-get_or}
use Rattle.board_shapes.specs.declared.placed.Placed.{Placed}
use Rattle.cell_index.specs.Stretched.{AreCopies}
use Rattle.cell_index.specs.declared.plate.Plate.{Plate}
use Rattle.cell_index.proofs.Standing.{all_more, all_whole}
use Rattle.cell_index.proofs.Stretching.{copies_more, copies_start}
use Rattle.cell_index.proofs.finer.copies_of.Goals as goal

pub loop-p-init : goal.loop-p-init
loop-p-init g c = (copies_start g.S.Closed.extent c.args.stretch c.args.items.now c.in_ok-copies.copies.items (search rules), λ k d h. absurd (omega arith))

pub loop-p-preserved : goal.loop-p-preserved
loop-p-preserved g c =
    let here : slice_get c.args.items.now c.loop-p.p ≡ Some c.index-items-p.result = slice_get-get_or c.args.items.now c.loop-p.p c.index-items-p.result c.loop-p-test.true ∙ ap (λ x. Some x) (sym c.index-items-p.is) in
    let more : c.push.new.self.items ≡ c.loop-p.copies.items ++ c.copy_of-copy.result ∷ [] = c.in_ok-push.ensures.items in (
      subst (λ (xs : List (Placed Plate)). AreCopies g.S.Closed.extent c.args.stretch c.args.items.now (c.loop-p.p + 1) xs) (sym more)
          (copies_more g.S.Closed.extent c.args.stretch c.args.items.now c.loop-p.p c.loop-p.copies.items c.copy_of-copy.result c.index-items-p.result here c.copy_of-copy.ensures.bounds c.copy_of-copy.ensures.flat c.loop-p.invariant.0),
      all_more (λ p. g.S.Closed.is_lawful p.shape) c.args.items.now c.loop-p.p c.index-items-p.result c.loop-p-test.true c.index-items-p.is c.loop-p.invariant.1 c.copy_of-copy.ensures.lawful,
    )

pub returns-clause-copies : goal.returns-clause-copies
returns-clause-copies g c = subst (λ (n : ℕ). AreCopies g.S.Closed.extent c.args.stretch c.args.items.now n c.loop-p.copies.items) (omega arith) c.loop-p.invariant.0

pub returns-clause-lawful : goal.returns-clause-lawful
returns-clause-lawful g c = all_whole (λ p. g.S.Closed.is_lawful p.shape) c.args.items.now c.loop-p.p (omega arith) c.loop-p.invariant.1
