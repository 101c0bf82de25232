use Rattle.std.proofs.Common.{◌≡◌, ◌+◌, List, ℕ, length, get_or, refl, sym, ap, subst, ◌∙◌, arith}
use Rattle.cell_index.specs.Finding.{IsMet}
use Rattle.cell_index.specs.Stretched.{copy_in}
use Rattle.contact.specs.declared.Bounds.{Bounds}
use Rattle.std.proofs.lemmas.Option.{slice_get_read}
use Rattle.cell_index.proofs.Whole.{ext_at}
use Rattle.cell_index.proofs.Found.{IsGathered, gathered_all, gathered_push, gathered_skip}
use Rattle.cell_index.proofs.finer.Finer.gather.Goals.{then-is_met+in_ok-push, else-is_met}
use Rattle.cell_index.proofs.finer.Finer.gather.Goals as goal

pub loop-k-preserved : goal.loop-k-preserved
loop-k-preserved g c =
    let n : ℕ = length c.args.self.now.copies.items in
    let met : ℕ → Type 0 = λ q. g.W.Wanted.wanted c.args.wanted.now q × IsMet (copy_in c.args.self.now.copies.items q) c.args.bounds c.args.patch.now c.args.across c.args.up in
    let box : copy_in c.args.self.now.copies.items (get_or c.args.list.now c.loop-k.k 0) ≡ c.index.result.now.shape.bounds = ext_at (λ s. s.bounds) c.args.self.now.copies.items (get_or c.args.list.now c.loop-k.k 0) c.index.result.now (slice_get_read c.args.self.now.copies.items (length c.args.self.now.copies.items) (get_or c.args.list.now c.loop-k.k 0) c.index.result.now refl (c.requires.list c.loop-k.k 0 c.loop-k-test.true) c.index.ensures) in
    elim c.if-is_met.branch [
      | then-is_met+in_ok-push w ↦ subst (λ (xs : List ℕ). IsGathered n met c.args.list.now (c.loop-k.k + 1) c.args.into.now.items xs) (sym (ap (λ v. v.items) w.into-is ∙ w.in_ok-push.ensures.items))
          (gathered_push n met c.args.list.now c.loop-k.k (get_or c.args.list.now c.loop-k.k 0) c.args.into.now.items c.loop-k.into.items refl (c.requires.list c.loop-k.k 0 c.loop-k-test.true) c.loop-k.invariant)
      | else-is_met w ↦ subst (λ (xs : List ℕ). IsGathered n met c.args.list.now (c.loop-k.k + 1) c.args.into.now.items xs) (sym (ap (λ v. v.items) w.into-is))
          (gathered_skip n met c.args.list.now c.loop-k.k (get_or c.args.list.now c.loop-k.k 0) c.args.into.now.items c.loop-k.into.items refl (λ m. (let t = c.is_met.ensures (subst (λ (b : Bounds). IsMet b c.args.bounds c.args.patch.now c.args.across c.args.up) box m.1) in let f = w.if-is_met.false in cc)) c.loop-k.invariant)
    ]

pub returns-clause-finds : goal.returns-clause-finds
returns-clause-finds g c = gathered_all (length c.args.self.now.copies.items) (λ q. g.W.Wanted.wanted c.args.wanted.now q × IsMet (copy_in c.args.self.now.copies.items q) c.args.bounds c.args.patch.now c.args.across c.args.up) c.args.list.now c.loop-k.k c.args.into.now.items c.loop-k.into.items (omega arith) c.loop-k.invariant

pub loop-k-preserved-then-not-wants : goal.loop-k-preserved-then-not-wants
loop-k-preserved-then-not-wants g c =
    gathered_skip (length c.args.self.now.copies.items) (λ q. g.W.Wanted.wanted c.args.wanted.now q × IsMet (copy_in c.args.self.now.copies.items q) c.args.bounds c.args.patch.now c.args.across c.args.up) c.args.list.now c.loop-k.k (get_or c.args.list.now c.loop-k.k 0) c.args.into.now.items c.loop-k.into.items refl
    (λ m. (let t = c.wants.ensures m.0 in let f = c.if-not-wants.true in cc)) c.loop-k.invariant
