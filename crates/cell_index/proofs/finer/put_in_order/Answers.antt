use Rattle.std.proofs.Common.{◌≡◌, List, ℕ, Contains, sym, subst, eqb}
use Rattle.std.proofs.lemmas.List.Filters.{dedup_is}
use Rattle.std.proofs.lemmas.List.Kept.{Contains-dedup_nat, Contains-from_dedup}
use Rattle.std.proofs.lemmas.List.Sorted.{Contains-permutation, IsPermutation-sym}
use Rattle.std.proofs.lemmas.Map.Keys.{IsStrictlyIncreasing-dedup}
use Rattle.std.specs.List.{dedup}
use Rattle.std.specs.List.Sorted.{IsStrictlyIncreasing}
use Rattle.cell_index.proofs.finer.put_in_order.Goals as goal

pub returns-clause-rising : goal.returns-clause-rising
returns-clause-rising c = subst (λ (xs : List ℕ). IsStrictlyIncreasing xs) (sym (dedup_is eqb c.sort_unstable.new.self.items c.dedup.new.self.items c.dedup.ensures.filtered)) (IsStrictlyIncreasing-dedup c.sort_unstable.new.self.items c.sort_unstable.ensures.sorted)

pub returns-clause-same : goal.returns-clause-same
returns-clause-same c q =
    let left : c.dedup.new.self.items ≡ dedup eqb c.sort_unstable.new.self.items = dedup_is eqb c.sort_unstable.new.self.items c.dedup.new.self.items c.dedup.ensures.filtered in (
      λ h. Contains-permutation c.sort_unstable.new.self.items c.args.into.now.items q (IsPermutation-sym c.args.into.now.items c.sort_unstable.new.self.items c.sort_unstable.ensures.permutation) (Contains-from_dedup eqb c.sort_unstable.new.self.items q (subst (λ (xs : List ℕ). Contains xs q) left h)),
      λ h. subst (λ (xs : List ℕ). Contains xs q) (sym left) (Contains-dedup_nat c.sort_unstable.new.self.items q (Contains-permutation c.args.into.now.items c.sort_unstable.new.self.items q c.sort_unstable.ensures.permutation h)),
    )
