use Rattle.std.proofs.Common.{rules}
use Rattle.std.proofs.lemmas.Fn.{dedup_same}
use Rattle.gaps.specs.Firsts.{beside}
use Rattle.gaps.proofs.Sorting.{firsts_told}
use Rattle.gaps.proofs.gap.keep_firsts.Goals as goal

pub returns : goal.returns
returns c =
    firsts_told c.args.lines.now.items c.sort_unstable.new.self.items c.dedup_by.new.self.items c.sort_unstable.ensures.permutation c.sort_unstable.ensures.sorted
    (dedup_same _ beside _ (λ x y b f' x' y' k. search rules) c.sort_unstable.new.self.items c.dedup_by.new.self.items c.dedup_by.ensures.filtered)
