use Rattle.std.proofs.Common.{Contains}
use Rattle.gaps.specs.Gaps.{CloseAt}
use Rattle.gaps.proofs.Leasts.{gaps_told}
use Rattle.gaps.proofs.laws.firsts_are_gaps.Goals as goal

pub returns : goal.returns
returns c = λ b g nets meetings gaps h k. gaps_told (CloseAt b g) nets (λ gap. Contains meetings gap) gaps h k
