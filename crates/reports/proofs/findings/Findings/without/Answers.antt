use Rattle.std.proofs.Common.{ap, map, ◌∙◌}
use Rattle.std.specs.Cmp.Lexicographic.{slice_cmp}
use Rattle.std.specs.Ordering.{nat_cmp}
use Rattle.reports.proofs.Besides.{besides_mapped, without_is}
use Rattle.reports.proofs.findings.Findings.without.Goals as goal

pub returns : goal.returns
returns c =
    let s = c.self.inside in
    let t = c.theirs.inside in
    without_is _ _ _ _ _ _ _ c.self.view_is c.theirs.view_is c.in_ok-opens.ensures
    (ap (map (λ v. v.items)) c.in_ok-shorts.ensures ∙ besides_mapped (λ v. v.items) (slice_cmp nat_cmp) s.shorts.items t.shorts.items) c.in_ok-missing.ensures
