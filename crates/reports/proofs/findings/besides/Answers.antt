use Rattle.std.proofs.Common.{Ok, rules, ap, not, ◌∙◌}
use Rattle.std.proofs.lemmas.Fn.{filter_same}
use Rattle.std.proofs.lemmas.Iterator.Adapters.{YieldsList-from_vec, fact_from_collect}
use Rattle.std.specs.BTreeSet.{IsFromIterResult}
use Rattle.std.specs.Ordering.{eq_by_cmp}
use Rattle.std.specs.Set.{is_member}
use Rattle.std.specs.declared.alloc.AllocError.{AllocError}
use Rattle.reports.proofs.findings.besides.Goals as goal

pub returns : goal.returns
returns g c =
    let known = fact_from_collect {E = AllocError} (IsFromIterResult g.K.Ord.cmp) (Ok c.in_ok-known.known) c.in_ok-known.ensures.ran (YieldsList-from_vec c.args.theirs.items c.into_iter.ensures.rest (c.into_iter.ensures.len ∙ c.args.theirs.ok.0)) in
    filter_same _ (λ x. not (is_member (eq_by_cmp g.K.Ord.cmp) c.args.theirs.items x)) _ (λ x b f' k. (let h = ap not (known.0 x) in search rules)) _ _ c.retain.ensures.filtered
