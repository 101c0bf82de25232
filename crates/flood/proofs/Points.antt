-- One home more.
use Rattle.std.proofs.Common.{◌≡◌, ℕ, ◌+◌, ◌<◌, inl, inr, List, [], ◌∷◌, ◌++◌, length, get_or, Option, Some, None, slice_get, sym, subst, ◌∙◌, arith, length-append}
use Rattle.std.proofs.lemmas.Bool.{cases_eq}
use Rattle.std.proofs.lemmas.List.{get_or_append_left, get_or_at}
use Rattle.std.proofs.lemmas.Option.{slice_get-get_or}
use Rattle.board_shapes.specs.declared.probe.Probe.{Probe}
use Rattle.cell_index.specs.Homes.{UnderProbe}
use Rattle.planar.specs.declared.Spot.{Spot}
use Rattle.tables.specs.Lists.{AreLeast, IsLeast}

-- What is least by one account is least by another that says the same.
pub least_along : (P Q : ℕ → Type 0) (o : Option ℕ) → ((q : ℕ) → P q → Q q) → ((q : ℕ) → Q q → P q) → IsLeast P o → IsLeast Q o
least_along P Q None there back least = λ q h. least q (back q h)
least_along P Q (Some p) there back least = (there p least.0, λ q h. least.1 q (back q h))

under_same : (under : Spot → ℕ → ℕ → Type 0) (probes : List Probe) (k q : ℕ) (p : Probe) → slice_get probes k ≡ Some p → UnderProbe under probes k q → under p.at p.layer q
under_same under probes k q p there u =
    let same : u.probe ≡ p = let e = u.probe_is in cc in
    subst (λ (x : Probe). under x.at x.layer q) same u.is_under

pub homes_more : (under : Spot → ℕ → ℕ → Type 0) (probes : List Probe) (homes : List (Option ℕ)) (i : ℕ) (d : Probe) (home : Option ℕ) → i < length probes → AreLeast i (UnderProbe under probes) homes → IsLeast (under (get_or probes i d).at (get_or probes i d).layer) home → AreLeast (i + 1) (UnderProbe under probes) (homes ++ home ∷ [])
homes_more under probes homes i d home below all one =
    let long = length-append homes (home ∷ []) in
    let many = all.many in
    let there : slice_get probes i ≡ Some (get_or probes i d) = slice_get-get_or probes i d below in
    let here : IsLeast (UnderProbe under probes i) home =
    least_along (under (get_or probes i d).at (get_or probes i d).layer) (UnderProbe under probes i) home (λ q h. record { probe = get_or probes i d; probe_is = there; is_under = h }) (λ q u. under_same under probes i q (get_or probes i d) there u) one in
    record {
      many = omega arith;
      each = λ k h. elim (cases_eq k i) [
        | inl same ↦ subst (λ (o : Option ℕ). IsLeast (UnderProbe under probes k) o) (sym (get_or_at homes home [] None k (many ∙ sym same))) (subst (λ (j : ℕ). IsLeast (UnderProbe under probes j) home) (sym same) here)
        | inr other ↦ subst (λ (o : Option ℕ). IsLeast (UnderProbe under probes k) o) (sym (get_or_append_left homes (home ∷ []) None k (omega arith))) (all.each k (omega arith))
      ];
    }

pub homes_all : (under : Spot → ℕ → ℕ → Type 0) (probes : List Probe) (homes : List (Option ℕ)) (i : ℕ) → i ≡ length probes → AreLeast i (UnderProbe under probes) homes → AreLeast (length probes) (UnderProbe under probes) homes
homes_all under probes homes i same h = subst (λ (n : ℕ). AreLeast n (UnderProbe under probes) homes) same h
