-- What right verdicts on two boards find of a board between them: what is certain of it, and what is undecided.
use Rattle.std.specs.Prelude.{◌≡◌, ℕ, List, [], map, not}
use Rattle.std.specs.Cmp.Lexicographic.{slice_cmp}
use Rattle.std.specs.List.{filter}
use Rattle.std.specs.Ordering.{eq_by_cmp, nat_cmp}
use Rattle.std.specs.Set.{is_member}
use Rattle.std.specs.declared.cmp.Ordering.{Ordering}
use Rattle.verdict.specs.declared.verdict.Short.{Short}
use Rattle.verdict.specs.declared.verdict.Verdict.{Verdict}

-- Findings by their test points: of an open the first point on its further net, which is joined to no point of its name before it; of a short the first point of
-- each name on its net; the points without copper.
pub record Findings : Type 0 where
  pub opens : List ℕ
  pub shorts : List (List ℕ)
  pub missing : List ℕ

-- there is none
pub record NoneFound (found : Findings) : Type 0 where
  pub opens_none : found.opens ≡ []
  pub shorts_none : found.shorts ≡ []
  pub missing_none : found.missing ≡ []

abbrev pub short_points : Short → List ℕ
short_points s = map (λ b. b.probe) s.branches

-- Certain, whatever copper lies between: the opens and missing points of the board above, and the shorts of the one below. Of an open it is certain that
-- its point is joined to no point of its name before it; it, or all of these, may be without copper.
abbrev pub certain : (below above : Verdict) → Findings
certain below above = record { opens = map (λ o. o.probe) above.opens; shorts = map short_points below.shorts; missing = above.bare }

-- Possible: the opens and missing points of the board below, and the shorts of the one above.
abbrev pub possible : (below above : Verdict) → Findings
possible below above = certain above below

-- what one list has and another has not; items are one that compare as equal
abbrev pub besides : {X : Type 0} → (X → X → Ordering) → List X → List X → List X
besides compare ours theirs = filter (λ x. not (is_member (eq_by_cmp compare) theirs x)) ours

-- the findings that have not the same points as one of the others
abbrev pub without : (ours theirs : Findings) → Findings
without ours theirs = record { opens = besides nat_cmp ours.opens theirs.opens; shorts = besides (slice_cmp nat_cmp) ours.shorts theirs.shorts; missing = besides nat_cmp ours.missing theirs.missing }

-- Undecided: what is possible and not certain. A short that has more names, or other first points, above than below is undecided as a whole; one of the same
-- names may be certain besides. Where a point is missing here, it, or a later one of its name that is not listed, may be open on the board.
abbrev pub undecided : (below above : Verdict) → Findings
undecided below above = without (possible below above) (certain below above)
