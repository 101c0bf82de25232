-- Two points have the same net number exactly where a chain joins them.
use Rattle.std.proofs.Common.{◌≡◌, inl, inr, ℕ, zero, suc, List, [], ◌∷◌, length, Contains, Option, Some, None, MatchOption, refl, subst, sym, ap, ◌∙◌, arith, slice_get}
use Rattle.std.proofs.lemmas.List.Elements.{All-get_or}
use Rattle.std.proofs.lemmas.Option.{none-some, same_Some}
use Rattle.verdict.specs.declared.verdict.Twig.{Twig}
use Rattle.verdict.specs.declared.verdict.PointLine.{PointLine}
use Rattle.verdict.specs.declared.verdict.Verdict.{Verdict}
use Rattle.tables.specs.Chains.{AreJoined}
use Rattle.verdict.specs.Forest.{IsForest, IsTree, Holds, net_at, first_piece}
use Rattle.tables.specs.Consistent.{AreConsistent, ArePointsJoined}
use Rattle.verdict.specs.Right.{HaveOneNet, IsOn, IsRight, Trees, Covers, Apart, Points, AreLines}
use Rattle.tables.specs.Tables.{Tables, TestPoint, Stands, row_at}
use Rattle.witness_check.specs.Laws.{IsWithoutNet, NetNumbersAreJoins}
use Rattle.witness_check.proofs.Chains.{stays, from_first, AreJoined-trans, AreJoined-back}
use Rattle.verdict.proofs.Holding.{held_within}

-- the nets of a right verdict
pub right_nets : (board : Tables) (v : Verdict) → IsRight board v → IsForest (length board.near) (Stands board.near) v.nets
right_nets board v right = record { trees = right Trees; covers = right Covers; apart = right Apart }

-- what a line says of the pieces under its point
pub line_at : (nets : List (List Twig)) (beneath : List (List ℕ)) (points : List TestPoint) (lines : List PointLine) (k : ℕ) (line : PointLine) → AreLines nets beneath points lines → slice_get lines k ≡ Some line → MatchOption line.net (row_at beneath k ≡ []) (λ net. (piece : ℕ) × Contains (row_at beneath k) piece × Holds nets net piece)
line_at nets beneath points [] k line all here = cc
line_at nets [] [] (l ∷ lines) k line all here = absurd all
line_at nets [] (p ∷ points) (l ∷ lines) k line all here = absurd all
line_at nets (u ∷ beneath) [] (l ∷ lines) k line all here = absurd all
line_at nets (under ∷ beneath) (point ∷ points) (l ∷ lines) zero line (first, rest) here =
    let same : l ≡ line = cc in
    subst (λ (x : PointLine). MatchOption x.net (under ≡ []) (λ net. (piece : ℕ) × Contains under piece × Holds nets net piece)) same first.net
line_at nets (under ∷ beneath) (point ∷ points) (l ∷ lines) (suc k) line (first, rest) here = line_at nets beneath points lines k line rest here

-- the line of a point
pub line_there : (nets : List (List Twig)) (beneath : List (List ℕ)) (points : List TestPoint) (lines : List PointLine) (k p : ℕ) → AreLines nets beneath points lines → Contains (row_at beneath k) p → (line : PointLine) × (slice_get lines k ≡ Some line)
line_there nets [] points lines k p all (i, below, same) = absurd (omega arith)
line_there nets (under ∷ beneath) [] lines k p all inside = absurd all
line_there nets (under ∷ beneath) (point ∷ points) [] k p all inside = absurd all
line_there nets (under ∷ beneath) (point ∷ points) (l ∷ lines) zero p (first, rest) inside = (l, refl)
line_there nets (under ∷ beneath) (point ∷ points) (l ∷ lines) (suc k) p (first, rest) inside = line_there nets beneath points lines k p rest inside

on_net : (nets : List (List Twig)) (under : List ℕ) (line : PointLine) (net : ℕ) → line.net ≡ Some net → MatchOption line.net (under ≡ []) (λ n. (piece : ℕ) × Contains under piece × Holds nets n piece) → (piece : ℕ) × Contains under piece × Holds nets net piece
on_net nets under line net named found = subst (λ (o : Option ℕ). MatchOption o (under ≡ []) (λ n. (piece : ℕ) × Contains under piece × Holds nets n piece)) named found

pub piece_on : (board : Tables) (v : Verdict) → IsRight board v → (k net : ℕ) → IsOn v k net → (piece : ℕ) × Stands board.beneath k piece × Holds v.nets net piece
piece_on board v right k net (line, there, named) = on_net v.nets (row_at board.beneath k) line net named (line_at v.nets board.beneath board.points v.points k line (right Points) there)

-- The pieces of one net are joined.
pub one_net_joins : (board : Tables) (v : Verdict) → AreConsistent board → IsRight board v → (i p q : ℕ) → Holds v.nets i p → Holds v.nets i q → AreJoined (Stands board.near) p q
one_net_joins board v tables right i p q h k =
    let near : ℕ → ℕ → Type 0 = Stands board.near in
    let tree = All-get_or (IsTree near) v.nets i [] (held_within v.nets i p h) (right Trees).trees in
    let there = from_first near (net_at v.nets i) tree p h in
    AreJoined-trans near p (first_piece (net_at v.nets i)) q (AreJoined-back near tables.both (first_piece (net_at v.nets i)) p there.0 there.1) (from_first near (net_at v.nets i) tree q k)

-- Each piece under a point on a net is in that net.
pub all_on : (board : Tables) (v : Verdict) → AreConsistent board → IsRight board v → (k net p : ℕ) → IsOn v k net → Stands board.beneath k p → Holds v.nets net p
all_on board v tables right k net p on inside =
    let found = piece_on board v right k net on in
    elim (tables.close k found.0 p found.1 inside) [
      | inl same ↦ subst (λ (x : ℕ). Holds v.nets net x) same found.2
      | inr touches ↦ stays (length board.near) (Stands board.near) v.nets (right_nets board v right) tables.known net found.0 p (p ∷ []) found.2 (touches, refl)
    ]

-- A point over a piece is on a net.
is_on : (under : List ℕ) (nets : List (List Twig)) (p : ℕ) (net : Option ℕ) → Contains under p → MatchOption net (under ≡ []) (λ n. (piece : ℕ) × Contains under piece × Holds nets n piece) → (n : ℕ) × (net ≡ Some n)
is_on under nets p None (k, below, same) none = absurd (let e : length under ≡ 0 = ap length none in omega arith)
is_on under nets p (Some n) inside some = (n, refl)

pub point_on : (board : Tables) (v : Verdict) → IsRight board v → (k p : ℕ) → Stands board.beneath k p → (net : ℕ) × IsOn v k net
point_on board v right k p inside =
    let line = line_there v.nets board.beneath board.points v.points k p (right Points) inside in
    let net = is_on (row_at board.beneath k) v.nets p line.0.net inside (line_at v.nets board.beneath board.points v.points k line.0 (right Points) line.1) in
    (net.0, (line.0, line.1, net.1))

forth : (board : Tables) (v : Verdict) → AreConsistent board → IsRight board v → (a b : ℕ) → HaveOneNet v a b → ArePointsJoined board a b
forth board v tables right a b (net, on, other) =
    let p = piece_on board v right a net on in
    let q = piece_on board v right b net other in
    record { p = p.0; q = q.0; first = p.1; last = q.1; joined = one_net_joins board v tables right net p.0 q.0 p.2 q.2 }

back : (board : Tables) (v : Verdict) → AreConsistent board → IsRight board v → (a b : ℕ) → ArePointsJoined board a b → HaveOneNet v a b
back board v tables right a b j =
    let here = point_on board v right a j.p j.first in
    let there = point_on board v right b j.q j.last in
    let holds = all_on board v tables right a here.0 j.p here.1 j.first in
    let reached = stays (length board.near) (Stands board.near) v.nets (right_nets board v right) tables.known here.0 j.p j.q j.joined.0 holds j.joined.1 in
    let other = all_on board v tables right b there.0 j.q there.1 j.last in
    let same : here.0 ≡ there.0 = (right Covers).one_net here.0 there.0 j.q reached other in
    (here.0, here.1, subst (λ (n : ℕ). IsOn v b n) (sym same) there.1)

-- A point without a net has no piece under it.
none_under : (board : Tables) (v : Verdict) → IsRight board v → (k p : ℕ) → IsWithoutNet v k → Stands board.beneath k p → ⊥
none_under board v right k p (line, there, none) inside =
    let on = point_on board v right k p inside in
    let same : on.1.0 ≡ line = same_Some on.1.0 line (sym on.1.1 ∙ there) in
    let net : Some on.0 ≡ None = sym on.1.2 ∙ (ap (λ (l : PointLine). l.net) same ∙ none) in
    none-some on.0 (sym net)

pub net_numbers_are_joins : (board : Tables) (v : Verdict) → AreConsistent board → IsRight board v → NetNumbersAreJoins board v
net_numbers_are_joins board v tables right = record {
  joined = λ a b. (forth board v tables right a b, back board v tables right a b);
  unjoined = λ a b without joined. none_under board v right a joined.p without joined.first;
}
