use Rattle.std.proofs.Common.{inl, inr, ℕ, ◌<◌, List, length, arith, Contains, get_or, subst, sym, refl, All}
use Rattle.std.proofs.lemmas.List.Elements.{All-get_or, Contains-get_or}
use Rattle.cell_index.specs.Field.{IsNear, ListsWanted}
use Rattle.flood.specs.Flood.{IsSeen}
use Rattle.flood.proofs.Growing.{spread_old, spread_new}
use Rattle.flood.proofs.Seen.{near_below, read_at, seen_or_not, unseen-set}
use Rattle.flood.proofs.nets.spread.Goals.{then-not-seen-other+in_ok-push, else-not-seen-other}
use Rattle.flood.proofs.nets.spread.Goals as goal

pub loop-other-preserved : goal.loop-other-preserved
loop-other-preserved g c = elim c.if-not-seen-other.branch [
  | then-not-seen-other+in_ok-push w ↦
      let near : ℕ → ℕ → Type 0 = IsNear (g.F.Field.size c.args.field.now) (g.F.Field.touch c.args.field.now) in
      let row : List ℕ = c.as_slice-other-items.result.now in
      let q : ℕ = get_or row c.loop-other.other-index 0 in
      let lists : ListsWanted (near c.args.piece) (λ q. IsSeen c.args.seen.now q → ⊥) row = subst (λ (xs : List ℕ). ListsWanted (near c.args.piece) (λ q. IsSeen c.args.seen.now q → ⊥) xs) (sym c.as_slice-other-items.ensures.value) c.in_ok-wanted_neighbours.ensures.near in
      let few : All (λ x. x < g.F.Field.size c.args.field.now) row = near_below (g.F.Field.size c.args.field.now) (g.F.Field.touch c.args.field.now) c.args.piece (λ q. IsSeen c.args.seen.now q → ⊥) c.wanted_neighbours.new.into.items row c.as_slice-other-items.ensures.value c.in_ok-wanted_neighbours.ensures.near in
      let item : c.loop-other.other-index < length row = omega arith in
      let below : q < length c.loop-other.seen = let e = All-get_or (λ x. x < g.F.Field.size c.args.field.now) row c.loop-other.other-index 0 item few in omega arith in
      let new : IsSeen c.loop-other.seen q → ⊥ = λ was. let t = w.if-not-seen-other.true in cc in
      rw (w.net-is, w.in_ok-push.ensures.ok, w.seen-is) (spread_new near c.args.net.now c.args.seen.now row c.loop-other.other-index c.loop-other.net c.loop-other.seen c.args.piece q c.loop-other.invariant refl c.requires.inside (lists.only q (Contains-get_or row c.loop-other.other-index 0 item)) below new)
  | else-not-seen-other w ↦ rw (w.net-is, w.seen-is) (spread_old _ _ _ _ _ _ _ c.loop-other.invariant w.if-not-seen-other.false)
]

pub returns-clause-all : goal.returns-clause-all
returns-clause-all g c = λ q near. elim (seen_or_not c.args.seen.now q) [
  | inl was ↦ c.loop-other.invariant.stays q was
  | inr not ↦
      let row : List ℕ = c.as_slice-other-items.result.now in
      let inside : Contains row q = subst (λ (xs : List ℕ). Contains xs q) (sym c.as_slice-other-items.ensures.value) (c.in_ok-wanted_neighbours.ensures.near.all q near not) in
      let below : inside.0 < c.loop-other.other-index = let e = inside.1 in omega arith in
      subst (λ (x : ℕ). IsSeen c.loop-other.seen x) (read_at row q inside) (c.loop-other.invariant.done inside.0 below)
]

pub returns-in_err-push-clause-fewer : goal.returns-in_err-push-clause-fewer
returns-in_err-push-clause-fewer g c = λ w.
    let row : List ℕ = c.as_slice-other-items.result.now in
    let q : ℕ = get_or row c.loop-other.other-index 0 in
    let few : All (λ x. x < g.F.Field.size c.args.field.now) row = near_below (g.F.Field.size c.args.field.now) (g.F.Field.touch c.args.field.now) c.args.piece (λ q. IsSeen c.args.seen.now q → ⊥) c.wanted_neighbours.new.into.items row c.as_slice-other-items.ensures.value c.in_ok-wanted_neighbours.ensures.near in
    let item : c.loop-other.other-index < length row = omega arith in
    let below : q < length c.loop-other.seen = let e = All-get_or (λ x. x < g.F.Field.size c.args.field.now) row c.loop-other.other-index 0 item few in omega arith in
    let new : IsSeen c.loop-other.seen q → ⊥ = λ was. let t = c.if-not-seen-other.true in cc in
    let e = unseen-set w 0 c.loop-other.seen q below new in
    let f = c.loop-other.invariant.fewer w in
    omega arith

pub bounds-seen-other : goal.bounds-seen-other
bounds-seen-other g c =
    let row : List ℕ = c.as_slice-other-items.result.now in
    let few : All (λ x. x < g.F.Field.size c.args.field.now) row = near_below (g.F.Field.size c.args.field.now) (g.F.Field.touch c.args.field.now) c.args.piece (λ q. IsSeen c.args.seen.now q → ⊥) c.wanted_neighbours.new.into.items row c.as_slice-other-items.ensures.value c.in_ok-wanted_neighbours.ensures.near in
    let e = All-get_or (λ x. x < g.F.Field.size c.args.field.now) row c.loop-other.other-index 0 c.loop-other-test.true few in
    omega arith

pub bounds-seen-other-then-not-seen-other : goal.bounds-seen-other-then-not-seen-other
bounds-seen-other-then-not-seen-other g c =
    let row : List ℕ = c.as_slice-other-items.result.now in
    let few : All (λ x. x < g.F.Field.size c.args.field.now) row = near_below (g.F.Field.size c.args.field.now) (g.F.Field.touch c.args.field.now) c.args.piece (λ q. IsSeen c.args.seen.now q → ⊥) c.wanted_neighbours.new.into.items row c.as_slice-other-items.ensures.value c.in_ok-wanted_neighbours.ensures.near in
    let e = All-get_or (λ x. x < g.F.Field.size c.args.field.now) row c.loop-other.other-index 0 c.loop-other-test.true few in
    omega arith
