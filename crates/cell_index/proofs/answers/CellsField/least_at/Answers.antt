use Rattle.std.proofs.Common.{ℕ, ◌<◌, ◌≡◌, min, pos, inl, inr, Option, None, Some, IfSome, List, All, Contains, length, sym, subst, arith}
use Rattle.std.proofs.lemmas.Bool.{cases_lt}
use Rattle.std.proofs.lemmas.Option.{slice_get_within}
use Rattle.planar.specs.declared.Spot.{Spot}
use Rattle.planar.specs.declared.TheConstants.{SIDE}
use Rattle.planar.specs.Plane.{at}
use Rattle.contact.specs.Solid.{InBox, IsBetween}
use Rattle.cell_index.specs.Among.{UnderAmong}
use Rattle.cell_index.specs.Cells.{wide_of}
use Rattle.cell_index.specs.Finding.{IsLesser}
use Rattle.cell_index.specs.Stretched.{copy_in, corner}
use Rattle.tables.specs.Lists.{IsLeast}
use Rattle.cell_index.proofs.Stretching.{place_within}
use Rattle.cell_index.proofs.Whole.{lesser_is_least}
use Rattle.cell_index.proofs.answers.CellsField.least_at.Goals as goal

-- the lesser of two numbers is one of them
lesser_is_known : (P : ℕ → Type 0) (a b r : Option ℕ) → IfSome a P → IfSome b P → IsLesser a b r → IfSome r P
lesser_is_known P None b r f g is = subst (λ (o : Option ℕ). IfSome o P) (sym is) g
lesser_is_known P (Some x) None r f g is = subst (λ (o : Option ℕ). IfSome o P) (sym is) f
lesser_is_known P (Some x) (Some y) r f g is = subst (λ (o : Option ℕ). IfSome o P) (sym is) (elim (cases_lt x y) [
  | inl less ↦ (let e : min x y ≡ x = omega arith in subst P (sym e) f)
  | inr over ↦ (let e : min x y ≡ y = omega arith in subst P (sym e) g)
])

pub around-requires-clause-across : goal.around-requires-clause-across
around-requires-clause-across g c = subst (λ (s : Spot). IsBetween (pos 0) SIDE s.x) (sym c.spot-place.ensures) (place_within c.args.self.now.finer.stretch.across c.args.at.x)

pub around-requires-clause-up : goal.around-requires-clause-up
around-requires-clause-up g c = subst (λ (s : Spot). IsBetween (pos 0) SIDE s.y) (sym c.spot-place.ensures) (place_within c.args.self.now.finer.stretch.up c.args.at.y)

pub first_under-in_cell-requires-clause-list : goal.first_under-in_cell-requires-clause-list
first_under-in_cell-requires-clause-list g c = subst (λ (n : ℕ). All (λ q. q < n) c.around.result.now) c.args.self.now.copied c.around.ensures.known

pub first_under-in_cell-requires-clause-rising : goal.first_under-in_cell-requires-clause-rising
first_under-in_cell-requires-clause-rising g c = c.around.ensures.rising

pub first_under-in_cell-requires-clause-placed : goal.first_under-in_cell-requires-clause-placed
first_under-in_cell-requires-clause-placed g c = c.requires

pub first_under-in_cell-requires-clause-place : goal.first_under-in_cell-requires-clause-place
first_under-in_cell-requires-clause-place g c = c.spot-place.ensures

pub first_under-in_wide-requires-clause-list : goal.first_under-in_wide-requires-clause-list
first_under-in_wide-requires-clause-list g c = subst (λ (n : ℕ). All (λ q. q < n) c.wide.result.now) c.args.self.now.copied c.wide.ensures.known

pub first_under-in_wide-requires-clause-rising : goal.first_under-in_wide-requires-clause-rising
first_under-in_wide-requires-clause-rising g c = c.wide.ensures.rising

pub first_under-in_wide-requires-clause-placed : goal.first_under-in_wide-requires-clause-placed
first_under-in_wide-requires-clause-placed g c = c.requires

pub first_under-in_wide-requires-clause-place : goal.first_under-in_wide-requires-clause-place
first_under-in_wide-requires-clause-place g c = c.spot-place.ensures

pub returns-clause-least : goal.returns-clause-least
returns-clause-least g c =
    let under : ℕ → Type 0 = UnderAmong g.S.Closed.holds c.args.self.now.items.now c.args.at c.args.layer in
    let wide : List ℕ = wide_of (λ s. s.bounds) corner c.args.self.now.finer.copies.items 1 in
    lesser_is_least under c.around.result.now wide c.first_under-in_cell.result c.first_under-in_wide.result c.lesser.result
    c.first_under-in_cell.ensures.least
    (subst (λ (xs : List ℕ). IsLeast (λ q. under q × Contains xs q) c.first_under-in_wide.result) c.wide.ensures.wide c.first_under-in_wide.ensures.least)
    c.lesser.ensures
    (λ q u.
    let below = slice_get_within c.args.self.now.items.now q u.item u.there in
    let long = c.args.self.now.copied in
    c.around.ensures.held q (omega arith) (subst (λ (s : Spot). InBox (copy_in c.args.self.now.finer.copies.items q) (at s)) (sym c.spot-place.ensures) (c.args.self.now.held c.args.at c.args.layer q u)))

pub returns-clause-piece : goal.returns-clause-piece
returns-clause-piece g c = lesser_is_known (λ q. q < length c.args.self.now.items.now) c.first_under-in_cell.result c.first_under-in_wide.result c.lesser.result c.first_under-in_cell.ensures.piece c.first_under-in_wide.ensures.piece c.lesser.ensures
