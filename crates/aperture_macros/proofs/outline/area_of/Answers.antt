use Rattle.std.proofs.Common.{◌≡◌, Bool, true, List, refl, sym, ap, ◌∙◌}
use Rattle.std.specs.List.{list_all}
use Rattle.planar.specs.Plane.{is_placed}
use Rattle.planar.specs.declared.Spot.{Spot}
use Rattle.aperture_macros.specs.Images.{area_at}
use Rattle.aperture_macros.specs.Seen.{IsNoArea}
use Rattle.aperture_macros.proofs.outline.area_of.Goals as goal

placed_area : (points xs : List Spot) (placed : Bool) → placed ≡ list_all is_placed xs → placed ≡ true → xs ≡ points → IsNoArea (area_at points) → ⊥
placed_area points xs placed is there same none =
    let all : list_all is_placed points ≡ true = ap (λ (ps : List Spot). list_all is_placed ps) (sym same) ∙ sym is ∙ there in
    none points (rw all refl)

pub returns-in-Err-clause-no_memory : goal.returns-in-Err-clause-no_memory
returns-in-Err-clause-no_memory c = placed_area c.args.spots.now c.args.spots.now c.are_placed.result c.are_placed.ensures.value c.if-not-are_placed.false refl
