-- The barrels of a drill file stand on the layers of the board, also as real pieces.
use Rattle.std.proofs.Common.{◌≡◌, ℕ, List, All, sym, subst}
use Rattle.std.proofs.lemmas.List.{length-map, get_or-map}
use Rattle.std.proofs.lemmas.List.Elements.{All-map}
use Rattle.real_copper.specs.Shapes.{PlainReal, plain_real, plain_reals}
use Rattle.real_shapes.specs.declared.RealShape.{RealShape}
use Rattle.board_shapes.specs.Lawful.{IsSpan}
use Rattle.board_shapes.specs.Pieces.{plain_piece, plain_pieces}
use Rattle.board_shapes.specs.declared.placed.Placed.{Placed}
use Rattle.board_shapes.specs.declared.shape.Shape.{Shape}
use Rattle.board_package.specs.Manifest.{IsOnBoard}
use Rattle.board_package.specs.declared.entry.Role.{Role}
use Rattle.board_package.specs.declared.entry.Role.TheVariants as role
use Rattle.board_package.specs.Parts.{StandsOn}
use Rattle.real_package.specs.RealBoards.{as_real, as_reals}

abbrev Spans : ℕ → PlainReal → Type 0
Spans layers q = IsSpan layers q.top q.bottom

each_piece : (layers : ℕ) (reals : List (Placed RealShape)) → All (Spans layers) (plain_reals reals) → All (StandsOn layers) reals
each_piece layers reals h = λ i d below. subst (Spans layers) (get_or-map plain_real reals i d (plain_real d) below) (h i (plain_real d) (rw (length-map reals plain_real) below))

span_of : (layers from to top bottom : ℕ) → IsOnBoard layers (role.Drill from to) → (top ≡ from) × (bottom ≡ to) → IsSpan layers top bottom
span_of layers from to top bottom on is = subst (λ (t : ℕ). IsSpan layers t bottom) (sym is.0) (subst (λ (b : ℕ). IsSpan layers from b) (sym is.1) on)

pub on_spans : (layers from to : ℕ) (r : Role) (pieces : List (Placed Shape)) (reals : List (Placed RealShape)) → IsOnBoard layers r → r ≡ role.Drill from to
    → All (λ p. (p.top ≡ from) × (p.bottom ≡ to)) pieces → plain_reals reals ≡ as_reals (plain_pieces pieces) → All (StandsOn layers) reals
on_spans layers from to r pieces reals on is h are =
    let there : IsOnBoard layers (role.Drill from to) = subst (λ (x : Role). IsOnBoard layers x) is on in
    each_piece layers reals (subst (λ xs. All (Spans layers) xs) (sym are) (All-map (Spans layers) as_real (plain_pieces pieces) (All-map (λ q. Spans layers (as_real q)) plain_piece pieces (λ i d below. span_of layers from to _ _ there (h i d below)))))
