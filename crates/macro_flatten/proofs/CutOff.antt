-- A copper file with macros that is cut off.
use Rattle.std.proofs.Common.{◌≡◌, ℕ, ◌⊎◌, inl, inr, List, take, subst}
use Rattle.board_shapes.specs.Pieces.{PlainPiece}
use Rattle.gerber_layer.specs.declared.macro_kind.FlattenKind.{FlattenKind}
use Rattle.gerber_layer.specs.MacroLayer.{HasOneMacroAnswer, IsReadWithMacros, IsRefusedWithMacros}
use Rattle.macro_flatten.specs.Laws.{CutIsRefusedOrTheSame}

-- by the two laws of the reader
pub cut_is_refused_or_the_same : ((file : List ℕ) → HasOneMacroAnswer file) → ((file : List ℕ) (pieces others : List PlainPiece) (n : ℕ) → IsReadWithMacros file pieces → IsReadWithMacros (take n file) others → others ≡ pieces) → CutIsRefusedOrTheSame
cut_is_refused_or_the_same one same file pieces n read = by (one (take n file)).some_answer
  where
    by : ((others : List PlainPiece) × IsReadWithMacros (take n file) others) ⊎ ((why : FlattenKind) × (number : ℕ) × (place : ℕ) × IsRefusedWithMacros (take n file) why number place)
        → ((why : FlattenKind) × (number : ℕ) × (place : ℕ) × IsRefusedWithMacros (take n file) why number place) ⊎ IsReadWithMacros (take n file) pieces
    by (inl (others, cut)) = inr (subst (IsReadWithMacros (take n file)) (same file pieces others n read cut) cut)
    by (inr refused) = inl refused
