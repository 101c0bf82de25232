-- What a search of cells finds.
use Rattle.std.specs.Prelude.{ℕ, ◌≡◌, ◌⊎◌, ◌*◌, ◌<◌, ℤ, pos, ◌<ℤ◌, true, min, Option, Some, None, List, All, Contains}
use Rattle.contact.specs.declared.Bounds.{Bounds}
use Rattle.cell_index.specs.Field.{boxes_meet}
use Rattle.cell_index.specs.Stretched.{copy_in}
use Rattle.board_shapes.specs.declared.placed.Placed.{Placed}
use Rattle.cell_index.specs.declared.patch.Patch.{Patch}
use Rattle.cell_index.specs.declared.patch.TheConstants.{CELL}
use Rattle.cell_index.specs.declared.plate.Plate.{Plate}

-- All numbers are those of items, and no number went away.
pub record Grows (count : ℕ) (old new : List ℕ) : Type 0 where
  pub known : All (λ q. q < count) new
  pub kept : (q : ℕ) → Contains old q → Contains new q

-- a side from z on begins in cell k, or it is the first cell of the patch
abbrev pub Begins : ℕ → ℕ → ℤ → Type 0
Begins first k z = (k ≡ first) ⊎ (pos (CELL * k) <ℤ z)

-- the copy meets the box of the patch, and this is the first cell that both meet
pub record IsMet (copy bounds : Bounds) (patch : Patch) (across up : ℕ) : Type 0 where
  pub boxes : boxes_meet bounds copy ≡ true
  pub from_left : Begins patch.left across copy.left
  pub from_low : Begins patch.low up copy.low

-- those of the listed that are wanted and are met in the cell were found
abbrev pub Finds : (ℕ → Type 0) → List (Placed Plate) → Bounds → Patch → ℕ → ℕ → List ℕ → List ℕ → Type 0
Finds wanted copies bounds patch across up listed found = (q : ℕ) → Contains listed q → wanted q × IsMet (copy_in copies q) bounds patch across up → Contains found q

-- the lesser of two numbers that may be missing
abbrev pub IsLesser : Option ℕ → Option ℕ → Option ℕ → Type 0
IsLesser None b result = result ≡ b
IsLesser (Some x) None result = result ≡ Some x
IsLesser (Some x) (Some y) result = result ≡ Some (min x y)
