-- The radii of the capsules among pieces.
use Rattle.std.specs.Prelude.{ℕ, nat_eq, if◌then◌else◌, List, [], ◌∷◌, ◌++◌, unsigned_abs}
use Rattle.std.specs.List.{list_any}
use Rattle.board_shapes.specs.Figures.{Figure, round, filled}
use Rattle.board_shapes.specs.Pieces.{PlainPiece}

-- one more, which goes last where it is new
abbrev pub with_radius : ℕ → List ℕ → List ℕ
with_radius r radii = if list_any (nat_eq r) radii then radii else radii ++ r ∷ []

-- that of a figure, if it is a capsule
abbrev pub with_radius_of : List ℕ → Figure → List ℕ
with_radius_of radii (round stroke) = with_radius (unsigned_abs stroke.r) radii
with_radius_of radii (filled points) = radii

-- those of more pieces
abbrev pub radii_after : List ℕ → List PlainPiece → List ℕ
radii_after radii [] = radii
radii_after radii (piece ∷ pieces) = radii_after (with_radius_of radii piece.figure) pieces

-- each radius once, in order of first use
abbrev pub radii_of : List PlainPiece → List ℕ
radii_of pieces = radii_after [] pieces
