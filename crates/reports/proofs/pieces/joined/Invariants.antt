use Rattle.std.proofs.Common.{◌≡◌, ℕ, List, take}
use Rattle.std.specs.List.{flat_map}
use denote.Ref.{Bor}
use Rattle.reports.proofs.pieces.joined.Given as goal

abbrev pub invariant-loop-piece : goal.invariant-loop-piece
invariant-loop-piece l = l.text.items ≡ flat_map (λ (piece : Bor (List ℕ)). piece.now) (take l.piece-index l.pieces)
