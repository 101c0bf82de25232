use Rattle.std.proofs.Common.{◌≡◌, ℕ, List, take}
use Rattle.std.specs.List.{flat_map}
use denote.Ref.{Bor}
use Rattle.board_io.specs.Sink.{Gains}
use Rattle.reports.proofs.lines.put_all.Given as goal

abbrev pub invariant-loop-piece : goal.invariant-loop-piece
invariant-loop-piece g l =
    Gains (g.N.Sink.got l.initial.notes) (flat_map (λ (piece : Bor (List ℕ)). piece.now) (take l.piece-index l.pieces)) (g.N.Sink.got l.notes)
    × (g.N.Sink.faults l.notes ≡ g.N.Sink.faults l.initial.notes)
