use Rattle.std.proofs.Common.{false, get_or, IfSome, None, ℕ}
use Rattle.board_shapes.specs.Plain.{plain_board}
use Rattle.board_shapes.specs.Touching.{UnderAt}
use Rattle.witness_check.specs.Strips.{IsEnough}
use Rattle.witness_check.proofs.Sweeping.{AreCounted}
use Rattle.witness_check.proofs.least.find.Given as goal

abbrev pub invariant-loop-j : goal.invariant-loop-j
invariant-loop-j l =
    ((k : ℕ) → IfSome (get_or l.initial.homes k None) (UnderAt (plain_board l.fn.board) k) → IfSome (get_or l.homes k None) (UnderAt (plain_board l.fn.board) k))
    × ((k p : ℕ) → IsEnough (get_or l.wanted k false) (get_or l.initial.homes k None) p → IsEnough (get_or l.wanted k false) (get_or l.homes k None) p)
    × AreCounted (UnderAt (plain_board l.fn.board)) l.wanted l.homes l.interval l.points l.from l.j
