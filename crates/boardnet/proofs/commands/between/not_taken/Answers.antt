use Rattle.std.proofs.Common.{length, refl, subst, sym}
use Rattle.std.proofs.lemmas.Option.{slice_get_read}
use Rattle.boardnet.proofs.Readings.{comes_from}
use Rattle.boardnet.specs.Unbounded.{IsInRange, IsNotTaken}
use Rattle.boardnet.specs.declared.answer.Unanswered.TheVariants.{Unbound}
use Rattle.boardnet.specs.declared.unbound.Unbound.TheVariants.{Piece}
use Rattle.real_package.specs.RealBoards.{plain_real_board}
use Rattle.boardnet.proofs.commands.between.not_taken.Goals as goal

pub returns-in-Piece : goal.returns-in-Piece
returns-in-Piece c =
    let pieces = c.args.real.now.pieces.items in
    let below = subst (λ f. IsInRange (length pieces) f) c.in-Piece.is c.requires in
    subst (λ f. IsNotTaken (plain_real_board c.args.real.now) f (Unbound (Piece c.in-Piece.side c.index.result.now.origin))) (sym c.in-Piece.is)
    (c.index.result.now.origin, refl, comes_from (plain_real_board c.args.real.now) pieces c.in-Piece.number c.index.result.now refl (slice_get_read pieces (length pieces) c.in-Piece.number c.index.result.now refl below c.index.ensures))
