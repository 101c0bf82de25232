use Rattle.std.proofs.Common.{ℕ, arith, ap, ◌∙◌, get_or}
use Rattle.verdict.proofs.Holding.{piece_held, piece_read}
use Rattle.witness_check.proofs.Once.{standing_done, standing_more, standing_stood, standing_stops}
use Rattle.witness_check.proofs.Told.{refuted, proved}
use Rattle.witness_check.proofs.nets.stand_net.Goals as goal

pub bounds-numbers-piece : goal.bounds-numbers-piece
bounds-numbers-piece c = let e = c.requires.known _ (piece_held c.args.net.now c.loop-k.k (omega arith)) in let f = c.loop-k.invariant.long in omega arith

pub returns-then-numbers-piece-clause-new : goal.returns-then-numbers-piece-clause-new
returns-then-numbers-piece-clause-new c =
    refuted _ (standing_stops 4294967295 c.args.number c.args.net.now c.args.numbers.now c.args.places.now c.loop-k.k c.loop-k.numbers c.loop-k.places c.loop-k.invariant (omega arith)
    (λ off. c.if-numbers-piece.true (ap (λ (x : ℕ). get_or c.loop-k.numbers x 0) (piece_read c.args.net.now c.loop-k.k (omega arith)) ∙ off)))

pub loop-k-preserved : goal.loop-k-preserved
loop-k-preserved c =
    let e = c.requires.known _ (piece_held c.args.net.now c.loop-k.k (omega arith)) in
    let f = c.loop-k.invariant.long in
    let g = c.loop-k.invariant.room in
    standing_more 4294967295 c.args.number c.args.net.now c.args.numbers.now c.args.places.now c.loop-k.k c.loop-k.numbers c.loop-k.places _ c.requires.number c.loop-k.invariant (piece_read c.args.net.now c.loop-k.k (omega arith)) (omega arith) (omega arith) c.if-numbers-piece.false

pub returns-clause-new : goal.returns-clause-new
returns-clause-new c = proved _ (standing_done 4294967295 c.args.number c.args.net.now c.args.numbers.now c.args.places.now c.loop-k.k c.loop-k.numbers c.loop-k.places c.loop-k.invariant (omega arith))

pub returns-clause-tables : goal.returns-clause-tables
returns-clause-tables c = λ t. standing_stood 4294967295 c.args.number c.args.net.now c.args.numbers.now c.args.places.now c.loop-k.k c.loop-k.numbers c.loop-k.places c.loop-k.invariant (omega arith) c.requires.room c.requires.known
