use Rattle.std.proofs.Common.{◌≡◌, ℕ, ◌+◌, ◌++◌, ◌∷◌, [], List, true, Contains, arith, subst, sym, take, get_or, set}
use Rattle.std.proofs.lemmas.List.{take_all, take_more}
use Rattle.std.proofs.lemmas.List.Elements.{All-get_or}
use Rattle.verdict.specs.Forest.{pieces_of}
use Rattle.judge.specs.Judged.{AreFlags}
use Rattle.judge.proofs.Climbing.{AreFlagged, flagged_more}
use Rattle.judge.proofs.paths.flag_path.Goals as goal
use Rattle.verdict.proofs.Placing.{placed}

pub bounds-places-piece : goal.bounds-places-piece
bounds-places-piece c = (placed c.args.net.now c.args.places.now _ c.requires.places (All-get_or (λ piece. Contains (pieces_of c.args.net.now) piece) c.args.pieces.now c.loop-piece.piece-index 0 (omega arith) c.requires.inside)).1

pub bounds-flags-places : goal.bounds-flags-places
bounds-flags-places c =
    let p = (placed c.args.net.now c.args.places.now _ c.requires.places (All-get_or (λ piece. Contains (pieces_of c.args.net.now) piece) c.args.pieces.now c.loop-piece.piece-index 0 (omega arith) c.requires.inside)).0 in
    let e = c.loop-piece.invariant.long in
    omega arith

pub loop-piece-preserved : goal.loop-piece-preserved
loop-piece-preserved c =
    let q : ℕ = get_or c.args.pieces.now c.loop-piece.piece-index 0 in
    let inside : Contains (pieces_of c.args.net.now) q = All-get_or (λ piece. Contains (pieces_of c.args.net.now) piece) c.args.pieces.now c.loop-piece.piece-index 0 (omega arith) c.requires.inside in
    let more : take (c.loop-piece.piece-index + 1) c.args.pieces.now ≡ take c.loop-piece.piece-index c.args.pieces.now ++ q ∷ [] = take_more c.args.pieces.now c.loop-piece.piece-index 0 (omega arith) in
    subst (λ (xs : List ℕ). AreFlagged c.args.net.now c.args.flags.now xs (set c.loop-piece.flags (get_or c.args.places.now q 0) true)) (sym more)
    (flagged_more c.args.net.now c.args.places.now c.args.flags.now (take c.loop-piece.piece-index c.args.pieces.now) c.loop-piece.flags q c.requires.places c.requires.flags inside c.loop-piece.invariant)

pub returns : goal.returns
returns c = λ ends a.
    let all : take c.loop-piece.piece-index c.args.pieces.now ≡ c.args.pieces.now = take_all c.loop-piece.piece-index c.args.pieces.now (omega arith) in
    subst (λ (xs : List ℕ). AreFlags c.args.net.now (ends ++ xs) c.loop-piece.flags) all (c.loop-piece.invariant.agree ends a)
