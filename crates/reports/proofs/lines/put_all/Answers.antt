use Rattle.std.proofs.Common.{◌≡◌, ℕ, List, [], subst, sym, rules}
use denote.Ref.{Bor}
use Rattle.board_io.specs.declared.sink.Put.TheVariants.{Failed}
use Rattle.reports.specs.Lines.{Says}
use Rattle.reports.proofs.Says.{says_failed, flat_map-around}
use Rattle.reports.proofs.lines.put_all.Goals as goal

pub returns-then-eq-clause-says : goal.returns-then-eq-clause-says
returns-then-eq-clause-says g c =
    let failed : c.put.result ≡ Failed = search rules in
    let none : Bor (List ℕ) = record { ref_ptr = (0, 0); now = [] } in
    subst (λ (t : List ℕ). Says g.N.Sink.got g.N.Sink.faults c.args.notes.now c.put.new.self t)
    (sym (flat_map-around (λ (p : Bor (List ℕ)). p.now) c.args.pieces.now c.loop-piece.piece-index none c.loop-piece-test.true))
    (says_failed g.N.Sink.got g.N.Sink.faults _ _ _ c.put.result _ _ _ c.loop-piece.invariant.0 c.loop-piece.invariant.1 c.put.ensures.told c.put.ensures.cause failed).0
