use Rattle.std.proofs.Common.{List, ap, arith, pos, refl, sym, false, unsigned_abs, ◌≡◌, ◌∙◌}
use Rattle.std.proofs.lemmas.Int.{ints}
use Rattle.planar.specs.declared.Spot.{Spot}
use Rattle.board_shapes.specs.Figures.{capsule_figure}
use Rattle.board_shapes.specs.Pieces.{plain_pieces}
use Rattle.arc_covers.specs.Bounds.{capsules_from, capsules_of, figures_of}
use Rattle.arc_covers.proofs.Figures.{chain_refused, chain_taken, none_of, some_of}
use Rattle.arc_covers.proofs.rows.begin_chain.Goals as goal

pub returns-in-Some : goal.returns-in-Some
returns-in-Some c = chain_taken c.args.side c.args.arc.now (capsule_figure c.args.first.now) c.requires.0 (figures_of (plain_pieces c.args.pieces.now)) c.deref.result.now c.unsigned_abs-r.result c.is_taken.result c.requires.1
    (some_of c.in_ok-chain.field-0 c.in-Some.chain (λ chain. figures_of (plain_pieces c.args.pieces.now) ≡ capsules_of chain.items (pos c.unsigned_abs-r.result)) c.in-Some.is c.in_ok-chain.ensures.some ∙
    ap (λ (spots : List Spot). capsules_of spots (pos c.unsigned_abs-r.result)) (sym c.deref.ensures.value)) c.is_taken.ensures

pub returns-in-None : goal.returns-in-None
returns-in-None c =
    let same : pos c.unsigned_abs-r.result ≡ c.args.first.now.r = omega (arith, ints, c.args.first.now.radius.0, c.args.first.now.radius.1) in
    chain_refused c.args.side c.args.arc.now c.args.first.now.a c.args.first.now.b c.args.first.now.r c.requires.0 (figures_of (plain_pieces c.args.pieces.now)) c.unsigned_abs-r.result false refl c.requires.1 (ap unsigned_abs (sym same))
    (none_of c.in_ok-chain.field-0 ((rest : List Spot) → figures_of (plain_pieces c.args.pieces.now) ≡ capsules_from c.args.first.now.a rest (pos c.unsigned_abs-r.result) → ⊥) c.in-None.is c.in_ok-chain.ensures.none)
