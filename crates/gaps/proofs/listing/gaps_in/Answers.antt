use Rattle.std.proofs.Common.{◌≡◌, ℕ, ℤ, pos, ◌+ℤ◌, List, Result, Ok, Err, IfOk, length, map, arith, ap, sym, refl, ◌∙◌, get_or}
use Rattle.std.proofs.lemmas.List.{length-map}
use Rattle.contact.specs.Solid.{IsInside}
use Rattle.board_shapes.specs.Figures.{figure_box}
use Rattle.board_shapes.specs.Pieces.{PlainPiece, plain_pieces}
use Rattle.board_shapes.specs.Plain.{PlainBoard, plain_board}
use Rattle.board_shapes.specs.Tables.{IsNear}
use Rattle.board_shapes.specs.declared.placed.Placed.{Placed}
use Rattle.cell_index.specs.Among.{TouchAmong}
use Rattle.verdict.specs.Forest.{Holds}
use Rattle.verdict.proofs.Trees.{nets_few}
use Rattle.gaps.specs.declared.Fat.{Fat}
use Rattle.gaps.specs.declared.gap.Gap.{Gap}
use Rattle.gaps.specs.Firsts.{AreFirsts}
use Rattle.gaps.specs.Gaps.{AreGaps, CloseAt}
use Rattle.gaps.specs.Grown.{wider_box}
use Rattle.gaps.specs.GrownPieces.{AreGrown, piece_in, piece_span}
use Rattle.gaps.specs.Meetings.{IsFieldLine, net_of}
use Rattle.gaps.proofs.Bridge.{InFat, all_fats, board_gaps, from_zero, grown_lent, pieces_many}
use Rattle.gaps.proofs.listing.gaps_in.Goals as goal

-- what follows from an answer
followed : {A E : Type 0} (P Q : A → Type 0) (r : Result A E) → ((x : A) → P x → Q x) → IfOk r P → IfOk r Q
followed P Q (Ok x) f h = f x h
followed P Q (Err why) f h = h

as_many : (g : ℤ) (pieces : List PlainPiece) (fats : List (Placed Fat)) → AreGrown g pieces fats → length fats ≡ length pieces
as_many g pieces fats grown = sym (length-map fats piece_in) ∙ ap length grown.pieces_are

pub numbers_of-requires-clause-few : goal.numbers_of-requires-clause-few
numbers_of-requires-clause-few g c =
    let b : PlainBoard = plain_board c.args.board.now in
    let e = nets_few (length b.pieces) (IsNear b) c.args.nets.now c.requires.trees.trees (length c.args.nets.now) refl in
    let f = pieces_many c.pieces-pieces.result.now b.pieces c.pieces-pieces.ensures.plain in
    omega (arith, c.pieces-pieces.ensures.few)

pub numbers_of-requires-clause-known : goal.numbers_of-requires-clause-known
numbers_of-requires-clause-known g c = λ i p h.
    let e = c.requires.trees.trees.known i p h in
    let f = pieces_many c.pieces-pieces.result.now (plain_board c.args.board.now).pieces c.pieces-pieces.ensures.plain in
    omega arith

pub met_in-requires-clause-few : goal.met_in-requires-clause-few
met_in-requires-clause-few g c =
    let b : PlainBoard = plain_board c.args.board.now in
    let grown : AreGrown (pos c.args.grow) b.pieces c.deref.result.now = grown_lent (pos c.args.grow) (plain_pieces c.pieces-pieces.result.now) b.pieces c.in_ok-fats.fats.items c.deref.result.now c.pieces-pieces.ensures.plain c.deref.ensures.value c.in_ok-fats.ensures in
    let many = as_many (pos c.args.grow) b.pieces c.deref.result.now grown in
    let plain = pieces_many c.pieces-pieces.result.now b.pieces c.pieces-pieces.ensures.plain in
    omega (arith, c.pieces-pieces.ensures.few)

pub met_in-requires-clause-inside : goal.met_in-requires-clause-inside
met_in-requires-clause-inside g c =
    let b : PlainBoard = plain_board c.args.board.now in
    let grown : AreGrown (pos c.args.grow) b.pieces c.deref.result.now = grown_lent (pos c.args.grow) (plain_pieces c.pieces-pieces.result.now) b.pieces c.in_ok-fats.fats.items c.deref.result.now c.pieces-pieces.ensures.plain c.deref.ensures.value c.in_ok-fats.ensures in
    all_fats (λ p z. IsInside (wider_box (figure_box p.figure) z) c.args.frame) (pos c.args.grow) b.pieces c.deref.result.now grown c.requires.inside

pub met_in-requires-clause-numbered : goal.met_in-requires-clause-numbered
met_in-requires-clause-numbered g c =
    let b : PlainBoard = plain_board c.args.board.now in
    let grown : AreGrown (pos c.args.grow) b.pieces c.deref.result.now = grown_lent (pos c.args.grow) (plain_pieces c.pieces-pieces.result.now) b.pieces c.in_ok-fats.fats.items c.deref.result.now c.pieces-pieces.ensures.plain c.deref.ensures.value c.in_ok-fats.ensures in
    ap length c.deref-2.ensures.value ∙ (c.in_ok-numbers.ensures.long ∙ (pieces_many c.pieces-pieces.result.now b.pieces c.pieces-pieces.ensures.plain ∙ sym (as_many (pos c.args.grow) b.pieces c.deref.result.now grown)))

pub met_in-requires-clause-spanned : goal.met_in-requires-clause-spanned
met_in-requires-clause-spanned g c =
    let b : PlainBoard = plain_board c.args.board.now in
    let grown : AreGrown (pos c.args.grow) b.pieces c.deref.result.now = grown_lent (pos c.args.grow) (plain_pieces c.pieces-pieces.result.now) b.pieces c.in_ok-fats.fats.items c.deref.result.now c.pieces-pieces.ensures.plain c.deref.ensures.value c.in_ok-fats.ensures in
    ap length c.deref-3.ensures.value ∙ (ap length c.in_ok-spans.ensures ∙ (length-map (plain_pieces c.pieces-pieces.result.now) piece_span ∙ (ap length c.pieces-pieces.ensures.plain ∙ sym (as_many (pos c.args.grow) b.pieces c.deref.result.now grown))))

pub returns : goal.returns
returns g c =
    let b : PlainBoard = plain_board c.args.board.now in
    let grown : AreGrown (pos c.args.grow) b.pieces c.deref.result.now = grown_lent (pos c.args.grow) (plain_pieces c.pieces-pieces.result.now) b.pieces c.in_ok-fats.fats.items c.deref.result.now c.pieces-pieces.ensures.plain c.deref.ensures.value c.in_ok-fats.ensures in
    let spans : c.deref-3.result.now ≡ map piece_span b.pieces = c.deref-3.ensures.value ∙ (c.in_ok-spans.ensures ∙ ap (λ (xs : List PlainPiece). map piece_span xs) c.pieces-pieces.ensures.plain) in
    let numbered : (i p : ℕ) → Holds c.args.nets.now i p → net_of c.deref-2.result.now p ≡ i = λ i p h. ap (λ (xs : List ℕ). get_or xs p 0) c.deref-2.ensures.value ∙ c.in_ok-numbers.ensures.numbers i p h in
    followed (AreFirsts (IsFieldLine (length c.deref.result.now) (TouchAmong InFat c.deref.result.now) c.deref-2.result.now c.deref-3.result.now)) (AreGaps (CloseAt b (pos c.args.grow +ℤ pos c.args.grow)) c.args.nets.now) c.met_in.result
    (λ (gaps : List Gap) firsts. board_gaps b (pos c.args.grow) c.args.nets.now c.deref.result.now c.deref-2.result.now c.deref-3.result.now gaps (from_zero c.args.grow) grown spans c.requires.trees.covers numbered firsts)
    c.met_in.ensures
