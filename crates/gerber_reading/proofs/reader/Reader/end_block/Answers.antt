use Rattle.std.proofs.Common.{◌≡◌, ◌++◌, List, length, take, Ok, refl, sym, ap, ◌∙◌, length-append, arith}
use Rattle.std.proofs.lemmas.List.{length-take-le}
use Rattle.board_shapes.specs.Pieces.{PieceOf}
use Rattle.step_repeat.specs.Copies.{pieces_by}
use Rattle.gerber_reading.specs.Reader.{known_of}
use Rattle.gerber_reading.proofs.Copies.{ended}
use Rattle.gerber_reading.proofs.Edges.{edges_after, edges_before_few, edges_few, plain_after}
use Rattle.gerber_reading.proofs.reader.Reader.end_block.Goals as goal

pub overflow_add-edges : goal.overflow_add-edges
overflow_add-edges g c =
    let few_before = edges_before_few g.F.Figure.plain g.F.Figure.handling g.met.F.Figure.few c.args.self.now.pieces.items c.args.self.now.start c.requires.counted.start in
    let new = edges_few g.F.Figure.plain g.F.Figure.handling g.met.F.Figure.few c.in_ok-copies.copies.items in
    let before = c.edges_before-before.ensures in
    let counted = rw c.deref.ensures.value at c.edges_of.ensures in
    let few = c.in_ok-copies.ensures.few in
    omega (arith, few_before, new, before, counted, few, c.requires.counted.room)

pub returns-clause-ok : goal.returns-clause-ok
returns-clause-ok g c =
    let appended = rw (c.in_default-append.is, c.truncate.ensures.items) at c.append.ensures.items in
    let all : pieces_by g.F.Figure.plain c.append.new.self.items ≡ take c.args.self.now.start (pieces_by g.F.Figure.plain c.args.self.now.pieces.items) ++ pieces_by g.F.Figure.plain c.in_ok-copies.copies.items = ap (pieces_by g.F.Figure.plain) appended ∙ plain_after g.F.Figure.plain c.args.self.now.pieces.items c.in_ok-copies.copies.items c.args.self.now.start in
    record {
      is = ended g.F.Figure.handling (known_of g.F.Figure.plain c.args.self.now) c.in-Some.block (pieces_by g.F.Figure.plain c.in_ok-copies.copies.items) c.in-Some.is c.in_ok-copies.ensures.ok ∙ ap (λ (xs : List (PieceOf _)). Ok xs) (sym all);
      settings = refl;
      dictionary = refl;
      contour = refl;
      start = refl;
      counts = refl;
      place = refl;
    }

pub returns-clause-counted : goal.returns-clause-counted
returns-clause-counted g c =
    let appended = rw (c.in_default-append.is, c.truncate.ensures.items) at c.append.ensures.items in
    let all : pieces_by g.F.Figure.plain c.append.new.self.items ≡ take c.args.self.now.start (pieces_by g.F.Figure.plain c.args.self.now.pieces.items) ++ pieces_by g.F.Figure.plain c.in_ok-copies.copies.items = ap (pieces_by g.F.Figure.plain) appended ∙ plain_after g.F.Figure.plain c.args.self.now.pieces.items c.in_ok-copies.copies.items c.args.self.now.start in
    let sum = edges_after g.F.Figure.handling (take c.args.self.now.start (pieces_by g.F.Figure.plain c.args.self.now.pieces.items)) (pieces_by g.F.Figure.plain c.in_ok-copies.copies.items) in
    let counted = rw c.deref.ensures.value at c.edges_of.ensures in
    let before = c.edges_before-before.ensures in
    let few = c.in_ok-copies.ensures.few in
    let size = ap length appended ∙ length-append (take c.args.self.now.start c.args.self.now.pieces.items) c.in_ok-copies.copies.items in
    let start = length-take-le c.args.self.now.start c.args.self.now.pieces.items c.requires.counted.start in
    record {
      edges = rw all (omega (arith, sum, counted, before));
      few_pieces = omega (arith, size, start, few);
      room = c.requires.counted.room;
      start = omega (arith, size, start);
    }
