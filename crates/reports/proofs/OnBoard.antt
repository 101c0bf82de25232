-- From nets and homes over a list of pieces to a right verdict on their board.
use Rattle.std.proofs.Common.{◌≡◌, ℕ, List, length, Option, Result, Ok, Err, IfOk, subst, sym}
use Rattle.board_shapes.specs.Laws.{HasOneTables, TablesAreConsistent, TablesJoinProbes}
use Rattle.board_shapes.specs.Plain.{PlainBoard, plain_pieces}
use Rattle.board_shapes.specs.Shapes.{InShape}
use Rattle.board_shapes.specs.Tables.{IsTables, IsNear as IsNearOn}
use Rattle.board_shapes.specs.Touching.{UnderAt}
use Rattle.board_shapes.specs.declared.placed.Placed.{Placed}
use Rattle.board_shapes.specs.declared.probe.Probe.{Probe}
use Rattle.board_shapes.specs.declared.shape.Shape.{Shape}
use Rattle.reports.specs.Right.{IsRightOn}
use Rattle.cell_index.specs.Among.{TouchAmong, UnderAmong}
use Rattle.cell_index.specs.Field.{IsNear}
use Rattle.cell_index.specs.Homes.{UnderProbe}
use Rattle.flood.specs.Laws.{HomesAreOfTheBoard, NetsAreOfTheBoard}
use Rattle.lengths.specs.declared.rows.NoMemory.{NoMemory}
use Rattle.tables.specs.Consistent.{AreConsistent}
use Rattle.tables.specs.Lists.{AreLeast}
use Rattle.tables.specs.Tables.{Tables}
use Rattle.verdict.specs.Forest.{IsForest}
use Rattle.verdict.specs.Right.{Apart, Covers, IsRight, Trees}
use Rattle.verdict.specs.declared.verdict.Twig.{Twig}
use Rattle.verdict.specs.declared.verdict.Verdict.{Verdict}
use Rattle.witness_check.proofs.Tables.{apart_as, once_as, trees_as}
use Rattle.witness_check.specs.Laws.{NetNumbersAreJoins}

pub trees_on : ((b : PlainBoard) (items : List (Placed Shape)) (nets : List (List Twig)) → NetsAreOfTheBoard b items nets)
    → (b : PlainBoard) (items field : List (Placed Shape)) (nets : List (List Twig)) → field ≡ items → plain_pieces items ≡ b.pieces
    → IsForest (length field) (IsNear (length field) (TouchAmong InShape field)) nets → IsForest (length b.pieces) (IsNearOn b) nets
trees_on law b items field nets same plain h =
    law b items nets (sym plain) (subst (λ (z : List (Placed Shape)). IsForest (length z) (IsNear (length z) (TouchAmong InShape z)) nets) same h)

pub homes_on : ((b : PlainBoard) (items : List (Placed Shape)) (homes : List (Option ℕ)) → HomesAreOfTheBoard b items homes)
    → (b : PlainBoard) (items field : List (Placed Shape)) (probes : List Probe) (homes : List (Option ℕ)) → field ≡ items → plain_pieces items ≡ b.pieces → probes ≡ b.probes
    → AreLeast (length probes) (UnderProbe (UnderAmong InShape field) probes) homes → AreLeast (length b.probes) (UnderAt b) homes
homes_on law b items field probes homes same plain points h =
    law b items homes (sym plain)
    (subst (λ (z : List (Placed Shape)). AreLeast (length b.probes) (UnderProbe (UnderAmong InShape z) b.probes) homes) same
    (subst (λ (p : List Probe). AreLeast (length p) (UnderProbe (UnderAmong InShape field) p) homes) points h))

-- A verdict that is right for each set of tables is right on the board, which has one.
pub right_on : (b : PlainBoard) (r : Result Verdict NoMemory) → HasOneTables b → TablesAreConsistent → TablesJoinProbes
    → ((t : Tables) (v : Verdict) → AreConsistent t → IsRight t v → NetNumbersAreJoins t v)
    → IfOk r (λ v. (t : Tables) → IsTables b t → IsRight t v) → IfOk r (IsRightOn b)
right_on b (Err e) one consistent joins numbers h = tt
right_on b (Ok v) one consistent joins numbers h =
    let right : IsRight one.tables v = h one.tables one.are in record {
      tables = one.tables;
      tables_are = one.are;
      right = right;
      joins = λ k l.
          let n = (numbers one.tables v (consistent b one.tables one.are) right).joined k l in
          let j = joins b one.tables one.are k l in
          ((λ x. j.1 (n.0 x)), (λ y. n.1 (j.0 y)));
    }

-- the nets of a right verdict are the board's
pub forest_on : (b : PlainBoard) (v : Verdict) → IsRightOn b v → IsForest (length b.pieces) (IsNearOn b) v.nets
forest_on b v r = record {
  trees = trees_as b r.tables v.nets r.tables_are (r.right Trees);
  covers = once_as b r.tables v.nets r.tables_are (r.right Covers);
  apart = apart_as b r.tables v.nets r.tables_are (r.right Apart);
}
