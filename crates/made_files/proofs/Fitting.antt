-- The package of a made board fits.
use Rattle.std.proofs.Common.{◌≡◌, ℕ, zero, suc, ◌*◌, ◌≤◌, List, [], ◌∷◌, ◌++◌, length, map, Some, codes, refl, sym, ap, ◌∙◌, subst, arith}
use Rattle.std.proofs.lemmas.List.{length-append, length-map, map-append}
use Rattle.board_maker.specs.Laws.{MadeFilesAreShort}
use Rattle.board_maker.specs.MadeBoard.{manifest_text, part_text}
use Rattle.board_maker.specs.MadePackage.{made_files}
use Rattle.board_maker.specs.declared.files.Part.{Part}
use Rattle.board_maker.specs.declared.files.Part.TheVariants.{Top, Bottom, Holes, Points}
use Rattle.board_maker.specs.declared.TheConstants.{MOST_CELLS}
use Rattle.board_package.specs.Contents.{drill_place, layer_place}
use Rattle.board_package.specs.Manifest.{IsManifest, manifest_of}
use Rattle.board_package.specs.PackageBoard.{IsHeld}
use Rattle.board_package.specs.Parts.{empty_board, with_pieces}
use Rattle.board_package.specs.declared.entry.Entry.{Entry}
use Rattle.board_package.specs.declared.entry.Role.TheVariants.{Copper, Drill, Netlist}
use Rattle.board_package.specs.declared.manifest.Manifest.{Manifest}
use Rattle.board_shapes.specs.Figures.{Figure}
use Rattle.board_shapes.specs.Pieces.{PlainPiece, edges_in}
use Rattle.board_shapes.specs.Plain.{PlainBoard, with_netlist}
use Rattle.serde_json.proofs.OnLiterals.{serde_json_on_literals}
use Rattle.serde_json.specs.Data.{Data, array, item, member, no_items, no_members, number, object, string, unsigned}
use Rattle.xnc.specs.Places.{Place as DrillPlace}
use Rattle.made_files.proofs.Frame.{AreNear, near_bores, near_both, near_copper, near_fits}
use Rattle.made_files.proofs.MadeCopper.{edges_are, edges_in as copper_edges, few_so_far, made_copper_is_read}
use Rattle.made_files.proofs.MadeHoles.{made_holes_are_read}
use Rattle.made_files.proofs.MadePoints.{made_points_are_read}
use Rattle.made_files.specs.MadeFiles.{HasRoom, IsReadAs, bore, bores, copper, hole_of, holes, names, points}
use Rattle.made_files.specs.MadePackages.{MadePackagesFit}

-- ---- The manifest

abbrev top_file : Entry
top_file = record { name = codes "top.gbr"; number = 0; role = Copper 1 }

abbrev bottom_file : Entry
bottom_file = record { name = codes "bot.gbr"; number = 1; role = Copper 2 }

abbrev drill_file : Entry
drill_file = record { name = codes "pth.drl"; number = 2; role = Drill 1 2 }

abbrev netlist_file : Entry
netlist_file = record { name = codes "n.ipc"; number = 3; role = Netlist }

abbrev made_manifest : Manifest
made_manifest = record { layers = 2; files = top_file ∷ bottom_file ∷ drill_file ∷ netlist_file ∷ [] }

abbrev made_value : Data
made_value = object (member (codes "copper") (array (item (string (codes "top.gbr")) (item (string (codes "bot.gbr")) no_items)))
    (member (codes "drills") (array (item (object (member (codes "file") (string (codes "pth.drl")) (member (codes "from") (number (unsigned 1)) (member (codes "to") (number (unsigned 2)) no_members)))) no_items))
    (member (codes "netlist") (string (codes "n.ipc")) no_members)))

manifest_is : IsManifest manifest_text made_manifest
unfolding serde_json_on_literals manifest_of
manifest_is = record { value = made_value; read_as = record { text = (manifest_text, (refl, refl)); spelled = refl }; form = refl }

-- ---- The room that files leave

record IsSmall (size : ℕ) (pieces : List PlainPiece) : Type 0 where
  many : length pieces ≤ 3 * size
  edges : edges_in pieces ≤ 4 * size

small : (part : Part) (seed size : ℕ) (pieces : List PlainPiece) → map (λ (p : PlainPiece). p.figure) pieces ≡ copper part seed size size → IsSmall size pieces
small part seed size pieces are =
    let few = few_so_far part seed size size in
    let most = few.0 in
    let edges = few.1 in
    let long = length-map pieces (λ (p : PlainPiece). p.figure) in
    let same = ap length are in
    let sum = edges_are pieces in
    let total = ap copper_edges are in
    record { many = omega (arith, most, long, same); edges = omega (arith, edges, sum, total) }

-- the next copper file has room behind these pieces
layer_room : (size layer file : ℕ) (b : PlainBoard) → size ≤ MOST_CELLS → length b.pieces ≤ 3 * size → edges_in b.pieces ≤ 4 * size → HasRoom size (layer_place layer file b)
layer_room size layer file b few many edges = record { pieces = omega (arith, few, many); edges = omega (arith, few, edges) }

-- ---- The files

held_at : MadeFilesAreShort → (seed size : ℕ) (name bytes : List ℕ) → size ≤ MOST_CELLS → made_files seed size name ≡ Some bytes → IsHeld (made_files seed size) name bytes
held_at short seed size name bytes few held = let low = short seed size few name bytes held in record { held = held; short = omega (arith, low) }

bores_are : (p : DrillPlace) (n : ℕ) → map (λ (q : PlainPiece). q.figure) (holes p n) ≡ bores n
bores_are p zero = refl
bores_are p (suc i) = map-append (λ (q : PlainPiece). q.figure) (holes p i) (hole_of p i ∷ []) ∙ ap (λ (fs : List Figure). fs ++ bore i ∷ []) (bores_are p i)

figures_are : (top bottom drilled : List PlainPiece) (a b c : List Figure) → map (λ (q : PlainPiece). q.figure) top ≡ a → map (λ (q : PlainPiece). q.figure) bottom ≡ b → map (λ (q : PlainPiece). q.figure) drilled ≡ c
    → map (λ (q : PlainPiece). q.figure) ((top ++ bottom) ++ drilled) ≡ a ++ b ++ c
figures_are top bottom drilled a b c e f g =
    map-append (λ (q : PlainPiece). q.figure) (top ++ bottom) drilled ∙ rw (map-append (λ (q : PlainPiece). q.figure) top bottom, e, f, g) refl

pub made_packages_fit : MadeFilesAreShort → MadePackagesFit
made_packages_fit short seed size few =
    let start : PlainBoard = empty_board 2 in
    let top : IsReadAs (part_text Top seed size) (layer_place 1 0 start) (copper Top seed size size) = made_copper_is_read.top seed size (layer_place 1 0 start) few (layer_room size 1 0 start few (omega arith) (omega arith)) in
    let upper = small Top seed size top.pieces top.are in
    let one : PlainBoard = with_pieces start top.pieces in
    let bottom : IsReadAs (part_text Bottom seed size) (layer_place 2 1 one) (copper Bottom seed size size) = made_copper_is_read.bottom seed size (layer_place 2 1 one) few (layer_room size 2 1 one few upper.many upper.edges) in
    let under = small Bottom seed size bottom.pieces bottom.are in
    let two : PlainBoard = with_pieces one bottom.pieces in
    let place : DrillPlace = drill_place 1 2 2 two in
    let most : length two.pieces ≤ 6 * size = (let sum = length-append top.pieces bottom.pieces in let a = upper.many in let b = under.many in omega (arith, sum, a, b)) in
    let drilled = made_holes_are_read seed size place few (omega (arith, few, most)) in
    let three : PlainBoard = with_pieces two (holes place size) in
    let listed = made_points_are_read seed size few in
    let board : PlainBoard = with_netlist three (points size) (names size) in
    let are : map (λ (q : PlainPiece). q.figure) board.pieces ≡ copper Top seed size size ++ copper Bottom seed size size ++ bores size = figures_are top.pieces bottom.pieces (holes place size) (copper Top seed size size) (copper Bottom seed size size) (bores size) top.are bottom.are (bores_are place size) in
    let near : AreNear (copper Top seed size size ++ copper Bottom seed size size ++ bores size) =
    near_both (copper Top seed size size ++ copper Bottom seed size size) (bores size) (near_both (copper Top seed size size) (copper Bottom seed size size) (near_copper Top seed size size few) (near_copper Bottom seed size size few)) (near_bores size few) in
    record {
      board = board;
      is = record {
        listed = made_manifest;
        manifest = record { bytes = manifest_text; held = held_at short seed size (codes "m.json") manifest_text few refl; good = manifest_is };
        walked = (
          one,
          record { bytes = part_text Top seed size; held = held_at short seed size (codes "top.gbr") (part_text Top seed size) few refl; read = (top.pieces, top.read, refl) },
          (
            two,
            record { bytes = part_text Bottom seed size; held = held_at short seed size (codes "bot.gbr") (part_text Bottom seed size) few refl; read = (bottom.pieces, bottom.read, refl) },
            (
              three,
              record { bytes = part_text Holes seed size; held = held_at short seed size (codes "pth.drl") (part_text Holes seed size) few refl; read = (holes place size, drilled, refl) },
              (board, record { bytes = part_text Points seed size; held = held_at short seed size (codes "n.ipc") (part_text Points seed size) few refl; read = (points size, names size, listed, refl) }, refl),
            ),
          ),
        );
        frame = near_fits board.pieces (subst AreNear (sym are) near);
      };
      figures = are;
      probes = refl;
      named = refl;
    }
