-- The report of version 1 that `check` writes can be taken as a file.
use Rattle.std.proofs.Common.{◌≤◌, ℕ, List, [], ◌∷◌, length, map, All, sym, ap, subst, arith}
use Rattle.std.proofs.lemmas.List.{length-map}
use Rattle.std.proofs.lemmas.List.Elements.{All-from_recursion, recursion_from_All}
use Rattle.std.specs.List.{AllByRecursion}
use Rattle.board_io.specs.Package.{Files}
use Rattle.board_package.specs.Contents.{Reads}
use Rattle.board_package.specs.PackageBoard.{IsWithinLimits, Walks, order_of}
use Rattle.board_package.specs.Parts.{empty_board}
use Rattle.board_package.specs.declared.entry.Entry.{Entry}
use Rattle.board_package.specs.declared.entry.Role.{Role}
use Rattle.board_package.specs.declared.entry.Role.TheVariants as role
use Rattle.board_shapes.specs.Lawful.{IsProbe}
use Rattle.board_shapes.specs.Plain.{PlainBoard}
use Rattle.board_shapes.specs.Tables.{IsTables, point_of}
use Rattle.board_shapes.specs.declared.TheConstants.{MOST_LAYERS}
use Rattle.board_shapes.specs.declared.probe.Probe.{Probe}
use Rattle.reports.proofs.SmallNetlists.{IsCounted, IsSmallNetlist, small_netlist}
use Rattle.boardnet.specs.Laws.{FirstReportsAreShort}
use Rattle.reports.specs.Laws.{IsSmallBoard, IsSmallPoint, RightVerdictsAreSmall}
use Rattle.tables.specs.Tables.{Tables, TestPoint}
use Rattle.verdict.specs.Laws.{ReportsAreShort}
use Rattle.verdict.specs.Limits.{IsRecordName}
use Rattle.texts.specs.declared.TheConstants.{MOST_BYTES}

-- ---- The netlist of a package

abbrev HasSmallNetlist : PlainBoard → Type 0
HasSmallNetlist b = IsSmallNetlist b.probes b.names

read_small : (role : Role) (number : ℕ) (bytes : List ℕ) (from to : PlainBoard) → HasSmallNetlist from → Reads role number bytes from to → HasSmallNetlist to
read_small (role.Copper layer) number bytes from to small (pieces, read, same) = subst HasSmallNetlist (sym same) small
read_small (role.Drill first last) number bytes from to small (pieces, read, same) = subst HasSmallNetlist (sym same) small
read_small role.Netlist number bytes from to small (probes, names, read, same) = subst HasSmallNetlist (sym same) (small_netlist bytes from.layers probes names read)

walked_small : (files : Files) (entries : List Entry) (from to : PlainBoard) → HasSmallNetlist from → Walks files entries from to → HasSmallNetlist to
walked_small files [] from to small same = subst HasSmallNetlist same small
walked_small files (e ∷ rest) from to small (next, goes, walks) = walked_small files rest next to (read_small e.role e.number goes.bytes from next small goes.read) walks

-- ---- The board's tables

counted_known : (names layers : ℕ) (probes : List Probe) → layers ≤ MOST_LAYERS → AllByRecursion IsCounted probes → AllByRecursion (IsProbe names layers) probes → AllByRecursion (IsSmallPoint names) (map point_of probes)
counted_known names layers [] few counted known = tt
counted_known names layers (p ∷ probes) few counted known =
    let number = counted.0 in
    let layer = known.0.to_bottom in
    let small : IsSmallPoint names (point_of p) = record { number = omega (arith, number); layer = omega (arith, layer, few); name = known.0.named } in
    (small, counted_known names layers probes few counted.1 known.1)

small_board : (b : PlainBoard) (t : Tables) → IsWithinLimits b → HasSmallNetlist b → IsTables b t → IsSmallBoard t
small_board b t limits small is =
    let pieces = limits.few_pieces in
    let layers = limits.few_layers in
    let rows = is.near.many in
    let points = ap length is.points in
    let probes = length-map b.probes point_of in
    let names = ap length is.names in
    let few_probes = small.probes_few in
    let few_names = small.names_few in
    let known = counted_known (length b.names) b.layers b.probes (omega (arith, layers)) small.counted (recursion_from_All (IsProbe (length b.names) b.layers) b.probes limits.lawful.known) in
    let listed : All (IsSmallPoint (length b.names)) t.points = subst (λ (ps : List TestPoint). All (IsSmallPoint (length b.names)) ps) (sym is.points) (All-from_recursion (IsSmallPoint (length b.names)) (map point_of b.probes) known) in
    record {
      pieces = omega (arith, rows, pieces);
      points = omega (arith, points, probes, few_probes);
      names = omega (arith, names, few_names);
      short_names = subst (λ (ns : List (List ℕ)). All IsRecordName ns) (sym is.names) (All-from_recursion IsRecordName b.names small.short);
      known = subst (λ (n : ℕ). All (IsSmallPoint n) t.points) (sym names) listed;
    }

pub first_reports_are_short : RightVerdictsAreSmall → ReportsAreShort → FirstReportsAreShort
first_reports_are_short small short files manifest text line status r =
    let none : HasSmallNetlist (empty_board r.board_is.listed.layers) = record { probes_few = omega arith; names_few = omega arith; counted = tt; short = tt } in
    let netlist = walked_small files (order_of r.board_is.listed) (empty_board r.board_is.listed.layers) r.board none r.board_is.walked in
    let board = small_board r.board r.good.right.tables r.limits netlist r.good.right.tables_are in
    let parts = small r.good.right.tables r.good.verdict board r.good.right.right in
    subst (λ (t : List ℕ). length t ≤ MOST_BYTES) (sym r.good.text_is) (short r.good.verdict parts.small parts.few r.good.version_is)
