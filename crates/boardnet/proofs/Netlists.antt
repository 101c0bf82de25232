-- A package agrees with the netlist that was written for it.
use Rattle.std.proofs.Common.{◌≡◌, ◌≤◌, inl, inr, ℕ, List, [], ◌∷◌, ◌++◌, length, Some, refl, sym, ap, subst, ◌∙◌}
use Rattle.std.proofs.lemmas.List.Elements.{recursion_from_All}
use Rattle.std.specs.List.{AllByRecursion}
use Rattle.board_io.specs.Package.{Files}
use Rattle.board_package.specs.Laws.{HasOneOutcome}
use Rattle.board_package.specs.PackageBoard.{IsBoardOf, Walks}
use Rattle.texts.specs.declared.TheConstants.{MOST_BYTES}
use Rattle.board_package.specs.Parts.{empty_board}
use Rattle.board_package.specs.Contents.{Reads}
use Rattle.board_package.specs.declared.entry.Entry.{Entry}
use Rattle.board_package.specs.declared.entry.Role.{Role}
use Rattle.board_package.specs.declared.entry.Role.TheVariants.{Netlist}
use Rattle.board_shapes.specs.Plain.{PlainBoard, with_netlist}
use Rattle.board_shapes.specs.Tables.{IsTables}
use Rattle.board_shapes.specs.declared.probe.Probe.{Probe}
use Rattle.reports.proofs.OnBoard.{forest_on}
use Rattle.boardnet.specs.Laws.{HasNetlist, WrittenNetlistsPass}
use Rattle.reports.specs.Right.{HasStatus}
use Rattle.ipc356_records.specs.NetlistFile.{IsRead}
use Rattle.netlist_writer.specs.Laws.{BoardsAreWritable, IsWritable, WrittenNetlistAgrees, WrittenNetlistReads, WrittenNetlistsAreShort, names_written, probes_written}
use Rattle.netlist_writer.specs.WrittenNetlist.{written_netlist_of}
use Rattle.verdict.specs.ReportText as verdict
use Rattle.verdict.specs.declared.verdict.Verdict.{Verdict}

-- a text that can be taken, and is read as these probes and names
record IsNetlist (after : Files) (name text : List ℕ) (layers : ℕ) (probes : List Probe) (names : List (List ℕ)) : Type 0 where
  held : after name ≡ Some text
  short : length text ≤ MOST_BYTES
  read : IsRead text layers probes names

-- the last file sets the probes and the names
netlist_last : (after : Files) (e : Entry) (text : List ℕ) (start board : PlainBoard) (number : ℕ) (bytes : List ℕ) (probes : List Probe) (names : List (List ℕ)) → e.role ≡ Netlist
    → Reads Netlist number bytes start board → IsNetlist after e.name text board.layers probes names → Walks after (e ∷ []) start (with_netlist board probes names)
netlist_last after e text start board number bytes probes names role (p, n, read, is) t =
    let here : IsRead text start.layers probes names = subst (λ (b : PlainBoard). IsRead text b.layers probes names) is t.read in (
      with_netlist start probes names,
      record { bytes = text; held = record { held = t.held; short = t.short }; read = subst (λ (r : Role). Reads r e.number text start (with_netlist start probes names)) (sym role) (probes, names, here, refl) },
      ap (λ (b : PlainBoard). with_netlist b probes names) (sym is),
    )

walks_after : (before after : Files) (front : List Entry) (e : Entry) (text : List ℕ) (start board : PlainBoard) (probes : List Probe) (names : List (List ℕ)) → e.role ≡ Netlist
    → AllByRecursion (λ (f : Entry). after f.name ≡ before f.name) front → IsNetlist after e.name text board.layers probes names
    → Walks before (front ++ e ∷ []) start board → Walks after (front ++ e ∷ []) start (with_netlist board probes names)
walks_after before after [] e text start board probes names role still t (next, goes, same) =
    netlist_last after e text start board e.number goes.bytes probes names role
    (subst (λ (b : PlainBoard). Reads Netlist e.number goes.bytes start b) same (subst (λ (r : Role). Reads r e.number goes.bytes start next) role goes.read)) t
walks_after before after (f ∷ front) e text start board probes names role still t (next, goes, more) = (
  next,
  record { bytes = goes.bytes; held = record { held = still.0 ∙ goes.held.held; short = goes.held.short }; read = goes.read },
  walks_after before after front e text next board probes names role still.1 t more,
)

board_after : (before after : Files) (manifest text : List ℕ) (board : PlainBoard) (probes : List Probe) (names : List (List ℕ)) → (is : IsBoardOf before manifest board)
    → (h : HasNetlist before after manifest is.listed text) → length text ≤ MOST_BYTES → IsRead text board.layers probes names → IsBoardOf after manifest (with_netlist board probes names)
board_after before after manifest text board probes names is h short read = record {
  listed = is.listed;
  manifest = h.still_listed;
  walked = subst (λ (es : List Entry). Walks after es (empty_board is.listed.layers) (with_netlist board probes names)) (sym h.order)
      (walks_after before after h.front h.last text (empty_board is.listed.layers) board probes names h.last_is
      (recursion_from_All (λ (f : Entry). after f.name ≡ before f.name) h.front h.still) (record { held = h.held; short = short; read = read })
      (subst (λ (es : List Entry). Walks before es (empty_board is.listed.layers) board) h.order is.walked));
  frame = is.frame;
}

status_of : (v : Verdict) (status : ℕ) (line : List ℕ) → verdict.Agrees v → HasStatus v status line → status ≡ 0
status_of v status line agrees (inl (a, is, said)) = is
status_of v status line agrees (inr (differs, is, said)) = absurd (differs agrees)

pub written_netlists_pass : ((files : Files) (name : List ℕ) → HasOneOutcome files name) → BoardsAreWritable → WrittenNetlistReads → WrittenNetlistsAreShort → WrittenNetlistAgrees → WrittenNetlistsPass
written_netlists_pass one writable reads short agrees before after manifest text line status w h =
    let b : PlainBoard = w.board in
    let forest = forest_on b w.netlist.verdict w.netlist.right in
    let can : IsWritable b.layers w.netlist.verdict.nets b.pieces = writable b w.netlist.verdict.nets w.limits.lawful w.limits.few_pieces w.limits.few_layers forest.trees in
    let probes : List Probe = probes_written b.layers w.netlist.verdict.nets b.pieces in
    let names : List (List ℕ) = names_written b.layers w.netlist.verdict.nets b.pieces in
    let own : IsRead (written_netlist_of b.layers w.netlist.verdict.nets b.pieces) b.layers probes names = (reads b.layers w.netlist.verdict.nets b.pieces can).read in
    let read : IsRead text b.layers probes names = subst (λ (t : List ℕ). IsRead t b.layers probes names) (sym w.netlist.text_is) own in
    let few : length text ≤ MOST_BYTES = subst (λ (t : List ℕ). length t ≤ MOST_BYTES) (sym w.netlist.text_is) (short b.layers w.netlist.verdict.nets b.pieces can) in
    let is : IsBoardOf after manifest (with_netlist b probes names) = board_after before after manifest text b probes names w.board_is h few read in
    record {
      fits = (with_netlist b probes names, is);
      agrees = λ version report said told c. (
          let same : c.board ≡ with_netlist b probes names = (one after manifest).one_board c.board (with_netlist b probes names) c.board_is is in
          status_of c.good.verdict told said
          (agrees b w.netlist.verdict.nets probes names can forest own c.good.right.tables c.good.verdict (subst (λ (z : PlainBoard). IsTables z c.good.right.tables) same c.good.right.tables_are) c.good.right.right)
          c.good.status_is);
    }
