-- A report that was written passes the audit of a package that also holds it.
use Rattle.std.proofs.Common.{◌≤◌, inl, ℕ, List, [], ◌∷◌, length, refl}
use Rattle.board_io.specs.Package.{Files}
use Rattle.board_package.specs.PackageBoard.{IsBoardOf, IsHeld, Walks}
use Rattle.texts.specs.declared.TheConstants.{MOST_BYTES}
use Rattle.board_package.specs.declared.entry.Entry.{Entry}
use Rattle.board_shapes.specs.Plain.{PlainBoard}
use Rattle.boardnet.specs.Laws.{CanBeTaken, FirstReportsAreShort, HoldsReport, ReportsPass}
use Rattle.boardnet.specs.Outcome.{Held, IsReport}
use Rattle.reports.specs.declared.judged.Version.{Version}
use Rattle.reports.specs.declared.judged.Version.TheVariants.{One, Two}

still_held : (before after : Files) (report text name bytes : List ℕ) → HoldsReport before after report text → IsHeld before name bytes → IsHeld after name bytes
still_held before after report text name bytes h i = record { held = h.still name bytes i.held; short = i.short }

-- what the files gave they give still
still_walks : (before after : Files) (report text : List ℕ) (entries : List Entry) (from to : PlainBoard) → HoldsReport before after report text → Walks before entries from to → Walks after entries from to
still_walks before after report text [] from to h w = w
still_walks before after report text (e ∷ rest) from to h (next, goes, w) =
    (next, record { bytes = goes.bytes; held = still_held before after report text e.name goes.bytes h goes.held; read = goes.read }, still_walks before after report text rest next to h w)

still_board : (before after : Files) (report text manifest : List ℕ) (board : PlainBoard) → HoldsReport before after report text → IsBoardOf before manifest board → IsBoardOf after manifest board
still_board before after report text manifest board h b = record {
  listed = b.listed;
  manifest = record { bytes = b.manifest.bytes; held = still_held before after report text manifest b.manifest.bytes h b.manifest.held; good = b.manifest.good };
  walked = still_walks before after report text _ _ _ h b.walked;
  frame = b.frame;
}

-- a report that was written can be taken
taken : FirstReportsAreShort → (before : Files) (version : Version) (manifest text line : List ℕ) (status : ℕ) → IsReport (Held before) version manifest text status line → CanBeTaken version text → length text ≤ MOST_BYTES
taken law before One manifest text line status r can = law before manifest text line status r
taken law before Two manifest text line status r can = can

pub reports_pass : FirstReportsAreShort → ReportsPass
reports_pass law before after version manifest report text line status r h can = record {
  board = r.board;
  tables = r.good.right.tables;
  tables_are = r.good.right.tables_are;
  verdict = r.good.verdict;
  read = (
    still_board before after report text manifest r.board h r.board_is,
    record { bytes = text; file = record { held = h.held; short = taken law before version manifest text line status r can }; good = record { lawful = r.good.lawful; text_is = r.good.text_is } },
  );
  ruling = inl (r.good.right.right, refl, refl, refl);
}
