-- The stages of the taking with labels, by what was handed over.
use Rattle.std.proofs.Common.{◌≡◌, inl, inr, ℕ, ◌<◌, ◌≤◌, Bool, true, List, [], ◌∷◌, length, take, get_or, refl, subst, sym, ap, ◌∙◌, arith}
use Rattle.std.specs.List.{filter}
use Rattle.board_io.specs.Handed.{Handed}
use Rattle.board_shapes.specs.Plain.{PlainBoard}
use Rattle.board_shapes.specs.declared.shape.Shape.{Shape}
use Rattle.x2_nets.specs.declared.label_table.Label.{Label}
use Rattle.board_package.specs.Causes.{HandedCause, HandedCauseBy}
use Rattle.board_package.specs.Contents.{Reads}
use Rattle.board_package.specs.HandedBoard.{ComesAlongHanded, ComesNext, Course, GoesHanded, IsHanded, StopsAmongHanded, StopsAtHanded, as_board, course}
use Rattle.board_package.specs.HandedLabelled.{as_labelled}
use Rattle.board_package.specs.LabelledBoard.{Labelled, Lists, is_taken, labelled_board_of, mislabelled, nothing_labelled, unbuilt}
use Rattle.board_package.specs.LabelledCauses.{IsMislabelling, labelled_faults, labelled_so_far}
use Rattle.board_package.specs.PackageBoard.{Stop, StopsAtFrame, WalksBy, frame_too_large}
use Rattle.board_package.specs.Parts.{Has, empty_board}
use Rattle.board_package.specs.declared.entry.Entry.{Entry}
use Rattle.board_package.specs.declared.entry.Naming.{Naming}
use Rattle.board_package.specs.declared.fault.BuildFault.{BuildFault}
use Rattle.board_package.specs.declared.fault.LabelledFault.{LabelledFault}
use Rattle.board_package.specs.declared.fault.LabelledFault.TheVariants as fault
use Rattle.board_package.specs.declared.parts.Parts.{Parts}
use Rattle.board_package.proofs.Seen.{is_empty}
use Rattle.board_package.proofs.Staging.{carry, carry_by}
use Rattle.board_package.proofs.Walking.{passing_at_one}

abbrev pub needed : Naming → Entry → Bool
needed naming e = is_taken naming e.role

pub nothing_yet : (parts : Parts Shape) (tables : List (List Label)) (layers : ℕ) → Has parts [] [] [] layers → tables ≡ [] → labelled_so_far parts tables ≡ nothing_labelled layers
nothing_yet parts tables layers p q = ap (λ (b : PlainBoard). record { board = b; tables = tables }) (is_empty parts layers p) ∙ ap (λ (t : List (List Label)). record { board = empty_board layers; tables = t }) q

-- ---- One file, which is taken

only : (naming : Naming) (e : Entry) → is_taken naming e.role ≡ true → filter (needed naming) (e ∷ []) ≡ e ∷ []
only naming e is = rw is refl

-- the board so far without the labels
abbrev pub unlabelled : Course Labelled → Course PlainBoard
unlabelled c = course c.handed c.so_far.board

-- what stops its taking
pub file_handed : (naming : Naming) (e : Entry) (c : Course Labelled) (b : List Handed) (count now : ℕ) (lost : List ℕ) (why : BuildFault) → is_taken naming e.role ≡ true
    → HandedCause (λ stop. StopsAtHanded as_board e (unlabelled c) b stop) (λ name. ComesNext c.handed b e.name name) count now lost why
    → HandedCauseBy labelled_faults (λ stop. StopsAmongHanded (as_labelled naming) (filter (needed naming) (e ∷ [])) c b stop) (λ name. ComesAlongHanded (as_labelled naming) (filter (needed naming) (e ∷ [])) c b name) count now lost (fault.Build why)
file_handed naming e c b count now lost why is cause =
    carry (λ stop. StopsAtHanded as_board e (unlabelled c) b stop) (λ stop. StopsAmongHanded (as_labelled naming) (filter (needed naming) (e ∷ [])) c b (unbuilt stop)) (λ name. ComesNext c.handed b e.name name) (λ name. ComesAlongHanded (as_labelled naming) (filter (needed naming) (e ∷ [])) c b name) count count now lost why
    (record {
      stops = λ stop s. subst (λ xs. StopsAmongHanded (as_labelled naming) xs c b (unbuilt stop)) (sym (only naming e is)) (inl s);
      comes = λ name s. subst (λ xs. ComesAlongHanded (as_labelled naming) xs c b name) (sym (only naming e is)) (inl s);
    })
    (omega arith) cause

-- it is read, and then a label is amiss, or memory is wanted
pub label_handed : (naming : Naming) (e : Entry) (c : Course Labelled) (b : List Handed) (board : PlainBoard) (bytes : List ℕ) (count now : ℕ) (lost : List ℕ) (why : LabelledFault) → is_taken naming e.role ≡ true
    → Reads e.role e.number bytes c.so_far.board board → IsHanded c.handed b e.name bytes → IsMislabelling naming e.role e.name bytes why
    → HandedCauseBy labelled_faults (λ stop. StopsAmongHanded (as_labelled naming) (filter (needed naming) (e ∷ [])) c b stop) (λ name. ComesAlongHanded (as_labelled naming) (filter (needed naming) (e ∷ [])) c b name) count now lost why
label_handed naming e c b board bytes count now lost (fault.Build why) is reads whole h =
    subst (λ w. HandedCause (λ stop. StopsAmongHanded (as_labelled naming) (filter (needed naming) (e ∷ [])) c b (unbuilt stop)) (λ name. ComesAlongHanded (as_labelled naming) (filter (needed naming) (e ∷ [])) c b name) count now lost w) (sym h) tt
label_handed naming e c b board bytes count now lost (fault.Label name command at) is reads whole h =
    subst (λ xs. StopsAmongHanded (as_labelled naming) xs c b (mislabelled name command at)) (sym (only naming e is))
    (inl (inr (record { bytes = bytes; handed = whole; good = (h.0, (board, reads), h.1) })))

-- it is read, and so are its labels
pub walked_handed : (naming : Naming) (e : Entry) (c d : Course Labelled) (bytes : List ℕ) → is_taken naming e.role ≡ true
    → Reads e.role e.number bytes c.so_far.board d.so_far.board → IsHanded c.handed d.handed e.name bytes → Lists naming e.role bytes c.so_far.tables d.so_far.tables
    → WalksBy (GoesHanded (as_labelled naming)) (filter (needed naming) (e ∷ [])) c d
walked_handed naming e c d bytes is reads whole lists =
    subst (λ xs. WalksBy (GoesHanded (as_labelled naming)) xs c d) (sym (only naming e is)) (d, record { bytes = bytes; handed = whole; good = (reads, lists) }, refl)

-- ---- The files

-- a cause of a file's stage is one of the files
pub files_more_handed : (naming : Naming) (entries : List Entry) (i : ℕ) (e : Entry) (start mid : Course Labelled) (b : List Handed) (before between now : ℕ) (lost : List ℕ) (why : LabelledFault) → i < length entries → e ≡ get_or entries i e → before ≤ between
    → WalksBy (GoesHanded (as_labelled naming)) (filter (needed naming) (take i entries)) start mid
    → HandedCauseBy labelled_faults (λ stop. StopsAmongHanded (as_labelled naming) (filter (needed naming) (e ∷ [])) mid b stop) (λ name. ComesAlongHanded (as_labelled naming) (filter (needed naming) (e ∷ [])) mid b name) between now lost why
    → HandedCauseBy labelled_faults (λ stop. StopsAmongHanded (as_labelled naming) (filter (needed naming) entries) start b stop) (λ name. ComesAlongHanded (as_labelled naming) (filter (needed naming) entries) start b name) before now lost why
files_more_handed naming entries i e start mid b before between now lost why below here later walked cause =
    carry_by labelled_faults (λ stop. StopsAmongHanded (as_labelled naming) (filter (needed naming) (e ∷ [])) mid b stop) (λ stop. StopsAmongHanded (as_labelled naming) (filter (needed naming) entries) start b stop) (λ name. ComesAlongHanded (as_labelled naming) (filter (needed naming) (e ∷ [])) mid b name) (λ name. ComesAlongHanded (as_labelled naming) (filter (needed naming) entries) start b name) before between now lost why
    (record {
      stops = λ stop s. passing_at_one (GoesHanded (as_labelled naming)) (needed naming) entries i e start mid _ below here walked s;
      comes = λ name s. passing_at_one (GoesHanded (as_labelled naming)) (needed naming) entries i e start mid _ below here walked s;
    })
    later cause

-- ---- The package

-- the frame of a board is that of its pieces, whatever its probes
pub frame_of_pieces : (tables : List (List Label)) (b : PlainBoard) (stop : Stop) → StopsAtFrame (labelled_board_of tables b) stop → StopsAtFrame b stop
frame_of_pieces tables b (frame_too_large box) s = s
frame_of_pieces tables b other s = absurd s
