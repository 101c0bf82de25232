-- A package has one labelled outcome.
use Rattle.std.proofs.Common.{◌≡◌, inl, inr, ℕ, List, [], ◌∷◌, ◌++◌, sym, ap, subst, ◌∙◌}
use Rattle.board_io.specs.Package.{Files}
use Rattle.board_shapes.specs.Plain.{PlainBoard, common_box, Fits}
use Rattle.x2_nets.specs.Labels.{no_text}
use Rattle.x2_nets.specs.Laws.{HasOneAnswer}
use Rattle.x2_nets.specs.declared.label_table.Label.{Label}
use Rattle.board_package.specs.Laws.{HasOneLabelledOutcome, FilesHaveOneAnswer}
use Rattle.board_package.specs.LabelledBoard.{GoesLabelled, IsFirstLabelledStop, IsLabelledBoardOf, IsMislabelled, Labelled, LabelledStop, Lists, Mislabels, OfBuild, StopsLabelledAmong, StopsLabelledAt, StopsLabelledLater, labelled_board_of, labelled_order, mislabelled, nothing_labelled, unbuilt}
use Rattle.board_package.specs.PackageBoard.{IsManifestFile, StopsAtFrame, StopsAtManifest, WalksBy}
use Rattle.board_package.specs.declared.entry.Entry.{Entry}
use Rattle.board_package.specs.declared.entry.Naming.TheVariants.{ByLabels}
use Rattle.board_package.specs.declared.entry.Role.{Role}
use Rattle.board_package.specs.declared.entry.Role.TheVariants as role
use Rattle.board_package.specs.declared.manifest.Manifest.{Manifest}
use Rattle.board_package.proofs.OneOutcome.{at_manifest_one, behind_both, fits_not_stops, frame_one, goes_not_stops, goes_one, held_one, manifest_file_one, manifest_not_stops, same_name, stops_one}
use Rattle.board_package.proofs.Walking.{one_of_walk, one_walk, walk_or_one}

-- each file has one answer, and its labels have one
pub record HaveLabelAnswers : Type 0 where
  pub files : FilesHaveOneAnswer
  pub labels : (file : List ℕ) → HasOneAnswer file

-- ---- One file

lists_one : HaveLabelAnswers → (r : Role) (bytes : List ℕ) (before x y : List (List Label)) → Lists ByLabels r bytes before x → Lists ByLabels r bytes before y → x ≡ y
lists_one all (role.Copper layer) bytes before x y (a, read, is) (b, read', is') =
    let e : a ≡ b = (all.labels bytes).one_value a b read read' in is ∙ ap (λ (l : List Label). before ++ l ∷ []) e ∙ sym is'
lists_one all (role.Drill from to) bytes before x y p q = p ∙ sym q
lists_one all role.Netlist bytes before x y p q = p ∙ sym q

lists_not_amiss : HaveLabelAnswers → (r : Role) (bytes : List ℕ) (before x : List (List Label)) (command at : ℕ) → Lists ByLabels r bytes before x → Mislabels ByLabels r bytes command at → ⊥
lists_not_amiss all (role.Copper layer) bytes before x command at (a, read, is) amiss = (all.labels bytes).not_both a no_text command at read amiss
lists_not_amiss all (role.Drill from to) bytes before x command at p amiss = amiss
lists_not_amiss all role.Netlist bytes before x command at p amiss = amiss

amiss_one : HaveLabelAnswers → (r : Role) (bytes : List ℕ) (command at n place : ℕ) → Mislabels ByLabels r bytes command at → Mislabels ByLabels r bytes n place → (command ≡ n) × (at ≡ place)
amiss_one all (role.Copper layer) bytes command at n place p q = let e = (all.labels bytes).one_fault no_text no_text command n at place p q in (e.1, e.2)
amiss_one all (role.Drill from to) bytes command at n place p q = absurd p
amiss_one all role.Netlist bytes command at n place p q = absurd p

same_labelled : (x y : Labelled) → x.board ≡ y.board → x.tables ≡ y.tables → x ≡ y
same_labelled x y p q =
    let a : x ≡ record { board = y.board; tables = x.tables } = ap (λ (b : PlainBoard). record { board = b; tables = x.tables }) p in
    a ∙ ap (λ (t : List (List Label)). record { board = y.board; tables = t }) q

goes_labelled_one : HaveLabelAnswers → (files : Files) (e : Entry) (before x y : Labelled) → GoesLabelled ByLabels files e before x → GoesLabelled ByLabels files e before y → x ≡ y
goes_labelled_one all files e before x y g h =
    let same = held_one files e.name g.goes.bytes h.goes.bytes g.goes.held h.goes.held in
    same_labelled x y (goes_one all.files files e before.board x.board y.board g.goes h.goes)
    (lists_one all e.role h.goes.bytes before.tables x.tables y.tables (subst (λ bytes. Lists ByLabels e.role bytes before.tables x.tables) same g.lists) h.lists)

goes_not_stops_labelled : HaveLabelAnswers → (files : Files) (e : Entry) (before x : Labelled) (stop : LabelledStop) → GoesLabelled ByLabels files e before x → StopsLabelledAt ByLabels files e before stop → ⊥
goes_not_stops_labelled all files e before x (unbuilt stop) g s = goes_not_stops all.files files e before.board x.board stop g.goes s
goes_not_stops_labelled all files e before x (mislabelled name command at) g s =
    let same = held_one files e.name g.goes.bytes s.1.goes.bytes g.goes.held s.1.goes.held in
    lists_not_amiss all e.role s.1.goes.bytes before.tables x.tables command at (subst (λ bytes. Lists ByLabels e.role bytes before.tables x.tables) same g.lists) s.1.amiss

mislabelled_one : HaveLabelAnswers → (files : Files) (e : Entry) (before : PlainBoard) (command at n place : ℕ) → IsMislabelled ByLabels files e before command at → IsMislabelled ByLabels files e before n place → (command ≡ n) × (at ≡ place)
mislabelled_one all files e before command at n place s t =
    let same = held_one files e.name s.goes.bytes t.goes.bytes s.goes.held t.goes.held in
    amiss_one all e.role t.goes.bytes command at n place (subst (λ bytes. Mislabels ByLabels e.role bytes command at) same s.amiss) t.amiss

stops_labelled_one : HaveLabelAnswers → (files : Files) (e : Entry) (before : Labelled) (stop other : LabelledStop) → StopsLabelledAt ByLabels files e before stop → StopsLabelledAt ByLabels files e before other → stop ≡ other
stops_labelled_one all files e before (unbuilt a) (unbuilt b) s t = ap unbuilt (stops_one all.files files e before.board a b s t)
stops_labelled_one all files e before (unbuilt a) (mislabelled name command at) s t = absurd (goes_not_stops all.files files e before.board t.1.after a t.1.goes s)
stops_labelled_one all files e before (mislabelled name command at) (unbuilt b) s t = absurd (goes_not_stops all.files files e before.board s.1.after b s.1.goes t)
stops_labelled_one all files e before (mislabelled name command at) (mislabelled name' n place) s t = three (same_name e.name name name' s.0 t.0) (mislabelled_one all files e before.board command at n place s.1 t.1)
  where
    three : name ≡ name' → (command ≡ n) × (at ≡ place) → mislabelled name command at ≡ mislabelled name' n place
    three p (q, r) = cc

-- ---- The package

abbrev Reaches : Files → Manifest → Labelled → Type 0
Reaches files m end = WalksBy (GoesLabelled ByLabels files) (labelled_order m) (nothing_labelled m.layers) end

reaches_one : HaveLabelAnswers → (files : Files) (m : Manifest) (x y : Labelled) → Reaches files m x → Reaches files m y → x ≡ y
reaches_one all files m x y p q = one_walk (GoesLabelled ByLabels files) (goes_labelled_one all files) (labelled_order m) (nothing_labelled m.layers) x y p q

reaches_not_stops : HaveLabelAnswers → (files : Files) (m : Manifest) (x : Labelled) (stop : LabelledStop) → Reaches files m x → StopsLabelledAmong ByLabels files (labelled_order m) (nothing_labelled m.layers) stop → ⊥
reaches_not_stops all files m x stop p s =
    walk_or_one (GoesLabelled ByLabels files) (goes_labelled_one all files) (λ e b. StopsLabelledAt ByLabels files e b stop) (λ e b y g h. goes_not_stops_labelled all files e b y stop g h) (labelled_order m) (nothing_labelled m.layers) x p s

frame_labelled_one : (b : PlainBoard) (stop other : LabelledStop) → OfBuild (StopsAtFrame b) stop → OfBuild (StopsAtFrame b) other → stop ≡ other
frame_labelled_one b (unbuilt s) (unbuilt t) p q = ap unbuilt (frame_one b s t p q)
frame_labelled_one b (unbuilt s) (mislabelled name command at) p q = absurd q
frame_labelled_one b (mislabelled name command at) other p q = absurd p

fits_not_labelled : (b : PlainBoard) (stop : LabelledStop) → Fits (common_box b.pieces) → OfBuild (StopsAtFrame b) stop → ⊥
fits_not_labelled b (unbuilt s) fits p = fits_not_stops b s fits p
fits_not_labelled b (mislabelled name command at) fits p = p

later_labelled_one : HaveLabelAnswers → (files : Files) (m : Manifest) (stop other : LabelledStop) → StopsLabelledLater files m stop → StopsLabelledLater files m other → stop ≡ other
later_labelled_one all files m stop other (inl s) (inl t) =
    one_of_walk (GoesLabelled ByLabels files) (goes_labelled_one all files) (λ e b. StopsLabelledAt ByLabels files e b stop) (λ e b. StopsLabelledAt ByLabels files e b other) (stop ≡ other)
    (λ e b y g h. goes_not_stops_labelled all files e b y stop g h) (λ e b y g h. goes_not_stops_labelled all files e b y other g h) (λ e b h k. stops_labelled_one all files e b stop other h k) (labelled_order m) (nothing_labelled m.layers) s t
later_labelled_one all files m stop other (inl s) (inr t) = absurd (reaches_not_stops all files m t.end stop t.walked s)
later_labelled_one all files m stop other (inr s) (inl t) = absurd (reaches_not_stops all files m s.end other s.walked t)
later_labelled_one all files m stop other (inr s) (inr t) =
    let same = reaches_one all files m s.end t.end s.walked t.walked in
    frame_labelled_one t.end.board stop other (subst (λ (x : Labelled). OfBuild (StopsAtFrame x.board) stop) same s.frame) t.frame

at_manifest_labelled : (files : Files) (name : List ℕ) (stop other : LabelledStop) → OfBuild (StopsAtManifest files name) stop → OfBuild (StopsAtManifest files name) other → stop ≡ other
at_manifest_labelled files name (unbuilt s) (unbuilt t) p q = ap unbuilt (at_manifest_one files name s t p q)
at_manifest_labelled files name (unbuilt s) (mislabelled file command at) p q = absurd q
at_manifest_labelled files name (mislabelled file command at) other p q = absurd p

manifest_not_labelled : (files : Files) (name : List ℕ) (m : Manifest) (stop : LabelledStop) → IsManifestFile files name m → OfBuild (StopsAtManifest files name) stop → ⊥
manifest_not_labelled files name m (unbuilt s) is p = manifest_not_stops files name m s is p
manifest_not_labelled files name m (mislabelled file command at) is p = p

one_stop : HaveLabelAnswers → (files : Files) (name : List ℕ) (stop other : LabelledStop) → IsFirstLabelledStop files name stop → IsFirstLabelledStop files name other → stop ≡ other
one_stop all files name stop other (inl s) (inl t) = at_manifest_labelled files name stop other s t
one_stop all files name stop other (inl s) (inr t) = absurd (manifest_not_labelled files name t.listed stop t.manifest s)
one_stop all files name stop other (inr s) (inl t) = absurd (manifest_not_labelled files name s.listed other s.manifest t)
one_stop all files name stop other (inr s) (inr t) = behind_both files name (λ m. StopsLabelledLater files m stop) (λ m. StopsLabelledLater files m other) (stop ≡ other) (λ m p q. later_labelled_one all files m stop other p q) s t

later_not_board : HaveLabelAnswers → (files : Files) (m : Manifest) (end : Labelled) (stop : LabelledStop) → Reaches files m end → Fits (common_box end.board.pieces) → StopsLabelledLater files m stop → ⊥
later_not_board all files m end stop reached fits (inl s) = reaches_not_stops all files m end stop reached s
later_not_board all files m end stop reached fits (inr s) =
    let same = reaches_one all files m s.end end s.walked reached in
    fits_not_labelled end.board stop fits (subst (λ (x : Labelled). OfBuild (StopsAtFrame x.board) stop) same s.frame)

not_both : HaveLabelAnswers → (files : Files) (name : List ℕ) (board : PlainBoard) (stop : LabelledStop) → IsLabelledBoardOf files name board → IsFirstLabelledStop files name stop → ⊥
not_both all files name board stop b (inl s) = manifest_not_labelled files name b.listed stop b.manifest s
not_both all files name board stop b (inr s) =
    let same = manifest_file_one files name s.listed b.listed s.manifest b.manifest in
    later_not_board all files b.listed b.end stop b.walked b.frame (subst (λ m. StopsLabelledLater files m stop) same s.follows)

one_board : HaveLabelAnswers → (files : Files) (name : List ℕ) (board other : PlainBoard) → IsLabelledBoardOf files name board → IsLabelledBoardOf files name other → board ≡ other
one_board all files name board other a b =
    let same = manifest_file_one files name a.listed b.listed a.manifest b.manifest in
    let end = reaches_one all files b.listed a.end b.end (subst (λ m. Reaches files m a.end) same a.walked) b.walked in
    a.is ∙ ap (λ (x : Labelled). labelled_board_of x.tables x.board) end ∙ sym b.is

pub one_labelled_outcome : HaveLabelAnswers → (files : Files) (name : List ℕ) → HasOneLabelledOutcome files name
one_labelled_outcome all files name = record {
  one_board = λ board other a b. one_board all files name board other a b;
  not_both = λ board stop a b. not_both all files name board stop a b;
  one_stop = λ stop other a b. one_stop all files name stop other a b;
}
