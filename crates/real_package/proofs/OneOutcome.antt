-- A package has one real outcome.
use Rattle.std.proofs.Common.{◌≡◌, inl, inr, ℕ, List, refl, sym, ap, subst, ◌∙◌}
use Rattle.real_copper.specs.Table.{HasOneRealAnswer}
use Rattle.real_copper.specs.declared.kind.RealKind.{RealKind}
use Rattle.real_copper.specs.Kinds.{gerber}
use Rattle.board_io.specs.Package.{Files}
use Rattle.board_shapes.specs.Pieces.{PlainPiece}
use Rattle.gerber_reading.specs.declared.place.Place.{Place as LayerPlace}
use Rattle.ipc356_records.specs.NetlistFile.{Netlist}
use Rattle.net_forms.specs.NetFile as netlist_file
use Rattle.drill_forms.specs.FormFile as drill_file
use Rattle.xnc.specs.Places.{Place as DrillPlace}
use Rattle.board_package.specs.Contents.{drill_in, layer_in}
use Rattle.board_package.specs.PackageBoard.{IsHeldWith, Stop, StopsAtManifest, StopsTaking, WalksBy, absent, longer, refused}
use Rattle.board_package.specs.declared.contents.Refusal.{Refusal}
use Rattle.board_package.specs.declared.contents.Refusal.TheVariants as refusal
use Rattle.board_package.specs.declared.entry.Entry.{Entry}
use Rattle.board_package.specs.declared.entry.Role.{Role}
use Rattle.board_package.specs.declared.entry.Role.TheVariants as role
use Rattle.board_package.specs.declared.manifest.Manifest.{Manifest}
use Rattle.board_package.proofs.OneOutcome.{at_manifest_one, behind_both, held_not_absent, held_not_longer, manifest_not_stops, with_one}
use Rattle.board_package.proofs.Walking.{one_of_walk, one_walk, walk_or_one}
use Rattle.real_package.specs.Laws.{HasOneRealOutcome}
use Rattle.real_package.specs.RealBoards.{PlainRealBoard, as_reals, empty_real, room_left, with_points, with_reals}
use Rattle.real_package.specs.RealFiles.{IsOfArcs, ReadsReal, RefusesArc, RefusesReal}
use Rattle.real_package.specs.RealPackage.{GoesReal, IsFirstRealStop, IsRealBoardOf, RealStop, StopsRealAmong, StopsRealAt, bent, unbuilt}

-- each file has one answer: copper files, drill files and netlists
pub record HaveOneAnswer : Type 0 where
  pub copper : (file : List ℕ) (p : LayerPlace) → HasOneRealAnswer file p
  pub drill : (file : List ℕ) (p : DrillPlace) → drill_file.HasOneAnswer file p
  pub netlist : (file : List ℕ) (layers : ℕ) → netlist_file.HasOneAnswer file layers

-- ---- One file

reads_one : HaveOneAnswer → (r : Role) (n : ℕ) (bytes : List ℕ) (before x y : PlainRealBoard) → ReadsReal r n bytes before x → ReadsReal r n bytes before y → x ≡ y
reads_one all (role.Copper layer) n bytes before x y (a, read, is) (b, read', is') =
    let e : a ≡ b = (all.copper bytes (layer_in (room_left before.pieces) layer n)).one_value a b read read' in is ∙ (ap (with_reals before) e ∙ sym is')
reads_one all (role.Drill from to) n bytes before x y (a, read, is) (b, read', is') =
    let e : a ≡ b = (all.drill bytes (drill_in (room_left before.pieces) from to n)).one_value a b read read' in is ∙ (ap (λ (l : List PlainPiece). with_reals before (as_reals l)) e ∙ sym is')
reads_one all role.Netlist n bytes before x y (a, names, read, is) (b, names', read', is') =
    let e = (all.netlist bytes before.layers).one_value (record { probes = a; names = names }) (record { probes = b; names = names' }) read read' in
    is ∙ (ap (λ (l : Netlist). with_points before l.probes l.names) e ∙ sym is')

reads_not_refused : HaveOneAnswer → (r : Role) (n : ℕ) (bytes : List ℕ) (before x : PlainRealBoard) (why : Refusal) → ReadsReal r n bytes before x → RefusesReal r n bytes before why → ⊥
reads_not_refused all (role.Copper layer) n bytes before x (refusal.Layer kind command at) (a, read, is) no' = (all.copper bytes (layer_in (room_left before.pieces) layer n)).not_both a (gerber kind) command at read no'
reads_not_refused all (role.Drill from to) n bytes before x (refusal.Drill kind line at) (a, read, is) no' = (all.drill bytes (drill_in (room_left before.pieces) from to n)).not_both a kind line at read no'
reads_not_refused all role.Netlist n bytes before x (refusal.Netlist kind line) (a, names, read, is) (count, no') = (all.netlist bytes before.layers).not_both (record { probes = a; names = names }) kind count line read no'
reads_not_refused all other n bytes before x why read no' = absurd no'

reads_no_arc : HaveOneAnswer → (r : Role) (n : ℕ) (bytes : List ℕ) (before x : PlainRealBoard) (kind : RealKind) (command at : ℕ) → ReadsReal r n bytes before x → RefusesArc r n bytes before kind command at → ⊥
reads_no_arc all (role.Copper layer) n bytes before x kind command at (a, read, is) (own, no') = (all.copper bytes (layer_in (room_left before.pieces) layer n)).not_both a kind command at read no'
reads_no_arc all other n bytes before x kind command at read no' = absurd no'

refuses_one : HaveOneAnswer → (r : Role) (n : ℕ) (bytes : List ℕ) (before : PlainRealBoard) (why other : Refusal) → RefusesReal r n bytes before why → RefusesReal r n bytes before other → why ≡ other
refuses_one all (role.Copper layer) n bytes before (refusal.Layer kind command at) (refusal.Layer kind' command' at') p q =
    let e = (all.copper bytes (layer_in (room_left before.pieces) layer n)).one_fault (gerber kind) (gerber kind') command command' at at' p q in
    let k : kind ≡ kind' = one_kind e.0 in cc (k, e.1, e.2)
  where
    one_kind : ◌≡◌ {A = RealKind} (gerber kind) (gerber kind') → kind ≡ kind'
    one_kind h = cc
refuses_one all (role.Drill from to) n bytes before (refusal.Drill kind line at) (refusal.Drill kind' line' at') p q =
    let e = (all.drill bytes (drill_in (room_left before.pieces) from to n)).one_fault kind kind' line line' at at' p q in cc (e.0, e.1, e.2)
refuses_one all role.Netlist n bytes before (refusal.Netlist kind line) (refusal.Netlist kind' line') (count, p) (count', q) =
    let e = (all.netlist bytes before.layers).one_fault kind kind' count count' line line' p q in cc (e.0, e.2)
refuses_one all (role.Copper layer) n bytes before (refusal.Layer kind command at) other p q = absurd q
refuses_one all (role.Drill from to) n bytes before (refusal.Drill kind line at) other p q = absurd q
refuses_one all role.Netlist n bytes before (refusal.Netlist kind line) other p q = absurd q
refuses_one all r n bytes before why other p q = absurd p

-- a file is not refused for an arc and for something else
no_arc_too : HaveOneAnswer → (r : Role) (n : ℕ) (bytes : List ℕ) (before : PlainRealBoard) (why : Refusal) (kind : RealKind) (command at : ℕ) → RefusesReal r n bytes before why → RefusesArc r n bytes before kind command at → ⊥
no_arc_too all (role.Copper layer) n bytes before (refusal.Layer kind command at) own number place p (of_arcs, q) =
    let e = (all.copper bytes (layer_in (room_left before.pieces) layer n)).one_fault own (gerber kind) number command place at q p in
    subst IsOfArcs e.0 of_arcs
no_arc_too all (role.Copper layer) n bytes before other own number place p q = absurd p
no_arc_too all r n bytes before why own number place p q = absurd q

-- it is refused for one arc
arcs_one : HaveOneAnswer → (r : Role) (n : ℕ) (bytes : List ℕ) (before : PlainRealBoard) (kind kind' : RealKind) (command command' at at' : ℕ) → RefusesArc r n bytes before kind command at → RefusesArc r n bytes before kind' command' at'
    → (name : List ℕ) → bent name kind command at ≡ bent name kind' command' at'
arcs_one all (role.Copper layer) n bytes before kind kind' command command' at at' p q name =
    let e = (all.copper bytes (layer_in (room_left before.pieces) layer n)).one_fault kind kind' command command' at at' p.1 q.1 in cc (e.0, e.1, e.2)
arcs_one all other n bytes before kind kind' command command' at at' p q name = absurd p

-- ---- One taking

held_not_taken : (files : Files) (name : List ℕ) (P : List ℕ → Type 0) (stop : Stop) → IsHeldWith files name P → StopsTaking files name stop → ⊥
held_not_taken files name P (absent other) h s = held_not_absent files name h.bytes h.held s.1
held_not_taken files name P (longer other) h s = held_not_longer files name h.bytes h.held s.1
held_not_taken files name P other h s = absurd s

manifest_stop : (files : Files) (name : List ℕ) (stop : Stop) → StopsTaking files name stop → StopsAtManifest files name stop
manifest_stop files name (absent other) s = s
manifest_stop files name (longer other) s = s
manifest_stop files name other s = absurd s

-- how the file of an entry stops the package: it is not there, or it is refused, maybe for an arc
data StopsSo (files : Files) (e : Entry) (b : PlainRealBoard) (stop : RealStop) : Type 0 where
  untaken : (s : Stop) → stop ≡ unbuilt s → StopsTaking files e.name s → StopsSo files e b stop
  unread : (why : Refusal) → stop ≡ unbuilt (refused e.name why) → IsHeldWith files e.name (λ bytes. RefusesReal e.role e.number bytes b why) → StopsSo files e b stop
  arc : (kind : RealKind) (command at : ℕ) → stop ≡ bent e.name kind command at → IsHeldWith files e.name (λ bytes. RefusesArc e.role e.number bytes b kind command at) → StopsSo files e b stop

how : (files : Files) (e : Entry) (b : PlainRealBoard) (stop : RealStop) → StopsRealAt files e b stop → StopsSo files e b stop
how files e b (unbuilt (refused name why)) s = unread why (ap (λ (n : List ℕ). unbuilt (refused n why)) s.0) s.1
how files e b (unbuilt (absent name)) s = untaken (absent name) refl s
how files e b (unbuilt (longer name)) s = untaken (longer name) refl s
how files e b (bent name kind command at) s = arc kind command at (ap (λ (n : List ℕ). bent n kind command at) s.0) s.1
how files e b (unbuilt other) s = absurd s

goes_one : HaveOneAnswer → (files : Files) (e : Entry) (before x y : PlainRealBoard) → GoesReal files e before x → GoesReal files e before y → x ≡ y
goes_one all files e before x y g h = with_one files e.name _ _ (x ≡ y) (λ bytes p q. reads_one all e.role e.number bytes before x y p q) g h

goes_not_stops : HaveOneAnswer → (files : Files) (e : Entry) (before x : PlainRealBoard) (stop : RealStop) → GoesReal files e before x → StopsRealAt files e before stop → ⊥
goes_not_stops all files e before x stop g s = go (how files e before stop s)
  where
    go : StopsSo files e before stop → ⊥
    go (untaken t is h) = held_not_taken files e.name _ t g h
    go (unread why is h) = with_one files e.name _ _ ⊥ (λ bytes p q. reads_not_refused all e.role e.number bytes before x why p q) g h
    go (arc kind command at is h) = with_one files e.name _ _ ⊥ (λ bytes p q. reads_no_arc all e.role e.number bytes before x kind command at p q) g h

stops_one : HaveOneAnswer → (files : Files) (e : Entry) (before : PlainRealBoard) (stop other : RealStop) → StopsRealAt files e before stop → StopsRealAt files e before other → stop ≡ other
stops_one all files e before stop other s t = go (how files e before stop s) (how files e before other t)
  where
    go : StopsSo files e before stop → StopsSo files e before other → stop ≡ other
    go (untaken a is h) (untaken b is' h') = is ∙ (ap unbuilt (at_manifest_one files e.name a b (manifest_stop files e.name a h) (manifest_stop files e.name b h')) ∙ sym is')
    go (untaken a is h) (unread why is' h') = absurd (held_not_taken files e.name _ a h' h)
    go (untaken a is h) (arc kind command at is' h') = absurd (held_not_taken files e.name _ a h' h)
    go (unread why is h) (untaken b is' h') = absurd (held_not_taken files e.name _ b h h')
    go (unread why is h) (unread why' is' h') = is ∙ (ap (λ (w : Refusal). unbuilt (refused e.name w)) (with_one files e.name _ _ (why ≡ why') (λ bytes p q. refuses_one all e.role e.number bytes before why why' p q) h h') ∙ sym is')
    go (unread why is h) (arc kind command at is' h') = absurd (with_one files e.name _ _ ⊥ (λ bytes p q. no_arc_too all e.role e.number bytes before why kind command at p q) h h')
    go (arc kind command at is h) (untaken b is' h') = absurd (held_not_taken files e.name _ b h h')
    go (arc kind command at is h) (unread why is' h') = absurd (with_one files e.name _ _ ⊥ (λ bytes p q. no_arc_too all e.role e.number bytes before why kind command at p q) h' h)
    go (arc kind command at is h) (arc kind' command' at' is' h') =
        is ∙ (with_one files e.name _ _ (bent e.name kind command at ≡ bent e.name kind' command' at') (λ bytes p q. arcs_one all e.role e.number bytes before kind kind' command command' at at' p q e.name) h h' ∙ sym is')

-- ---- The package

walk_not_stops : HaveOneAnswer → (files : Files) (m : Manifest) (board : PlainRealBoard) (stop : RealStop) → WalksBy (GoesReal files) m.files (empty_real m.layers) board → StopsRealAmong files m.files (empty_real m.layers) stop → ⊥
walk_not_stops all files m board stop w s = walk_or_one (GoesReal files) (goes_one all files) (λ e b. StopsRealAt files e b stop) (λ e b y g h. goes_not_stops all files e b y stop g h) m.files (empty_real m.layers) board w s

among_one : HaveOneAnswer → (files : Files) (m : Manifest) (stop other : RealStop) → StopsRealAmong files m.files (empty_real m.layers) stop → StopsRealAmong files m.files (empty_real m.layers) other → stop ≡ other
among_one all files m stop other s t =
    one_of_walk (GoesReal files) (goes_one all files) (λ e b. StopsRealAt files e b stop) (λ e b. StopsRealAt files e b other) (stop ≡ other)
    (λ e b y g h. goes_not_stops all files e b y stop g h) (λ e b y g h. goes_not_stops all files e b y other g h) (λ e b h k. stops_one all files e b stop other h k) m.files (empty_real m.layers) s t

first_one : HaveOneAnswer → (files : Files) (name : List ℕ) (stop other : RealStop) → IsFirstRealStop files name stop → IsFirstRealStop files name other → stop ≡ other
first_one all files name (unbuilt a) (unbuilt b) (inl s) (inl t) = ap unbuilt (at_manifest_one files name a b s t)
first_one all files name (bent n k c p) other (inl s) t = absurd s
first_one all files name stop (bent n k c p) s (inl t) = absurd t
first_one all files name (unbuilt a) other (inl s) (inr t) = absurd (manifest_not_stops files name t.listed a t.manifest s)
first_one all files name stop (unbuilt b) (inr s) (inl t) = absurd (manifest_not_stops files name s.listed b s.manifest t)
first_one all files name stop other (inr s) (inr t) = behind_both files name _ _ (stop ≡ other) (λ m p q. among_one all files m stop other p q) s t

board_not_stop : HaveOneAnswer → (files : Files) (name : List ℕ) (board : PlainRealBoard) (stop : RealStop) → IsRealBoardOf files name board → IsFirstRealStop files name stop → ⊥
board_not_stop all files name board (unbuilt a) b (inl s) = manifest_not_stops files name b.listed a b.manifest s
board_not_stop all files name board (bent n k c p) b (inl s) = absurd s
board_not_stop all files name board stop b (inr s) = behind_both files name _ _ ⊥ (λ m p q. walk_not_stops all files m board stop p q) b s

board_one : HaveOneAnswer → (files : Files) (name : List ℕ) (board other : PlainRealBoard) → IsRealBoardOf files name board → IsRealBoardOf files name other → board ≡ other
board_one all files name board other a b = behind_both files name _ _ (board ≡ other) (λ m p q. one_walk (GoesReal files) (goes_one all files) m.files (empty_real m.layers) board other p q) a b

pub one_outcome : HaveOneAnswer → (files : Files) (name : List ℕ) → HasOneRealOutcome files name
one_outcome all files name = record {
  one_board = λ board other a b. board_one all files name board other a b;
  not_both = λ board stop a b. board_not_stop all files name board stop a b;
  one_stop = λ stop other a b. first_one all files name stop other a b;
}
