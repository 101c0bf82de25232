-- A package has one outcome.
use Rattle.std.proofs.Common.{◌≡◌, inl, inr, ℕ, ◌<◌, List, length, Option, Some, None, IsSomeAnd, refl, sym, ap, subst, ◌∙◌, arith}
use Rattle.board_io.specs.Package.{Files}
use Rattle.board_shapes.specs.Plain.{PlainBoard, common_box, Fits, with_netlist}
use Rattle.contact.specs.declared.Bounds.{Bounds}
use Rattle.ipc356_records.specs.NetlistFile.{Netlist}
use Rattle.serde_json.specs.Data.{Data}
use Rattle.board_package.specs.Laws.{HasOneOutcome, FilesHaveOneAnswer}
use Rattle.board_package.specs.Manifest.{IsManifest, IsNotJson, IsOther, IsValueOf, manifest_of}
use Rattle.board_package.specs.PackageBoard.{BehindManifest, Stop, absent, longer, not_json, bad_manifest, refused, frame_too_large, IsHeld, IsHeldWith, Goes, StopsAt, StopsAtManifest, StopsAtFrame, StopsAmong, StopsLater, IsManifestFile, IsBoardOf, IsFirstStop, Walks}
use Rattle.texts.specs.declared.TheConstants.{MOST_BYTES}
use Rattle.board_package.specs.Parts.{with_pieces, empty_board}
use Rattle.board_package.specs.Contents.{Reads, Refuses, layer_place, drill_place}
use Rattle.board_package.specs.declared.entry.Entry.{Entry}
use Rattle.board_package.specs.declared.entry.Role.{Role}
use Rattle.board_package.specs.declared.entry.Role.TheVariants as role
use Rattle.board_package.specs.declared.manifest.Manifest.{Manifest}
use Rattle.board_package.specs.declared.contents.Refusal.{Refusal}
use Rattle.board_package.specs.declared.contents.Refusal.TheVariants as refusal
use Rattle.board_package.proofs.Walking.{one_of_walk, one_walk, walk_or_one}

-- ---- One file

reads_one : FilesHaveOneAnswer → (r : Role) (n : ℕ) (bytes : List ℕ) (before x y : PlainBoard) → Reads r n bytes before x → Reads r n bytes before y → x ≡ y
reads_one all (role.Copper layer) n bytes before x y (a, read, is) (b, read', is') =
    let e : a ≡ b = (all.layer bytes (layer_place layer n before)).one_value a b read read' in is ∙ (ap (with_pieces before) e ∙ sym is')
reads_one all (role.Drill from to) n bytes before x y (a, read, is) (b, read', is') =
    let e : a ≡ b = (all.drill bytes (drill_place from to n before)).one_value a b read read' in is ∙ (ap (with_pieces before) e ∙ sym is')
reads_one all role.Netlist n bytes before x y (a, names, read, is) (b, names', read', is') =
    let e = (all.netlist bytes before.layers).one_value (record { probes = a; names = names }) (record { probes = b; names = names' }) read read' in
    is ∙ (ap (λ (l : Netlist). with_netlist before l.probes l.names) e ∙ sym is')

reads_not_refused : FilesHaveOneAnswer → (r : Role) (n : ℕ) (bytes : List ℕ) (before x : PlainBoard) (why : Refusal) → Reads r n bytes before x → Refuses r n bytes before why → ⊥
reads_not_refused all (role.Copper layer) n bytes before x (refusal.Layer kind command at) (a, read, is) no' = (all.layer bytes (layer_place layer n before)).not_both a kind command at read no'
reads_not_refused all (role.Drill from to) n bytes before x (refusal.Drill kind line at) (a, read, is) no' = (all.drill bytes (drill_place from to n before)).not_both a kind line at read no'
reads_not_refused all role.Netlist n bytes before x (refusal.Netlist kind line) (a, names, read, is) (count, no') = (all.netlist bytes before.layers).not_both (record { probes = a; names = names }) kind count line read no'
reads_not_refused all other n bytes before x why read no' = absurd no'

refuses_one : FilesHaveOneAnswer → (r : Role) (n : ℕ) (bytes : List ℕ) (before : PlainBoard) (why other : Refusal) → Refuses r n bytes before why → Refuses r n bytes before other → why ≡ other
refuses_one all (role.Copper layer) n bytes before (refusal.Layer kind command at) (refusal.Layer kind' command' at') p q =
    let e = (all.layer bytes (layer_place layer n before)).one_fault kind kind' command command' at at' p q in cc (e.0, e.1, e.2)
refuses_one all (role.Drill from to) n bytes before (refusal.Drill kind line at) (refusal.Drill kind' line' at') p q =
    let e = (all.drill bytes (drill_place from to n before)).one_fault kind kind' line line' at at' p q in cc (e.0, e.1, e.2)
refuses_one all role.Netlist n bytes before (refusal.Netlist kind line) (refusal.Netlist kind' line') (count, p) (count', q) =
    let e = (all.netlist bytes before.layers).one_fault kind kind' count count' line line' p q in cc (e.0, e.2)
refuses_one all (role.Copper layer) n bytes before (refusal.Layer kind command at) other p q = absurd q
refuses_one all (role.Drill from to) n bytes before (refusal.Drill kind line at) other p q = absurd q
refuses_one all role.Netlist n bytes before (refusal.Netlist kind line) other p q = absurd q
refuses_one all r n bytes before why other p q = absurd p

-- ---- One taking

pub held_one : (files : Files) (name a b : List ℕ) → IsHeld files name a → IsHeld files name b → a ≡ b
held_one files name a b h k = some_one (h.held) (k.held)
  where
    some_one : files name ≡ Some a → files name ≡ Some b → a ≡ b
    some_one p q = cc

pub held_not_absent : (files : Files) (name a : List ℕ) → IsHeld files name a → files name ≡ None → ⊥
held_not_absent files name a h e = apart (h.held)
  where
    apart : files name ≡ Some a → ⊥
    apart p = cc

long_of : (o : Option (List ℕ)) (a : List ℕ) → o ≡ Some a → IsSomeAnd o (λ bytes. MOST_BYTES < length bytes) → MOST_BYTES < length a
long_of o a e h = subst (λ (p : Option (List ℕ)). IsSomeAnd p (λ bytes. MOST_BYTES < length bytes)) e h

pub held_not_longer : (files : Files) (name a : List ℕ) → IsHeld files name a → IsSomeAnd (files name) (λ bytes. MOST_BYTES < length bytes) → ⊥
held_not_longer files name a h long = let l = long_of (files name) a h.held long in let s = h.short in omega arith

pub absent_not_longer : (o : Option (List ℕ)) → o ≡ None → IsSomeAnd o (λ bytes. MOST_BYTES < length bytes) → ⊥
absent_not_longer o e h = subst (λ (p : Option (List ℕ)). IsSomeAnd p (λ bytes. MOST_BYTES < length bytes)) e h

pub same_name : (name a b : List ℕ) → a ≡ name → b ≡ name → a ≡ b
same_name name a b p q = p ∙ sym q

-- of what is held with P and with Q the bytes are one
pub with_one : (files : Files) (name : List ℕ) (P Q : List ℕ → Type 0) (R : Type 0) → ((bytes : List ℕ) → P bytes → Q bytes → R) → IsHeldWith files name P → IsHeldWith files name Q → R
with_one files name P Q R k p q = k q.bytes (subst P (held_one files name p.bytes q.bytes p.held q.held) p.good) q.good

pub goes_one : FilesHaveOneAnswer → (files : Files) (e : Entry) (before x y : PlainBoard) → Goes files e before x → Goes files e before y → x ≡ y
goes_one all files e before x y g h =
    let same = held_one files e.name g.bytes h.bytes g.held h.held in
    reads_one all e.role e.number h.bytes before x y (subst (λ bytes. Reads e.role e.number bytes before x) same g.read) h.read

pub goes_not_stops : FilesHaveOneAnswer → (files : Files) (e : Entry) (before x : PlainBoard) (stop : Stop) → Goes files e before x → StopsAt files e before stop → ⊥
goes_not_stops all files e before x (absent name) g s = held_not_absent files e.name g.bytes g.held s.1
goes_not_stops all files e before x (longer name) g s = held_not_longer files e.name g.bytes g.held s.1
goes_not_stops all files e before x (refused name why) g s =
    let same = held_one files e.name g.bytes s.1.bytes g.held s.1.held in
    reads_not_refused all e.role e.number s.1.bytes before x why (subst (λ bytes. Reads e.role e.number bytes before x) same g.read) s.1.good
goes_not_stops all files e before x other g s = absurd s

pub stops_one : FilesHaveOneAnswer → (files : Files) (e : Entry) (before : PlainBoard) (stop other : Stop) → StopsAt files e before stop → StopsAt files e before other → stop ≡ other
stops_one all files e before (absent a) (absent b) s t = ap absent (same_name e.name a b s.0 t.0)
stops_one all files e before (absent a) (longer b) s t = absurd (absent_not_longer (files e.name) s.1 t.1)
stops_one all files e before (absent a) (refused b why) s t = absurd (held_not_absent files e.name t.1.bytes t.1.held s.1)
stops_one all files e before (absent a) other s t = absurd t
stops_one all files e before (longer a) (absent b) s t = absurd (absent_not_longer (files e.name) t.1 s.1)
stops_one all files e before (longer a) (longer b) s t = ap longer (same_name e.name a b s.0 t.0)
stops_one all files e before (longer a) (refused b why) s t = absurd (held_not_longer files e.name t.1.bytes t.1.held s.1)
stops_one all files e before (longer a) other s t = absurd t
stops_one all files e before (refused a why) (absent b) s t = absurd (held_not_absent files e.name s.1.bytes s.1.held t.1)
stops_one all files e before (refused a why) (longer b) s t = absurd (held_not_longer files e.name s.1.bytes s.1.held t.1)
stops_one all files e before (refused a why) (refused b other) s t = both (same_name e.name a b s.0 t.0) (with_one files e.name _ _ (why ≡ other) (λ bytes p q. refuses_one all e.role e.number bytes before why other p q) s.1 t.1)
  where
    both : a ≡ b → why ≡ other → refused a why ≡ refused b other
    both p q = cc
stops_one all files e before (refused a why) other s t = absurd t
stops_one all files e before stop other s t = absurd s

-- ---- The order

walks_one : FilesHaveOneAnswer → (files : Files) (entries : List Entry) (start x y : PlainBoard) → Walks files entries start x → Walks files entries start y → x ≡ y
walks_one all files entries start x y p q = one_walk (Goes files) (goes_one all files) entries start x y p q

walks_not_stops : FilesHaveOneAnswer → (files : Files) (entries : List Entry) (start x : PlainBoard) (stop : Stop) → Walks files entries start x → StopsAmong files entries start stop → ⊥
walks_not_stops all files entries start x stop p s = walk_or_one (Goes files) (goes_one all files) (λ e b. StopsAt files e b stop) (λ e b y g h. goes_not_stops all files e b y stop g h) entries start x p s

among_one : FilesHaveOneAnswer → (files : Files) (entries : List Entry) (start : PlainBoard) (stop other : Stop) → StopsAmong files entries start stop → StopsAmong files entries start other → stop ≡ other
among_one all files entries start stop other s t =
    one_of_walk (Goes files) (goes_one all files) (λ e b. StopsAt files e b stop) (λ e b. StopsAt files e b other) (stop ≡ other)
    (λ e b y g h. goes_not_stops all files e b y stop g h) (λ e b y g h. goes_not_stops all files e b y other g h) (λ e b h k. stops_one all files e b stop other h k) entries start s t

-- ---- The manifest

value_one : (bytes : List ℕ) (v w : Data) → IsValueOf bytes v → IsValueOf bytes w → v ≡ w
value_one bytes v w p q = some_one p.spelled q.spelled
  where
    some_one : {o : Option Data} → o ≡ Some v → o ≡ Some w → v ≡ w
    some_one a b = cc

manifest_one : (bytes : List ℕ) (m n : Manifest) → IsManifest bytes m → IsManifest bytes n → m ≡ n
manifest_one bytes m n p q =
    let same = value_one bytes p.value q.value p.read_as q.read_as in
    some_one (subst (λ v. manifest_of v ≡ Some m) same p.form) q.form
  where
    some_one : {o : Option Manifest} → o ≡ Some m → o ≡ Some n → m ≡ n
    some_one a b = cc

manifest_not_other : (bytes : List ℕ) (m : Manifest) → IsManifest bytes m → IsOther bytes → ⊥
manifest_not_other bytes m p q =
    let same = value_one bytes p.value q.value p.read_as q.read_as in
    apart (subst (λ v. manifest_of v ≡ Some m) same p.form) q.form
  where
    apart : {o : Option Manifest} → o ≡ Some m → o ≡ None → ⊥
    apart a b = cc

pub manifest_file_one : (files : Files) (name : List ℕ) (m n : Manifest) → IsManifestFile files name m → IsManifestFile files name n → m ≡ n
manifest_file_one files name m n p q = with_one files name (λ bytes. IsManifest bytes m) (λ bytes. IsManifest bytes n) (m ≡ n) (λ bytes a b. manifest_one bytes m n a b) p q

pub manifest_not_stops : (files : Files) (name : List ℕ) (m : Manifest) (stop : Stop) → IsManifestFile files name m → StopsAtManifest files name stop → ⊥
manifest_not_stops files name m (absent a) p s = held_not_absent files name p.bytes p.held s.1
manifest_not_stops files name m (longer a) p s = held_not_longer files name p.bytes p.held s.1
manifest_not_stops files name m not_json p s = with_one files name (λ bytes. IsManifest bytes m) IsNotJson ⊥ (λ bytes a b. b a.value a.read_as) p s
manifest_not_stops files name m bad_manifest p s = with_one files name (λ bytes. IsManifest bytes m) IsOther ⊥ (λ bytes a b. manifest_not_other bytes m a b) p s
manifest_not_stops files name m other p s = absurd s

not_json_not_other : (files : Files) (name : List ℕ) → IsHeldWith files name IsNotJson → IsHeldWith files name IsOther → ⊥
not_json_not_other files name p q = with_one files name IsNotJson IsOther ⊥ (λ bytes a b. a b.value b.read_as) p q

pub at_manifest_one : (files : Files) (name : List ℕ) (stop other : Stop) → StopsAtManifest files name stop → StopsAtManifest files name other → stop ≡ other
at_manifest_one files name (absent a) (absent b) s t = ap absent (same_name name a b s.0 t.0)
at_manifest_one files name (absent a) (longer b) s t = absurd (absent_not_longer (files name) s.1 t.1)
at_manifest_one files name (absent a) not_json s t = absurd (held_not_absent files name t.bytes t.held s.1)
at_manifest_one files name (absent a) bad_manifest s t = absurd (held_not_absent files name t.bytes t.held s.1)
at_manifest_one files name (absent a) other s t = absurd t
at_manifest_one files name (longer a) (absent b) s t = absurd (absent_not_longer (files name) t.1 s.1)
at_manifest_one files name (longer a) (longer b) s t = ap longer (same_name name a b s.0 t.0)
at_manifest_one files name (longer a) not_json s t = absurd (held_not_longer files name t.bytes t.held s.1)
at_manifest_one files name (longer a) bad_manifest s t = absurd (held_not_longer files name t.bytes t.held s.1)
at_manifest_one files name (longer a) other s t = absurd t
at_manifest_one files name not_json (absent b) s t = absurd (held_not_absent files name s.bytes s.held t.1)
at_manifest_one files name not_json (longer b) s t = absurd (held_not_longer files name s.bytes s.held t.1)
at_manifest_one files name not_json not_json s t = refl
at_manifest_one files name not_json bad_manifest s t = absurd (not_json_not_other files name s t)
at_manifest_one files name not_json other s t = absurd t
at_manifest_one files name bad_manifest (absent b) s t = absurd (held_not_absent files name s.bytes s.held t.1)
at_manifest_one files name bad_manifest (longer b) s t = absurd (held_not_longer files name s.bytes s.held t.1)
at_manifest_one files name bad_manifest not_json s t = absurd (not_json_not_other files name t s)
at_manifest_one files name bad_manifest bad_manifest s t = refl
at_manifest_one files name bad_manifest other s t = absurd t
at_manifest_one files name stop other s t = absurd s

-- ---- The frame

pub frame_one : (b : PlainBoard) (stop other : Stop) → StopsAtFrame b stop → StopsAtFrame b other → stop ≡ other
frame_one b (frame_too_large box) (frame_too_large box') s t = ap frame_too_large (some_one s.0 t.0)
  where
    some_one : {o : Option Bounds} → o ≡ Some box → o ≡ Some box' → box ≡ box'
    some_one p q = cc
frame_one b (frame_too_large box) other s t = absurd t
frame_one b stop other s t = absurd s

pub fits_not_stops : (b : PlainBoard) (stop : Stop) → Fits (common_box b.pieces) → StopsAtFrame b stop → ⊥
fits_not_stops b (frame_too_large box) fits s = s.1 (subst (λ (o : Option Bounds). Fits o) s.0 fits)
fits_not_stops b other fits s = absurd s

-- ---- The package

-- of what follows a manifest the manifest is one
pub behind_both : (files : Files) (name : List ℕ) (P Q : Manifest → Type 0) (R : Type 0) → ((m : Manifest) → P m → Q m → R) → BehindManifest files name P → BehindManifest files name Q → R
behind_both files name P Q R k p q = k q.listed (subst P (manifest_file_one files name p.listed q.listed p.manifest q.manifest) p.follows) q.follows

later_one : FilesHaveOneAnswer → (files : Files) (m : Manifest) (stop other : Stop) → StopsLater files m stop → StopsLater files m other → stop ≡ other
later_one all files m stop other (inl s) (inl t) = among_one all files m.files (empty_board m.layers) stop other s t
later_one all files m stop other (inl s) (inr t) = absurd (walks_not_stops all files m.files (empty_board m.layers) t.board stop t.walked s)
later_one all files m stop other (inr s) (inl t) = absurd (walks_not_stops all files m.files (empty_board m.layers) s.board other s.walked t)
later_one all files m stop other (inr s) (inr t) =
    let same = walks_one all files m.files (empty_board m.layers) s.board t.board s.walked t.walked in
    frame_one t.board stop other (subst (λ b. StopsAtFrame b stop) same s.frame) t.frame

later_not_board : FilesHaveOneAnswer → (files : Files) (m : Manifest) (board : PlainBoard) (stop : Stop) → Walks files m.files (empty_board m.layers) board → Fits (common_box board.pieces) → StopsLater files m stop → ⊥
later_not_board all files m board stop walks fits (inl s) = walks_not_stops all files m.files (empty_board m.layers) board stop walks s
later_not_board all files m board stop walks fits (inr s) =
    let same = walks_one all files m.files (empty_board m.layers) s.board board s.walked walks in
    fits_not_stops board stop fits (subst (λ b. StopsAtFrame b stop) same s.frame)

first_one : FilesHaveOneAnswer → (files : Files) (name : List ℕ) (stop other : Stop) → IsFirstStop files name stop → IsFirstStop files name other → stop ≡ other
first_one all files name stop other (inl s) (inl t) = at_manifest_one files name stop other s t
first_one all files name stop other (inl s) (inr t) = absurd (manifest_not_stops files name t.listed stop t.manifest s)
first_one all files name stop other (inr s) (inl t) = absurd (manifest_not_stops files name s.listed other s.manifest t)
first_one all files name stop other (inr s) (inr t) = behind_both files name (λ m. StopsLater files m stop) (λ m. StopsLater files m other) (stop ≡ other) (λ m p q. later_one all files m stop other p q) s t

board_not_stop : FilesHaveOneAnswer → (files : Files) (name : List ℕ) (board : PlainBoard) (stop : Stop) → IsBoardOf files name board → IsFirstStop files name stop → ⊥
board_not_stop all files name board stop b (inl s) = manifest_not_stops files name b.listed stop b.manifest s
board_not_stop all files name board stop b (inr s) =
    let same = manifest_file_one files name s.listed b.listed s.manifest b.manifest in
    later_not_board all files b.listed board stop b.walked b.frame (subst (λ m. StopsLater files m stop) same s.follows)

board_one : FilesHaveOneAnswer → (files : Files) (name : List ℕ) (board other : PlainBoard) → IsBoardOf files name board → IsBoardOf files name other → board ≡ other
board_one all files name board other a b =
    let same = manifest_file_one files name a.listed b.listed a.manifest b.manifest in
    walks_one all files b.listed.files (empty_board b.listed.layers) board other (subst (λ (m : Manifest). Walks files m.files (empty_board m.layers) board) same a.walked) b.walked

pub one_outcome : FilesHaveOneAnswer → (files : Files) (name : List ℕ) → HasOneOutcome files name
one_outcome all files name = record {
  one_board = λ board other a b. board_one all files name board other a b;
  not_both = λ board stop a b. board_not_stop all files name board stop a b;
  one_stop = λ stop other a b. first_one all files name stop other a b;
}
