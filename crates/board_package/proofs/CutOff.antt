-- A package of which one file is cut off is refused, or has the same board.
use Rattle.std.proofs.Common.{◌≡◌, ◌⊎◌, inl, inr, ℕ, Bool, true, false, if◌then◌else◌, List, [], ◌∷◌, ◌++◌, take, drop, Option, Some, None, option_map, refl, sym, ap, ◌∙◌, arith}
use Rattle.std.specs.Str.{is_utf8}
use Rattle.std.proofs.lemmas.List.{length-take, take-append-drop}
use Rattle.std.proofs.lemmas.Str.{IsUtf8-from_is_utf8, is_utf8-from_IsUtf8}
use Rattle.board_io.specs.Package.{Files}
use Rattle.board_shapes.specs.Plain.{PlainBoard, PlainPiece, with_netlist}
use Rattle.board_shapes.specs.declared.probe.Probe.{Probe}
use Rattle.gerber_reading.specs.declared.place.Place.{Place as LayerPlace}
use Rattle.gerber_layer.specs.Layer as layer_file
use Rattle.xnc.specs.Places.{Place as DrillPlace}
use Rattle.xnc.specs.DrillFile as drill_file
use Rattle.ipc356_records.specs.NetlistFile as netlist_file
use Rattle.serde_json.specs.Data as json
use Rattle.serde_json.specs.Data.{Data}
use Rattle.serde_json.specs.Read.{read}
use Rattle.texts.specs.Words.{is_word}
use Rattle.x2_nets.specs.Labels as labels_file
use Rattle.x2_nets.specs.declared.label_table.Label.{Label}
use Rattle.board_package.specs.LabelledBoard.{GoesLabelled, Labelled, Lists, labelled_order, nothing_labelled}
use Rattle.board_package.specs.Laws.{CutIsRefusedOrTheSame, IsRefusing, LabelledCutIsRefusedOrTheSame, cut_off, FilesHaveOneAnswer}
use Rattle.board_package.specs.Manifest.{IsManifest, IsNotJson, manifest_of}
use Rattle.board_package.specs.PackageBoard.{AtOneBy, Stop, not_json, refused, IsHeld, Goes, StopsAt, StopsAtManifest, IsManifestFile, WalksBy}
use Rattle.board_package.specs.Parts.{empty_board, with_pieces}
use Rattle.board_package.specs.Contents.{Reads, Refuses, layer_place, drill_place}
use Rattle.board_package.specs.declared.entry.Entry.{Entry}
use Rattle.board_package.specs.declared.entry.Naming.TheVariants.{ByLabels}
use Rattle.board_package.specs.declared.entry.Role.{Role}
use Rattle.board_package.specs.declared.entry.Role.TheVariants as role
use Rattle.board_package.specs.declared.manifest.Manifest.{Manifest}
use Rattle.board_package.specs.declared.contents.Refusal.{Refusal}
use Rattle.board_package.specs.declared.contents.Refusal.TheVariants as refusal
use Rattle.board_package.proofs.JsonPrefix.{one_value}

-- a prefix of a file that is read, where it is read too, makes the same
pub record HavePrefixes : Type 0 where
  pub layer : (file : List ℕ) (p : LayerPlace) (pieces others : List PlainPiece) (n : ℕ) → layer_file.IsRead file p pieces → layer_file.IsRead (take n file) p others → others ≡ pieces
  pub drill : (file : List ℕ) (p : DrillPlace) (pieces others : List PlainPiece) (n : ℕ) → drill_file.IsRead file p pieces → drill_file.IsRead (take n file) p others → others ≡ pieces
  pub netlist : (file : List ℕ) (layers : ℕ) (probes others : List Probe) (names words : List (List ℕ)) (n : ℕ) → netlist_file.IsRead file layers probes names → netlist_file.IsRead (take n file) layers others words → (others ≡ probes) × (words ≡ names)

-- ---- One file

-- what the cut package holds under a name: the file, or its first n bytes
held_cut : (files : Files) (name other bytes : List ℕ) (n : ℕ) → IsHeld files other bytes → IsHeld (cut_off files name n) other bytes ⊎ IsHeld (cut_off files name n) other (take n bytes)
held_cut files name other bytes n h = by (is_word other name) refl
  where
    by : (b : Bool) → is_word other name ≡ b → IsHeld (cut_off files name n) other bytes ⊎ IsHeld (cut_off files name n) other (take n bytes)
    by false e = inl (record { held = ap (λ (v : Bool). if v then option_map (take n) (files other) else files other) e ∙ h.held; short = h.short })
    by true e = inr (record { held = ap (λ (v : Bool). if v then option_map (take n) (files other) else files other) e ∙ ap (option_map (take n)) h.held; short = (let l = length-take n bytes in let s = h.short in omega (arith, l, s)) })

-- a prefix is read and leads to the same board, or is refused
prefix_goes : FilesHaveOneAnswer → HavePrefixes → (r : Role) (number : ℕ) (bytes : List ℕ) (n : ℕ) (before after : PlainBoard) → Reads r number bytes before after → Reads r number (take n bytes) before after ⊎ ((why : Refusal) × Refuses r number (take n bytes) before why)
prefix_goes all same (role.Copper layer) number bytes n before after (pieces, read, is) = elim (all.layer (take n bytes) (layer_place layer number before)).some_answer [
  | inl cut ↦ inl (cut.0, cut.1, is ∙ ap (with_pieces before) (sym (same.layer bytes (layer_place layer number before) pieces cut.0 n read cut.1)))
  | inr cut ↦ inr (refusal.Layer cut.0 cut.1 cut.2, cut.3)
]
prefix_goes all same (role.Drill from to) number bytes n before after (pieces, read, is) = elim (all.drill (take n bytes) (drill_place from to number before)).some_answer [
  | inl cut ↦ inl (cut.0, cut.1, is ∙ ap (with_pieces before) (sym (same.drill bytes (drill_place from to number before) pieces cut.0 n read cut.1)))
  | inr cut ↦ inr (refusal.Drill cut.0 cut.1 cut.2, cut.3)
]
prefix_goes all same role.Netlist number bytes n before after (probes, names, read, is) = elim (all.netlist (take n bytes) before.layers).some_answer [
  | inl cut ↦ (
      let e = same.netlist bytes before.layers probes cut.0.probes names cut.0.names n read cut.1 in
      inl (cut.0.probes, cut.0.names, cut.1, is ∙ ap (λ (others : List Probe). with_netlist before others names) (sym e.0) ∙ ap (with_netlist before cut.0.probes) (sym e.1))
      )
  | inr cut ↦ inr (refusal.Netlist cut.0 cut.2, (cut.1, cut.3))
]

file_goes : FilesHaveOneAnswer → HavePrefixes → (files : Files) (name : List ℕ) (n : ℕ) (e : Entry) (before after : PlainBoard) → Goes files e before after → Goes (cut_off files name n) e before after ⊎ ((stop : Stop) × IsRefusing stop × StopsAt (cut_off files name n) e before stop)
file_goes all same files name n e before after g = elim (held_cut files name e.name g.bytes n g.held) [
  | inl whole ↦ inl (record { bytes = g.bytes; held = whole; read = g.read })
  | inr cut ↦ elim (prefix_goes all same e.role e.number g.bytes n before after g.read) [
    | inl reads ↦ inl (record { bytes = take n g.bytes; held = cut; read = reads })
    | inr stops ↦ inr (refused e.name stops.0, tt, (refl, record { bytes = take n g.bytes; held = cut; good = stops.1 }))
  ]
]

-- ---- The files in their order

-- where each file goes on or stops the package, so does the walk
walk_goes : {S : Type 0} (Step Cut : Entry → S → S → Type 0) (At : Entry → S → Stop → Type 0) → ((e : Entry) (a b : S) → Step e a b → Cut e a b ⊎ ((stop : Stop) × IsRefusing stop × At e a stop))
    → (entries : List Entry) (a b : S) → WalksBy Step entries a b → WalksBy Cut entries a b ⊎ ((stop : Stop) × IsRefusing stop × AtOneBy Cut entries a (λ e s. At e s stop))
walk_goes Step Cut At one [] a b w = inl w
walk_goes Step Cut At one (e ∷ entries) a b (next, goes, walks) = elim (one e a next goes) [
  | inl on ↦ elim (walk_goes Step Cut At one entries next b walks) [
    | inl more ↦ inl (next, on, more)
    | inr stops ↦ inr (stops.0, stops.1, inr (next, on, stops.2))
  ]
  | inr stops ↦ inr (stops.0, stops.1, inl stops.2)
]

-- ---- The manifest

-- the value of a manifest is an object
an_object : (value : Data) (m : Manifest) → manifest_of value ≡ Some m → (members : json.Members) × (value ≡ json.object members)
unfolding manifest_of
an_object json.null m e = absurd (cc)
an_object (json.boolean b) m e = absurd (cc)
an_object (json.number x) m e = absurd (cc)
an_object (json.string s) m e = absurd (cc)
an_object (json.array items) m e = absurd (cc)
an_object (json.object members) m e = (members, refl)

no_value : (o : Option Data) (v : Data) → o ≡ None → o ≡ Some v → ⊥
no_value o v e f = cc

prefix_manifest : (bytes : List ℕ) (n : ℕ) (m : Manifest) → IsManifest bytes m → IsManifest (take n bytes) m ⊎ IsNotJson (take n bytes)
prefix_manifest bytes n m whole = by (is_utf8 (take n bytes)) refl (read (take n bytes)) refl
  where
    by : (b : Bool) → is_utf8 (take n bytes) ≡ b → (o : Option Data) → read (take n bytes) ≡ o → IsManifest (take n bytes) m ⊎ IsNotJson (take n bytes)
    by false broken o e = inr (λ v read_as. let text = is_utf8-from_IsUtf8 (take n bytes) read_as.text in cc)
    by true text None e = inr (λ v read_as. no_value (read (take n bytes)) v e read_as.spelled)
    by true text (Some v) e =
        let members = an_object whole.value m whole.form in
        let spelled : read (take n bytes ++ drop n bytes) ≡ Some (json.object members.0) = ap read (take-append-drop n bytes) ∙ whole.read_as.spelled ∙ ap (λ (d : Data). Some d) members.1 in
        let same : v ≡ whole.value = one_value (take n bytes) (drop n bytes) members.0 v spelled e ∙ sym members.1 in
        inl (record { value = whole.value; read_as = record { text = IsUtf8-from_is_utf8 (take n bytes) text; spelled = e ∙ ap (λ (d : Data). Some d) same }; form = whole.form })

manifest_goes : (files : Files) (name : List ℕ) (n : ℕ) (manifest : List ℕ) (m : Manifest) → IsManifestFile files manifest m → IsManifestFile (cut_off files name n) manifest m ⊎ ((stop : Stop) × IsRefusing stop × StopsAtManifest (cut_off files name n) manifest stop)
manifest_goes files name n manifest m f = elim (held_cut files name manifest f.bytes n f.held) [
  | inl whole ↦ inl (record { bytes = f.bytes; held = whole; good = f.good })
  | inr cut ↦ elim (prefix_manifest f.bytes n m f.good) [
    | inl same ↦ inl (record { bytes = take n f.bytes; held = cut; good = same })
    | inr none ↦ inr (not_json, tt, record { bytes = take n f.bytes; held = cut; good = none })
  ]
]

pub cut_is_refused_or_the_same : FilesHaveOneAnswer → HavePrefixes → (files : Files) (manifest : List ℕ) → CutIsRefusedOrTheSame files manifest
cut_is_refused_or_the_same all same files manifest board b name n = elim (manifest_goes files name n manifest b.listed b.manifest) [
  | inl listed ↦ elim (walk_goes (Goes files) (Goes (cut_off files name n)) (λ e x stop. StopsAt (cut_off files name n) e x stop) (λ e x y g. file_goes all same files name n e x y g) b.listed.files (empty_board b.listed.layers) board b.walked) [
    | inl walked ↦ inr (record { listed = b.listed; manifest = listed; walked = walked; frame = b.frame })
    | inr stops ↦ inl (stops.0, stops.1, inr (record { listed = b.listed; manifest = listed; follows = inl stops.2 }))
  ]
  | inr stops ↦ inl (stops.0, stops.1, inl stops.2)
]

-- ---- By labels

-- a copper file that is cut off and read has the labels of the whole file
abbrev pub HaveLabelsOfPrefixes : Type 0
HaveLabelsOfPrefixes = (file : List ℕ) (p : LayerPlace) (pieces others : List PlainPiece) (n : ℕ) (labels : List Label) → layer_file.IsRead file p pieces → layer_file.IsRead (take n file) p others → labels_file.IsRead file labels → labels_file.IsRead (take n file) labels

prefix_lists : HaveLabelsOfPrefixes → (r : Role) (number : ℕ) (bytes : List ℕ) (n : ℕ) (before after other : PlainBoard) (old new : List (List Label)) → Reads r number bytes before after → Reads r number (take n bytes) before other → Lists ByLabels r bytes old new → Lists ByLabels r (take n bytes) old new
prefix_lists same (role.Copper layer) number bytes n before after other old new (pieces, read, is) (others, part, are) (labels, listed, more) = (labels, same bytes (layer_place layer number before) pieces others n labels read part listed, more)
prefix_lists same (role.Drill from to) number bytes n before after other old new read part lists = lists
prefix_lists same role.Netlist number bytes n before after other old new read part lists = lists

file_goes_labelled : FilesHaveOneAnswer → HavePrefixes → HaveLabelsOfPrefixes → (files : Files) (name : List ℕ) (n : ℕ) (e : Entry) (before after : Labelled) → GoesLabelled ByLabels files e before after
    → GoesLabelled ByLabels (cut_off files name n) e before after ⊎ ((stop : Stop) × IsRefusing stop × StopsAt (cut_off files name n) e before.board stop)
file_goes_labelled all same labels files name n e before after g = elim (held_cut files name e.name g.goes.bytes n g.goes.held) [
  | inl whole ↦ inl (record { goes = record { bytes = g.goes.bytes; held = whole; read = g.goes.read }; lists = g.lists })
  | inr cut ↦ elim (prefix_goes all same e.role e.number g.goes.bytes n before.board after.board g.goes.read) [
    | inl reads ↦ inl (record { goes = record { bytes = take n g.goes.bytes; held = cut; read = reads }; lists = prefix_lists labels e.role e.number g.goes.bytes n before.board after.board after.board before.tables after.tables g.goes.read reads g.lists })
    | inr stops ↦ inr (refused e.name stops.0, tt, (refl, record { bytes = take n g.goes.bytes; held = cut; good = stops.1 }))
  ]
]

pub labelled_cut_is_refused_or_the_same : FilesHaveOneAnswer → HavePrefixes → HaveLabelsOfPrefixes → (files : Files) (manifest : List ℕ) → LabelledCutIsRefusedOrTheSame files manifest
labelled_cut_is_refused_or_the_same all same labels files manifest board b name n = elim (manifest_goes files name n manifest b.listed b.manifest) [
  | inl listed ↦ elim (walk_goes (GoesLabelled ByLabels files) (GoesLabelled ByLabels (cut_off files name n)) (λ e x stop. StopsAt (cut_off files name n) e x.board stop) (λ e x y g. file_goes_labelled all same labels files name n e x y g) (labelled_order b.listed) (nothing_labelled b.listed.layers) b.end b.walked) [
    | inl walked ↦ inr (record { listed = b.listed; manifest = listed; end = b.end; walked = walked; frame = b.frame; is = b.is })
    | inr stops ↦ inl (stops.0, stops.1, inr (record { listed = b.listed; manifest = listed; follows = inl stops.2 }))
  ]
  | inr stops ↦ inl (stops.0, stops.1, inl stops.2)
]
