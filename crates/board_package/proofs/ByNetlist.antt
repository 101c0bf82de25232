-- Where the netlist names the nets, each file is needed and no label is listed: so what is said with labels is said without.
use Rattle.std.proofs.Common.{◌≡◌, inl, inr, ℕ, List, [], ◌∷◌, refl, ap, subst, ◌∙◌, arith}
use Rattle.std.specs.List.{filter}
use Rattle.board_io.specs.Handed.{Handed}
use Rattle.board_package.specs.Causes.{HandedCause, HandedCauseBy}
use Rattle.board_package.specs.HandedBoard.{ComesAlongHanded, ComesNext, Course, GoesHanded, StopsAmongHanded, StopsAtHanded, as_board}
use Rattle.board_package.specs.HandedLabelled.{as_labelled}
use Rattle.board_package.specs.LabelledBoard.{Labelled, LabelledStop, mislabelled, unbuilt}
use Rattle.board_package.specs.LabelledCauses.{labelled_faults}
use Rattle.board_package.specs.PackageBoard.{WalksBy}
use Rattle.board_package.specs.declared.entry.Entry.{Entry}
use Rattle.board_package.specs.declared.entry.Naming.TheVariants.{ByNetlist}
use Rattle.board_package.specs.declared.fault.BuildFault.{BuildFault}
use Rattle.board_package.specs.declared.fault.LabelledFault.{LabelledFault}
use Rattle.board_package.specs.declared.fault.LabelledFault.TheVariants as fault
use Rattle.lengths.specs.declared.text.Text.{Text}
use Rattle.board_package.proofs.LabelStaging.{needed, unlabelled}
use Rattle.board_package.proofs.Staging.{carry}
use Rattle.board_package.proofs.Walking.{one_as, walks_as}

all_needed : (entries : List Entry) → filter (needed ByNetlist) entries ≡ entries
all_needed [] = refl
all_needed (e ∷ rest) = ap (λ (xs : List Entry). e ∷ xs) (all_needed rest)

goes_plainly : (e : Entry) (x y : Course Labelled) → GoesHanded (as_labelled ByNetlist) e x y → GoesHanded as_board e (unlabelled x) (unlabelled y)
goes_plainly e x y g = record { bytes = g.bytes; handed = g.handed; good = g.good.0 }

pub handed_plainly : (entries listed : List Entry) (c d : Course Labelled) → entries ≡ listed → WalksBy (GoesHanded (as_labelled ByNetlist)) (filter (needed ByNetlist) entries) c d → WalksBy (GoesHanded as_board) listed (unlabelled c) (unlabelled d)
handed_plainly entries listed c d same w =
    subst (λ xs. WalksBy (GoesHanded as_board) xs (unlabelled c) (unlabelled d)) (all_needed entries ∙ same) (walks_as unlabelled (GoesHanded (as_labelled ByNetlist)) (GoesHanded as_board) goes_plainly _ c d w)

-- a cause of the walk, which is no label
abbrev StopsBy : List Entry → Course Labelled → List Handed → LabelledStop → Type 0
StopsBy entries start b stop = StopsAmongHanded (as_labelled ByNetlist) (filter (needed ByNetlist) entries) start b stop

abbrev ComesBy : List Entry → Course Labelled → List Handed → List ℕ → Type 0
ComesBy entries start b name = ComesAlongHanded (as_labelled ByNetlist) (filter (needed ByNetlist) entries) start b name

pub plain_handed : (entries listed : List Entry) (start : Course Labelled) (b : List Handed) (before now : ℕ) (lost : List ℕ) (why : BuildFault) (given : LabelledFault) → entries ≡ listed → given ≡ fault.Build why
    → HandedCauseBy labelled_faults (StopsBy entries start b) (ComesBy entries start b) before now lost given
    → HandedCause (λ stop. StopsAmongHanded as_board listed (unlabelled start) b stop) (λ name. ComesAlongHanded as_board listed (unlabelled start) b name) before now lost why
plain_handed entries listed start b before now lost why given same build cause =
    carry (λ stop. StopsBy entries start b (unbuilt stop)) (λ stop. StopsAmongHanded as_board listed (unlabelled start) b stop) (ComesBy entries start b) (λ name. ComesAlongHanded as_board listed (unlabelled start) b name) before before now lost why
    (record {
      stops = λ stop s. subst (λ xs. StopsAmongHanded as_board xs (unlabelled start) b stop) (all_needed entries ∙ same) (one_as unlabelled (GoesHanded (as_labelled ByNetlist)) (GoesHanded as_board) _ (λ e c. StopsAtHanded as_board e c b stop) goes_plainly (λ e x p. p) _ start s);
      comes = λ name s. subst (λ xs. ComesAlongHanded as_board xs (unlabelled start) b name) (all_needed entries ∙ same) (one_as unlabelled (GoesHanded (as_labelled ByNetlist)) (GoesHanded as_board) _ (λ e c. ComesNext c.handed b e.name name) goes_plainly (λ e x p. p) _ start s);
    })
    (omega arith) (subst (λ f. HandedCauseBy labelled_faults (StopsBy entries start b) (ComesBy entries start b) before now lost f) build cause)

-- no label is amiss
never : (entries : List Entry) (c : Course Labelled) (b : List Handed) (name : List ℕ) (command at : ℕ) → StopsAmongHanded (as_labelled ByNetlist) entries c b (mislabelled name command at) → ⊥
never [] c b name command at h = h
never (e ∷ rest) c b name command at (inl (inl s)) = s
never (e ∷ rest) c b name command at (inl (inr s)) = s.good.2
never (e ∷ rest) c b name command at (inr (n, g, h)) = never rest n b name command at h

pub no_labels : (entries : List Entry) (start : Course Labelled) (b : List Handed) (before now : ℕ) (lost : List ℕ) (given : LabelledFault) (name : Text) (command at : ℕ) → given ≡ fault.Label name command at
    → HandedCauseBy labelled_faults (StopsBy entries start b) (ComesBy entries start b) before now lost given → ⊥
no_labels entries start b before now lost given name command at amiss cause =
    never _ start b name command at (subst (λ f. HandedCauseBy labelled_faults (StopsBy entries start b) (ComesBy entries start b) before now lost f) amiss cause)
