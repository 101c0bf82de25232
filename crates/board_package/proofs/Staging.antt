-- The stages of the taking, by what was handed over.
use Rattle.std.proofs.Common.{◌≡◌, inl, inr, ℕ, ◌≤◌, List, Some, None, IsSomeAnd, refl, subst, sym, arith}
use Rattle.board_io.specs.Handed.{Handed}
use Rattle.board_shapes.specs.Plain.{PlainBoard}
use Rattle.board_package.specs.Causes.{Faults, Halts, HandedCause, HandedCauseBy, IsFrameFault}
use Rattle.board_package.specs.HandedBoard.{ComesAlongHanded, ComesNext, Course, GoesHanded, IsHanded, IsHandedWith, IsMadeHanded, IsManifestHanded, IsNextHanded, IsStopHanded, Reading, StopsAmongHanded, StopsAtHanded, StopsAtManifestHanded, StopsHanding, as_board, course}
use Rattle.board_package.specs.PackageBoard.{Stop, StopsAtFrame, WalksBy, longer}
use Rattle.board_package.specs.declared.entry.Entry.{Entry}
use Rattle.board_package.specs.declared.fault.BuildFault.{BuildFault}
use Rattle.board_package.specs.declared.manifest.Manifest.{Manifest}
use Rattle.board_package.proofs.Lift.{Carries, frame_cause, lift, lift_by, refusal_cause}

-- a cause of one stage is one of the next
pub carry : (S T : Stop → Type 0) (C D : List ℕ → Type 0) (before mid now : ℕ) (lost : List ℕ) (why : BuildFault) → Carries S T C D → before ≤ mid → HandedCause S C mid now lost why → HandedCause T D before now lost why
carry S T C D before mid now lost why k le h = lift (Some (λ name. None)) S (λ files stop. T stop) C (λ files name. D name) before mid now lost why k le h

pub carry_by : {K F : Type 0} (faults : Faults K F) (S T : K → Type 0) (C D : List ℕ → Type 0) (before mid now : ℕ) (lost : List ℕ) (why : F) → Carries S T C D → before ≤ mid → HandedCauseBy faults S C mid now lost why → HandedCauseBy faults T D before now lost why
carry_by faults S T C D before mid now lost why k le h = lift_by faults (Some (λ name. None)) S (λ files stop. T stop) C (λ files name. D name) before mid now lost why k le h

-- ---- One file

-- what stops the taking of the manifest
manifest_stop : (a b : List Handed) (name : List ℕ) (stop : Stop) → StopsHanding a b name stop → StopsAtManifestHanded a b name stop
manifest_stop a b name (longer other) s = s
manifest_stop a b name other s = absurd s

pub taking_manifest : (a b : List Handed) (name : List ℕ) (count now : ℕ) (lost : List ℕ) (why : BuildFault)
    → HandedCause (λ stop. StopsHanding a b name stop) (λ other. ComesNext a b name other) count now lost why
    → HandedCause (λ stop. StopsAtManifestHanded a b name stop) (λ other. ComesNext a b name other) count now lost why
taking_manifest a b name count now lost why cause =
    carry (λ stop. StopsHanding a b name stop) (λ stop. StopsAtManifestHanded a b name stop) (λ other. ComesNext a b name other) (λ other. ComesNext a b name other) count count now lost why
    (record { stops = λ stop s. manifest_stop a b name stop s; comes = λ other e. e }) (omega arith) cause

-- a file that was handed over, with what holds of its bytes
pub handed_with : (a b : List Handed) (name bytes seen : List ℕ) (P : List ℕ → Type 0) → IsHanded a b name bytes → seen ≡ bytes → P seen → IsHandedWith a b name P
handed_with a b name bytes seen P h same p = record { bytes = bytes; handed = h; good = subst P same p }

-- a file that was handed over and is not read is a cause
pub halted_handed : (e : Entry) (c : Course PlainBoard) (b : List Handed) (bytes seen : List ℕ) (count now : ℕ) (lost : List ℕ) (given : BuildFault)
    → IsHanded c.handed b e.name bytes → seen ≡ bytes → Halts e seen c.so_far given
    → HandedCause (λ stop. StopsAtHanded as_board e c b stop) (λ name. ComesNext c.handed b e.name name) count now lost given
halted_handed e c b bytes seen count now lost given h same (inl none) =
    subst (λ f. HandedCause (λ stop. StopsAtHanded as_board e c b stop) (λ name. ComesNext c.handed b e.name name) count now lost f) (sym none) tt
halted_handed e c b bytes seen count now lost given h same (inr (why, refuses, has)) =
    refusal_cause (λ stop. StopsAtHanded as_board e c b stop) (λ name. ComesNext c.handed b e.name name) count now lost e.name why given
    (inr (handed_with c.handed b e.name bytes seen _ h same (refl, refuses)))
    has

-- ---- The package, whatever its files are read as

-- a cause of the files is one of the package
pub files_handed : {S B K F : Type 0} (r : Reading S B K) (faults : Faults K F) (a f b : List Handed) (manifest : List ℕ) (listed : Manifest) (start : S) (before between now : ℕ) (lost : List ℕ) (why : F) → start ≡ r.start listed.layers → before ≤ between
    → IsManifestHanded a f manifest listed
    → HandedCauseBy faults (λ stop. StopsAmongHanded r (r.order listed) (course f start) b stop) (λ name. ComesAlongHanded r (r.order listed) (course f start) b name) between now lost why
    → HandedCauseBy faults (λ stop. IsStopHanded r a b manifest stop) (λ name. IsNextHanded r a b manifest name) before now lost why
files_handed r faults a f b manifest listed start before between now lost why empty later is cause =
    carry_by faults (λ stop. StopsAmongHanded r (r.order listed) (course f start) b stop) (λ stop. IsStopHanded r a b manifest stop) (λ name. ComesAlongHanded r (r.order listed) (course f start) b name) (λ name. IsNextHanded r a b manifest name) before between now lost why
    (record {
      stops = λ stop s. inr (record { listed = listed; first = f; manifest = is; follows = inl (subst (λ x. StopsAmongHanded r (r.order listed) (course f x) b stop) empty s) });
      comes = λ name s. inr (record { listed = listed; first = f; manifest = is; follows = subst (λ x. ComesAlongHanded r (r.order listed) (course f x) b name) empty s });
    })
    later cause

-- what is made of the package
pub made_handed : {S B K : Type 0} (r : Reading S B K) (a f b : List Handed) (manifest : List ℕ) (listed : Manifest) (start end : S) (made : B) → start ≡ r.start listed.layers
    → IsManifestHanded a f manifest listed → WalksBy (GoesHanded r) (r.order listed) (course f start) (course b end) → r.makes end made
    → IsMadeHanded r a b manifest made
made_handed r a f b manifest listed start end made empty is walked good =
    record { listed = listed; first = f; manifest = is; follows = record { end = end; walked = subst (λ x. WalksBy (GoesHanded r) (r.order listed) (course f x) (course b end)) empty walked; good = good } }

-- each stop of a board is a stop
module _ {S B K : Type 0} (r : Reading S B K) (stop_of : Stop → K) (shared_is : (stop : Stop) → r.shared (stop_of stop) ≡ Some stop) where
  shared_stop : (P : Stop → Type 0) (stop : Stop) → P stop → IsSomeAnd (r.shared (stop_of stop)) P
  shared_stop P stop p = subst (λ o. IsSomeAnd o P) (sym (shared_is stop)) p

  -- what stops the taking of the file of an entry
  pub taking_entry : (e : Entry) (c : Course S) (b : List Handed) (count now : ℕ) (lost : List ℕ) (why : BuildFault)
      → HandedCause (λ stop. StopsHanding c.handed b e.name stop) (λ name. ComesNext c.handed b e.name name) count now lost why
      → HandedCause (λ stop. StopsAtHanded r e c b (stop_of stop)) (λ name. ComesNext c.handed b e.name name) count now lost why
  taking_entry e c b count now lost why cause =
      carry (λ stop. StopsHanding c.handed b e.name stop) (λ stop. StopsAtHanded r e c b (stop_of stop)) (λ name. ComesNext c.handed b e.name name) (λ name. ComesNext c.handed b e.name name) count count now lost why
      (record { stops = λ stop s. inl (shared_stop (λ x. StopsHanding c.handed b e.name x) stop s); comes = λ name p. p }) (omega arith) cause

  -- a cause of the manifest's stage is one of the package
  pub manifest_handed : (a b : List Handed) (manifest : List ℕ) (count now : ℕ) (lost : List ℕ) (why : BuildFault)
      → HandedCause (λ stop. StopsAtManifestHanded a b manifest stop) (λ name. ComesNext a b manifest name) count now lost why
      → HandedCause (λ stop. IsStopHanded r a b manifest (stop_of stop)) (λ name. IsNextHanded r a b manifest name) count now lost why
  manifest_handed a b manifest count now lost why cause =
      carry (λ stop. StopsAtManifestHanded a b manifest stop) (λ stop. IsStopHanded r a b manifest (stop_of stop)) (λ name. ComesNext a b manifest name) (λ name. IsNextHanded r a b manifest name) count count now lost why
      (record { stops = λ stop s. inl (shared_stop (λ x. StopsAtManifestHanded a b manifest x) stop s); comes = λ name s. inl s }) (omega arith) cause

  -- a frame that is too large is a cause of the package
  pub framed_handed : (a f b : List Handed) (manifest : List ℕ) (listed : Manifest) (start end : S) (board : PlainBoard) (before now : ℕ) (lost : List ℕ) (why : BuildFault) → start ≡ r.start listed.layers
      → IsManifestHanded a f manifest listed → WalksBy (GoesHanded r) (r.order listed) (course f start) (course b end) → ((stop : Stop) → StopsAtFrame board stop → r.ends end (stop_of stop)) → IsFrameFault board why
      → HandedCause (λ stop. IsStopHanded r a b manifest (stop_of stop)) (λ name. IsNextHanded r a b manifest name) before now lost why
  framed_handed a f b manifest listed start end board before now lost why empty is walked ends fault =
      frame_cause (λ stop. IsStopHanded r a b manifest (stop_of stop)) (λ name. IsNextHanded r a b manifest name) before now lost board why
      (λ stop s. inr (record { listed = listed; first = f; manifest = is; follows = inr (record { end = end; walked = subst (λ x. WalksBy (GoesHanded r) (r.order listed) (course f x) (course b end)) empty walked; good = ends stop s }) }))
      fault
