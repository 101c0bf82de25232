-- Causes, carried from one stage to the next.
use Rattle.std.proofs.Common.{◌≡◌, inl, inr, ℕ, ◌≤◌, List, Option, Some, None, IfSome, Result, Ok, Err, IfErr, IfOk, OnOk, MatchResult, sym, ◌∙◌, subst, arith}
use Rattle.std.specs.Result.{IsErrAnd}
use Rattle.board_io.proofs.Agreeing.{agree_on, grows_on}
use Rattle.board_io.specs.Causes.{Rose}
use Rattle.board_io.specs.Handed.{AgreeWith, Handed}
use Rattle.board_io.specs.Package.{Files, IsFaultless}
use Rattle.board_shapes.specs.Plain.{PlainBoard}
use Rattle.board_package.specs.Causes.{CauseOf, Fault, Faults, HandedCause, HandedCauseBy, HasCause, HasCauseBy, HasRefusal, IsFrameFault, KeepsFaults, KeepsFaultsBy, KeepsOf, Leaves, own, shared}
use Rattle.board_package.specs.PackageBoard.{Stop, longer, not_json, bad_manifest, refused, frame_too_large, StopsAtFrame}
use Rattle.board_package.specs.declared.fault.BuildFault.{BuildFault}
use Rattle.board_package.specs.declared.fault.BuildFault.TheVariants as fault
use Rattle.board_package.specs.declared.contents.Refusal.{Refusal}
use Rattle.board_package.specs.declared.contents.Refusal.TheVariants as refusal

-- a fault that climbs
pub climbs : {B E : Type 0} (Q : B → Type 0) (P : E → Type 0) (result : Result B E) (why : E) → IsErrAnd result (λ f. f ≡ why) → P why → MatchResult result Q P
climbs Q P (Ok x) why e p = absurd e
climbs Q P (Err f) why e p = subst P (sym e) p

-- two facts of a value or one of a fault, and what follows of the one and of the other
pub either : {B E : Type 0} (result : Result B E) (P Q R : B → Type 0) (S T : E → Type 0) → ((x : B) → P x → Q x → R x) → ((why : E) → S why → T why) → IfOk result P → IfOk result Q → IfErr result S → MatchResult result R T
either (Ok x) P Q R S T k j p q s = k x p q
either (Err why) P Q R S T k j p q s = j why s

-- two facts of the files that are told, and a third that follows
pub told : (held : Option Files) (A B C : Files → Type 0) → ((files : Files) → A files → B files → C files) → IfSome held A → IfSome held B → IfSome held C
told None A B C k a b = tt
told (Some files) A B C k a b = k files a b

pub told_of : (held : Option Files) (A B : Files → Type 0) → ((files : Files) → A files → B files) → IfSome held A → IfSome held B
told_of None A B k a = tt
told_of (Some files) A B k a = k files a

pub told_all : (held : Option Files) (A : Files → Type 0) → ((files : Files) → A files) → IfSome held A
told_all None A k = tt
told_all (Some files) A k = k files

rose_before : (before mid now : ℕ) → before ≤ mid → Rose mid now → Rose before now
rose_before before mid now le rose = omega arith

-- a cause told of other files, and of a call that began before
pub retold : (held other : Option Files) (S T : Files → Stop → Type 0) (C D : Files → List ℕ → Type 0) (before mid now : ℕ) (lost : List ℕ) (why : BuildFault) → before ≤ mid
    → ((stop : Stop) → IfSome held (λ files. S files stop) → IfSome other (λ files. T files stop)) → ((name : List ℕ) → IfSome held (λ files. C files name) → IfSome other (λ files. D files name))
    → HasCause held S C mid now lost why → HasCause other T D before now lost why
retold held other S T C D before mid now lost fault.NotJson le s c h = s not_json h
retold held other S T C D before mid now lost fault.BadManifest le s c h = s bad_manifest h
retold held other S T C D before mid now lost (fault.Longer name) le s c h = s (longer name) h
retold held other S T C D before mid now lost (fault.CannotRead name) le s c h = record { rose = rose_before before mid now le h.rose; lost_is = h.lost_is; comes = c name h.comes }
retold held other S T C D before mid now lost (fault.Layer name kind command at) le s c h = s (refused name (refusal.Layer kind command at)) h
retold held other S T C D before mid now lost (fault.Drill name kind line at) le s c h = s (refused name (refusal.Drill kind line at)) h
retold held other S T C D before mid now lost (fault.Netlist name kind line) le s c h = s (refused name (refusal.Netlist kind line)) h
retold held other S T C D before mid now lost (fault.FrameTooLarge box) le s c h = s (frame_too_large box) h
retold held other S T C D before mid now lost fault.NoMemory le s c h = tt

-- the stops of one stage are stops of the next, and so are the names that come
pub record Carries {K : Type 0} (S T : K → Type 0) (C D : List ℕ → Type 0) : Type 0 where
  pub stops : (stop : K) → S stop → T stop
  pub comes : (name : List ℕ) → C name → D name

-- a cause by what was handed over, of files of which its stops and its names tell, and of a call that began before
pub lift : (held : Option Files) (S : Stop → Type 0) (T : Files → Stop → Type 0) (C : List ℕ → Type 0) (D : Files → List ℕ → Type 0) (before mid now : ℕ) (lost : List ℕ) (why : BuildFault)
    → IfSome held (λ files. Carries S (T files) C (D files)) → before ≤ mid → HandedCause S C mid now lost why → HasCause held T D before now lost why
lift held S T C D before mid now lost why carries le h =
    retold (Some (λ name. None)) held (λ files stop. S stop) T (λ files name. C name) D before mid now lost why le
    (λ stop s. told_of held (λ files. Carries S (T files) C (D files)) (λ files. T files stop) (λ files k. k.stops stop s) carries)
    (λ name c. told_of held (λ files. Carries S (T files) C (D files)) (λ files. D files name) (λ files k. k.comes name c) carries) h

-- the same of a layer above
lift_of : {K : Type 0} (unbuilt : Stop → K) (held : Option Files) (S : K → Type 0) (T : Files → K → Type 0) (C : List ℕ → Type 0) (D : Files → List ℕ → Type 0) (before mid now : ℕ) (lost : List ℕ) (why : Fault K)
    → IfSome held (λ files. Carries S (T files) C (D files)) → before ≤ mid → CauseOf unbuilt (Some (λ name. None)) (λ files stop. S stop) (λ files name. C name) mid now lost why → CauseOf unbuilt held T D before now lost why
lift_of unbuilt held S T C D before mid now lost (shared why) carries le h =
    lift held (λ stop. S (unbuilt stop)) (λ files stop. T files (unbuilt stop)) C D before mid now lost why
    (told_of held (λ files. Carries S (T files) C (D files)) (λ files. Carries (λ stop. S (unbuilt stop)) (λ stop. T files (unbuilt stop)) C (D files)) (λ files k. record { stops = λ stop s. k.stops (unbuilt stop) s; comes = k.comes }) carries)
    le h
lift_of unbuilt held S T C D before mid now lost (own stop) carries le h = told_of held (λ files. Carries S (T files) C (D files)) (λ files. T files stop) (λ files k. k.stops stop h) carries

pub lift_by : {K F : Type 0} (faults : Faults K F) (held : Option Files) (S : K → Type 0) (T : Files → K → Type 0) (C : List ℕ → Type 0) (D : Files → List ℕ → Type 0) (before mid now : ℕ) (lost : List ℕ) (why : F)
    → IfSome held (λ files. Carries S (T files) C (D files)) → before ≤ mid → HandedCauseBy faults S C mid now lost why → HasCauseBy faults held T D before now lost why
lift_by faults held S T C D before mid now lost why carries le h = lift_of faults.unbuilt held S T C D before mid now lost (faults.told why) carries le h

-- a refusal of a file is a cause
pub refusal_cause : (S : Stop → Type 0) (C : List ℕ → Type 0) (before now : ℕ) (lost name : List ℕ) (why : Refusal) (given : BuildFault) → S (refused name why) → HasRefusal name why given → HandedCause S C before now lost given
refusal_cause S C before now lost name (refusal.Layer kind command at) given h (inl e) = subst (λ f. HandedCause S C before now lost f) (sym e) h
refusal_cause S C before now lost name (refusal.Layer kind command at) given h (inr e) = subst (λ f. HandedCause S C before now lost f) (sym e) tt
refusal_cause S C before now lost name (refusal.Drill kind line at) given h (inl e) = subst (λ f. HandedCause S C before now lost f) (sym e) h
refusal_cause S C before now lost name (refusal.Drill kind line at) given h (inr e) = subst (λ f. HandedCause S C before now lost f) (sym e) tt
refusal_cause S C before now lost name (refusal.Netlist kind line) given h (inl e) = subst (λ f. HandedCause S C before now lost f) (sym e) h
refusal_cause S C before now lost name (refusal.Netlist kind line) given h (inr e) = subst (λ f. HandedCause S C before now lost f) (sym e) tt

-- a frame that is too large is a cause
pub frame_cause : (S : Stop → Type 0) (C : List ℕ → Type 0) (before now : ℕ) (lost : List ℕ) (board : PlainBoard) (given : BuildFault) → ((stop : Stop) → StopsAtFrame board stop → S stop) → IsFrameFault board given → HandedCause S C before now lost given
frame_cause S C before now lost board (fault.FrameTooLarge box) k e = k (frame_too_large box) e
frame_cause S C before now lost board other k e = absurd e

-- ---- What a package leaves

-- two stages, one after the other
pub leaves_on : {P : Type 0} {files : P → Option Files} {handover : P → List Handed} {faults : P → ℕ} {a b c : P} → Leaves files handover faults a b → Leaves files handover faults b c → Leaves files handover faults a c
leaves_on {files = files} {handover = handover} {a = a} {b = b} {c = c} x y = record {
  held = y.held ∙ x.held;
  grows = grows_on (handover a) (handover b) (handover c) x.grows y.grows;
  consistent = told (files a) (λ f. AgreeWith f (handover a) (handover b)) (λ f. AgreeWith f (handover b) (handover c)) (λ f. AgreeWith f (handover a) (handover c))
      (λ f v w. agree_on f (handover a) (handover b) (handover c) x.grows y.grows v w) x.consistent (subst (λ o. IfSome o (λ f. AgreeWith f (handover b) (handover c))) x.held y.consistent);
  later = omega (arith, x.later, y.later);
}

pub faultless_both : (a : ℕ) (l : List ℕ) (b : ℕ) (m : List ℕ) (c : ℕ) (n : List ℕ) → IsFaultless a l b m → IsFaultless b m c n → IsFaultless a l c n
faultless_both a l b m c n h k = record { count_stays = k.count_stays ∙ h.count_stays; lost_stays = k.lost_stays ∙ h.lost_stays }

-- where nothing changed, nothing did whatever the fault
pub kept : (a : ℕ) (l : List ℕ) (b : ℕ) (m : List ℕ) (why : BuildFault) → IsFaultless a l b m → KeepsFaults a l b m why
kept a l b m (fault.CannotRead name) h = tt
kept a l b m fault.NoMemory h = tt
kept a l b m other h = h

-- nothing changed before, and then nothing but by such a fault
pub kept_after : (a : ℕ) (l : List ℕ) (b : ℕ) (m : List ℕ) (c : ℕ) (n : List ℕ) (why : BuildFault) → IsFaultless a l b m → KeepsFaults b m c n why → KeepsFaults a l c n why
kept_after a l b m c n (fault.CannotRead name) h k = tt
kept_after a l b m c n fault.NoMemory h k = tt
kept_after a l b m c n other h k = faultless_both a l b m c n h k

-- the same of a layer above
kept_of : {K : Type 0} (a : ℕ) (l : List ℕ) (b : ℕ) (m : List ℕ) (why : Fault K) → IsFaultless a l b m → KeepsOf a l b m why
kept_of a l b m (shared why) h = kept a l b m why h
kept_of a l b m (own stop) h = h

pub kept_by : {K F : Type 0} (faults : Faults K F) (a : ℕ) (l : List ℕ) (b : ℕ) (m : List ℕ) (why : F) → IsFaultless a l b m → KeepsFaultsBy faults a l b m why
kept_by faults a l b m why h = kept_of a l b m (faults.told why) h

kept_after_of : {K : Type 0} (a : ℕ) (l : List ℕ) (b : ℕ) (m : List ℕ) (c : ℕ) (n : List ℕ) (why : Fault K) → IsFaultless a l b m → KeepsOf b m c n why → KeepsOf a l c n why
kept_after_of a l b m c n (shared why) h k = kept_after a l b m c n why h k
kept_after_of a l b m c n (own stop) h k = faultless_both a l b m c n h k

pub kept_after_by : {K F : Type 0} (faults : Faults K F) (a : ℕ) (l : List ℕ) (b : ℕ) (m : List ℕ) (c : ℕ) (n : List ℕ) (why : F) → IsFaultless a l b m → KeepsFaultsBy faults b m c n why → KeepsFaultsBy faults a l c n why
kept_after_by faults a l b m c n why h k = kept_after_of a l b m c n (faults.told why) h k

pub spared : {B E : Type 0} (Left : ℕ → List ℕ → ℕ → List ℕ → E → Type 0) (a : ℕ) (l : List ℕ) (b : ℕ) (m : List ℕ) (result : Result B E) → ((why : E) → Left a l b m why) → IsFaultless a l b m → MatchResult result (λ _. IsFaultless a l b m) (Left a l b m)
spared Left a l b m (Ok x) left calm = calm
spared Left a l b m (Err why) left calm = left why

pub if_err : {B E : Type 0} (r : Result B E) (P Q : E → Type 0) → ((why : E) → P why → Q why) → IfErr r P → IfErr r Q
if_err (Ok x) P Q k h = tt
if_err (Err why) P Q k h = k why h

pub on_ok : {B E : Type 0} (r : Result B E) (P Q : Type 0) → (P → Q) → OnOk r P → OnOk r Q
on_ok (Ok x) P Q k h = k h
on_ok (Err why) P Q k h = tt
