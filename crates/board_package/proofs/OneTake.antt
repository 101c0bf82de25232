-- What one take leaves of a package.
use Rattle.std.proofs.Common.{◌≡◌, ◌≤◌, ℕ, List, [], ◌∷◌, ◌++◌, length, drop, Option, IfSome, Result, Ok, Err, OnOk, append-nil, sym, ap, subst, ◌∙◌, arith}
use Rattle.std.proofs.Math.Seq.{drop-append_seam}
use Rattle.std.specs.List.{AllByRecursion}
use Rattle.std.specs.Result.{IsErrAnd}
use Rattle.board_io.proofs.Agreeing.{grows_file, grows_long, grows_none}
use Rattle.board_io.specs.Handed.{AgreeWith, Agrees, File, Handed, HandsOver, Long}
use Rattle.board_io.specs.Package.{Files, HasTakeCause, Tells}
use Rattle.board_io.specs.declared.package.Take.{Take}
use Rattle.board_io.specs.declared.package.Take.TheVariants.{Whole, Longer, Failed, NoMemory}
use Rattle.board_package.proofs.Lift.{told_all, told_of}
use Rattle.board_package.specs.Causes.{Leaves}

-- after a fault nothing is said of a success
pub not_ok : {B E : Type 0} (Q : Type 0) (result : Result B E) (why : E) → IsErrAnd result (λ f. f ≡ why) → OnOk result Q
not_ok Q (Ok x) why e = absurd e
not_ok Q (Err f) why e = tt

agree_behind : (files : Files) (a b gained : List Handed) → b ≡ a ++ gained → AllByRecursion (Agrees files) gained → AgreeWith files a b
agree_behind files a b gained e h = subst (λ (xs : List Handed). AllByRecursion (Agrees files) xs) (sym (ap (λ (xs : List Handed). drop (length a) xs) e ∙ drop-append_seam a gained)) h

agree_none : (files : Files) (a b : List Handed) → b ≡ a → AgreeWith files a b
agree_none files a b e = agree_behind files a b [] (e ∙ sym (append-nil a)) tt

-- where nothing was handed over
pub leaves_none : {P : Type 0} (files : P → Option Files) (handover : P → List Handed) (faults : P → ℕ) (old new : P) → files new ≡ files old → handover new ≡ handover old → faults old ≤ faults new → Leaves files handover faults old new
leaves_none files handover faults old new held same later = record {
  held = held;
  grows = grows_none (handover old) (handover new) same;
  consistent = told_all (files old) (λ f. AgreeWith f (handover old) (handover new)) (λ f. agree_none f (handover old) (handover new) same);
  later = later;
}

-- and of one take
pub leaves_taking : {P : Type 0} (files : P → Option Files) (handover : P → List Handed) (faults : P → ℕ) (lost : P → List ℕ) (old new : P) (take : Take) (name : List ℕ) (most : ℕ) (into : List ℕ)
    → IfSome (files old) (λ f. Tells take (f name) most into) → HasTakeCause take name (faults old) (lost old) (faults new) (lost new) → files new ≡ files old → HandsOver take name most into (handover old) (handover new)
    → Leaves files handover faults old new
leaves_taking files handover faults lost old new Whole name most into told cause held over = record {
  held = held;
  grows = grows_file (handover old) (handover new) name into over;
  consistent = told_of (files old) (λ f. Tells Whole (f name) most into) (λ f. AgreeWith f (handover old) (handover new)) (λ f is. agree_behind f (handover old) (handover new) (File name into ∷ []) over (is, tt)) told;
  later = (let same = cause.count_stays in omega arith);
}
leaves_taking files handover faults lost old new Longer name most into told cause held over = record {
  held = held;
  grows = grows_long (handover old) (handover new) name most over;
  consistent = told_of (files old) (λ f. Tells Longer (f name) most into) (λ f. AgreeWith f (handover old) (handover new)) (λ f is. agree_behind f (handover old) (handover new) (Long name most ∷ []) over (is, tt)) told;
  later = (let same = cause.count_stays in omega arith);
}
leaves_taking files handover faults lost old new Failed name most into told cause held over = leaves_none files handover faults old new held over cause.later
leaves_taking files handover faults lost old new NoMemory name most into told cause held over = leaves_none files handover faults old new held over (let same = cause.count_stays in omega arith)
