-- A command has one outcome but for its text, over the same files and by the same that was handed over.
use Rattle.std.proofs.Common.{◌≡◌, inl, inr, ℕ, List, Option, Some, IfSome, ◌++◌, refl, ap, subst, sym, ◌∙◌}
use Rattle.std.proofs.Math.Seq.{drop-append_seam}
use Rattle.std.specs.List.{AllByRecursion}
use Rattle.board_io.specs.Handed.{AgreeWith, Agrees, Handed}
use Rattle.board_io.specs.Package.{Files}
use Rattle.boardnet.proofs.Agreeable.{files_agree}
use Rattle.board_package.proofs.Lift.{told_of}
use Rattle.boardnet.proofs.Alike.{line_of_one}
use Rattle.boardnet.proofs.Sound.{HandedLaws, HoldsHanded, Laws, OneOutcome as One, Sound}
use Rattle.boardnet.proofs.Soundness.{sound}
use Rattle.boardnet.specs.OneOutcome.{AreAlike, OneHandedOutcome, OneOutcome}
use Rattle.boardnet.specs.Outcome.{HandedOver, Held, OfFilesRead, Outcome, OutcomeOf, Refused, Told, made_files, read_by, reason_line}
use Rattle.boardnet.specs.Words.{Command, Trial, task_of}

-- where a command answers nothing is refused
untold : (c : Command) → Sound c → One → (f : Files) (text : List ℕ) (status : ℕ) (line said : List ℕ) → OutcomeOf (Held f) c (Told text status line) → OutcomeOf (Held f) c (Refused said) → ⊥
untold c h law f text status line said x (inl (stop, s, is)) = h.no_text law f stop s (h.text_of f text status line x)
untold c h law f text status line said x (inr (why, r, is)) = h.no_refused_text law f why r (h.text_of f text status line x)

alike : (c : Command) → Sound c → Laws → (f : Files) (o p : Outcome) → OutcomeOf (Held f) c o → OutcomeOf (Held f) c p → AreAlike o p
alike c h law f (Told text s l) (Told said t k) x y = h.one_answer law f text said s t l k x y
alike c h law f (Told text s l) (Refused k) x y = untold c h law.one f text s l k x y
alike c h law f (Refused l) (Told said t k) x y = untold c h law.one f said t k l y x
alike c h law f (Refused l) (Refused k) (inl (stop, s, is)) (inl (other, t, is')) = line_of_one (task_of c).subject stop other l k (h.one_stop law.one f stop other s t) is is'
alike c h law f (Refused l) (Refused k) (inl (stop, s, is)) (inr (why, r, is')) = absurd (h.stop_or_reason law.one f stop why s r)
alike c h law f (Refused l) (Refused k) (inr (why, r, is)) (inl (stop, s, is')) = absurd (h.stop_or_reason law.one f stop why s r)
alike c h law f (Refused l) (Refused k) (inr (why, r, is)) (inr (other, t, is')) = is ∙ (ap (reason_line (task_of c).subject (task_of c).report) (h.one_reason law.one f why other r t) ∙ sym is')

-- a command reads some files where these are told
read_of : (c : Command) (files : Files) → (f : Files) × (read_by c (Some files) ≡ Some f)
read_of (Trial seed size) files = (made_files seed size, refl)
read_of c files = (files, refl)

pub one_outcome : Laws → OneOutcome
one_outcome law files c o p x y =
    let (f, read) = read_of c files in
    alike c (sound c) law f o p (subst (λ (z : Option Files). IfSome z (λ g. OutcomeOf (Held g) c o)) read x) (subst (λ (z : Option Files). IfSome z (λ g. OutcomeOf (Held g) c p)) read y)

-- ---- By what was handed over

pub outcome_held : (c : Command) (held : Option Files) (a b : List Handed) → HoldsHanded c held a b → (o : Outcome) → OutcomeOf (HandedOver a b) c o → OfFilesRead c held (λ g. OutcomeOf (Held g) c o)
outcome_held c held a b h (Told text status line) x = h.answers text status line x
outcome_held c held a b h (Refused line) (inl (stop, s, is)) = told_of (read_by c held) (λ g. (task_of c).stops (Held g) stop) (λ g. OutcomeOf (Held g) c (Refused line)) (λ g z. inl (stop, z, is)) (h.stops stop s)
outcome_held c held a b h (Refused line) (inr (why, r, is)) = told_of (read_by c held) (λ g. (task_of c).refuses (Held g) why) (λ g. OutcomeOf (Held g) c (Refused line)) (λ g z. inr (why, z, is)) (h.refuses why r)

-- files that agree with what was gained behind one list agree with the same behind another
agree_behind : (files : Files) (first second gained : List Handed) → AgreeWith files first (first ++ gained) → AgreeWith files second (second ++ gained)
agree_behind files first second gained w =
    subst (λ (xs : List Handed). AllByRecursion (Agrees files) xs) (sym (drop-append_seam second gained))
    (subst (λ (xs : List Handed). AllByRecursion (Agrees files) xs) (drop-append_seam first gained) w)

pub one_handed_outcome : OneOutcome → HandedLaws → OneHandedOutcome
one_handed_outcome one law first second gained c o p names x y =
    let found = files_agree first gained names in
    let files : Files = found.0 in
    let w : AgreeWith files first (first ++ gained) = found.1 in
    one files c o p (outcome_held c (Some files) first (first ++ gained) ((sound c).agrees law (Some files) first (first ++ gained) w) o x)
    (outcome_held c (Some files) second (second ++ gained) ((sound c).agrees law (Some files) second (second ++ gained) (agree_behind files first second gained w)) p y)
