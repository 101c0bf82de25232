-- That what is told of the command `x2` is sound.
use Rattle.std.proofs.Common.{◌≡◌, ◌≤◌, ℕ, List, Option, Some, None, IfSome, String, refl, ◌⊎◌}
use Rattle.std.specs.declared.alloc.Global.{Global}
use Rattle.board_io.specs.Handed.{AgreeWith, Handed}
use Rattle.board_io.specs.Package.{Files}
use Rattle.board_package.specs.HandedLaw.{HandedIsHeld, HoldsWhatWasHanded}
use Rattle.board_package.specs.LabelledBoard.{IsFirstLabelledStop, IsLabelledBoardOf, mislabelled, unbuilt}
use Rattle.board_package.specs.PackageBoard.{Stop}
use Rattle.board_shapes.specs.Plain.{PlainBoard}
use Rattle.boardnet.proofs.Named.{Completes}
use Rattle.boardnet.proofs.Alike.{same_reports}
use Rattle.boardnet.proofs.Sound.{OneOutcome, Sound, HoldsHanded}
use Rattle.boardnet.specs.Outcome.{HandedOver, Held, OfFilesRead}
use Rattle.boardnet.specs.commands.X2.{X2Refuses}
use Rattle.boardnet.specs.Words.{Asks, Command, X2, IsX2}
use Rattle.boardnet.specs.declared.answer.Unanswered.{Unanswered}
use Rattle.boardnet.specs.declared.answer.Unanswered.TheVariants.{Mislabelled}
use Rattle.reports.specs.declared.judged.Version.TheVariants.{Two}

one_label : OneOutcome → (f : Files) (manifest : List ℕ) (why other : Unanswered) → X2Refuses (Held f) manifest why → X2Refuses (Held f) manifest other → why ≡ other
one_label law f manifest (Mislabelled name number byte) (Mislabelled file command at) x y =
    let same : mislabelled name number byte ≡ mislabelled file command at = (law.labelled f manifest).one_stop (mislabelled name number byte) (mislabelled file command at) x y in cc same
one_label law f manifest (Mislabelled name number byte) other x y = absurd y
one_label law f manifest why other x y = absurd x

stop_or_label : OneOutcome → (f : Files) (manifest : List ℕ) (stop : Stop) (why : Unanswered) → IsFirstLabelledStop f manifest (unbuilt stop) → X2Refuses (Held f) manifest why → ⊥
stop_or_label law f manifest stop (Mislabelled name number byte) s m =
    let same : unbuilt stop ≡ mislabelled name number byte = (law.labelled f manifest).one_stop (unbuilt stop) (mislabelled name number byte) s m in cc same
stop_or_label law f manifest stop other s m = absurd m

one_unbuilt : OneOutcome → (f : Files) (manifest : List ℕ) (stop other : Stop) → IsFirstLabelledStop f manifest (unbuilt stop) → IsFirstLabelledStop f manifest (unbuilt other) → stop ≡ other
one_unbuilt law f manifest stop other s t = let same : unbuilt stop ≡ unbuilt other = (law.labelled f manifest).one_stop (unbuilt stop) (unbuilt other) s t in cc same

no_report : OneOutcome → (f : Files) (manifest : List ℕ) (why : Unanswered) → X2Refuses (Held f) manifest why → (board : PlainBoard) → IsLabelledBoardOf f manifest board → ⊥
no_report law f manifest (Mislabelled name number byte) m board is = (law.labelled f manifest).not_both board (mislabelled name number byte) is m
no_report law f manifest other m board is = absurd m

held_amiss : (f : Files) (a b : List Handed) (manifest : List ℕ) → HoldsWhatWasHanded f a b manifest → (why : Unanswered) → X2Refuses (HandedOver a b) manifest why → X2Refuses (Held f) manifest why
held_amiss f a b manifest h (Mislabelled name number byte) x = h.labelled_stop (mislabelled name number byte) x
held_amiss f a b manifest h other x = absurd x

agreed_x2 : HandedIsHeld → (manifest : List ℕ) (held : Option Files) (a b : List Handed) → IfSome held (λ f. AgreeWith f a b) → HoldsHanded (X2 manifest) held a b
agreed_x2 law manifest None a b w = record { answers = λ text status line x. tt; stops = λ stop s. tt; comes = λ name s. tt; refuses = λ why x. tt }
agreed_x2 law manifest (Some f) a b w = let h = law.holds f a b manifest w in record {
  answers = λ text status line x. record { board = x.board; board_is = h.labelled x.board x.board_is; report = x.report; none_bare = x.none_bare; joins = x.joins };
  stops = λ stop s. h.labelled_stop (unbuilt stop) s;
  comes = λ name s. h.labelled_comes name s;
  refuses = λ why x. held_amiss f a b manifest h why x;
}

pub sound_x2 : (manifest : List ℕ) → Sound (X2 manifest)
sound_x2 manifest = record {
  spelled = λ words is. is.spelled;
  names = λ words is. is.text;
  asks = λ words e fits. record { spelled = e; text = fits };
  read = λ fits. refl;
  text_of = λ f text status line x. (x.board, x.board_is);
  no_text = λ law f stop s t. (law.labelled f manifest).not_both t.0 (unbuilt stop) t.1 s;
  no_refused_text = λ law f why m t. no_report law f manifest why m t.0 t.1;
  one_answer = λ law f text said s t l k x y. same_reports law x.board y.board Two Two text said s t l k ((law.one.labelled f manifest).one_board x.board y.board x.board_is y.board_is) x.report y.report;
  one_stop = λ law f stop other x y. one_unbuilt law f manifest stop other x y;
  one_reason = λ law f why other x y. one_label law f manifest why other x y;
  stop_or_reason = λ law f stop why s m. stop_or_label law f manifest stop why s m;
  takes_what_comes = λ f name comes. tt;
  agrees = λ law held a b w. agreed_x2 law.listed manifest held a b w;
}

-- What `run` says of it, by its words.
pub of_x2 : (held : Option Files) (words : List (String Global)) (P : Files → Command → Type 0) → ((c : Command) → Asks words c → OfFilesRead c held (λ files. P files c))
    → IfSome held (λ files. (name : List ℕ) → IsX2 words name → P files (X2 name))
of_x2 None words P h = tt
of_x2 (Some files) words P h = λ name is. h (X2 name) is

pub labelled_named : (held : Option Files) (words : List (String Global)) (A B : Type 0) (status : ℕ) → Completes held words A B status
    → IfSome held (λ files. (name : List ℕ) → IsX2 words name → (board : PlainBoard) → IsLabelledBoardOf files name board → (A → ⊥) → (B → ⊥) → (status ≤ 1) ⊎ (status ≡ 6))
labelled_named None words A B status h = tt
labelled_named (Some files) words A B status h = λ name is board fits calm quiet. h (X2 name) is (board, fits) (λ takes. calm) quiet
