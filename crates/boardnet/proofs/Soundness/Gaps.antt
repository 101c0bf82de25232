-- That what is told of the command `gaps` is sound.
use Rattle.std.proofs.Common.{◌≡◌, ◌≤◌, ℕ, List, Option, Some, None, IfSome, String, refl, subst, arith, ◌⊎◌, pos, ◌*◌, ap}
use Rattle.std.specs.declared.alloc.Global.{Global}
use Rattle.board_io.specs.Handed.{AgreeWith, Handed}
use Rattle.board_io.specs.Package.{Files}
use Rattle.board_package.specs.HandedLaw.{HandedIsHeld, HoldsWhatWasHanded}
use Rattle.board_package.specs.PackageBoard.{IsBoardOf, IsFirstStop, Stop}
use Rattle.board_shapes.specs.CommonBox.{Fits}
use Rattle.board_shapes.specs.Plain.{PlainBoard}
use Rattle.boardnet.proofs.Named.{Completes}
use Rattle.boardnet.proofs.Alike.{same_box, same_gaps}
use Rattle.boardnet.proofs.Sound.{OneOutcome, Sound, value, HoldsHanded, held_fit}
use Rattle.reports.specs.Gapped.{IsTooWide}
use Rattle.boardnet.specs.Outcome.{HandedOver, Held, OfFilesRead}
use Rattle.boardnet.specs.commands.Gaps.{GapsRefuses}
use Rattle.boardnet.specs.Words.{Asks, Command, Gaps, IsGaps}
use Rattle.boardnet.specs.declared.answer.Unanswered.{Unanswered}
use Rattle.boardnet.specs.declared.answer.Unanswered.TheVariants.{GrownTooLarge}
use Rattle.contact.specs.declared.Bounds.{Bounds}
use Rattle.gaps.specs.GrownBox.{grown_common}

wide : (box : Bounds) (board other : PlainBoard) (n : ℕ) → other ≡ board → IsTooWide board n box → Fits (grown_common (pos (5 * n)) other.pieces) → ⊥
wide box board other n same w fits = w.large (subst Fits w.common (subst (λ (b : PlainBoard). Fits (grown_common (pos (5 * n)) b.pieces)) same fits))

one_box : OneOutcome → (f : Files) (manifest : List ℕ) (nanometres : ℕ) (why other : Unanswered) → GapsRefuses (Held f) manifest nanometres why → GapsRefuses (Held f) manifest nanometres other → why ≡ other
one_box law f manifest nanometres (GrownTooLarge box) (GrownTooLarge o) x y = ap GrownTooLarge (same_box x.board y.board nanometres box o ((law.listed f manifest).one_board x.board y.board x.board_is y.board_is) x.good y.good)
one_box law f manifest nanometres (GrownTooLarge box) other x y = absurd y
one_box law f manifest nanometres why other x y = absurd x

stop_or_grown : OneOutcome → (f : Files) (manifest : List ℕ) (nanometres : ℕ) (stop : Stop) (why : Unanswered) → IsFirstStop f manifest stop → GapsRefuses (Held f) manifest nanometres why → ⊥
stop_or_grown law f manifest nanometres stop (GrownTooLarge box) s m = (law.listed f manifest).not_both m.board stop m.board_is s
stop_or_grown law f manifest nanometres stop other s m = absurd m

no_list : OneOutcome → (f : Files) (manifest : List ℕ) (nanometres : ℕ) (why : Unanswered) → GapsRefuses (Held f) manifest nanometres why → (board : PlainBoard) → IsBoardOf f manifest board → Fits (grown_common (pos (5 * nanometres)) board.pieces) → ⊥
no_list law f manifest nanometres (GrownTooLarge box) m board is fits = wide box m.board board nanometres ((law.listed f manifest).one_board board m.board is m.board_is) m.good fits
no_list law f manifest nanometres other m board is fits = absurd m

held_grown : (f : Files) (a b : List Handed) (manifest : List ℕ) (nanometres : ℕ) → HoldsWhatWasHanded f a b manifest → (why : Unanswered) → GapsRefuses (HandedOver a b) manifest nanometres why → GapsRefuses (Held f) manifest nanometres why
held_grown f a b manifest nanometres h (GrownTooLarge box) x = held_fit h x
held_grown f a b manifest nanometres h other x = absurd x

agreed_gaps : HandedIsHeld → (manifest : List ℕ) (nanometres : ℕ) (held : Option Files) (a b : List Handed) → IfSome held (λ f. AgreeWith f a b) → HoldsHanded (Gaps manifest nanometres) held a b
agreed_gaps law manifest nanometres None a b w = record { answers = λ text status line x. tt; stops = λ stop s. tt; comes = λ name s. tt; refuses = λ why x. tt }
agreed_gaps law manifest nanometres (Some f) a b w = let h = law.holds f a b manifest w in record {
  answers = λ text status line x. held_fit h x;
  stops = λ stop s. h.stop stop s;
  comes = λ name s. h.comes name s;
  refuses = λ why x. held_grown f a b manifest nanometres h why x;
}

pub sound_gaps : (manifest : List ℕ) (nanometres : ℕ) → Sound (Gaps manifest nanometres)
sound_gaps manifest nanometres = record {
  spelled = λ words is. is.spelled;
  names = λ words is. (is.text, is.few);
  asks = λ words e fits. record { spelled = e; text = fits.0; few = fits.1 };
  read = λ fits. rw (value nanometres (omega (arith, fits.1))) refl;
  text_of = λ f text status line x. (x.board, x.board_is, x.good.fits);
  no_text = λ law f stop s t. (law.listed f manifest).not_both t.0 stop t.1 s;
  no_refused_text = λ law f why m t. no_list law f manifest nanometres why m t.0 t.1 t.2;
  one_answer = λ law f text said s t l k x y. same_gaps law x.board y.board nanometres text said s t l k ((law.one.listed f manifest).one_board x.board y.board x.board_is y.board_is) x.good y.good;
  one_stop = λ law f stop other x y. (law.listed f manifest).one_stop stop other x y;
  one_reason = λ law f why other x y. one_box law f manifest nanometres why other x y;
  stop_or_reason = λ law f stop why s m. stop_or_grown law f manifest nanometres stop why s m;
  takes_what_comes = λ f name comes. tt;
  agrees = λ law held a b w. agreed_gaps law.listed manifest nanometres held a b w;
}

-- What `run` says of it, by its words.
pub of_gaps : (held : Option Files) (words : List (String Global)) (P : Files → Command → Type 0) → ((c : Command) → Asks words c → OfFilesRead c held (λ files. P files c))
    → IfSome held (λ files. (name : List ℕ) (nanometres : ℕ) → IsGaps words name nanometres → P files (Gaps name nanometres))
of_gaps None words P h = tt
of_gaps (Some files) words P h = λ name nanometres is. h (Gaps name nanometres) is

pub listed_named : (held : Option Files) (words : List (String Global)) (A B : Type 0) (status : ℕ) → Completes held words A B status
    → IfSome held (λ files. (name : List ℕ) (nanometres : ℕ) → IsGaps words name nanometres → (board : PlainBoard) → IsBoardOf files name board → Fits (grown_common (pos (5 * nanometres)) board.pieces) → (A → ⊥) → (B → ⊥) → (status ≤ 1) ⊎ (status ≡ 6))
listed_named None words A B status h = tt
listed_named (Some files) words A B status h = λ name nanometres is board fits grown calm quiet. h (Gaps name nanometres) is (board, fits, grown) (λ takes. calm) quiet
