-- That what is told of the command `check` is sound.
use Rattle.std.proofs.Common.{◌≡◌, ◌≤◌, ℕ, List, Option, Some, None, IfSome, String, ◌⊎◌, refl, codes, ◌∷◌}
use Rattle.std.specs.declared.alloc.Global.{Global}
use Rattle.board_io.specs.Handed.{AgreeWith, Handed}
use Rattle.board_io.specs.Package.{Files}
use Rattle.board_package.specs.HandedLaw.{HandedIsHeld}
use Rattle.board_package.specs.PackageBoard.{IsBoardOf}
use Rattle.board_shapes.specs.Plain.{PlainBoard}
use Rattle.boardnet.proofs.Named.{Completes}
use Rattle.boardnet.proofs.Alike.{same_reports}
use Rattle.boardnet.proofs.Sound.{Sound, HoldsHanded, held_fit}
use Rattle.boardnet.specs.Outcome.{OfFilesRead}
use Rattle.boardnet.specs.commands.{command_of_words}
use Rattle.boardnet.specs.Words.{Asks, Command, Check, IsCheck, version_words}
use Rattle.reports.specs.declared.judged.Version.{Version}
use Rattle.reports.specs.declared.judged.Version.TheVariants.{One, Two}

read_check : (version : Version) (manifest : List ℕ) → command_of_words (codes "check" ∷ manifest ∷ version_words version) ≡ Some (Check version manifest)
read_check One manifest = refl
read_check Two manifest = refl

agreed_check : HandedIsHeld → (version : Version) (manifest : List ℕ) (held : Option Files) (a b : List Handed) → IfSome held (λ f. AgreeWith f a b) → HoldsHanded (Check version manifest) held a b
agreed_check law version manifest None a b w = record { answers = λ text status line x. tt; stops = λ stop s. tt; comes = λ name s. tt; refuses = λ why x. tt }
agreed_check law version manifest (Some f) a b w = let h = law.holds f a b manifest w in record {
  answers = λ text status line x. held_fit h x;
  stops = λ stop s. h.stop stop s;
  comes = λ name s. h.comes name s;
  refuses = λ why x. absurd x;
}

pub sound_check : (version : Version) (manifest : List ℕ) → Sound (Check version manifest)
sound_check version manifest = record {
  spelled = λ words is. is.spelled;
  names = λ words is. is.text;
  asks = λ words e fits. record { spelled = e; text = fits };
  read = λ fits. read_check version manifest;
  text_of = λ f text status line x. (x.board, x.board_is);
  no_text = λ law f stop s t. (law.listed f manifest).not_both t.0 stop t.1 s;
  no_refused_text = λ law f why m t. absurd m;
  one_answer = λ law f text said s t l k x y. same_reports law x.board y.board version version text said s t l k ((law.one.listed f manifest).one_board x.board y.board x.board_is y.board_is) x.good y.good;
  one_stop = λ law f stop other x y. (law.listed f manifest).one_stop stop other x y;
  one_reason = λ law f why other x y. absurd x;
  stop_or_reason = λ law f stop why s m. absurd m;
  takes_what_comes = λ f name comes. tt;
  agrees = λ law held a b w. agreed_check law.listed version manifest held a b w;
}

-- What `run` says of it, by its words.
pub of_check : (held : Option Files) (words : List (String Global)) (P : Files → Command → Type 0) → ((c : Command) → Asks words c → OfFilesRead c held (λ files. P files c))
    → IfSome held (λ files. (version : Version) (name : List ℕ) → IsCheck words version name → P files (Check version name))
of_check None words P h = tt
of_check (Some files) words P h = λ version name is. h (Check version name) is

pub checked_named : (held : Option Files) (words : List (String Global)) (A B : Type 0) (status : ℕ) → Completes held words A B status
    → IfSome held (λ files. (version : Version) (name : List ℕ) → IsCheck words version name → (board : PlainBoard) → IsBoardOf files name board → (A → ⊥) → (B → ⊥) → (status ≤ 1) ⊎ (status ≡ 6))
checked_named None words A B status h = tt
checked_named (Some files) words A B status h = λ version name is board fits calm quiet. h (Check version name) is (board, fits) (λ takes. calm) quiet
