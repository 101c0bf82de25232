-- That what is told of the command `write` is sound.
use Rattle.std.proofs.Common.{◌≡◌, ◌≤◌, ℕ, List, Option, Some, None, IfSome, String, ◌⊎◌, refl, sym, ◌∙◌}
use Rattle.std.specs.declared.alloc.Global.{Global}
use Rattle.board_io.specs.Handed.{AgreeWith, Handed}
use Rattle.board_io.specs.Package.{Files}
use Rattle.board_package.specs.HandedLaw.{HandedIsHeld}
use Rattle.board_package.specs.PackageBoard.{IsBoardOf}
use Rattle.board_shapes.specs.Plain.{PlainBoard}
use Rattle.boardnet.proofs.Named.{Completes}
use Rattle.boardnet.proofs.Sound.{Sound, HoldsHanded}
use Rattle.boardnet.specs.Outcome.{OfFilesRead}
use Rattle.boardnet.specs.Words.{Asks, Command, Write, IsWrite}

agreed_write : HandedIsHeld → (manifest : List ℕ) (held : Option Files) (a b : List Handed) → IfSome held (λ f. AgreeWith f a b) → HoldsHanded (Write manifest) held a b
agreed_write law manifest None a b w = record { answers = λ text status line x. tt; stops = λ stop s. tt; comes = λ name s. tt; refuses = λ why x. tt }
agreed_write law manifest (Some f) a b w = let h = law.holds f a b manifest w in record {
  answers = λ text status line x. record { board = x.board; board_is = h.board x.board x.board_is; limits = x.limits; netlist = x.netlist; status_is = x.status_is; line_is = x.line_is };
  stops = λ stop s. h.stop stop s;
  comes = λ name s. h.comes name s;
  refuses = λ why x. absurd x;
}

pub sound_write : (manifest : List ℕ) → Sound (Write manifest)
sound_write manifest = record {
  spelled = λ words is. is.spelled;
  names = λ words is. is.text;
  asks = λ words e fits. record { spelled = e; text = fits };
  read = λ fits. refl;
  text_of = λ f text status line x. (x.board, x.board_is);
  no_text = λ law f stop s t. (law.listed f manifest).not_both t.0 stop t.1 s;
  no_refused_text = λ law f why m t. absurd m;
  one_answer = λ law f text said s t l k x y. (x.status_is ∙ sym y.status_is, x.line_is ∙ sym y.line_is);
  one_stop = λ law f stop other x y. (law.listed f manifest).one_stop stop other x y;
  one_reason = λ law f why other x y. absurd x;
  stop_or_reason = λ law f stop why s m. absurd m;
  takes_what_comes = λ f name comes. tt;
  agrees = λ law held a b w. agreed_write law.listed manifest held a b w;
}

-- What `run` says of it, by its words.
pub of_write : (held : Option Files) (words : List (String Global)) (P : Files → Command → Type 0) → ((c : Command) → Asks words c → OfFilesRead c held (λ files. P files c))
    → IfSome held (λ files. (name : List ℕ) → IsWrite words name → P files (Write name))
of_write None words P h = tt
of_write (Some files) words P h = λ name is. h (Write name) is

pub netlisted_named : (held : Option Files) (words : List (String Global)) (A B : Type 0) (status : ℕ) → Completes held words A B status
    → IfSome held (λ files. (name : List ℕ) → IsWrite words name → (board : PlainBoard) → IsBoardOf files name board → (A → ⊥) → (B → ⊥) → (status ≤ 1) ⊎ (status ≡ 6))
netlisted_named None words A B status h = tt
netlisted_named (Some files) words A B status h = λ name is board fits calm quiet. h (Write name) is (board, fits) (λ takes. calm) quiet
