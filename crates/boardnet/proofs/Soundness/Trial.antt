-- That what is told of the command `trial` is sound.
use Rattle.std.proofs.Common.{◌≡◌, ℕ, ◌≤◌, List, Option, refl, arith, sym, ◌∙◌}
use Rattle.board_maker.specs.declared.TheConstants.{MOST_CELLS}
use Rattle.board_io.specs.Handed.{Handed}
use Rattle.board_io.specs.Package.{Files}
use Rattle.boardnet.proofs.Alike.{same_summary, same_verdicts}
use Rattle.boardnet.proofs.Sound.{Sound, value, HoldsHanded}
use Rattle.boardnet.specs.commands.Trial.{TrialRefuses}
use Rattle.boardnet.specs.Words.{Trial}
use Rattle.boardnet.specs.declared.answer.Unanswered.{Unanswered}
use Rattle.boardnet.specs.declared.answer.Unanswered.TheVariants.{SizeTooLarge}

one_size : (size : ℕ) (why other : Unanswered) → TrialRefuses size why → TrialRefuses size other → why ≡ other
one_size size SizeTooLarge SizeTooLarge x y = refl
one_size size SizeTooLarge other x y = absurd y
one_size size why other x y = absurd x

no_summary : (size : ℕ) (why : Unanswered) → TrialRefuses size why → size ≤ MOST_CELLS → ⊥
no_summary size SizeTooLarge m small = omega (arith, m, small)
no_summary size other m small = absurd m

agreed_trial : (seed size : ℕ) (held : Option Files) (a b : List Handed) → HoldsHanded (Trial seed size) held a b
agreed_trial seed size held a b = record { answers = λ text status line x. x; stops = λ stop s. s; comes = λ name s. s; refuses = λ why x. x }

pub sound_trial : (seed size : ℕ) → Sound (Trial seed size)
sound_trial seed size = record {
  spelled = λ words is. is.spelled;
  names = λ words is. (is.seed_fits, is.size_fits);
  asks = λ words e fits. record { spelled = e; seed_fits = fits.0; size_fits = fits.1 };
  read = λ fits. rw (value seed fits.0, value size (omega (arith, fits.1))) refl;
  text_of = λ f text status line x. (x.small, x.board, x.board_is);
  no_text = λ law f stop s t. (law.listed _ _).not_both t.1 stop t.2 s.1;
  no_refused_text = λ law f why m t. no_summary size why m t.0;
  one_answer = λ law f text said s t l k x y. let boards = (law.one.listed _ _).one_board x.board y.board x.board_is y.board_is in
      (same_summary x.verdict y.verdict s t (same_verdicts law x.board y.board x.verdict y.verdict boards x.right y.right) x.status_is y.status_is, x.line_is ∙ sym y.line_is);
  one_stop = λ law f stop other x y. (law.listed _ _).one_stop stop other x.1 y.1;
  one_reason = λ law f why other x y. one_size size why other x y;
  stop_or_reason = λ law f stop why s m. no_summary size why m s.0;
  takes_what_comes = λ f name comes. absurd comes;
  agrees = λ law held a b w. agreed_trial seed size held a b;
}
