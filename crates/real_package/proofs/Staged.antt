-- The stages of the taking, by what was handed over.
use Rattle.std.proofs.Common.{◌≡◌, inl, inr, ℕ, ◌<◌, ◌≤◌, List, length, take, get_or, refl, sym, subst}
use Rattle.board_io.specs.Handed.{Handed}
use Rattle.board_package.specs.Causes.{HandedCause, HandedCauseBy}
use Rattle.board_package.specs.HandedBoard.{ComesAlongHanded, ComesNext, Course, GoesHanded, IsHanded, StopsAmongHanded, StopsAtHanded}
use Rattle.board_package.specs.PackageBoard.{WalksBy}
use Rattle.board_package.specs.declared.entry.Entry.{Entry}
use Rattle.board_package.proofs.Lift.{refusal_cause}
use Rattle.board_package.proofs.Staging.{carry_by}
use Rattle.real_package.specs.HandedReal.{as_real_board}
use Rattle.real_package.specs.RealBoards.{PlainRealBoard}
use Rattle.real_package.specs.RealCauses.{HaltsReal, real_faults}
use Rattle.real_package.specs.RealFiles.{RefusesArc, RefusesReal}
use Rattle.real_package.specs.RealPackage.{unbuilt}
use Rattle.real_package.specs.declared.fault.RealBuildFault.{RealBuildFault}
use Rattle.real_package.specs.declared.fault.RealBuildFault.TheVariants as fault
use Rattle.real_package.proofs.Walked.{at_next}

-- a file that was handed over and is not read is a cause
pub halted_handed : (e : Entry) (c : Course PlainRealBoard) (b : List Handed) (bytes seen : List ℕ) (count now : ℕ) (lost : List ℕ) (given : RealBuildFault)
    → IsHanded c.handed b e.name bytes → seen ≡ bytes → HaltsReal e seen c.so_far given
    → HandedCauseBy real_faults (λ stop. StopsAtHanded as_real_board e c b stop) (λ name. ComesNext c.handed b e.name name) count now lost given
halted_handed e c b bytes seen count now lost (fault.Build why) h same (inl none) =
    subst (λ f. HandedCause (λ stop. StopsAtHanded as_real_board e c b (unbuilt stop)) (λ name. ComesNext c.handed b e.name name) count now lost f) (sym none) tt
halted_handed e c b bytes seen count now lost (fault.Build why) h same (inr (refusal, refuses, has)) =
    refusal_cause (λ stop. StopsAtHanded as_real_board e c b (unbuilt stop)) (λ name. ComesNext c.handed b e.name name) count now lost e.name refusal why
    (inr (record { bytes = bytes; handed = h; good = (refl, subst (λ z. RefusesReal e.role e.number z c.so_far refusal) same refuses) }))
    has
halted_handed e c b bytes seen count now lost (fault.Arc name kind command at) h same (is, refuses) =
    inr (record { bytes = bytes; handed = h; good = (is, subst (λ z. RefusesArc e.role e.number z c.so_far kind command at) same refuses) })

-- a cause of a file's stage is one of the files
pub more_handed : (entries : List Entry) (i : ℕ) (e : Entry) (start mid : Course PlainRealBoard) (b : List Handed) (before between now : ℕ) (lost : List ℕ) (why : RealBuildFault) → i < length entries → e ≡ get_or entries i e → before ≤ between
    → WalksBy (GoesHanded as_real_board) (take i entries) start mid
    → HandedCauseBy real_faults (λ stop. StopsAtHanded as_real_board e mid b stop) (λ name. ComesNext mid.handed b e.name name) between now lost why
    → HandedCauseBy real_faults (λ stop. StopsAmongHanded as_real_board entries start b stop) (λ name. ComesAlongHanded as_real_board entries start b name) before now lost why
more_handed entries i e start mid b before between now lost why below here later walked cause =
    carry_by real_faults (λ stop. StopsAtHanded as_real_board e mid b stop) (λ stop. StopsAmongHanded as_real_board entries start b stop) (λ name. ComesNext mid.handed b e.name name) (λ name. ComesAlongHanded as_real_board entries start b name) before between now lost why
    (record {
      stops = λ stop s. at_next (GoesHanded as_real_board) entries i e start mid (λ x c. StopsAtHanded as_real_board x c b stop) below here walked s;
      comes = λ name s. at_next (GoesHanded as_real_board) entries i e start mid (λ x c. ComesNext c.handed b x.name name) below here walked s;
    })
    later cause
