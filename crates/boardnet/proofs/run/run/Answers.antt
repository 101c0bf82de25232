use Rattle.std.proofs.Common.{◌≡◌, ◌≤◌, ◌⊎◌, inl, inr, ℕ, List, Some}
use Rattle.board_io.specs.Causes.{Rose}
use Rattle.board_io.specs.Sink.{Gains, GainsFrontOf}
use Rattle.boardnet.proofs.Asking.{one_command, under_asked, under_command}
use Rattle.boardnet.proofs.Soundness.{sound}
use Rattle.boardnet.proofs.Soundness.Audit.{answered_named, of_audit}
use Rattle.boardnet.proofs.Soundness.Between.{bounded_named, of_between}
use Rattle.boardnet.proofs.Soundness.Check.{checked_named, of_check}
use Rattle.boardnet.proofs.Soundness.Flatten.{of_flatten, rewritten_named}
use Rattle.boardnet.proofs.Soundness.Gaps.{listed_named, of_gaps}
use Rattle.boardnet.proofs.Soundness.Write.{netlisted_named, of_write}
use Rattle.boardnet.proofs.Soundness.X2.{labelled_named, of_x2}
use Rattle.boardnet.specs.Command.{asked}
use Rattle.boardnet.specs.Ends.{Ends, HasText, TakesFiles}
use Rattle.reports.specs.Lines.{Says}
use Rattle.boardnet.specs.Outcome.{HandedOver, Held, OutcomeOf, Refused, Told}
use Rattle.boardnet.specs.HandedOutcome.{EndsHanded}
use Rattle.boardnet.specs.Words.{Audit, Between, Check, Flatten, Gaps, Trial, Write, X2}
use Rattle.boardnet.proofs.run.run.Goals as goal

pub perform-requires : goal.perform-requires
perform-requires g c = (sound (asked c.in-Some.command)).names c.args.words.now c.in-Some.ensures.some

pub returns-in-None-clause-complete : goal.returns-in-None-clause-complete
returns-in-None-clause-complete g c = checked_named _ _ _ _ _ (λ command is. absurd (c.in-None.ensures.none command is))

pub returns-in-None-clause-netlisted : goal.returns-in-None-clause-netlisted
returns-in-None-clause-netlisted g c = netlisted_named _ _ _ _ _ (λ command is. absurd (c.in-None.ensures.none command is))

pub returns-in-None-clause-listed : goal.returns-in-None-clause-listed
returns-in-None-clause-listed g c = listed_named _ _ _ _ _ (λ command is. absurd (c.in-None.ensures.none command is))

pub returns-in-None-clause-named : goal.returns-in-None-clause-named
returns-in-None-clause-named g c = labelled_named _ _ _ _ _ (λ command is. absurd (c.in-None.ensures.none command is))

pub returns-in-None-clause-summarized : goal.returns-in-None-clause-summarized
returns-in-None-clause-summarized g c = λ seed size is. absurd (c.in-None.ensures.none (Trial seed size) is)

pub returns-in-None-clause-answered : goal.returns-in-None-clause-answered
returns-in-None-clause-answered g c =
    answered_named _ _ _ _ _ (λ text. Unit {0}) (λ line. Unit {0}) (λ few command is. absurd (c.in-None.ensures.none command is)) (λ command is. absurd (c.in-None.ensures.none command is))

pub returns-in-Some-clause-untouched : goal.returns-in-Some-clause-untouched
returns-in-Some-clause-untouched g c = λ h. elim h [
  | inl two ↦ absurd (c.perform.ensures.ends.understood two)
  | inr is ↦ c.perform.ensures.untouched is.0 is.1 (one_command c.args.words.now (Trial is.0 is.1) (asked c.in-Some.command) is.2 c.in-Some.ensures.some)
]

pub returns-in-Some-clause-tried : goal.returns-in-Some-clause-tried
returns-in-Some-clause-tried g c = λ few seed size is.
    under_command (g.P.Package.held c.args.package.now) c.args.words.now (asked c.in-Some.command)
    (λ files command. (text line : List ℕ) × OutcomeOf (Held files) command (Told text c.perform.result line) × Gains (g.S.Sink.got c.args.out.now) text (g.S.Sink.got c.perform.new.out) × Says g.N.Sink.got g.N.Sink.faults c.args.notes.now c.perform.new.notes line)
    c.in-Some.ensures.some (c.perform.ensures.ends.told few) (Trial seed size) is

pub returns-in-Some-clause-gapped : goal.returns-in-Some-clause-gapped
returns-in-Some-clause-gapped g c = λ few.
    of_gaps (g.P.Package.held c.args.package.now) c.args.words.now
    (λ files command. (text line : List ℕ) × OutcomeOf (Held files) command (Told text c.perform.result line) × Gains (g.S.Sink.got c.args.out.now) text (g.S.Sink.got c.perform.new.out) × Says g.N.Sink.got g.N.Sink.faults c.args.notes.now c.perform.new.notes line)
    (under_command (g.P.Package.held c.args.package.now) c.args.words.now (asked c.in-Some.command)
    (λ files command. (text line : List ℕ) × OutcomeOf (Held files) command (Told text c.perform.result line) × Gains (g.S.Sink.got c.args.out.now) text (g.S.Sink.got c.perform.new.out) × Says g.N.Sink.got g.N.Sink.faults c.args.notes.now c.perform.new.notes line)
    c.in-Some.ensures.some (c.perform.ensures.ends.told few))

pub returns-in-Some-clause-written : goal.returns-in-Some-clause-written
returns-in-Some-clause-written g c = λ few.
    of_write (g.P.Package.held c.args.package.now) c.args.words.now
    (λ files command. (text line : List ℕ) × OutcomeOf (Held files) command (Told text c.perform.result line) × Gains (g.S.Sink.got c.args.out.now) text (g.S.Sink.got c.perform.new.out) × Says g.N.Sink.got g.N.Sink.faults c.args.notes.now c.perform.new.notes line)
    (under_command (g.P.Package.held c.args.package.now) c.args.words.now (asked c.in-Some.command)
    (λ files command. (text line : List ℕ) × OutcomeOf (Held files) command (Told text c.perform.result line) × Gains (g.S.Sink.got c.args.out.now) text (g.S.Sink.got c.perform.new.out) × Says g.N.Sink.got g.N.Sink.faults c.args.notes.now c.perform.new.notes line)
    c.in-Some.ensures.some (c.perform.ensures.ends.told few))

pub returns-in-Some-clause-audited : goal.returns-in-Some-clause-audited
returns-in-Some-clause-audited g c = λ few.
    of_audit (g.P.Package.held c.args.package.now) c.args.words.now
    (λ files command. (text line : List ℕ) × OutcomeOf (Held files) command (Told text c.perform.result line) × Gains (g.S.Sink.got c.args.out.now) text (g.S.Sink.got c.perform.new.out) × Says g.N.Sink.got g.N.Sink.faults c.args.notes.now c.perform.new.notes line)
    (under_command (g.P.Package.held c.args.package.now) c.args.words.now (asked c.in-Some.command)
    (λ files command. (text line : List ℕ) × OutcomeOf (Held files) command (Told text c.perform.result line) × Gains (g.S.Sink.got c.args.out.now) text (g.S.Sink.got c.perform.new.out) × Says g.N.Sink.got g.N.Sink.faults c.args.notes.now c.perform.new.notes line)
    c.in-Some.ensures.some (c.perform.ensures.ends.told few))

pub returns-in-Some-clause-labelled : goal.returns-in-Some-clause-labelled
returns-in-Some-clause-labelled g c = λ few.
    of_x2 (g.P.Package.held c.args.package.now) c.args.words.now
    (λ files command. (text line : List ℕ) × OutcomeOf (Held files) command (Told text c.perform.result line) × Gains (g.S.Sink.got c.args.out.now) text (g.S.Sink.got c.perform.new.out) × Says g.N.Sink.got g.N.Sink.faults c.args.notes.now c.perform.new.notes line)
    (under_command (g.P.Package.held c.args.package.now) c.args.words.now (asked c.in-Some.command)
    (λ files command. (text line : List ℕ) × OutcomeOf (Held files) command (Told text c.perform.result line) × Gains (g.S.Sink.got c.args.out.now) text (g.S.Sink.got c.perform.new.out) × Says g.N.Sink.got g.N.Sink.faults c.args.notes.now c.perform.new.notes line)
    c.in-Some.ensures.some (c.perform.ensures.ends.told few))

pub returns-in-Some-clause-refused : goal.returns-in-Some-clause-refused
returns-in-Some-clause-refused g c = λ three.
    under_command (g.P.Package.held c.args.package.now) c.args.words.now (asked c.in-Some.command)
    (λ files command. (line : List ℕ) × OutcomeOf (Held files) command (Refused line) × Says g.N.Sink.got g.N.Sink.faults c.args.notes.now c.perform.new.notes line)
    c.in-Some.ensures.some (c.perform.ensures.ends.refused three)

pub returns-in-Some-clause-front : goal.returns-in-Some-clause-front
returns-in-Some-clause-front g c = λ five.
    under_command (g.P.Package.held c.args.package.now) c.args.words.now (asked c.in-Some.command)
    (λ files command. (text line : List ℕ) × (status : ℕ) × OutcomeOf (Held files) command (Told text status line) × GainsFrontOf (g.S.Sink.got c.args.out.now) text (g.S.Sink.got c.perform.new.out))
    c.in-Some.ensures.some (c.perform.ensures.ends.front five)

pub returns-in-Some-clause-listed : goal.returns-in-Some-clause-listed
returns-in-Some-clause-listed g c =
    listed_named (g.P.Package.held c.args.package.now) c.args.words.now (Rose (g.P.Package.faults c.args.package.now) (g.P.Package.faults c.perform.new.package)) (Rose (g.S.Sink.faults c.args.out.now) (g.S.Sink.faults c.perform.new.out)) c.perform.result
    (under_command (g.P.Package.held c.args.package.now) c.args.words.now (asked c.in-Some.command)
    (λ files command. HasText (Held files) command → (TakesFiles command → Rose (g.P.Package.faults c.args.package.now) (g.P.Package.faults c.perform.new.package) → ⊥) → (Rose (g.S.Sink.faults c.args.out.now) (g.S.Sink.faults c.perform.new.out) → ⊥) → (c.perform.result ≤ 1) ⊎ (c.perform.result ≡ 6))
    c.in-Some.ensures.some c.perform.ensures.ends.complete)

pub returns-in-Some-clause-named : goal.returns-in-Some-clause-named
returns-in-Some-clause-named g c =
    labelled_named (g.P.Package.held c.args.package.now) c.args.words.now (Rose (g.P.Package.faults c.args.package.now) (g.P.Package.faults c.perform.new.package)) (Rose (g.S.Sink.faults c.args.out.now) (g.S.Sink.faults c.perform.new.out)) c.perform.result
    (under_command (g.P.Package.held c.args.package.now) c.args.words.now (asked c.in-Some.command)
    (λ files command. HasText (Held files) command → (TakesFiles command → Rose (g.P.Package.faults c.args.package.now) (g.P.Package.faults c.perform.new.package) → ⊥) → (Rose (g.S.Sink.faults c.args.out.now) (g.S.Sink.faults c.perform.new.out) → ⊥) → (c.perform.result ≤ 1) ⊎ (c.perform.result ≡ 6))
    c.in-Some.ensures.some c.perform.ensures.ends.complete)

pub returns-in-Some-clause-summarized : goal.returns-in-Some-clause-summarized
returns-in-Some-clause-summarized g c = λ seed size is small quiet.
    let fit = c.made_packages_fit.ensures seed size small in
    under_command (g.P.Package.held c.args.package.now) c.args.words.now (asked c.in-Some.command)
    (λ files command. HasText (Held files) command → (TakesFiles command → Rose (g.P.Package.faults c.args.package.now) (g.P.Package.faults c.perform.new.package) → ⊥) → (Rose (g.S.Sink.faults c.args.out.now) (g.S.Sink.faults c.perform.new.out) → ⊥) → (c.perform.result ≤ 1) ⊎ (c.perform.result ≡ 6))
    c.in-Some.ensures.some c.perform.ensures.ends.complete (Trial seed size) is (small, fit.board, fit.is)
    (λ takes. absurd takes) quiet

pub returns-in-Some-clause-answered : goal.returns-in-Some-clause-answered
returns-in-Some-clause-answered g c =
    answered_named (g.P.Package.held c.args.package.now) c.args.words.now (Rose (g.P.Package.faults c.args.package.now) (g.P.Package.faults c.perform.new.package)) (Rose (g.S.Sink.faults c.args.out.now) (g.S.Sink.faults c.perform.new.out)) c.perform.result
    (λ text. Gains (g.S.Sink.got c.args.out.now) text (g.S.Sink.got c.perform.new.out)) (λ line. Says g.N.Sink.got g.N.Sink.faults c.args.notes.now c.perform.new.notes line)
    (λ few. under_command (g.P.Package.held c.args.package.now) c.args.words.now (asked c.in-Some.command)
    (λ files command. (text line : List ℕ) × OutcomeOf (Held files) command (Told text c.perform.result line) × Gains (g.S.Sink.got c.args.out.now) text (g.S.Sink.got c.perform.new.out) × Says g.N.Sink.got g.N.Sink.faults c.args.notes.now c.perform.new.notes line)
    c.in-Some.ensures.some (c.perform.ensures.ends.told few))
    (under_command (g.P.Package.held c.args.package.now) c.args.words.now (asked c.in-Some.command)
    (λ files command. HasText (Held files) command → (TakesFiles command → Rose (g.P.Package.faults c.args.package.now) (g.P.Package.faults c.perform.new.package) → ⊥) → (Rose (g.S.Sink.faults c.args.out.now) (g.S.Sink.faults c.perform.new.out) → ⊥) → (c.perform.result ≤ 1) ⊎ (c.perform.result ≡ 6))
    c.in-Some.ensures.some c.perform.ensures.ends.complete)

pub returns-in-None-clause-rewritten : goal.returns-in-None-clause-rewritten
returns-in-None-clause-rewritten g c = rewritten_named _ _ _ _ _ (λ command is. absurd (c.in-None.ensures.none command is))

pub returns-in-Some-clause-flattened : goal.returns-in-Some-clause-flattened
returns-in-Some-clause-flattened g c = λ few.
    of_flatten (g.P.Package.held c.args.package.now) c.args.words.now
    (λ files command. (text line : List ℕ) × OutcomeOf (Held files) command (Told text c.perform.result line) × Gains (g.S.Sink.got c.args.out.now) text (g.S.Sink.got c.perform.new.out) × Says g.N.Sink.got g.N.Sink.faults c.args.notes.now c.perform.new.notes line)
    (under_command (g.P.Package.held c.args.package.now) c.args.words.now (asked c.in-Some.command)
    (λ files command. (text line : List ℕ) × OutcomeOf (Held files) command (Told text c.perform.result line) × Gains (g.S.Sink.got c.args.out.now) text (g.S.Sink.got c.perform.new.out) × Says g.N.Sink.got g.N.Sink.faults c.args.notes.now c.perform.new.notes line)
    c.in-Some.ensures.some (c.perform.ensures.ends.told few))

pub returns-in-Some-clause-rewritten : goal.returns-in-Some-clause-rewritten
returns-in-Some-clause-rewritten g c =
    rewritten_named (g.P.Package.held c.args.package.now) c.args.words.now (Rose (g.P.Package.faults c.args.package.now) (g.P.Package.faults c.perform.new.package)) (Rose (g.S.Sink.faults c.args.out.now) (g.S.Sink.faults c.perform.new.out)) c.perform.result
    (under_command (g.P.Package.held c.args.package.now) c.args.words.now (asked c.in-Some.command)
    (λ files command. HasText (Held files) command → (TakesFiles command → Rose (g.P.Package.faults c.args.package.now) (g.P.Package.faults c.perform.new.package) → ⊥) → (Rose (g.S.Sink.faults c.args.out.now) (g.S.Sink.faults c.perform.new.out) → ⊥) → (c.perform.result ≤ 1) ⊎ (c.perform.result ≡ 6))
    c.in-Some.ensures.some c.perform.ensures.ends.complete)

pub returns-in-None-clause-bounded : goal.returns-in-None-clause-bounded
returns-in-None-clause-bounded g c = bounded_named _ _ _ _ _ (λ command is. absurd (c.in-None.ensures.none command is))

pub returns-in-Some-clause-between : goal.returns-in-Some-clause-between
returns-in-Some-clause-between g c = λ few.
    of_between (g.P.Package.held c.args.package.now) c.args.words.now
    (λ files command. (text line : List ℕ) × OutcomeOf (Held files) command (Told text c.perform.result line) × Gains (g.S.Sink.got c.args.out.now) text (g.S.Sink.got c.perform.new.out) × Says g.N.Sink.got g.N.Sink.faults c.args.notes.now c.perform.new.notes line)
    (under_command (g.P.Package.held c.args.package.now) c.args.words.now (asked c.in-Some.command)
    (λ files command. (text line : List ℕ) × OutcomeOf (Held files) command (Told text c.perform.result line) × Gains (g.S.Sink.got c.args.out.now) text (g.S.Sink.got c.perform.new.out) × Says g.N.Sink.got g.N.Sink.faults c.args.notes.now c.perform.new.notes line)
    c.in-Some.ensures.some (c.perform.ensures.ends.told few))

pub returns-in-Some-clause-bounded : goal.returns-in-Some-clause-bounded
returns-in-Some-clause-bounded g c =
    bounded_named (g.P.Package.held c.args.package.now) c.args.words.now (Rose (g.P.Package.faults c.args.package.now) (g.P.Package.faults c.perform.new.package)) (Rose (g.S.Sink.faults c.args.out.now) (g.S.Sink.faults c.perform.new.out)) c.perform.result
    (under_command (g.P.Package.held c.args.package.now) c.args.words.now (asked c.in-Some.command)
    (λ files command. HasText (Held files) command → (TakesFiles command → Rose (g.P.Package.faults c.args.package.now) (g.P.Package.faults c.perform.new.package) → ⊥) → (Rose (g.S.Sink.faults c.args.out.now) (g.S.Sink.faults c.perform.new.out) → ⊥) → (c.perform.result ≤ 1) ⊎ (c.perform.result ≡ 6))
    c.in-Some.ensures.some c.perform.ensures.ends.complete)

pub returns-in-None-clause-unjudged : goal.returns-in-None-clause-unjudged
returns-in-None-clause-unjudged g c = λ name h. elim h [
  | inl is ↦ absurd (c.in-None.ensures.none (Write name) is)
  | inr is ↦ absurd (c.in-None.ensures.none (Flatten name) is)
]

pub returns-in-Some-clause-unjudged : goal.returns-in-Some-clause-unjudged
returns-in-Some-clause-unjudged g c = λ name h. c.perform.ensures.unjudged name (elim h [
  | inl is ↦ inl (one_command c.args.words.now (Write name) (asked c.in-Some.command) is c.in-Some.ensures.some)
  | inr is ↦ inr (one_command c.args.words.now (Flatten name) (asked c.in-Some.command) is c.in-Some.ensures.some)
])

pub returns-in-Some-clause-right : goal.returns-in-Some-clause-right
returns-in-Some-clause-right g c = λ few.
    of_check (g.P.Package.held c.args.package.now) c.args.words.now
    (λ files command. (text line : List ℕ) × OutcomeOf (Held files) command (Told text c.perform.result line) × Gains (g.S.Sink.got c.args.out.now) text (g.S.Sink.got c.perform.new.out) × Says g.N.Sink.got g.N.Sink.faults c.args.notes.now c.perform.new.notes line)
    (under_command (g.P.Package.held c.args.package.now) c.args.words.now (asked c.in-Some.command)
    (λ files command. (text line : List ℕ) × OutcomeOf (Held files) command (Told text c.perform.result line) × Gains (g.S.Sink.got c.args.out.now) text (g.S.Sink.got c.perform.new.out) × Says g.N.Sink.got g.N.Sink.faults c.args.notes.now c.perform.new.notes line)
    c.in-Some.ensures.some (c.perform.ensures.ends.told few))

pub returns-in-None-clause-handed : goal.returns-in-None-clause-handed
returns-in-None-clause-handed g c = λ command is. absurd (c.in-None.ensures.none command is)

pub returns-in-Some-clause-handed : goal.returns-in-Some-clause-handed
returns-in-Some-clause-handed g c =
    under_asked c.args.words.now (asked c.in-Some.command)
    (λ command. EndsHanded (HandedOver (g.P.Package.handed c.args.package.now) (g.P.Package.handed c.perform.new.package)) command (g.P.Package.lost c.perform.new.package) g.S.Sink.handed g.S.Sink.got g.N.Sink.got g.N.Sink.faults c.args.out.now c.perform.new.out c.args.notes.now c.perform.new.notes c.perform.result)
    c.in-Some.ensures.some c.perform.ensures.handed

pub returns-in-Some-clause-handed_right : goal.returns-in-Some-clause-handed_right
returns-in-Some-clause-handed_right g c = λ few version name is.
    let ends = under_asked c.args.words.now (asked c.in-Some.command)
    (λ command. EndsHanded (HandedOver (g.P.Package.handed c.args.package.now) (g.P.Package.handed c.perform.new.package)) command (g.P.Package.lost c.perform.new.package) g.S.Sink.handed g.S.Sink.got g.N.Sink.got g.N.Sink.faults c.args.out.now c.perform.new.out c.args.notes.now c.perform.new.notes c.perform.result)
    c.in-Some.ensures.some c.perform.ensures.handed (Check version name) is in
    ends.told few

pub returns-in-Some-clause-handed_ruling : goal.returns-in-Some-clause-handed_ruling
returns-in-Some-clause-handed_ruling g c = λ few manifest report is.
    let ends = under_asked c.args.words.now (asked c.in-Some.command)
    (λ command. EndsHanded (HandedOver (g.P.Package.handed c.args.package.now) (g.P.Package.handed c.perform.new.package)) command (g.P.Package.lost c.perform.new.package) g.S.Sink.handed g.S.Sink.got g.N.Sink.got g.N.Sink.faults c.args.out.now c.perform.new.out c.args.notes.now c.perform.new.notes c.perform.result)
    c.in-Some.ensures.some c.perform.ensures.handed (Audit manifest report) is in
    ends.told few

pub returns-in-Some-clause-handed_netlist : goal.returns-in-Some-clause-handed_netlist
returns-in-Some-clause-handed_netlist g c = λ few name is.
    let ends = under_asked c.args.words.now (asked c.in-Some.command)
    (λ command. EndsHanded (HandedOver (g.P.Package.handed c.args.package.now) (g.P.Package.handed c.perform.new.package)) command (g.P.Package.lost c.perform.new.package) g.S.Sink.handed g.S.Sink.got g.N.Sink.got g.N.Sink.faults c.args.out.now c.perform.new.out c.args.notes.now c.perform.new.notes c.perform.result)
    c.in-Some.ensures.some c.perform.ensures.handed (Write name) is in
    ends.told few

pub returns-in-Some-clause-handed_gaps : goal.returns-in-Some-clause-handed_gaps
returns-in-Some-clause-handed_gaps g c = λ few name nanometres is.
    let ends = under_asked c.args.words.now (asked c.in-Some.command)
    (λ command. EndsHanded (HandedOver (g.P.Package.handed c.args.package.now) (g.P.Package.handed c.perform.new.package)) command (g.P.Package.lost c.perform.new.package) g.S.Sink.handed g.S.Sink.got g.N.Sink.got g.N.Sink.faults c.args.out.now c.perform.new.out c.args.notes.now c.perform.new.notes c.perform.result)
    c.in-Some.ensures.some c.perform.ensures.handed (Gaps name nanometres) is in
    ends.told few

pub returns-in-Some-clause-handed_labels : goal.returns-in-Some-clause-handed_labels
returns-in-Some-clause-handed_labels g c = λ few name is.
    let ends = under_asked c.args.words.now (asked c.in-Some.command)
    (λ command. EndsHanded (HandedOver (g.P.Package.handed c.args.package.now) (g.P.Package.handed c.perform.new.package)) command (g.P.Package.lost c.perform.new.package) g.S.Sink.handed g.S.Sink.got g.N.Sink.got g.N.Sink.faults c.args.out.now c.perform.new.out c.args.notes.now c.perform.new.notes c.perform.result)
    c.in-Some.ensures.some c.perform.ensures.handed (X2 name) is in
    ends.told few

pub returns-in-Some-clause-handed_image : goal.returns-in-Some-clause-handed_image
returns-in-Some-clause-handed_image g c = λ few name is.
    let ends = under_asked c.args.words.now (asked c.in-Some.command)
    (λ command. EndsHanded (HandedOver (g.P.Package.handed c.args.package.now) (g.P.Package.handed c.perform.new.package)) command (g.P.Package.lost c.perform.new.package) g.S.Sink.handed g.S.Sink.got g.N.Sink.got g.N.Sink.faults c.args.out.now c.perform.new.out c.args.notes.now c.perform.new.notes c.perform.result)
    c.in-Some.ensures.some c.perform.ensures.handed (Flatten name) is in
    ends.told few

pub returns-in-None-clause-agreed : goal.returns-in-None-clause-agreed
returns-in-None-clause-agreed g c = λ files w command is. absurd (c.in-None.ensures.none command is)

pub returns-in-Some-clause-agreed : goal.returns-in-Some-clause-agreed
returns-in-Some-clause-agreed g c = λ files w.
    under_asked c.args.words.now (asked c.in-Some.command)
    (λ command. Ends (λ p. Some files) g.P.Package.faults g.P.Package.lost g.S.Sink.got g.S.Sink.faults g.N.Sink.got g.N.Sink.faults command c.args.package.now c.perform.new.package c.args.out.now c.perform.new.out c.args.notes.now c.perform.new.notes c.perform.result)
    c.in-Some.ensures.some (c.perform.ensures.agreed files w)

pub returns-in-Some-clause-agreed_right : goal.returns-in-Some-clause-agreed_right
returns-in-Some-clause-agreed_right g c = λ few files w version name is.
    let ends = under_asked c.args.words.now (asked c.in-Some.command)
    (λ command. Ends (λ p. Some files) g.P.Package.faults g.P.Package.lost g.S.Sink.got g.S.Sink.faults g.N.Sink.got g.N.Sink.faults command c.args.package.now c.perform.new.package c.args.out.now c.perform.new.out c.args.notes.now c.perform.new.notes c.perform.result)
    c.in-Some.ensures.some (c.perform.ensures.agreed files w) (Check version name) is in
    ends.told few

pub returns-in-Some-clause-handed_between : goal.returns-in-Some-clause-handed_between
returns-in-Some-clause-handed_between g c = λ few names is.
    let ends = under_asked c.args.words.now (asked c.in-Some.command)
    (λ command. EndsHanded (HandedOver (g.P.Package.handed c.args.package.now) (g.P.Package.handed c.perform.new.package)) command (g.P.Package.lost c.perform.new.package) g.S.Sink.handed g.S.Sink.got g.N.Sink.got g.N.Sink.faults c.args.out.now c.perform.new.out c.args.notes.now c.perform.new.notes c.perform.result)
    c.in-Some.ensures.some c.perform.ensures.handed (Between names) is in
    ends.told few
