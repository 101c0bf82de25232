-- The command `between REAL LOWER UPPER COUNTS`: a package that may have arcs and macros is judged by two packages that bound it.
use Rattle.std.specs.Prelude.{◌≡◌, ◌⊎◌, ⊤, ℕ, List, [], ◌∷◌, codes, length, map, string_bytes, String, Option, Some, None}
use Rattle.std.specs.declared.alloc.Global.{Global}
use Rattle.board_package.specs.PackageBoard.{Stop, not_json, bad_manifest, frame_too_large}
use Rattle.board_shapes.specs.Plain.{PlainBoard}
use Rattle.boardnet.specs.Bounded.{AreBoundedBy, IsUnboundBy}
use Rattle.reports.specs.Decision.{IsDecisionOn}
use Rattle.boardnet.specs.Command.{BoundNames, Command, Between, bound_names}
use Rattle.boardnet.specs.Source.{Source, ComesBy, FitsBefore, FitsRealBefore, FitsRealThen, FitsThen, IsFileBy, IsFirstRealStopBy, IsFirstStopBy, NextBy, RealComesBy, StopsFileBy}
use Rattle.boardnet.specs.Task.{Task, on_package}
use Rattle.boardnet.specs.declared.answer.Unanswered.{Unanswered}
use Rattle.boardnet.specs.declared.answer.Unanswered.TheVariants as why
use Rattle.boardnet.specs.declared.unbound.Unbound.{Unbound as NoBounds}
use Rattle.lengths.specs.Text.{IsText}
use Rattle.real_package.specs.RealBoards.{PlainRealBoard}
use Rattle.real_package.specs.RealPackage.{RealStop, unbuilt, bent}

-- the names are texts
abbrev pub AreTexts : BoundNames → Type 0
AreTexts names = IsText names.real × IsText names.lower × IsText names.upper × IsText names.counts

-- `between`, the names of three manifests, and that of a file of counts
pub record IsBetween (words : List (String Global)) (names : BoundNames) : Type 0 where
  pub spelled : map string_bytes words ≡ codes "between" ∷ names.real ∷ names.lower ∷ names.upper ∷ names.counts ∷ []
  pub texts : AreTexts names

-- ---- What is read: three packages one behind the other, and then the file of counts

-- The real package fits as one whose draws may be arcs, and then the lower and the upper one; these are their boards, and the bytes of the file
-- behind them.
abbrev pub AreRead : Source → BoundNames → PlainRealBoard → PlainBoard → PlainBoard → List ℕ → Type 0
AreRead source names real lower upper bytes =
    FitsRealBefore source names.real real (λ rest. FitsBefore rest names.lower lower (λ more. FitsBefore more names.upper upper (λ last. IsFileBy last names.counts bytes)))

-- the real package fits, and the lower one, and the upper one, and Then holds of what was read behind
abbrev pub BehindReal : Source → BoundNames → (Source → Type 0) → Type 0
BehindReal source names Then = FitsRealThen source names.real Then

abbrev pub BehindLower : Source → BoundNames → (Source → Type 0) → Type 0
BehindLower source names Then = BehindReal source names (λ rest. FitsThen rest names.lower Then)

abbrev pub BehindUpper : Source → BoundNames → (Source → Type 0) → Type 0
BehindUpper source names Then = BehindLower source names (λ rest. FitsThen rest names.upper Then)

-- where reading stops: at one of the packages, or at the file of counts
pub data ReadStop : Type 0 where
  at_real : RealStop → ReadStop
  at_lower : Stop → ReadStop
  at_upper : Stop → ReadStop
  at_counts : Stop → ReadStop

-- the first of these stops
abbrev pub StopsReading : Source → BoundNames → ReadStop → Type 0
StopsReading source names (at_real stop) = IsFirstRealStopBy source names.real stop
StopsReading source names (at_lower stop) = BehindReal source names (λ rest. IsFirstStopBy rest names.lower stop)
StopsReading source names (at_upper stop) = BehindLower source names (λ rest. IsFirstStopBy rest names.upper stop)
StopsReading source names (at_counts stop) = BehindUpper source names (λ rest. StopsFileBy rest names.counts stop)

-- the name is that of a file of the order, which comes next
abbrev pub ComesReading : Source → BoundNames → List ℕ → Type 0
ComesReading source names name =
    RealComesBy source names.real name
    ⊎ (BehindReal source names (λ rest. ComesBy rest names.lower name)
    ⊎ (BehindLower source names (λ rest. ComesBy rest names.upper name)
    ⊎ BehindUpper source names (λ rest. NextBy rest names.counts name)))

-- ---- What is answered

-- The packages and the counts are read, and the boards of the lower and the upper one bound the real one: the checks take them.
pub record AreBounded (source : Source) (names : BoundNames) : Type 0 where
  pub real : PlainRealBoard
  pub lower : PlainBoard
  pub upper : PlainBoard
  pub bytes : List ℕ
  pub read : AreRead source names real lower upper bytes
  pub bounded : AreBoundedBy real lower upper bytes

-- So it is, and this is the text of right verdicts on both, with its status and its line.
pub record IsDecided (source : Source) (names : BoundNames) (text : List ℕ) (status : ℕ) (line : List ℕ) : Type 0 where
  pub bounds : AreBounded source names
  pub decision : IsDecisionOn (length bounds.real.pieces) bounds.lower bounds.upper text status line

-- The packages and the counts are read, but the boards are no bounds of the real one, for this reason.
pub record AreUnbound (source : Source) (names : BoundNames) (reason : NoBounds) : Type 0 where
  pub real : PlainRealBoard
  pub lower : PlainBoard
  pub upper : PlainBoard
  pub bytes : List ℕ
  pub read : AreRead source names real lower upper bytes
  pub unbound : IsUnboundBy real lower upper bytes reason

-- a stop whose line names no manifest
abbrev pub IsOfFile : Stop → Type 0
IsOfFile not_json = ⊥
IsOfFile bad_manifest = ⊥
IsOfFile (frame_too_large box) = ⊥
IsOfFile stop = ⊤

-- the stop that the reading has, where its line is that of the real package's stop
abbrev pub IsPlainStop : ReadStop → Stop → Type 0
IsPlainStop (at_real (unbuilt first)) stop = first ≡ stop
IsPlainStop (at_real (bent name kind command byte)) stop = ⊥
IsPlainStop (at_lower first) stop = (first ≡ stop) × IsOfFile stop
IsPlainStop (at_upper first) stop = (first ≡ stop) × IsOfFile stop
IsPlainStop (at_counts first) stop = first ≡ stop

-- the manifest of this name, of the lower or the upper package, has this stop
abbrev pub StopsManifest : Source → BoundNames → Stop → List ℕ → Type 0
StopsManifest source names stop name = ((name ≡ names.lower) × StopsReading source names (at_lower stop)) ⊎ ((name ≡ names.upper) × StopsReading source names (at_upper stop))

-- beside a stop: an arc or another figure of REAL that is not read, the form of the manifest of LOWER or UPPER or the frame of its board,
-- or what is wrong with the bounds
abbrev pub BetweenRefuses : Source → BoundNames → Unanswered → Type 0
BetweenRefuses source names (why.Bent name kind command byte) = StopsReading source names (at_real (bent name kind command byte))
BetweenRefuses source names (why.NotJson name) = StopsManifest source names not_json name
BetweenRefuses source names (why.NotAManifest name) = StopsManifest source names bad_manifest name
BetweenRefuses source names (why.BoundTooLarge name box) = StopsManifest source names (frame_too_large box) name
BetweenRefuses source names (why.Unbound reason) = AreUnbound source names reason
BetweenRefuses source names other = ⊥

abbrev pub between : BoundNames → Task
between names = record (on_package names.real (λ words. IsBetween words names) (codes "between" ∷ names.real ∷ names.lower ∷ names.upper ∷ names.counts ∷ []) (λ source text status line. IsDecided source names text status line)) {
  in_range = AreTexts names;
  report = names.counts;
  comes = λ source name. ComesReading source names name;
  stops = λ source stop. (first : ReadStop) × StopsReading source names first × IsPlainStop first stop;
  refuses = λ source why. BetweenRefuses source names why;
  has_text = λ source. AreBounded source names;
}

-- the command that words behind its name can ask for; whether they are texts is for `IsBetween` to say
abbrev pub between_by : List (List ℕ) → Option Command
between_by (real ∷ lower ∷ upper ∷ counts ∷ []) = Some (Between (bound_names real lower upper counts))
between_by other = None
