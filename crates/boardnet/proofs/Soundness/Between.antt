-- That what is told of the command `between` is sound.
use Rattle.std.proofs.Common.{◌≡◌, ◌≤◌, ℕ, List, length, Option, Some, None, IfSome, String, ◌⊎◌, inl, inr, refl, ap, subst, sym, ◌∙◌}
use Rattle.std.specs.declared.alloc.Global.{Global}
use Rattle.board_io.specs.Handed.{AgreeWith, Handed}
use Rattle.board_io.specs.Package.{Files}
use Rattle.board_package.specs.PackageBoard.{Stop, not_json, bad_manifest, frame_too_large}
use Rattle.board_shapes.specs.Plain.{PlainBoard}
use Rattle.boardnet.proofs.Audits.{no_stop_taking, one_file}
use Rattle.boardnet.proofs.Alike.{one_taking}
use Rattle.boardnet.proofs.Behind.{board_held, held_fits, held_then}
use Rattle.boardnet.proofs.Bounds.{no_reason, one_reason}
use Rattle.boardnet.proofs.Decisions.{same_decision}
use Rattle.boardnet.proofs.Named.{Completes}
use Rattle.boardnet.proofs.Sound.{HandedLaws, HoldsHanded, Laws, OneOutcome, Sound}
use Rattle.boardnet.specs.Bounded.{IsUnboundBy}
use Rattle.boardnet.specs.Command.{BoundNames}
use Rattle.boardnet.specs.Outcome.{HandedOver, Held, IsDecided, OfFilesRead, Source}
use Rattle.boardnet.specs.Source.{ComesBy, FitsBefore, FitsRealThen, FitsThen, IsBoardBy, IsFileBy, IsFirstStopBy, IsRealBoardBy, NextBy, StopsFileBy}
use Rattle.boardnet.specs.Words.{Asks, Command, Between, IsBetween}
use Rattle.boardnet.specs.commands.Between.{AreBounded, AreRead, AreUnbound, BetweenRefuses, ComesReading, IsOfFile, IsPlainStop, ReadStop, StopsManifest, StopsReading, at_counts, at_lower, at_real, at_upper}
use Rattle.boardnet.specs.declared.answer.Unanswered.{Unanswered}
use Rattle.boardnet.specs.declared.answer.Unanswered.TheVariants.{Bent, NotAReport, NotJson, NotAManifest, BoundTooLarge, Unbound}
use Rattle.boardnet.specs.declared.unbound.Unbound.{Unbound as NoBounds}
use Rattle.real_package.specs.RealBoards.{PlainRealBoard}
use Rattle.real_package.specs.RealPackage.{bent, unbuilt}

-- ---- Refusals

-- what else is refused, for a stop of the reading
abbrev reason_at : BoundNames → ReadStop → Unanswered
reason_at names (at_real (bent name kind command byte)) = Bent name kind command byte
reason_at names (at_lower not_json) = NotJson names.lower
reason_at names (at_lower bad_manifest) = NotAManifest names.lower
reason_at names (at_lower (frame_too_large box)) = BoundTooLarge names.lower box
reason_at names (at_upper not_json) = NotJson names.upper
reason_at names (at_upper bad_manifest) = NotAManifest names.upper
reason_at names (at_upper (frame_too_large box)) = BoundTooLarge names.upper box
reason_at names other = NotAReport

-- what else is refused is refused for a stop of the reading, which is no stop by itself, or for the bounds
abbrev IsFor : Source → BoundNames → Unanswered → Type 0
IsFor source names why =
    ((first : ReadStop) × StopsReading source names first × ((stop : Stop) → IsPlainStop first stop → ⊥) × (reason_at names first ≡ why))
    ⊎ ((reason : NoBounds) × AreUnbound source names reason × (Unbound reason ≡ why))

refused_for : (source : Source) (names : BoundNames) (why : Unanswered) → BetweenRefuses source names why → IsFor source names why
refused_for source names (Bent name kind command byte) m = inl (at_real (bent name kind command byte), m, (λ stop p. p), refl)
refused_for source names (NotJson name) (inl (e, s)) = inl (at_lower not_json, s, (λ stop p. subst IsOfFile (sym p.0) p.1), ap NotJson (sym e))
refused_for source names (NotJson name) (inr (e, s)) = inl (at_upper not_json, s, (λ stop p. subst IsOfFile (sym p.0) p.1), ap NotJson (sym e))
refused_for source names (NotAManifest name) (inl (e, s)) = inl (at_lower bad_manifest, s, (λ stop p. subst IsOfFile (sym p.0) p.1), ap NotAManifest (sym e))
refused_for source names (NotAManifest name) (inr (e, s)) = inl (at_upper bad_manifest, s, (λ stop p. subst IsOfFile (sym p.0) p.1), ap NotAManifest (sym e))
refused_for source names (BoundTooLarge name box) (inl (e, s)) = inl (at_lower (frame_too_large box), s, (λ stop p. subst IsOfFile (sym p.0) p.1), ap (λ (z : List ℕ). BoundTooLarge z box) (sym e))
refused_for source names (BoundTooLarge name box) (inr (e, s)) = inl (at_upper (frame_too_large box), s, (λ stop p. subst IsOfFile (sym p.0) p.1), ap (λ (z : List ℕ). BoundTooLarge z box) (sym e))
refused_for source names (Unbound reason) m = inr (reason, m, refl)
refused_for source names other m = absurd m

-- ---- The files have one reading or one stop

same_read : OneOutcome → (f : Files) (names : BoundNames) (r s : PlainRealBoard) (l m u v : PlainBoard) (x y : List ℕ) → AreRead (Held f) names r l u x → AreRead (Held f) names s m v y → (r ≡ s) × (l ≡ m) × (u ≡ v) × (x ≡ y)
same_read law f names r s l m u v x y h k = (
  (law.real f names.real).one_board r s h.0 k.0,
  (law.listed f names.lower).one_board l m h.1.0 k.1.0,
  (law.listed f names.upper).one_board u v h.1.1.0 k.1.1.0,
  one_file f names.counts x y h.1.1.1.held k.1.1.1.held,
)

stop_or_read : OneOutcome → (f : Files) (names : BoundNames) (stop : ReadStop) (r : PlainRealBoard) (l u : PlainBoard) (x : List ℕ) → StopsReading (Held f) names stop → AreRead (Held f) names r l u x → ⊥
stop_or_read law f names (at_real stop) r l u x s h = (law.real f names.real).not_both r stop h.0 s
stop_or_read law f names (at_lower stop) r l u x s h = (law.listed f names.lower).not_both l stop h.1.0 s.behind.1
stop_or_read law f names (at_upper stop) r l u x s h = (law.listed f names.upper).not_both u stop h.1.1.0 s.behind.1.behind.1
stop_or_read law f names (at_counts stop) r l u x s h = no_stop_taking f names.counts x stop h.1.1.1 s.behind.1.behind.1.behind.1

one_read_stop : OneOutcome → (f : Files) (names : BoundNames) (stop other : ReadStop) → StopsReading (Held f) names stop → StopsReading (Held f) names other → stop ≡ other
one_read_stop law f names (at_real s) (at_real t) x y = ap at_real ((law.real f names.real).one_stop s t x y)
one_read_stop law f names (at_real s) (at_lower t) x y = absurd ((law.real f names.real).not_both y.board s y.behind.0 x)
one_read_stop law f names (at_real s) (at_upper t) x y = absurd ((law.real f names.real).not_both y.board s y.behind.0 x)
one_read_stop law f names (at_real s) (at_counts t) x y = absurd ((law.real f names.real).not_both y.board s y.behind.0 x)
one_read_stop law f names (at_lower s) (at_real t) x y = absurd ((law.real f names.real).not_both x.board t x.behind.0 y)
one_read_stop law f names (at_lower s) (at_lower t) x y = ap at_lower ((law.listed f names.lower).one_stop s t x.behind.1 y.behind.1)
one_read_stop law f names (at_lower s) (at_upper t) x y = absurd ((law.listed f names.lower).not_both y.behind.1.board s y.behind.1.behind.0 x.behind.1)
one_read_stop law f names (at_lower s) (at_counts t) x y = absurd ((law.listed f names.lower).not_both y.behind.1.board s y.behind.1.behind.0 x.behind.1)
one_read_stop law f names (at_upper s) (at_real t) x y = absurd ((law.real f names.real).not_both x.board t x.behind.0 y)
one_read_stop law f names (at_upper s) (at_lower t) x y = absurd ((law.listed f names.lower).not_both x.behind.1.board t x.behind.1.behind.0 y.behind.1)
one_read_stop law f names (at_upper s) (at_upper t) x y = ap at_upper ((law.listed f names.upper).one_stop s t x.behind.1.behind.1 y.behind.1.behind.1)
one_read_stop law f names (at_upper s) (at_counts t) x y = absurd ((law.listed f names.upper).not_both y.behind.1.behind.1.board s y.behind.1.behind.1.behind.0 x.behind.1.behind.1)
one_read_stop law f names (at_counts s) (at_real t) x y = absurd ((law.real f names.real).not_both x.board t x.behind.0 y)
one_read_stop law f names (at_counts s) (at_lower t) x y = absurd ((law.listed f names.lower).not_both x.behind.1.board t x.behind.1.behind.0 y.behind.1)
one_read_stop law f names (at_counts s) (at_upper t) x y = absurd ((law.listed f names.upper).not_both x.behind.1.behind.1.board t x.behind.1.behind.1.behind.0 y.behind.1.behind.1)
one_read_stop law f names (at_counts s) (at_counts t) x y = ap at_counts (one_taking f names.counts s t x.behind.1.behind.1.behind.1 y.behind.1.behind.1.behind.1)

one_plain : (first : ReadStop) (stop other : Stop) → IsPlainStop first stop → IsPlainStop first other → stop ≡ other
one_plain (at_real (unbuilt s)) stop other p q = sym p ∙ q
one_plain (at_real (bent name kind command byte)) stop other p q = absurd p
one_plain (at_lower s) stop other (p, f) (q, g) = sym p ∙ q
one_plain (at_upper s) stop other (p, f) (q, g) = sym p ∙ q
one_plain (at_counts s) stop other p q = sym p ∙ q

-- what is not bounded for a reason, over the reading of another
moved_reason : OneOutcome → (f : Files) (names : BoundNames) (reason : NoBounds) (u : AreUnbound (Held f) names reason) (r : PlainRealBoard) (l w : PlainBoard) (x : List ℕ) → AreRead (Held f) names r l w x → IsUnboundBy r l w x reason
moved_reason law f names reason u r l w x read =
    let (a, b, c, d) = same_read law f names u.real r u.lower l u.upper w u.bytes x u.read read in
    subst (λ (z : List ℕ). IsUnboundBy r l w z reason) d (subst (λ (z : PlainBoard). IsUnboundBy r l z u.bytes reason) c (subst (λ (z : PlainBoard). IsUnboundBy r z u.upper u.bytes reason) b (subst (λ (z : PlainRealBoard). IsUnboundBy z u.lower u.upper u.bytes reason) a u.unbound)))

bounded_or_not : OneOutcome → (f : Files) (names : BoundNames) (reason : NoBounds) → AreUnbound (Held f) names reason → AreBounded (Held f) names → ⊥
bounded_or_not law f names reason u b = no_reason law b.real b.lower b.upper b.bytes reason (moved_reason law f names reason u b.real b.lower b.upper b.bytes b.read) b.bounded

no_text : OneOutcome → (f : Files) (names : BoundNames) (stop : ReadStop) → StopsReading (Held f) names stop → AreBounded (Held f) names → ⊥
no_text law f names stop s b = stop_or_read law f names stop b.real b.lower b.upper b.bytes s b.read

no_decision : OneOutcome → (f : Files) (names : BoundNames) (why : Unanswered) → IsFor (Held f) names why → AreBounded (Held f) names → ⊥
no_decision law f names why (inl (first, s, none, e)) b = no_text law f names first s b
no_decision law f names why (inr (reason, u, e)) b = bounded_or_not law f names reason u b

-- ---- Two outcomes over the same files

one_decision : Laws → (f : Files) (names : BoundNames) (text said : List ℕ) (s t : ℕ) (l k : List ℕ) → IsDecided (Held f) names text s l → IsDecided (Held f) names said t k → (s ≡ t) × (l ≡ k)
one_decision law f names text said s t l k x y =
    let (a, b, c, d) = same_read law.one f names x.bounds.real y.bounds.real x.bounds.lower y.bounds.lower x.bounds.upper y.bounds.upper x.bounds.bytes y.bounds.bytes x.bounds.read y.bounds.read in
    same_decision law (length x.bounds.real.pieces) (length y.bounds.real.pieces) x.bounds.lower y.bounds.lower x.bounds.upper y.bounds.upper text said s t l k b c x.decision y.decision

stop_or_unbound : OneOutcome → (f : Files) (names : BoundNames) (stop : ReadStop) (reason : NoBounds) → StopsReading (Held f) names stop → AreUnbound (Held f) names reason → ⊥
stop_or_unbound law f names stop reason s u = stop_or_read law f names stop u.real u.lower u.upper u.bytes s u.read

stop_or_refused : OneOutcome → (f : Files) (names : BoundNames) (first : ReadStop) (stop : Stop) (why : Unanswered) → StopsReading (Held f) names first → IsPlainStop first stop → IsFor (Held f) names why → ⊥
stop_or_refused law f names first stop why s plain (inl (other, t, none, e)) = none stop (subst (λ (z : ReadStop). IsPlainStop z stop) (one_read_stop law f names first other s t) plain)
stop_or_refused law f names first stop why s plain (inr (reason, u, e)) = stop_or_unbound law f names first reason s u

one_refusal : OneOutcome → (f : Files) (names : BoundNames) (why other : Unanswered) → IsFor (Held f) names why → IsFor (Held f) names other → why ≡ other
one_refusal law f names why other (inl (a, s, none, e)) (inl (b, t, none', e')) = sym e ∙ (ap (reason_at names) (one_read_stop law f names a b s t) ∙ e')
one_refusal law f names why other (inl (a, s, none, e)) (inr (reason, u, e')) = absurd (stop_or_unbound law f names a reason s u)
one_refusal law f names why other (inr (reason, u, e)) (inl (a, s, none, e')) = absurd (stop_or_unbound law f names a reason s u)
one_refusal law f names why other (inr (reason, u, e)) (inr (again, v, e')) =
    sym e ∙ (ap Unbound (one_reason law v.real v.lower v.upper v.bytes reason again (moved_reason law f names reason u v.real v.lower v.upper v.bytes v.read) v.unbound) ∙ e')

-- ---- Of files that agree with what was handed over

real_held : HandedLaws → (f : Files) (a : List Handed) (name : List ℕ) (built : List Handed) (board : PlainRealBoard) → AgreeWith f a built → IsRealBoardBy (HandedOver a built) name board → IsRealBoardBy (Held f) name board
real_held law f a name built board w is = (law.real f a built name w).board board is

module _ (law : HandedLaws) (f : Files) (names : BoundNames) where
  held_lower : (a b : List Handed) (Then : Source → Type 0) → AgreeWith f a b → ((built : List Handed) → AgreeWith f built b → Then (HandedOver built b) → Then (Held f)) → FitsRealThen (HandedOver a b) names.real (λ rest. FitsThen rest names.lower Then) → FitsRealThen (Held f) names.real (λ rest. FitsThen rest names.lower Then)
  held_lower a b Then w k x = held_then _ f a b (real_held law f a names.real) (λ rest. FitsThen rest names.lower Then) w (λ c v y. held_then _ f c b (board_held law.listed f c names.lower) Then v k y) x

  held_upper : (a b : List Handed) (Then : Source → Type 0) → AgreeWith f a b → ((built : List Handed) → AgreeWith f built b → Then (HandedOver built b) → Then (Held f)) → FitsRealThen (HandedOver a b) names.real (λ rest. FitsThen rest names.lower (λ more. FitsThen more names.upper Then)) → FitsRealThen (Held f) names.real (λ rest. FitsThen rest names.lower (λ more. FitsThen more names.upper Then))
  held_upper a b Then w k x = held_lower a b (λ more. FitsThen more names.upper Then) w (λ c v y. held_then _ f c b (board_held law.listed f c names.upper) Then v k y) x

  held_read : (a b : List Handed) (r : PlainRealBoard) (l u : PlainBoard) (x : List ℕ) → AgreeWith f a b → AreRead (HandedOver a b) names r l u x → AreRead (Held f) names r l u x
  held_read a b r l u x w h =
      held_fits (λ read z. IsRealBoardBy read names.real z) f a b (real_held law f a names.real) (λ rest. FitsBefore rest names.lower l (λ more. FitsBefore more names.upper u (λ last. IsFileBy last names.counts x))) w
      (λ c v y. held_fits (λ read z. IsBoardBy read names.lower z) f c b (board_held law.listed f c names.lower) (λ more. FitsBefore more names.upper u (λ last. IsFileBy last names.counts x)) v
      (λ d t z. held_fits (λ read z. IsBoardBy read names.upper z) f d b (board_held law.listed f d names.upper) (λ last. IsFileBy last names.counts x) t (λ e s i. (law.listed.holds f e b names.counts s).held x i) u z) l y) r h

  held_stop : (a b : List Handed) → AgreeWith f a b → (stop : ReadStop) → StopsReading (HandedOver a b) names stop → StopsReading (Held f) names stop
  held_stop a b w (at_real stop) s = (law.real f a b names.real w).stop stop s
  held_stop a b w (at_lower stop) s = held_then _ f a b (real_held law f a names.real) (λ rest. IsFirstStopBy rest names.lower stop) w (λ c v y. (law.listed.holds f c b names.lower v).stop stop y) s
  held_stop a b w (at_upper stop) s = held_lower a b (λ rest. IsFirstStopBy rest names.upper stop) w (λ c v y. (law.listed.holds f c b names.upper v).stop stop y) s
  held_stop a b w (at_counts stop) s = held_upper a b (λ rest. StopsFileBy rest names.counts stop) w (λ c v y. (law.listed.holds f c b names.counts v).untaken stop y) s

  held_comes : (a b : List Handed) → AgreeWith f a b → (name : List ℕ) → ComesReading (HandedOver a b) names name → ComesReading (Held f) names name
  held_comes a b w name (inl s) = inl ((law.real f a b names.real w).comes name s)
  held_comes a b w name (inr (inl s)) = inr (inl (held_then _ f a b (real_held law f a names.real) (λ rest. ComesBy rest names.lower name) w (λ c v y. (law.listed.holds f c b names.lower v).comes name y) s))
  held_comes a b w name (inr (inr (inl s))) = inr (inr (inl (held_lower a b (λ rest. ComesBy rest names.upper name) w (λ c v y. (law.listed.holds f c b names.upper v).comes name y) s)))
  held_comes a b w name (inr (inr (inr s))) = inr (inr (inr (held_upper a b (λ rest. NextBy rest names.counts name) w (λ c v y. y.0) s)))

  held_unbound : (a b : List Handed) → AgreeWith f a b → (reason : NoBounds) → AreUnbound (HandedOver a b) names reason → AreUnbound (Held f) names reason
  held_unbound a b w reason x = record { real = x.real; lower = x.lower; upper = x.upper; bytes = x.bytes; read = held_read a b x.real x.lower x.upper x.bytes w x.read; unbound = x.unbound }

  abbrev held_bounded : (a b : List Handed) → AgreeWith f a b → AreBounded (HandedOver a b) names → AreBounded (Held f) names
  held_bounded a b w x = record { real = x.real; lower = x.lower; upper = x.upper; bytes = x.bytes; read = held_read a b x.real x.lower x.upper x.bytes w x.read; bounded = x.bounded }

  held_manifest : (a b : List Handed) → AgreeWith f a b → (stop : Stop) (name : List ℕ) → StopsManifest (HandedOver a b) names stop name → StopsManifest (Held f) names stop name
  held_manifest a b w stop name (inl (e, s)) = inl (e, held_stop a b w (at_lower stop) s)
  held_manifest a b w stop name (inr (e, s)) = inr (e, held_stop a b w (at_upper stop) s)

  held_refuses : (a b : List Handed) → AgreeWith f a b → (why : Unanswered) → BetweenRefuses (HandedOver a b) names why → BetweenRefuses (Held f) names why
  held_refuses a b w (Bent name kind command byte) x = held_stop a b w (at_real (bent name kind command byte)) x
  held_refuses a b w (NotJson name) x = held_manifest a b w not_json name x
  held_refuses a b w (NotAManifest name) x = held_manifest a b w bad_manifest name x
  held_refuses a b w (BoundTooLarge name box) x = held_manifest a b w (frame_too_large box) name x
  held_refuses a b w (Unbound reason) x = held_unbound a b w reason x
  held_refuses a b w other x = absurd x

agreed_between : HandedLaws → (names : BoundNames) (held : Option Files) (a b : List Handed) → IfSome held (λ f. AgreeWith f a b) → HoldsHanded (Between names) held a b
agreed_between law names None a b w = record { answers = λ text status line x. tt; stops = λ stop s. tt; comes = λ name s. tt; refuses = λ why x. tt }
agreed_between law names (Some f) a b w = record {
  answers = λ text status line x. record { bounds = held_bounded law f names a b w x.bounds; decision = x.decision };
  stops = λ stop s. (s.0, held_stop law f names a b w s.0 s.1, s.2);
  comes = λ name s. held_comes law f names a b w name s;
  refuses = λ why x. held_refuses law f names a b w why x;
}

pub sound_between : (names : BoundNames) → Sound (Between names)
sound_between names = record {
  spelled = λ words is. is.spelled;
  names = λ words is. is.texts;
  asks = λ words e fits. record { spelled = e; texts = fits };
  read = λ fits. refl;
  text_of = λ f text status line x. x.bounds;
  no_text = λ law f stop s t. no_text law f names s.0 s.1 t;
  no_refused_text = λ law f why m t. no_decision law f names why (refused_for (Held f) names why m) t;
  one_answer = λ law f text said s t l k x y. one_decision law f names text said s t l k x y;
  one_stop = λ law f stop other x y. one_plain y.0 stop other (subst (λ (z : ReadStop). IsPlainStop z stop) (one_read_stop law f names x.0 y.0 x.1 y.1) x.2) y.2;
  one_reason = λ law f why other x y. one_refusal law f names why other (refused_for (Held f) names why x) (refused_for (Held f) names other y);
  stop_or_reason = λ law f stop why s m. stop_or_refused law f names s.0 stop why s.1 s.2 (refused_for (Held f) names why m);
  takes_what_comes = λ f name comes. tt;
  agrees = λ law held a b w. agreed_between law names held a b w;
}

-- What `run` says of it, by its words.
pub of_between : (held : Option Files) (words : List (String Global)) (P : Files → Command → Type 0) → ((c : Command) → Asks words c → OfFilesRead c held (λ files. P files c))
    → IfSome held (λ files. (names : BoundNames) → IsBetween words names → P files (Between names))
of_between None words P h = tt
of_between (Some files) words P h = λ names is. h (Between names) is

pub bounded_named : (held : Option Files) (words : List (String Global)) (A B : Type 0) (status : ℕ) → Completes held words A B status
    → IfSome held (λ files. (names : BoundNames) → IsBetween words names → AreBounded (Held files) names → (A → ⊥) → (B → ⊥) → (status ≤ 1) ⊎ (status ≡ 6))
bounded_named None words A B status h = tt
bounded_named (Some files) words A B status h = λ names is bounds calm quiet. h (Between names) is bounds (λ takes. calm) quiet
