-- From what the stages of a reading give to what `between` reads, and to why it does not.
use Rattle.std.proofs.Common.{◌≡◌, ◌≤◌, inl, inr, ℕ, List, length, Some, slice_get, option_map, ap, refl, sym, subst, ◌∙◌, arith}
use Rattle.std.proofs.lemmas.Option.{slice_get-map, slice_get_within}
use Rattle.arc_covers.specs.Faults.{IsBoundsFault}
use Rattle.arc_covers.specs.Taken.{AreTaken}
use Rattle.arc_covers.specs.declared.side.Side.{Side}
use Rattle.arc_covers.specs.declared.between.BoundsFault.{BoundsFault}
use Rattle.arc_covers.specs.declared.between.BoundsFault.TheVariants as bounds
use Rattle.real_copper.specs.Shapes.{PlainReal, plain_real, plain_reals}
use Rattle.real_shapes.specs.declared.RealShape.{RealShape}
use Rattle.board_io.specs.Handed.{Grows, Handed}
use Rattle.board_io.specs.Package.{IsFaultless}
use Rattle.board_package.proofs.Lift.{faultless_both, kept, kept_after}
use Rattle.board_package.proofs.Staging.{carry}
use Rattle.board_package.specs.Causes.{HandedCause, HandedCauseBy, KeepsFaults, KeepsFaultsBy}
use Rattle.board_package.specs.HandedBoard.{ComesHanded, ComesNext, IsBoardHanded, IsFirstStopHanded, StopsHanding}
use Rattle.board_package.specs.PackageBoard.{Stop}
use Rattle.board_package.specs.declared.fault.BuildFault.{BuildFault}
use Rattle.board_package.specs.declared.fault.BuildFault.TheVariants as build
use Rattle.board_shapes.specs.Pieces.{PlainPiece}
use Rattle.board_shapes.specs.Plain.{PlainBoard}
use Rattle.board_shapes.specs.declared.placed.Placed.{Placed}
use Rattle.boardnet.specs.Answers.{behind_of, unreal_of}
use Rattle.boardnet.specs.Bounded.{AreBoundedBy, AreCounted, ComesFrom, IsUnboundBy}
use Rattle.reports.specs.Decision.{IsDecisionOn}
use Rattle.boardnet.specs.Command.{BoundNames}
use Rattle.boardnet.specs.Ends.{StopsFor}
use Rattle.boardnet.specs.HandedOutcome.{HasHandedReason}
use Rattle.boardnet.specs.Kept.{LeftBy}
use Rattle.boardnet.specs.Outcome.{ComesFor, HandedOver, IsDecided, Source}
use Rattle.boardnet.specs.Unbounded.{IsBehindReason, IsInRange, IsNotTaken, IsUnboundedBy}
use Rattle.boardnet.specs.Words.{Between}
use Rattle.boardnet.specs.commands.Between.{AreRead, IsOfFile, at_counts, at_lower, at_real, at_upper}
use Rattle.boardnet.specs.declared.answer.Unanswered.{Unanswered}
use Rattle.boardnet.specs.declared.answer.Unanswered.TheVariants.{Stopped, NotJson, NotAManifest, BoundTooLarge, Unbound}
use Rattle.real_package.specs.HandedReal.{IsFirstRealStopHanded, IsRealBoardHanded, RealComesHanded}
use Rattle.real_package.specs.RealBoards.{PlainRealBoard}
use Rattle.real_package.specs.RealCauses.{real_faults}
use Rattle.real_package.specs.RealPackage.{unbuilt}
use Rattle.real_package.specs.declared.fault.RealBuildFault.{RealBuildFault}
use Rattle.real_package.specs.declared.fault.RealBuildFault.TheVariants as real

-- ---- What is left

pub left_after : (a : ℕ) (l : List ℕ) (b : ℕ) (m : List ℕ) (c : ℕ) (n : List ℕ) (why : Unanswered) → IsFaultless a l b m → LeftBy b m c n why → LeftBy a l c n why
left_after a l b m c n (Stopped why) h k = kept_after a l b m c n why h k
left_after a l b m c n other h k = faultless_both a l b m c n h k

pub left_real : (before : ℕ) (was : List ℕ) (now : ℕ) (lost : List ℕ) (why : RealBuildFault) → KeepsFaultsBy real_faults before was now lost why → LeftBy before was now lost (unreal_of why)
left_real before was now lost (real.Build why) h = h
left_real before was now lost (real.Arc name kind number byte) h = h

pub left_behind : (name : List ℕ) (before : ℕ) (was : List ℕ) (now : ℕ) (lost : List ℕ) (why : BuildFault) → KeepsFaults before was now lost why → LeftBy before was now lost (behind_of name why)
left_behind name before was now lost build.NotJson h = h
left_behind name before was now lost build.BadManifest h = h
left_behind name before was now lost (build.FrameTooLarge box) h = h
left_behind name before was now lost other h = h

-- ---- Why a package behind the first gives no board

of_file : (S : Stop → Type 0) (C : List ℕ → Type 0) (before now : ℕ) (lost name : List ℕ) (why : BuildFault) → HandedCause S C before now lost why → IsBehindReason name S C before now lost (behind_of name why)
of_file S C before now lost name build.NotJson h = (refl, h)
of_file S C before now lost name build.BadManifest h = (refl, h)
of_file S C before now lost name (build.Longer file) h = (h, tt)
of_file S C before now lost name (build.CannotRead file) h = h
of_file S C before now lost name (build.Layer file kind command at) h = (h, tt)
of_file S C before now lost name (build.Drill file kind line at) h = (h, tt)
of_file S C before now lost name (build.Netlist file kind line) h = (h, tt)
of_file S C before now lost name (build.FrameTooLarge box) h = (refl, h)
of_file S C before now lost name build.NoMemory h = tt

pub behind_reason : (a b : List Handed) (name : List ℕ) (before now : ℕ) (lost : List ℕ) (why : BuildFault)
    → HandedCause (λ stop. IsFirstStopHanded a b name stop) (λ other. ComesHanded a b name other) before now lost why
    → IsBehindReason name (λ stop. IsFirstStopHanded a b name stop) (λ other. ComesHanded a b name other) before now lost (behind_of name why)
behind_reason a b name before now lost why h = of_file (λ stop. IsFirstStopHanded a b name stop) (λ other. ComesHanded a b name other) before now lost name why h

-- ---- Why nothing is read

pub real_reason : (names : BoundNames) (a b : List Handed) (before now : ℕ) (lost : List ℕ) (why : RealBuildFault)
    → HandedCauseBy real_faults (λ stop. IsFirstRealStopHanded a b names.real stop) (λ name. RealComesHanded a b names.real name) before now lost why → HasHandedReason (HandedOver a b) (Between names) before now lost (unreal_of why)
real_reason names a b before now lost (real.Build why) h =
    carry (λ stop. IsFirstRealStopHanded a b names.real (unbuilt stop)) (λ stop. StopsFor (HandedOver a b) (Between names) stop) (λ name. RealComesHanded a b names.real name) (λ name. ComesFor (HandedOver a b) (Between names) name) before before now lost why
    (record { stops = λ stop s. (at_real (unbuilt stop), s, refl); comes = λ name s. inl s }) (omega arith) h
real_reason names a b before now lost (real.Arc name kind number byte) h = h

pub lower_reason : (names : BoundNames) (a b c : List Handed) (r : PlainRealBoard) (before mid now : ℕ) (lost : List ℕ) (why : Unanswered) → before ≤ mid → Grows a b → Grows b c → IsRealBoardHanded a b names.real r
    → IsBehindReason names.lower (λ stop. IsFirstStopHanded b c names.lower stop) (λ name. ComesHanded b c names.lower name) mid now lost why → HasHandedReason (HandedOver a c) (Between names) before now lost why
lower_reason names a b c r before mid now lost (Stopped why) le g h is s =
    carry (λ stop. IsFirstStopHanded b c names.lower stop × IsOfFile stop) (λ stop. StopsFor (HandedOver a c) (Between names) stop) (λ name. ComesHanded b c names.lower name) (λ name. ComesFor (HandedOver a c) (Between names) name) before mid now lost why
    (record { stops = λ stop x. (at_lower stop, record { board = r; behind = (b, (g, h), is, x.0) }, (refl, x.1)); comes = λ name x. inr (inl (record { board = r; behind = (b, (g, h), is, x) })) }) le s
lower_reason names a b c r before mid now lost (NotJson name) le g h is (e, s) = inl (e, record { board = r; behind = (b, (g, h), is, s) })
lower_reason names a b c r before mid now lost (NotAManifest name) le g h is (e, s) = inl (e, record { board = r; behind = (b, (g, h), is, s) })
lower_reason names a b c r before mid now lost (BoundTooLarge name box) le g h is (e, s) = inl (e, record { board = r; behind = (b, (g, h), is, s) })
lower_reason names a b c r before mid now lost other le g h is s = absurd s

pub upper_reason : (names : BoundNames) (a b c d : List Handed) (r : PlainRealBoard) (l : PlainBoard) (before mid now : ℕ) (lost : List ℕ) (why : Unanswered) → before ≤ mid → Grows a b → Grows b c → Grows c d → Grows b d → IsRealBoardHanded a b names.real r → IsBoardHanded b c names.lower l
    → IsBehindReason names.upper (λ stop. IsFirstStopHanded c d names.upper stop) (λ name. ComesHanded c d names.upper name) mid now lost why → HasHandedReason (HandedOver a d) (Between names) before now lost why
upper_reason names a b c d r l before mid now lost (Stopped why) le g h i far is it s =
    carry (λ stop. IsFirstStopHanded c d names.upper stop × IsOfFile stop) (λ stop. StopsFor (HandedOver a d) (Between names) stop) (λ name. ComesHanded c d names.upper name) (λ name. ComesFor (HandedOver a d) (Between names) name) before mid now lost why
    (record {
      stops = λ stop x. (at_upper stop, record { board = r; behind = (b, (g, far), is, record { board = l; behind = (c, (h, i), it, x.0) }) }, (refl, x.1));
      comes = λ name x. inr (inr (inl (record { board = r; behind = (b, (g, far), is, record { board = l; behind = (c, (h, i), it, x) }) })));
    }) le s
upper_reason names a b c d r l before mid now lost (NotJson name) le g h i far is it (e, s) = inr (e, record { board = r; behind = (b, (g, far), is, record { board = l; behind = (c, (h, i), it, s) }) })
upper_reason names a b c d r l before mid now lost (NotAManifest name) le g h i far is it (e, s) = inr (e, record { board = r; behind = (b, (g, far), is, record { board = l; behind = (c, (h, i), it, s) }) })
upper_reason names a b c d r l before mid now lost (BoundTooLarge name box) le g h i far is it (e, s) = inr (e, record { board = r; behind = (b, (g, far), is, record { board = l; behind = (c, (h, i), it, s) }) })
upper_reason names a b c d r l before mid now lost other le g h i far is it s = absurd s

pub counts_reason : (names : BoundNames) (a b c d e : List Handed) (r : PlainRealBoard) (l u : PlainBoard) (before mid now : ℕ) (lost : List ℕ) (why : BuildFault) → before ≤ mid → Grows a b → Grows b c → Grows c d → Grows d e → Grows b e → Grows c e
    → IsRealBoardHanded a b names.real r → IsBoardHanded b c names.lower l → IsBoardHanded c d names.upper u
    → HandedCause (λ stop. StopsHanding d e names.counts stop) (λ name. ComesNext d e names.counts name) mid now lost why → HasHandedReason (HandedOver a e) (Between names) before now lost (Stopped why)
counts_reason names a b c d e r l u before mid now lost why le g h i j far near is it at s =
    carry (λ stop. StopsHanding d e names.counts stop) (λ stop. StopsFor (HandedOver a e) (Between names) stop) (λ name. ComesNext d e names.counts name) (λ name. ComesFor (HandedOver a e) (Between names) name) before mid now lost why
    (record {
      stops = λ stop x. (at_counts stop, record { board = r; behind = (b, (g, far), is, record { board = l; behind = (c, (h, near), it, record { board = u; behind = (d, (i, j), at, x) }) }) }, refl);
      comes = λ name x. inr (inr (inr (record { board = r; behind = (b, (g, far), is, record { board = l; behind = (c, (h, near), it, record { board = u; behind = (d, (i, j), at, x) }) }) })));
    }) le s

-- what is left where nothing changed, whatever the reason
pub left_calm : (a : ℕ) (l : List ℕ) (b : ℕ) (m : List ℕ) (why : Unanswered) → IsFaultless a l b m → LeftBy a l b m why
left_calm a l b m (Stopped why) h = kept a l b m why h
left_calm a l b m other h = h

-- ---- Why the boards are no bounds

-- a fault of bounds is of a real piece
pub in_range : (pieces : List (Placed RealShape)) (lower upper : List PlainPiece) (lc uc : List ℕ) (why : BoundsFault) → IsBoundsFault pieces lc lower uc upper why → IsInRange (length pieces) why
in_range pieces lower upper lc uc (bounds.Counts side) h = tt
in_range pieces lower upper lc uc (bounds.Piece side n) h = slice_get_within pieces n h.piece h.there
in_range pieces lower upper lc uc bounds.NoMemory h = tt

-- the real piece of a number comes from its origin
pub comes_from : (real : PlainRealBoard) (pieces : List (Placed RealShape)) (n : ℕ) (piece : Placed RealShape) → plain_reals pieces ≡ real.pieces → slice_get pieces n ≡ Some piece → ComesFrom real n piece.origin
comes_from real pieces n piece e at =
    (plain_real piece, ap (λ (xs : List PlainReal). slice_get xs n) (sym e) ∙ (slice_get-map plain_real pieces n ∙ ap (option_map plain_real) at), refl)

pub not_taken : (r : PlainRealBoard) (l u : PlainBoard) (bytes : List ℕ) (c : AreCounted r l u bytes) (why : BoundsFault) (given : Unanswered)
    → IsBoundsFault c.pieces c.lower_counts l.pieces c.upper_counts u.pieces why → IsNotTaken r why given → IsUnboundedBy r l u bytes given
not_taken r l u bytes c (bounds.Counts side) given h is = subst (IsUnboundedBy r l u bytes) (sym is) (record { counted = c; off = h })
not_taken r l u bytes c (bounds.Piece side n) given h (origin, is, from) = subst (IsUnboundedBy r l u bytes) (sym is) (n, record { counted = c; off = h }, from)
not_taken r l u bytes c bounds.NoMemory given h is = subst (IsUnboundedBy r l u bytes) (sym is) refl

-- ---- What is answered

pub unbounded_reason : (source : Source) (names : BoundNames) (r : PlainRealBoard) (l u : PlainBoard) (bytes text : List ℕ) (before now : ℕ) (lost : List ℕ) (why : Unanswered)
    → AreRead source names r l u bytes → text ≡ bytes → IsUnboundedBy r l u text why → HasHandedReason source (Between names) before now lost why
unbounded_reason source names r l u bytes text before now lost (Unbound reason) is e h = record { real = r; lower = l; upper = u; bytes = bytes; read = is; unbound = subst (λ (z : List ℕ). IsUnboundBy r l u z reason) e h }
unbounded_reason source names r l u bytes text before now lost (Stopped why) is e h = subst (λ (w : BuildFault). HasHandedReason source (Between names) before now lost (Stopped w)) (sym h) tt
unbounded_reason source names r l u bytes text before now lost other is e h = absurd h

pub decided_is : (source : Source) (names : BoundNames) (r : PlainRealBoard) (l u : PlainBoard) (bytes seen text line : List ℕ) (status : ℕ)
    → AreRead source names r l u bytes → seen ≡ bytes → AreBoundedBy r l u seen → IsDecisionOn (length r.pieces) l u text status line → IsDecided source names text status line
decided_is source names r l u bytes seen text line status is e b d = record {
  bounds = record { real = r; lower = l; upper = u; bytes = bytes; read = is; bounded = subst (AreBoundedBy r l u) e b };
  decision = d;
}

-- what is taken of the same pieces by the same counts
pub taken_moved : (side : Side) (xs ys : List (Placed RealShape)) (c d : List ℕ) (p q : List PlainPiece) → xs ≡ ys → c ≡ d → p ≡ q → AreTaken side xs c p → AreTaken side ys d q
taken_moved side xs ys c d p q e f h t = subst (λ (z : List PlainPiece). AreTaken side ys d z) h (subst (λ (z : List ℕ). AreTaken side ys z p) f (subst (λ (z : List (Placed RealShape)). AreTaken side z c p) e t))

pub fault_moved : (xs ys : List (Placed RealShape)) (c d : List ℕ) (p q : List PlainPiece) (c' d' : List ℕ) (p' q' : List PlainPiece) (why : BoundsFault) → xs ≡ ys → c ≡ d → p ≡ q → c' ≡ d' → p' ≡ q' → IsBoundsFault xs c p c' p' why → IsBoundsFault ys d q d' q' why
fault_moved xs ys c d p q c' d' p' q' why e f h f' h' t =
    subst (λ (z : List PlainPiece). IsBoundsFault ys d q d' z why) h' (subst (λ (z : List ℕ). IsBoundsFault ys d q z p' why) f'
    (subst (λ (z : List PlainPiece). IsBoundsFault ys d z c' p' why) h (subst (λ (z : List ℕ). IsBoundsFault ys z p c' p' why) f (subst (λ (z : List (Placed RealShape)). IsBoundsFault z c p c' p' why) e t))))
