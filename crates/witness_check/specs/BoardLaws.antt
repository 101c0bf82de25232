-- Laws of right verdicts, said of boards themselves: of their pieces, probes and names, and not of tables.
use Rattle.std.specs.Prelude.{◌≡◌, ◌≢◌, ◌⊎◌, ◌↔◌, ◌<◌, ℕ, false, List, length, Some, slice_get}
use Rattle.board_shapes.specs.Plain.{PlainBoard}
use Rattle.board_shapes.specs.Tables.{IsNear, IsTables}
use Rattle.board_shapes.specs.Touching.{ProbesJoined, UnderAt}
use Rattle.board_shapes.specs.declared.probe.Probe.{Probe}
use Rattle.tables.specs.Lists.{IsLeast}
use Rattle.tables.specs.Tables.{Tables}
use Rattle.verdict.specs.Forest.{Holds}
use Rattle.verdict.specs.Right.{HaveOneNet, IsOn, IsRight, is_unconnected}
use Rattle.verdict.specs.declared.verdict.Short.{Short}
use Rattle.verdict.specs.declared.verdict.Verdict.{Verdict}
use Rattle.witness_check.specs.Laws.{HasBranch, HasEnd, HasOther, HasPathAlong, IsSeated, IsWithoutNet}

-- The verdict is right for the board.
abbrev pub IsRightFor : PlainBoard → Verdict → Type 0
IsRightFor b v = (t : Tables) → IsTables b t → IsRight t v

-- Net numbers tell which probes are joined.
pub record NetNumbersJoinProbes (b : PlainBoard) (v : Verdict) : Type 0 where
  -- Two probes have the same net number exactly where a chain of touching pieces joins them.
  pub joined : (k l : ℕ) → HaveOneNet v k l ↔ ProbesJoined b k l
  -- A probe without a net is joined to none, not even to itself.
  pub unjoined : (k l : ℕ) → IsWithoutNet v k → ProbesJoined b k l → ⊥

-- Opens tell which of the board's names are split.
pub record OpensCoverNamesOf (b : PlainBoard) (v : Verdict) : Type 0 where
  -- Of two probes of a name other than `N/C` on different nets, one net at least is listed against, and both stand in an open.
  pub listed : (k l name n m : ℕ) (text : List ℕ) → slice_get b.names name ≡ Some text → is_unconnected text ≡ false → IsSeated v k name n → IsSeated v l name m → n ≢ m
      → (HasOther v name n ⊎ HasOther v name m) × HasEnd v name n × HasEnd v name m
  -- A piece that touches a piece of a net is in the net.
  pub apart : (i p q : ℕ) → Holds v.nets i p → IsNear b q p → Holds v.nets i q

-- Probe k has the name, which is one of the board's.
abbrev pub HasName : PlainBoard → ℕ → ℕ → Type 0
HasName b k name = (probe : Probe) × (slice_get b.probes k ≡ Some probe) × (probe.name ≡ name) × (name < length b.names)

-- A short has a branch of the name, from the first point of the name on its net. It begins at the least piece under that probe.
abbrev pub HasBranchAt : PlainBoard → Verdict → Short → ℕ → ℕ → Type 0
HasBranchAt b v s name first = HasBranch (λ probe piece. IsLeast (UnderAt b probe) (Some piece)) v s name first

-- A short with such a branch for each of two names is listed, and chains of touching pieces of its branches lead from the
-- first piece of each to that of the other.
abbrev pub HasPathOn : PlainBoard → Verdict → ℕ → ℕ → ℕ → Type 0
HasPathOn b v net name other = HasPathAlong (IsNear b) (λ probe piece. IsLeast (UnderAt b probe) (Some piece)) v net name other

-- Two joined probes of different names are on one net, whose short is listed with a path.
abbrev pub ShortsHavePathsOn : PlainBoard → Verdict → Type 0
ShortsHavePathsOn b v = (k l name other : ℕ) → HasName b k name → HasName b l other → name ≢ other → ProbesJoined b k l → (net : ℕ) × IsOn v k net × IsOn v l net × HasPathOn b v net name other
