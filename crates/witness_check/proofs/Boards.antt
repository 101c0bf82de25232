-- The laws of right verdicts, carried from a board's tables to the board.
use Rattle.std.proofs.Common.{◌≡◌, ◌↔◌, ℕ, List, [], ◌∷◌, length, ap, ◌∙◌, arith, slice_get}
use Rattle.std.proofs.lemmas.Option.{slice_get-map, slice_get_within}
use Rattle.std.specs.Option.{option_map}
use Rattle.board_shapes.specs.Plain.{PlainBoard}
use Rattle.board_shapes.specs.Tables.{IsNear, IsTables, point_of}
use Rattle.board_shapes.specs.Touching.{ProbesJoined, UnderAt}
use Rattle.tables.proofs.Listing.{stands_as, stands_where}
use Rattle.tables.specs.Chains.{IsChain}
use Rattle.tables.specs.Consistent.{AreConsistent, ArePointsJoined}
use Rattle.tables.specs.Tables.{Stands, Tables, TestPoint}
use Rattle.verdict.specs.Right.{IsRight}
use Rattle.verdict.specs.declared.verdict.Short.{Short}
use Rattle.verdict.specs.declared.verdict.Verdict.{Verdict}
use Rattle.witness_check.specs.BoardLaws.{HasBranchAt, HasName, HasPathOn, NetNumbersJoinProbes, OpensCoverNamesOf, ShortsHavePathsOn}
use Rattle.witness_check.specs.Laws.{AreJoinedWithin, HasBranchFrom, HasPath, IsNamed}
use Rattle.witness_check.proofs.Joins.{net_numbers_are_joins}
use Rattle.witness_check.proofs.Listed.{opens_cover_split_names}
use Rattle.witness_check.proofs.Paths.{shorts_have_paths}
use Rattle.witness_check.proofs.Tables.{near_as, near_where}

pub numbers_join : (b : PlainBoard) (v : Verdict) (t : Tables) → AreConsistent t → ((k l : ℕ) → ProbesJoined b k l ↔ ArePointsJoined t k l) → IsRight t v → NetNumbersJoinProbes b v
numbers_join b v t tables joins right =
    let n = net_numbers_are_joins t v tables right in
    record {
      joined = λ k l. ((λ one. (joins k l).1 ((n.joined k l).0 one)), λ joined. (n.joined k l).1 ((joins k l).0 joined));
      unjoined = λ k l without joined. n.unjoined k l without ((joins k l).0 joined);
    }

pub opens_cover : (b : PlainBoard) (v : Verdict) (t : Tables) → IsTables b t → AreConsistent t → IsRight t v → OpensCoverNamesOf b v
opens_cover b v t is tables right =
    let o = opens_cover_split_names t v tables right in
    record {
      listed = λ k l name n m text there. o.listed k l name n m text (ap (λ (ns : List (List ℕ)). slice_get ns name) is.names ∙ there);
      apart = λ i p q held touch. o.apart i p q held (near_where b t is q p touch);
    }

-- ---- Shorts

under_as : (b : PlainBoard) (t : Tables) → IsTables b t → (k p : ℕ) → Stands t.beneath k p → UnderAt b k p
under_as b t is k p stands = stands_as (length b.probes) (UnderAt b) t.beneath is.beneath k p stands

under_where : (b : PlainBoard) (t : Tables) → IsTables b t → (k p : ℕ) → UnderAt b k p → Stands t.beneath k p
under_where b t is k p under = stands_where (length b.probes) (UnderAt b) t.beneath is.beneath k p (slice_get_within b.probes k under.probe under.probe_is) under

pub chain_along : (near more : ℕ → ℕ → Type 0) → ((p q : ℕ) → near p q → more p q) → (chain : List ℕ) (p q : ℕ) → IsChain near p chain q → IsChain more p chain q
chain_along near more along [] p q leads = leads
chain_along near more along (next ∷ rest) p q (here, leads) = (along p next here, chain_along near more along rest next q leads)

within_along : (b : PlainBoard) (t : Tables) → IsTables b t → (pieces : List ℕ) (p q : ℕ) → AreJoinedWithin (Stands t.near) pieces p q → AreJoinedWithin (IsNear b) pieces p q
within_along b t is pieces p q joined = record { chain = joined.chain; leads = chain_along (Stands t.near) (IsNear b) (near_as b t is) joined.chain p q joined.leads; within = joined.within }

branch_at : (b : PlainBoard) (v : Verdict) (t : Tables) → IsTables b t → (s : Short) (name first : ℕ) → HasBranchFrom t v s name first → HasBranchAt b v s name first
branch_at b v t is s name first has = record {
  branch = has.branch;
  listed = has.listed;
  named = has.named;
  probe = has.probe;
  begins = has.begins;
  least = (under_as b t is has.branch.probe first has.least.0, λ q under. has.least.1 q (under_where b t is has.branch.probe q under));
}

named_as : (b : PlainBoard) (t : Tables) → IsTables b t → (k name : ℕ) → HasName b k name → IsNamed t k name
named_as b t is k name (probe, there, named, below) =
    let many : length t.names ≡ length b.names = ap (λ (ns : List (List ℕ)). length ns) is.names in
    (point_of probe, ap (λ (ps : List TestPoint). slice_get ps k) is.points ∙ (slice_get-map point_of b.probes k ∙ ap (option_map point_of) there), named, omega arith)

path_on : (b : PlainBoard) (v : Verdict) (t : Tables) → IsTables b t → (net name other : ℕ) → HasPath t v net name other → HasPathOn b v net name other
path_on b v t is net name other has = record {
  short = has.short;
  listed = has.listed;
  number = has.number;
  first = has.first;
  last = has.last;
  one = branch_at b v t is has.short name has.first has.one;
  two = branch_at b v t is has.short other has.last has.two;
  forth = within_along b t is _ has.first has.last has.forth;
  back = within_along b t is _ has.last has.first has.back;
}

pub shorts_have : (b : PlainBoard) (v : Verdict) (t : Tables) → IsTables b t → AreConsistent t → ((k l : ℕ) → ProbesJoined b k l ↔ ArePointsJoined t k l) → IsRight t v → ShortsHavePathsOn b v
shorts_have b v t is tables joins right k l name other one two differ joined =
    let found = shorts_have_paths t v tables right k l name other (named_as b t is k name one) (named_as b t is l other two) differ ((joins k l).0 joined) in
    (found.0, found.1, found.2, path_on b v t is found.0 name other found.3)
