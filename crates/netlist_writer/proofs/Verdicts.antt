-- With the written netlist nothing is amiss on the board.
use Rattle.std.proofs.Common.{◌≡◌, ◌⊎◌, inl, inr, ℕ, zero, suc, ◌^◌, ◌<◌, List, [], ◌∷◌, length, map, slice_get, Some, refl, sym, ap, ◌∙◌, subst, arith}
use Rattle.std.proofs.lemmas.List.Elements.{All-weaker, recursion_from_All}
use Rattle.std.proofs.lemmas.Option.{slice_get_within}
use Rattle.std.specs.List.{AllByRecursion}
use Rattle.tables.proofs.Listing.{stands_where}
use Rattle.tables.specs.Chains.{AreJoined}
use Rattle.tables.specs.Consistent.{AreConsistent, ArePointsJoined}
use Rattle.tables.specs.Tables.{Tables, TestPoint, Stands}
use Rattle.board_shapes.proofs.BoardTables.{tables_are_consistent}
use Rattle.board_shapes.specs.declared.probe.Probe.{Probe}
use Rattle.board_shapes.specs.Lawful.{IsSpan}
use Rattle.board_shapes.specs.Pieces.{PlainPiece}
use Rattle.board_shapes.specs.Plain.{PlainBoard, with_netlist}
use Rattle.board_shapes.specs.Tables.{IsNear, IsTables, point_of}
use Rattle.board_shapes.specs.Touching.{IsUnder, TouchAt, UnderAt}
use Rattle.ipc356_records.specs.NetlistFile.{Netlist}
use Rattle.ipc356_records.proofs.OneAnswer.{one_answer}
use Rattle.verdict.specs.declared.verdict.PointLine.{PointLine}
use Rattle.verdict.specs.declared.verdict.Twig.{Twig}
use Rattle.verdict.specs.declared.verdict.Verdict.{Verdict}
use Rattle.verdict.proofs.Trees.{tree_along}
use Rattle.verdict.specs.Forest.{AreTrees, Holds, IsForest, IsTree}
use Rattle.verdict.specs.ReportText.{Agrees}
use Rattle.verdict.specs.Right.{AreLines, Bare, HaveOneNet, IsRight, Opens, Points, Shorts}
use Rattle.witness_check.proofs.Chains.{stays}
use Rattle.witness_check.proofs.Joins.{net_numbers_are_joins, point_on}
use Rattle.witness_check.proofs.Tables.{apart_where, once_where, trees_where}
use Rattle.netlist_writer.specs.TestLine.{net_name}
use Rattle.netlist_writer.specs.WrittenNetlist.{net_of, places_from, written_netlist_of}
use Rattle.netlist_writer.specs.Laws.{BoardsAreWritable, IsWritable, WrittenNetlistAgrees, names_written, present, probes_written}
use Rattle.netlist_writer.proofs.Agreeing.{AreApart, AreTogether, HasNameOn, IsNetted, no_outlines, none_bare, none_open, none_shorts}
use Rattle.netlist_writer.proofs.Names.{AreDistinct, none_once, once_after, one_number}
use Rattle.netlist_writer.proofs.Nets.{few_nets, found_net, one_net_joins}
use Rattle.netlist_writer.proofs.WrittenRead.{netlist}
use Rattle.netlist_writer.proofs.Writable.{net_few, written_netlist_reads}
use Rattle.netlist_writer.proofs.Under.{TellsNet, tells_all}

-- ---- The board with other probes

touch_there : (b : PlainBoard) (probes : List Probe) (names : List (List ℕ)) (i j : ℕ) → TouchAt b i j → TouchAt (with_netlist b probes names) i j
touch_there b probes names i j t = record { first = t.first; second = t.second; first_is = t.first_is; second_is = t.second_is; touch = t.touch }

touch_here : (b : PlainBoard) (probes : List Probe) (names : List (List ℕ)) (i j : ℕ) → TouchAt (with_netlist b probes names) i j → TouchAt b i j
touch_here b probes names i j t = record { first = t.first; second = t.second; first_is = t.first_is; second_is = t.second_is; touch = t.touch }

-- the nets are those of its tables
nets_there : (b : PlainBoard) (probes : List Probe) (names : List (List ℕ)) (t : Tables) (nets : List (List Twig)) → IsTables (with_netlist b probes names) t → IsForest (length b.pieces) (IsNear b) nets → IsForest (length t.near) (Stands t.near) nets
nets_there b probes names t nets is forest =
    let c : PlainBoard = with_netlist b probes names in
    let there : (p q : ℕ) → IsNear b p q → IsNear c p q = λ p q n. (n.0, touch_there b probes names p q n.1) in
    let trees : AreTrees (length c.pieces) (IsNear c) nets = record {
      known = forest.trees.known;
      trees = All-weaker (IsTree (IsNear b)) (IsTree (IsNear c)) (λ net. tree_along (IsNear b) (IsNear c) there net) nets forest.trees.trees;
      rising = forest.trees.rising;
    } in
    record {
      trees = trees_where c t nets is trees;
      covers = once_where c t nets is forest.covers;
      apart = apart_where c t nets is (λ i j p q h k n. forest.apart i j p q h k (n.0, touch_here b probes names p q n.1));
    }

-- ---- Lines and probes

-- the line of a point has the name of its probe
record HasProbe (P : Probe → Type 0) (probes : List Probe) (k : ℕ) (line : PointLine) : Type 0 where
  probe : Probe
  there : slice_get probes k ≡ Some probe
  named : line.name ≡ probe.name
  tells : P probe

probe_of : (P : Probe → Type 0) (nets : List (List Twig)) (beneath : List (List ℕ)) (probes : List Probe) (lines : List PointLine) (k : ℕ) (line : PointLine) → AreLines nets beneath (map point_of probes) lines → AllByRecursion P probes → slice_get lines k ≡ Some line → HasProbe P probes k line
probe_of P nets beneath probes [] k line all tells here = cc
probe_of P nets [] [] (l ∷ lines) k line all tells here = absurd all
probe_of P nets [] (p ∷ probes) (l ∷ lines) k line all tells here = absurd all
probe_of P nets (u ∷ beneath) [] (l ∷ lines) k line all tells here = absurd all
probe_of P nets (u ∷ beneath) (p ∷ probes) (l ∷ lines) zero line all tells here =
    let same : l ≡ line = cc in
    record { probe = p; there = refl; named = ap (λ (x : PointLine). x.name) (sym same) ∙ all.0.name; tells = tells.0 }
probe_of P nets (u ∷ beneath) (p ∷ probes) (l ∷ lines) (suc k) line all tells here =
    let h = probe_of P nets beneath probes lines k line all.1 tells.1 here in
    record { probe = h.probe; there = h.there; named = h.named; tells = h.tells }

each_of : {X : Type 0} (P : X → Type 0) (xs : List X) → ((k : ℕ) (x : X) → slice_get xs k ≡ Some x → P x) → AllByRecursion P xs
each_of P [] h = tt
each_of P (x ∷ xs) h = (h 0 x refl, each_of P xs (λ k y e. h (suc k) y e))

together_of : (lines : List PointLine) → ((j k : ℕ) (l m : PointLine) → slice_get lines j ≡ Some l → slice_get lines k ≡ Some m → m.name ≡ l.name → m.net ≡ l.net) → AreTogether lines
together_of [] h = tt
together_of (line ∷ lines) h = (each_of (HasNameOn line.name line.net) lines (λ k m e same. h 0 (suc k) line m refl e same), together_of lines (λ j k l m d e same. h (suc j) (suc k) l m d e same))

-- ---- The verdict

-- what is at hand: tables, a right verdict, the nets, and probes that tell their pieces' nets
record IsAtHand (pieces : List PlainPiece) (nets : List (List Twig)) (probes : List Probe) (names : List (List ℕ)) (t : Tables) (v : Verdict) : Type 0 where
  consistent : AreConsistent t
  right : IsRight t v
  forest : IsForest (length t.near) (Stands t.near) nets
  many : length pieces ≡ length t.near
  few : length nets < 2 ^ 32
  once : AreDistinct names
  told : (k : ℕ) (line : PointLine) → slice_get v.points k ≡ Some line → HasProbe (TellsNet nets pieces names) probes k line
  beneath : (k : ℕ) (probe : Probe) (p : ℕ) (piece : PlainPiece) → slice_get probes k ≡ Some probe → slice_get pieces p ≡ Some piece → IsUnder piece probe → Stands t.beneath k p

-- a line's piece, under its point, and in the net whose name the line has
record HasPiece (nets : List (List Twig)) (names : List (List ℕ)) (t : Tables) (k : ℕ) (line : PointLine) : Type 0 where
  p : ℕ
  under : Stands t.beneath k p
  held : Holds nets (net_of nets p) p
  named : slice_get names line.name ≡ Some (net_name (net_of nets p))

piece_of_line : (pieces : List PlainPiece) (nets : List (List Twig)) (probes : List Probe) (names : List (List ℕ)) (t : Tables) (v : Verdict) → IsAtHand pieces nets probes names t v → (k : ℕ) (line : PointLine) → slice_get v.points k ≡ Some line → HasPiece nets names t k line
piece_of_line pieces nets probes names t v a k line here =
    let h = a.told k line here in
    let p : ℕ = h.tells.p in
    let many = a.many in
    let within = slice_get_within pieces p h.tells.piece h.tells.there in
    let home = a.forest.covers.held p (omega (arith, many, within)) in
    record {
      p = p;
      under = a.beneath k h.probe p h.tells.piece h.there h.tells.there h.tells.under;
      held = found_net nets home.0 p home.1;
      named = ap (slice_get names) h.named ∙ h.tells.named;
    }

same_line : (lines : List PointLine) (k : ℕ) (l m : PointLine) → slice_get lines k ≡ Some l → slice_get lines k ≡ Some m → l ≡ m
same_line lines k l m h g = (let e = sym h ∙ g in cc)

same_text : (x y : List ℕ) → Some x ≡ Some y → x ≡ y
same_text x y h = cc

netted : (pieces : List PlainPiece) (nets : List (List Twig)) (probes : List Probe) (names : List (List ℕ)) (t : Tables) (v : Verdict) → IsAtHand pieces nets probes names t v → (k : ℕ) (line : PointLine) → slice_get v.points k ≡ Some line → IsNetted line
netted pieces nets probes names t v a k line here =
    let h = piece_of_line pieces nets probes names t v a k line here in
    let on = point_on t v a.right k h.p h.under in
    (on.0, ap (λ (x : PointLine). x.net) (same_line v.points k line on.1.0 here on.1.1) ∙ on.1.2)

-- lines of one name have one net
together : (pieces : List PlainPiece) (nets : List (List Twig)) (probes : List Probe) (names : List (List ℕ)) (t : Tables) (v : Verdict) → IsAtHand pieces nets probes names t v
    → (j k : ℕ) (l m : PointLine) → slice_get v.points j ≡ Some l → slice_get v.points k ≡ Some m → m.name ≡ l.name → m.net ≡ l.net
together pieces nets probes names t v a j k l m there here same =
    let g = piece_of_line pieces nets probes names t v a j l there in
    let h = piece_of_line pieces nets probes names t v a k m here in
    let texts : net_name (net_of nets g.p) ≡ net_name (net_of nets h.p) = same_text (net_name (net_of nets g.p)) (net_name (net_of nets h.p)) (sym g.named ∙ (ap (slice_get names) (sym same) ∙ h.named)) in
    let one : net_of nets g.p ≡ net_of nets h.p = one_number (net_of nets g.p) (net_of nets h.p) (net_few nets g.p a.few) (net_few nets h.p a.few) texts in
    let also : Holds nets (net_of nets h.p) g.p = subst (λ (n : ℕ). Holds nets n g.p) one g.held in
    let joined : AreJoined (Stands t.near) g.p h.p = one_net_joins (length t.near) (Stands t.near) nets a.forest.trees a.consistent.both (net_of nets h.p) g.p h.p also h.held in
    let points : ArePointsJoined t j k = record { p = g.p; q = h.p; first = g.under; last = h.under; joined = joined } in
    let on : HaveOneNet v j k = ((net_numbers_are_joins t v a.consistent a.right).joined j k).1 points in
    let left : l.net ≡ Some on.0 = ap (λ (x : PointLine). x.net) (same_line v.points j l on.1.0 there on.1.1) ∙ on.1.2 in
    let right : m.net ≡ Some on.0 = ap (λ (x : PointLine). x.net) (same_line v.points k m on.2.0 here on.2.1) ∙ on.2.2 in
    right ∙ sym left

-- from a piece of a net to one that is the same or near
step_in : (t : Tables) (nets : List (List Twig)) → AreConsistent t → IsForest (length t.near) (Stands t.near) nets → (n p q : ℕ) → (p ≡ q) ⊎ Stands t.near p q → Holds nets n p → Holds nets n q
step_in t nets consistent forest n p q (inl same) held = subst (λ (x : ℕ). Holds nets n x) same held
step_in t nets consistent forest n p q (inr touch) held = stays (length t.near) (Stands t.near) nets forest consistent.known n p q (q ∷ []) held (touch, refl)

-- lines of one net have one name
apart : (pieces : List PlainPiece) (nets : List (List Twig)) (probes : List Probe) (names : List (List ℕ)) (t : Tables) (v : Verdict) → IsAtHand pieces nets probes names t v → AreApart v.points
apart pieces nets probes names t v a j k l m net there here left right =
    let g = piece_of_line pieces nets probes names t v a j l there in
    let h = piece_of_line pieces nets probes names t v a k m here in
    let points : ArePointsJoined t j k = ((net_numbers_are_joins t v a.consistent a.right).joined j k).0 (net, (l, there, left), (m, here, right)) in
    let n : ℕ = net_of nets g.p in
    let one : Holds nets n points.p = step_in t nets a.consistent a.forest n g.p points.p (a.consistent.close j g.p points.p g.under points.first) g.held in
    let two : Holds nets n points.q = stays (length t.near) (Stands t.near) nets a.forest a.consistent.known n points.p points.q points.joined.0 one points.joined.1 in
    let three : Holds nets n h.p = step_in t nets a.consistent a.forest n points.q h.p (a.consistent.close k points.q h.p points.last h.under) two in
    let same : n ≡ net_of nets h.p = a.forest.covers.one_net n (net_of nets h.p) h.p three h.held in
    a.once l.name m.name (net_name n) g.named (h.named ∙ ap (λ (i : ℕ). Some (net_name i)) (sym same))

agrees : (pieces : List PlainPiece) (nets : List (List Twig)) (probes : List Probe) (names : List (List ℕ)) (t : Tables) (v : Verdict) → IsAtHand pieces nets probes names t v → Agrees v
agrees pieces nets probes names t v a =
    let all : AllByRecursion IsNetted v.points = each_of IsNetted v.points (netted pieces nets probes names t v a) in
    record {
      opens = a.right Opens ∙ none_open 0 t.names v.points all (together_of v.points (together pieces nets probes names t v a));
      shorts = no_outlines v.shorts (a.right Shorts ∙ none_shorts 0 v.nets t.names v.points (apart pieces nets probes names t v a));
      bare = a.right Bare ∙ none_bare 0 v.points all;
    }

-- ---- The written netlist

agrees_written : (b : PlainBoard) (nets : List (List Twig)) → IsWritable b.layers nets b.pieces → IsForest (length b.pieces) (IsNear b) nets
    → (t : Tables) (v : Verdict) → IsTables (with_netlist b (probes_written b.layers nets b.pieces) (names_written b.layers nets b.pieces)) t → IsRight t v → Agrees v
agrees_written b nets w forest t v is right =
    let probes : List Probe = probes_written b.layers nets b.pieces in
    let names : List (List ℕ) = names_written b.layers nets b.pieces in
    let c : PlainBoard = with_netlist b probes names in
    let spans = recursion_from_All (λ piece. IsSpan b.layers piece.top piece.bottom) b.pieces w.spans in
    let lines : AreLines v.nets t.beneath (map point_of probes) v.points = subst (λ (ps : List TestPoint). AreLines v.nets t.beneath ps v.points) is.points (right Points) in
    agrees b.pieces nets probes names t v (record {
      consistent = tables_are_consistent c t is;
      right = right;
      forest = nets_there b probes names t nets is forest;
      many = sym is.near.many;
      few = w.few_nets;
      once = once_after [] (present (places_from b.layers nets 0 b.pieces)) none_once;
      told = λ k line here. probe_of (TellsNet nets b.pieces names) v.nets t.beneath probes v.points k line lines (tells_all b.layers nets b.pieces spans) here;
      beneath = λ k probe p piece known there under. stands_where (length probes) (UnderAt c) t.beneath is.beneath k p (slice_get_within probes k probe known) (record { piece = piece; probe = probe; piece_is = there; probe_is = known; under = under });
    })

pub written_netlist_agrees : WrittenNetlistAgrees
written_netlist_agrees b nets probes names w forest read t v is right =
    let own = (written_netlist_reads b.layers nets b.pieces w).read in
    let same = (one_answer (written_netlist_of b.layers nets b.pieces) b.layers).one_value (netlist probes names) (netlist (probes_written b.layers nets b.pieces) (names_written b.layers nets b.pieces)) read own in
    agrees_written b nets w forest t v (subst (λ (n : Netlist). IsTables (with_netlist b n.probes n.names) t) same is) right

pub boards_are_writable : BoardsAreWritable
boards_are_writable b nets lawful pieces layers trees =
    let few = few_nets (length b.pieces) (IsNear b) nets trees in
    record { layers_fit = layers; few_pieces = pieces; few_nets = omega (arith, few, pieces); spans = lawful.spans }
