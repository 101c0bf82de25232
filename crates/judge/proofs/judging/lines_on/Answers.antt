use Rattle.std.proofs.Common.{◌≡◌, ℕ, ◌<◌, List, Option, All, IfSome, arith, refl, sym, ap, ◌∙◌, subst, length}
use Rattle.std.proofs.lemmas.List.Elements.{All-weaker}
use Rattle.board_shapes.specs.Lawful.{IsProbe}
use Rattle.board_shapes.specs.Plain.{PlainBoard, plain_board}
use Rattle.board_shapes.specs.declared.probe.Probe.{Probe}
use Rattle.verdict.specs.declared.verdict.PointLine.{PointLine}
use Rattle.judge.specs.Judged.{lines_by}
use Rattle.judge.proofs.Rights.{homes_known, lines_count, lines_named, nets_short, pieces_long, pieces_within}
use Rattle.judge.proofs.judging.lines_on.Goals as goal

pub numbers_of-requires-clause-few : goal.numbers_of-requires-clause-few
numbers_of-requires-clause-few c = nets_short (plain_board c.args.board.now) c.pieces-pieces.result.now c.args.nets.now c.args.nets.now c.pieces-pieces.ensures.plain c.pieces-pieces.ensures.few refl c.requires.trees

pub numbers_of-requires-clause-known : goal.numbers_of-requires-clause-known
numbers_of-requires-clause-known c = pieces_within (plain_board c.args.board.now) c.pieces-pieces.result.now c.args.nets.now c.args.nets.now c.pieces-pieces.ensures.plain refl c.requires.trees

pub numbers_of-requires-clause-one_net : goal.numbers_of-requires-clause-one_net
numbers_of-requires-clause-one_net c = c.requires.trees.covers.one_net

pub lines_of-requires-clause-pieces : goal.lines_of-requires-clause-pieces
lines_of-requires-clause-pieces c =
    let b : PlainBoard = plain_board c.args.board.now in
    let many : length b.pieces ≡ length c.as_slice.result.now = sym (ap length c.as_slice.ensures.value ∙ (c.in_ok-numbers.ensures.long ∙ pieces_long b c.pieces-pieces.result.now c.pieces-pieces.ensures.plain)) in
    subst (λ (n : ℕ). All (λ home. IfSome home (λ p. p < n)) c.args.homes.now) many (homes_known b c.args.homes.now c.requires.homes)

pub returns : goal.returns
returns c =
    let b : PlainBoard = plain_board c.args.board.now in
    let homes : List (Option ℕ) = c.args.homes.now in
    let numbers : List ℕ = c.in_ok-numbers.numbers.items in
    let lines : List PointLine = c.in_ok-lines.lines in
    let made : lines ≡ lines_by numbers b.probes homes = c.in_ok-lines.ensures ∙ (ap (λ (ns : List ℕ). lines_by ns c.probes.result.now homes) c.as_slice.ensures.value ∙ ap (λ (ps : List Probe). lines_by numbers ps homes) c.probes.ensures.items) in
    let named : All (λ p. p.name < length b.names) b.probes = subst (λ (ps : List Probe). All (λ p. p.name < length b.names) ps) c.probes.ensures.items (All-weaker (IsProbe (length b.names) b.layers) (λ p. p.name < length b.names) (λ p h. h.named) c.probes.result.now c.probes.ensures.known) in
    record {
      numbers = numbers;
      told = c.in_ok-numbers.ensures.numbers;
      made = made;
      few = (let many = lines_count numbers b.probes homes lines made c.requires.homes.many in let same = ap length c.probes.ensures.items in omega (arith, c.probes.ensures.few));
      named = subst (λ (ls : List PointLine). All (λ line. line.name < length b.names) ls) (sym made) (lines_named (length b.names) numbers b.probes homes named);
    }
