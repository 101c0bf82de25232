use Rattle.std.proofs.Common.{arith, rules}
use Rattle.std.proofs.lemmas.Int.{ints}
use Rattle.arcs.proofs.Turns.{half, less, more, whole}
use Rattle.arcs.proofs.Reaching.{reachable}
use Rattle.arcs.proofs.chords.in_turn.Goals as goal

pub returns-then-way-gt0 : goal.returns-then-way-gt0
returns-then-way-gt0 c = less c.args.arc.now.centre c.args.arc.now.start c.args.arc.now.end c.args.a c.args.b c.sides_of-first.result.left c.sides_of-first.result.right c.sides_of-last.result.left c.sides_of-last.result.right c.are_between.result c.sides_of-first.ensures.left c.sides_of-first.ensures.right c.sides_of-last.ensures.left c.sides_of-last.ensures.right (omega (arith, ints)) c.are_between.ensures

pub returns-then-way-lt0 : goal.returns-then-way-lt0
returns-then-way-lt0 c = more c.args.arc.now.centre c.args.arc.now.start c.args.arc.now.end c.args.a c.args.b c.sides_of-first.result.left c.sides_of-first.result.right c.sides_of-last.result.left c.sides_of-last.result.right c.are_past.result c.sides_of-first.ensures.left c.sides_of-first.ensures.right c.sides_of-last.ensures.left c.sides_of-last.ensures.right (omega (arith, ints)) c.are_past.ensures

pub returns-then-first : goal.returns-then-first
returns-then-first c = half c.args.arc.now.centre c.args.arc.now.start c.args.arc.now.end c.args.a c.args.b c.sides_of-first.result.left c.sides_of-first.result.right c.sides_of-last.result.left c.sides_of-last.result.right c.sides_of-last.result.left c.sides_of-first.ensures.left c.sides_of-first.ensures.right c.sides_of-last.ensures.left c.sides_of-last.ensures.right (omega (arith, ints)) (omega (arith, ints)) (λ yes. (search rules, yes), λ h. h.1)

pub returns-else-dot-lt0 : goal.returns-else-dot-lt0
returns-else-dot-lt0 c = whole c.args.arc.now.centre c.args.arc.now.start c.args.arc.now.end c.args.a c.args.b c.is_same.result (omega (arith, ints)) (omega (arith, ints)) c.is_same.ensures.same

pub cross-way-requires-clause-o_reachable : goal.cross-way-requires-clause-o_reachable
cross-way-requires-clause-o_reachable c = reachable c.args.arc.now.centre c.requires.arc.centre

pub dot-requires-clause-o_reachable : goal.dot-requires-clause-o_reachable
dot-requires-clause-o_reachable c = reachable c.args.arc.now.centre c.requires.arc.centre
