use Rattle.std.proofs.Common.{◌≡◌, List, [], length, arith, ◌∙◌, subst, Contains}
use Rattle.std.proofs.lemmas.List.{get_or_read}
use Rattle.verdict.specs.declared.verdict.Twig.{Twig}
use Rattle.verdict.specs.Forest.{net_at, pieces_of}
use Rattle.verdict.proofs.Holding.{held_within}
use Rattle.witness_check.specs.Nets.{AreNew, IsStood}
use Rattle.witness_check.proofs.Once.{stood_all, stood_missing, stood_more, stood_stops}
use Rattle.witness_check.proofs.Told.{refuted, told, denied}
use Rattle.witness_check.proofs.nets.stand_once.Goals as goal

pub stand_net-requires-clause-known : goal.stand_net-requires-clause-known
stand_net-requires-clause-known c = λ p h.
    let same : c.as_slice.result.now ≡ net_at c.args.nets.now c.loop-i.i = c.as_slice.ensures ∙ get_or_read c.args.nets.now c.loop-i.i c.index-nets-i.result (omega arith) c.index-nets-i.is [] in
    let e = c.requires.known c.loop-i.i p (subst (λ (n : List Twig). Contains (pieces_of n) p) same h) in
    let f = c.loop-i.invariant.long in
    omega arith

pub returns-then-not-stand_net-clause-once : goal.returns-then-not-stand_net-clause-once
returns-then-not-stand_net-clause-once c =
    let same : c.as_slice.result.now ≡ net_at c.args.nets.now c.loop-i.i = c.as_slice.ensures ∙ get_or_read c.args.nets.now c.loop-i.i c.index-nets-i.result (omega arith) c.index-nets-i.is [] in
    refuted _ (stood_stops 4294967295 c.args.nets.now _ c.loop-i.i c.loop-i.numbers c.loop-i.places c.loop-i.invariant (omega arith) c.requires.known
    (subst (λ (n : List Twig). AreNew 4294967295 n c.loop-i.numbers → ⊥) same (denied c.stand_net.result _ c.stand_net.ensures.new c.if-not-stand_net.true)))

pub loop-i-preserved : goal.loop-i-preserved
loop-i-preserved c =
    let same : c.as_slice.result.now ≡ net_at c.args.nets.now c.loop-i.i = c.as_slice.ensures ∙ get_or_read c.args.nets.now c.loop-i.i c.index-nets-i.result (omega arith) c.index-nets-i.is [] in
    stood_more 4294967295 c.args.nets.now _ c.loop-i.i c.loop-i.numbers c.loop-i.places c.stand_net.new.numbers c.stand_net.new.places (omega arith) c.loop-i.invariant (omega arith) (omega arith)
    (subst (λ (n : List Twig). AreNew 4294967295 n c.loop-i.numbers) same (told c.stand_net.result _ c.stand_net.ensures.new c.if-not-stand_net.false))
    (subst (λ (n : List Twig). IsStood c.loop-i.i n c.loop-i.numbers c.loop-i.places c.stand_net.new.numbers c.stand_net.new.places) same (c.stand_net.ensures.tables c.if-not-stand_net.false))

pub returns-clause-once : goal.returns-clause-once
returns-clause-once c =
    let all : c.loop-i.i ≡ length c.args.nets.now = omega arith in (
      (λ yes. (stood_all 4294967295 c.args.nets.now (length c.args.numbers.now) c.loop-i.i c.loop-i.numbers c.loop-i.places c.loop-i.invariant all (held_within c.args.nets.now) (c.all_numbered.ensures.0 yes)).once),
      λ once. c.all_numbered.ensures.1 (stood_missing 4294967295 c.args.nets.now (length c.args.numbers.now) c.loop-i.i c.loop-i.numbers c.loop-i.places c.loop-i.invariant all (omega arith) (held_within c.args.nets.now) once),
    )

pub returns-clause-tables : goal.returns-clause-tables
returns-clause-tables c = λ yes. stood_all 4294967295 c.args.nets.now (length c.args.numbers.now) c.loop-i.i c.loop-i.numbers c.loop-i.places c.loop-i.invariant (omega arith) (held_within c.args.nets.now) (c.all_numbered.ensures.0 yes)
