use Rattle.boardnet.proofs.Accounts.{ends_handed, held_works}
use Rattle.boardnet.proofs.Ending.{ends, unjudged}
use Rattle.boardnet.proofs.Soundness.{sound}
use Rattle.std.proofs.Common.{Some, refl}
use Rattle.boardnet.specs.Command.{asked}
use Rattle.boardnet.specs.Outcome.{HandedOver}
use Rattle.boardnet.proofs.run.perform.Goals as goal

pub returns-clause-ends : goal.returns-clause-ends
returns-clause-ends g c =
    let a = g.P.Package.handed c.args.package.now in
    let b = g.P.Package.handed c.answer_to-given.new.package in
    ends g.P.Package.held g.P.Package.faults g.P.Package.lost g.S.Sink.got g.S.Sink.faults g.N.Sink.got g.N.Sink.faults (asked c.args.command)
    c.args.package.now c.answer_to-given.new.package c.args.out.now c.conclude.new.out c.args.notes.now c.conclude.new.notes c.conclude.result c.answer_to-given.result
    (record { listed = c.one_outcome.ensures; labelled = c.one_labelled_outcome.ensures; flat = c.one_macro_answer.ensures; real = c.one_real_outcome.ensures; counts = c.counts_are_one.ensures.one; no_other = c.counts_are_one.ensures.apart; first_other = c.counts_are_one.ensures.first })
    (held_works (asked c.args.command) g.P.Package.held g.P.Package.handed g.P.Package.faults g.P.Package.lost c.args.package.now c.answer_to-given.new.package c.answer_to-given.result
    ((sound (asked c.args.command)).agrees (record { listed = c.handed_is_held.ensures; real = c.handed_is_held-2.ensures }) (g.P.Package.held c.args.package.now) a b c.answer_to-given.ensures.leaves.consistent)
    c.answer_to-given.ensures.leaves.held c.answer_to-given.ensures.leaves.later c.answer_to-given.ensures.spared c.answer_to-given.ensures.work)
    c.conclude.ensures.later c.conclude.ensures.put

pub returns-clause-unjudged : goal.returns-clause-unjudged
returns-clause-unjudged g c =
    unjudged g.S.Sink.got g.S.Sink.faults g.N.Sink.got g.N.Sink.faults (HandedOver (g.P.Package.handed c.args.package.now) (g.P.Package.handed c.answer_to-given.new.package)) _ (asked c.args.command)
    c.args.out.now c.conclude.new.out c.args.notes.now c.conclude.new.notes c.conclude.result c.answer_to-given.result
    c.answer_to-given.ensures.work c.conclude.ensures.put

pub returns-clause-handed : goal.returns-clause-handed
returns-clause-handed g c =
    ends_handed (HandedOver (g.P.Package.handed c.args.package.now) (g.P.Package.handed c.answer_to-given.new.package)) (asked c.args.command) (g.P.Package.faults c.args.package.now) (g.P.Package.faults c.answer_to-given.new.package) (g.P.Package.lost c.answer_to-given.new.package)
    g.S.Sink.handed g.S.Sink.got g.S.Sink.faults g.N.Sink.got g.N.Sink.faults c.args.out.now c.conclude.new.out c.args.notes.now c.conclude.new.notes c.conclude.result c.answer_to-given.result
    c.answer_to-given.ensures.work c.conclude.ensures.handed c.conclude.ensures.put

pub returns-clause-agreed : goal.returns-clause-agreed
returns-clause-agreed g c = λ files w.
    let a = g.P.Package.handed c.args.package.now in
    let b = g.P.Package.handed c.answer_to-given.new.package in
    ends (λ p. Some files) g.P.Package.faults g.P.Package.lost g.S.Sink.got g.S.Sink.faults g.N.Sink.got g.N.Sink.faults (asked c.args.command)
    c.args.package.now c.answer_to-given.new.package c.args.out.now c.conclude.new.out c.args.notes.now c.conclude.new.notes c.conclude.result c.answer_to-given.result
    (record { listed = c.one_outcome.ensures; labelled = c.one_labelled_outcome.ensures; flat = c.one_macro_answer.ensures; real = c.one_real_outcome.ensures; counts = c.counts_are_one.ensures.one; no_other = c.counts_are_one.ensures.apart; first_other = c.counts_are_one.ensures.first })
    (held_works (asked c.args.command) (λ p. Some files) g.P.Package.handed g.P.Package.faults g.P.Package.lost c.args.package.now c.answer_to-given.new.package c.answer_to-given.result
    ((sound (asked c.args.command)).agrees (record { listed = c.handed_is_held.ensures; real = c.handed_is_held-2.ensures }) (Some files) a b w)
    refl c.answer_to-given.ensures.leaves.later c.answer_to-given.ensures.spared c.answer_to-given.ensures.work)
    c.conclude.ensures.later c.conclude.ensures.put
