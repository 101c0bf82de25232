use Rattle.std.proofs.Common.{◌≡◌, ◌≤◌, inl, inr, length, rules, arith, ap, sym, ◌∙◌}
use Rattle.board_io.specs.Causes.{Rose}
use Rattle.board_io.specs.Memory.{HoldsAlso, faults_of, files_of}
use Rattle.board_io.specs.MemorySink.{faults_of as sink_faults_of, got_of}
use Rattle.texts.specs.declared.TheConstants.{MOST_BYTES}
use Rattle.boardnet.proofs.TwoCalls.{Wrote, all_got, passes, rose_from}
use Rattle.boardnet.proofs.certified.certify.Goals.{then-status-gt1-via-then-status-gt1, then-status-gt1-via-else-status-gt1+then-bytes-gt-MOST_BYTES}
use Rattle.boardnet.proofs.certified.certify.Goals as goal

pub returns-then-status-gt1-clause-complete : goal.returns-then-status-gt1-clause-complete
returns-then-status-gt1-clause-complete g c = λ version manifest check board fits calm quiet status e.
    let same : c.run-status.result ≡ status = cc e in
    elim c.then-status-gt1.branch [
      | then-status-gt1-via-then-status-gt1 w ↦ elim (c.run-status.ensures.complete version manifest check board fits calm quiet) [
        | inl le ↦ absurd (omega (arith, le, w.if-status-gt1.true))
        | inr six ↦ inl (sym same ∙ six)
      ]
      | then-status-gt1-via-else-status-gt1+then-bytes-gt-MOST_BYTES w ↦ inr (let long = ap length w.bytes.ensures in omega (arith, long, w.if-bytes-gt-MOST_BYTES.true))
    ]

pub returns-clause-passes : goal.returns-clause-passes
returns-clause-passes g c = λ version manifest check audit free empty calm quiet status e.
    let same : c.run.result ≡ status = cc e in
    let few : c.run-status.result ≤ 1 = omega (arith, c.if-status-gt1.false) in
    let kept : files_of c.run-status.new.package ≡ files_of c.args.package.now = cc c.run-status.ensures.kept.held in
    let wrote : Wrote (files_of c.args.package.now) c.args.checking.now c.run-status.result (got_of c.run-status.new.out) = λ v name is.
    let (text, line, report, gains, says) = c.run-status.ensures.right few v name is in
    (text, line, report, all_got text (got_of c.args.out.now) (got_of c.run-status.new.out) empty gains) in
    let also : HoldsAlso (files_of c.run-status.new.package) c.args.report.now c.bytes-2.result.now (files_of c.hold.new.self) = search rules in
    let long = ap length c.bytes.ensures in
    let held = ap length c.bytes-2.ensures in
    let short : length c.bytes-2.result.now ≤ MOST_BYTES = omega (arith, long, held, c.if-bytes-gt-MOST_BYTES.false) in
    let later : faults_of c.args.package.now ≤ faults_of c.hold.new.self = omega (arith, c.run-status.ensures.kept.later, c.hold.ensures.others.faults) in
    let found = passes (files_of c.args.package.now) (files_of c.run-status.new.package) (files_of c.hold.new.self) c.args.checking.now c.args.auditing.now c.args.report.now (got_of c.run-status.new.out) c.bytes-2.result.now
    c.run-status.result c.run.result (Rose (faults_of c.hold.new.self) (faults_of c.run.new.package)) (Rose (sink_faults_of c.args.ruling.now) (sink_faults_of c.run.new.out))
    c.reports_pass.ensures c.one_outcome.ensures c.report_text_is_injective.ensures version manifest check audit free kept wrote c.bytes-2.ensures also short c.run.ensures.answered (λ rose. calm (rose_from _ _ _ later rose)) quiet in
    elim found [
      | inl none ↦ inl (sym same ∙ none)
      | inr six ↦ inr (sym same ∙ six)
    ]
