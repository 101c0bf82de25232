use Rattle.std.proofs.Common.{◌≡◌, true, false, rules}
use Rattle.reports.proofs.Says.{says_before, says_then}
use Rattle.reports.proofs.lines.put_both.Goals as goal

pub returns-then-not-whole : goal.returns-then-not-whole
returns-then-not-whole g c =
    let cut : c.put_all-whole.result ≡ false = search rules in
    says_before g.N.Sink.got g.N.Sink.faults _ _ _ _ (c.put_all-whole.ensures.cut cut) c.put_all-whole.ensures.says

pub returns : goal.returns
returns g c =
    let all : c.put_all-whole.result ≡ true = search rules in
    let whole = c.put_all-whole.ensures.whole all in
    says_then g.N.Sink.got g.N.Sink.faults _ _ _ _ _ whole.0 whole.1 c.put_all.ensures.says
