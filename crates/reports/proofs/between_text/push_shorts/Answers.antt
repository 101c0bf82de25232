use Rattle.std.proofs.Common.{ℕ, List, ◌++◌, ap, codes, length, ◌∙◌}
use Rattle.std.proofs.lemmas.List.{append_assoc}
use Rattle.std.proofs.lemmas.Result.{on_ok_weaker}
use Rattle.std.specs.List.{flat_map}
use Rattle.reports.proofs.Besides.{shorts_read}
use Rattle.reports.specs.BetweenText.{short_part}
use Rattle.verdict.specs.ReportText.{count_line}
use Rattle.reports.proofs.between_text.push_shorts.Goals as goal

pub returns : goal.returns
returns c =
    let old = c.args.out.now.items in
    let count = count_line (codes "shorts") (length c.args.shorts.now) in
    let lines = flat_map (λ short. short_part c.args.probes.now c.args.names.now short.items) c.args.shorts.now in
    on_ok_weaker c.each_short.result (λ is. is ∙ (ap (λ (text : List ℕ). text ++ lines) c.in_ok-push_count.ensures ∙
    (append_assoc old count lines ∙ ap (λ (text : List ℕ). old ++ text) (shorts_read (λ short. short.items) c.args.probes.now c.args.names.now c.args.shorts.now)))) c.each_short.ensures
