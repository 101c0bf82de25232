use Rattle.std.proofs.Common.{Some, sym, ap, ◌∙◌}
use Rattle.std.proofs.lemmas.Option.{slice_get-get_or}
use Rattle.cell_index.proofs.Pairs.{under_is}
use Rattle.cell_index.proofs.pieces.is_under.Goals as goal

pub returns : goal.returns
returns g c =
    under_is g.S.Closed.holds c.args.items.now c.args.spot c.args.layer c.args.p c.index-items-p.result c.under.result
    (slice_get-get_or c.args.items.now c.args.p c.index-items-p.result c.requires.piece ∙ ap (λ x. Some x) (sym c.index-items-p.is)) c.under.ensures.under
