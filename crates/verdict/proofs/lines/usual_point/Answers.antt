use Rattle.std.proofs.Common.{refl, sym}
use Rattle.std.specs.Prelude.{codes}
use Rattle.verdict.proofs.Steps.{layer_short}
use Rattle.verdict.proofs.Usual.{point_reads}
use Rattle.verdict.proofs.lines.usual_point.Goals as goal

pub returns : goal.returns
returns c =
    let layer = layer_short c.in_ok-number.behind_number.now c.in_ok-layer.behind_layer.now c.in_ok-layer.layer c.in_ok-layer.ensures.0 c.in_ok-layer.ensures.1 in
    point_reads c.args.line.number c.in_ok-number.number c.in_ok-layer.layer c.in_ok-name.name c.in_ok-net.net
    c.args.bytes.now c.in_ok-rest.rest.now c.in_ok-number.behind_number.now c.in_ok-layer.behind_layer.now c.in_ok-name.behind_name.now c.in_ok-net.behind_net.now c.in_ok-end.end.now
    (c.in_ok-rest.ensures (codes "point") refl) c.in_ok-number.ensures layer c.in_ok-name.ensures c.in_ok-net.ensures (sym c.in_ok-end.ensures)
