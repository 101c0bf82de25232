use Rattle.verdict.proofs.Usual.{twig_reads}
use Rattle.verdict.proofs.lines.usual_twig.Goals as goal

pub returns : goal.returns
returns c = twig_reads c.args.bytes.now c.in_ok-piece.behind_piece.now c.in_ok-parent.rest.now c.in_ok-piece.piece c.in_ok-parent.parent c.in_ok-piece.ensures c.in_ok-parent.ensures
