use Rattle.std.proofs.Common.{◌==◌, ◌&&◌}
use Rattle.std.specs.List.{list_any}
use Rattle.flood.proofs.Linking.{either}
use Rattle.search_tests.proofs.nets.Pairs.linked.Goals as goal

pub returns : goal.returns
returns c =
    either (list_any (λ e. e.0 == c.args.p && e.1 == c.args.q) c.args.self.now.pairs.now) (list_any (λ e. e.0 == c.args.q && e.1 == c.args.p) c.args.self.now.pairs.now) c.contains.result c.contains-2.result c.contains.ensures.value c.contains-2.ensures.value c.if-contains.false
