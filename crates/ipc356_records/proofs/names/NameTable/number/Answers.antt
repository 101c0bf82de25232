use Rattle.std.proofs.Common.{map, ap, ◌∙◌}
use Rattle.ipc356_records.proofs.NameLemmas.{index-map, with_name-map}
use Rattle.ipc356_records.proofs.names.NameTable.number.Goals as goal

pub returns-in-Ok-clause-index : goal.returns-in-Ok-clause-index
returns-in-Ok-clause-index c = c.in-Ok.ensures.index ∙ index-map (λ r. r.now) c.args.name c.args.self.now.names.keys

pub returns-in-Ok-clause-kept : goal.returns-in-Ok-clause-kept
returns-in-Ok-clause-kept c = ap (λ ks. map (λ r. r.now) ks) c.in-Ok.ensures.keys ∙ with_name-map (λ r. r.now) c.args.name c.args.self.now.names.keys
