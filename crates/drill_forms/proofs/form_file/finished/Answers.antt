use Rattle.std.proofs.Common.{ap}
use Rattle.drill_forms.proofs.form_file.finished.Goals as goal

pub returns-clause-ok : goal.returns-clause-ok
returns-clause-ok c = record { last = c.obey_at.new.reader; obeys = c.in_ok-obey_at.ensures.ok; are = (let h = c.into_pieces.ensures in ap (λ v. v.items) h) }
