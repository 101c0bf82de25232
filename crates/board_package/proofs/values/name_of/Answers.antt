use Rattle.std.proofs.Common.{Err, ap}
use Rattle.board_package.proofs.Names.{name_found, name_missed}
use Rattle.board_package.proofs.values.name_of.Goals as goal

pub returns-in-Ok-clause-ok : goal.returns-in-Ok-clause-ok
returns-in-Ok-clause-ok c = name_found _ _ _ _ c.in-Some.ensures c.as_bytes.ensures.value c.in-Ok.ensures.ok c.in-Ok.ensures.lawful

pub returns-in-Err-BadText-clause-fault : goal.returns-in-Err-BadText-clause-fault
returns-in-Err-BadText-clause-fault c = name_missed _ _ _ c.in-Some.ensures c.as_bytes.ensures.value (c.in-Err-BadText.ensures.bad.0 (ap Err c.in-Err-BadText.field-0-is))
