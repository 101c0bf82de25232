use Rattle.board_package.proofs.Listed.{members_counted}
use Rattle.board_package.proofs.values.has_members.Goals as goal

pub returns-in-Some : goal.returns-in-Some
returns-in-Some c = members_counted _ _ _ _ c.in-Some.ensures c.len.ensures.len
