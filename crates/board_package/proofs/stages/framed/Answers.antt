use Rattle.std.proofs.Common.{rules}
use Rattle.board_package.proofs.Adding.{within_limits}
use Rattle.board_package.proofs.stages.framed.Goals as goal

pub returns-in-Ok-clause-limits : goal.returns-in-Ok-clause-limits
returns-in-Ok-clause-limits c = within_limits c.args.parts _ (c.boards_are_lawful.ensures c.in-Ok.board) c.requires (search rules)
