use Rattle.xnc.proofs.ToolDown.{tool_down}
use Rattle.xnc.proofs.laws.routs_have_tools.Goals as goal

pub returns : goal.returns
returns c = tool_down
