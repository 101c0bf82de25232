use Rattle.board_package.proofs.laws.files_have_one_answer.Goals as goal

pub returns : goal.returns
returns c = record { layer = c.one_answer.ensures; drill = c.one_answer-2.ensures; netlist = c.one_answer-3.ensures }
