use Rattle.aperture_macros.proofs.Turns.{half_read, quarter_read, three_quarters_read, unturned_read}
use Rattle.aperture_macros.proofs.placing.Placing.moved.Goals as goal

pub returns-in-Unturned : goal.returns-in-Unturned
returns-in-Unturned c = rw c.in-Unturned.is (unturned_read c.args.self.now.at c.args.p c.args.self.now.placed c.requires.near)

pub returns-in-Quarter : goal.returns-in-Quarter
returns-in-Quarter c = rw c.in-Quarter.is (quarter_read c.args.self.now.at c.args.p c.args.self.now.placed c.requires.near)

pub returns-in-Half : goal.returns-in-Half
returns-in-Half c = rw c.in-Half.is (half_read c.args.self.now.at c.args.p c.args.self.now.placed c.requires.near)

pub returns-in-ThreeQuarters : goal.returns-in-ThreeQuarters
returns-in-ThreeQuarters c = rw c.in-ThreeQuarters.is (three_quarters_read c.args.self.now.at c.args.p c.args.self.now.placed c.requires.near)
