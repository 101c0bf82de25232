use Rattle.real_copper.proofs.Sums.{twice_less, twice_more}
use Rattle.real_copper.proofs.flashes.around.Goals as goal

pub returns-clause-low : goal.returns-clause-low
returns-clause-low c =
    let x = twice_less c.args.middle.x c.way-across.result c.args.w c.requires.about.0 c.way-across.ensures c.requires.w in
    let y = twice_less c.args.middle.y c.way-up.result c.args.h c.requires.about.1 c.way-up.ensures c.requires.h in
    cc

pub returns-clause-high : goal.returns-clause-high
returns-clause-high c =
    let x = twice_more c.args.middle.x c.way-across.result c.args.w c.requires.about.0 c.way-across.ensures c.requires.w in
    let y = twice_more c.args.middle.y c.way-up.result c.args.h c.requires.about.1 c.way-up.ensures c.requires.h in
    cc
