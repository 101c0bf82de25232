use Rattle.std.proofs.Common.{ap}
use Rattle.gerber_reading.specs.Command.{view}
use Rattle.gerber_reading.specs.declared.place.Place.{Place}
use Rattle.real_copper.proofs.LawfulAfter.{after_lawful}
use Rattle.real_copper.proofs.obeying.obey.Goals as goal

pub returns-clause-lawful : goal.returns-clause-lawful
returns-clause-lawful c =
    let o = c.in-Ok.ensures.ok in
    let right = c.in-Ok.ensures.right in
    let leads = c.in-Ok.ensures.leads in
    record {
      sound = record {
        settings = rw (c.go_behind.ensures, o.carries.settings) (after_lawful c.args.reader.now.settings (view c.args.command.now) c.in-Ok.leads.to c.in-Ok.leads.next c.requires.lawful.sound.settings c.requires.command leads.at leads.block);
        layer = rw (ap (λ (q : Place). q.layer) o.carries.place) c.requires.lawful.sound.layer;
      };
      fit = right.fit;
      bends = right.bends;
      counted = record { edges = right.counted.edges; few_pieces = right.counted.few_pieces; room = right.counted.room; start = right.counted.start };
    }
