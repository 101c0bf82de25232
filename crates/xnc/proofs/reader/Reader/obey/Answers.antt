use Rattle.xnc.proofs.LawfulAfter.{after_placed}
use Rattle.xnc.proofs.reader.Reader.obey.Goals as goal

pub returns-clause-lawful : goal.returns-clause-lawful
returns-clause-lawful c = record {
  at = rw c.after-settings.ensures (after_placed c.args.self.now.tools c.args.self.now.settings c.args.form.now c.in_ok-effect.effect c.requires.lawful.at c.in_ok-effect.ensures.fit);
  tools = c.in_default.ensures.lawful c.requires.lawful.tools;
}
