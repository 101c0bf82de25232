use Rattle.std.proofs.Common.{refl, subst}
use Rattle.lengths.proofs.Texts.{is_text-from_IsText}
use Rattle.lengths.specs.Text.{IsText}
use Rattle.x2_nets.proofs.listing.name_of.Goals as goal

pub returns-in-Ok-clause-good : goal.returns-in-Ok-clause-good
returns-in-Ok-clause-good c = rw (is_text-from_IsText c.args.text.now (subst IsText c.in-Ok.ensures.ok c.in-Ok.ensures.lawful)) refl
