use Rattle.std.proofs.Common.{◌-◌, length, take, drop, sym, arith}
use Rattle.std.proofs.lemmas.Grind.{common_steps}
use Rattle.apertures.proofs.Lawful.{numbered_lawful}
use Rattle.apertures.proofs.Sizes.{read_is}
use Rattle.apertures.proofs.definition.read_aperture.Goals as goal

pub returns-clause-value : goal.returns-clause-value
returns-clause-value c =
    read_is c.args.word.now (take (length c.args.word.now - 3) (drop 3 c.args.word.now)) c.args.unit c.digits_len-len.result c.numbered.result (rw c.as_slice.ensures at (sym c.if-not-starts_with.ensures.value)) (grind (arith, common_steps)) c.digits_len-len.ensures.value c.numbered.ensures

pub returns-clause-lawful : goal.returns-clause-lawful
returns-clause-lawful c = numbered_lawful _ _ c.args.unit c.numbered.result c.numbered.ensures
