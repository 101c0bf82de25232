use Rattle.std.proofs.Common.{◌≡◌, ℕ, true, List, ℤ, Some, Result, ◌∙◌, ap, refl, sym, Ok, Err, rules}
use Rattle.std.proofs.lemmas.Int.{to_z-of_z}
use mir.Val.{SFits}
use Rattle.std.specs.Int.{w64}
use Rattle.std.proofs.lemmas.Option.{cond_some}
use Rattle.apertures.specs.Definition.{as_fault}
use Rattle.lengths.specs.Decimal.{Fraction, Positions, decimal, is_decimal, fraction}
use Rattle.lengths.specs.Grid.{position_of}
use Rattle.lengths.proofs.GridLemmas.{Positions-is}
use Rattle.lengths.specs.declared.decimal.Unit.{Unit as Measure}
use Rattle.lengths.specs.declared.decimal.GridFault.{GridFault}
use Rattle.real_copper.specs.Apertures.{whole_at}
use Rattle.real_copper.proofs.definitions.whole.Goals as goal

whole_is : (text : List ℕ) (unit : Measure) (d : Fraction) (r : Result ℤ GridFault) → Some d ≡ decimal text → Positions d unit r → as_fault r ≡ whole_at text unit
unfolding whole_at
whole_is text unit d r e h =
    let p = cond_some (is_decimal text) (fraction text) d (sym e) in
    let test : is_decimal text ≡ true = p.0 in
    let same : fraction text ≡ d = p.1 in
    let value : r ≡ position_of d unit = Positions-is d unit r h in
    rw (test, same, ← value) refl

pub returns-in-Ok-clause-value : goal.returns-in-Ok-clause-value
returns-in-Ok-clause-value c =
    let fits : SFits w64 c.u.result = search rules in
    ap Ok (to_z-of_z w64 c.u.result fits ∙ c.u.ensures.value) ∙ whole_is c.args.text.now c.args.unit c.in-Some.decimal (Ok c.in-Ok.len) c.in-Some.ensures c.in-Ok.ensures

pub returns-in-Err-clause-value : goal.returns-in-Err-clause-value
returns-in-Err-clause-value c =
    ap Err c.choose.ensures ∙ whole_is c.args.text.now c.args.unit c.in-Some.decimal (Err c.in-Err.fault) c.in-Some.ensures c.in-Err.ensures
