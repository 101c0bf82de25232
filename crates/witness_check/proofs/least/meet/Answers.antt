use Rattle.std.proofs.Common.{arith, None, Some, get_or, refl, sym}
use Rattle.std.proofs.lemmas.List.{set-get_or}
use Rattle.witness_check.proofs.Sweeping.{less_enough}
use Rattle.witness_check.proofs.least.meet.Goals as goal

pub returns-then-is_enough : goal.returns-then-is_enough
returns-then-is_enough c = record {
  next = get_or c.args.homes.now c.args.k None;
  is = sym (set-get_or c.args.homes.now c.args.k None);
  right = λ h. h;
  kept = λ p h. h;
  counted = λ u. c.is_enough.ensures.0 c.if-is_enough.true;
}

pub returns-then-not-is_under : goal.returns-then-not-is_under
returns-then-not-is_under c = record {
  next = get_or c.args.homes.now c.args.k None;
  is = sym (set-get_or c.args.homes.now c.args.k None);
  right = λ h. h;
  kept = λ p h. h;
  counted = λ u. let is = c.is_under.ensures.1 u in let not = c.if-not-is_under.true in absurd cc;
}

pub returns : goal.returns
returns c = record {
  next = Some c.args.piece;
  is = refl;
  right = λ h. c.is_under.ensures.0 c.if-not-is_under.false;
  kept = λ p h. less_enough _ _ c.args.piece p (λ e. let is = c.is_enough.ensures.1 e in let not = c.if-is_enough.false in absurd cc) h;
  counted = λ u on. omega arith;
}
