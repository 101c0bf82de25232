use Rattle.std.proofs.Common.{◌≡◌, ◌&&◌, drop}
use Rattle.std.specs.List.{list_all}
use Rattle.texts.specs.Digits.{is_decimal_digit}
use Rattle.texts.proofs.parts.are_digits.Given as goal

abbrev pub invariant-loop-b : goal.invariant-loop-b
invariant-loop-b l = (l.all && list_all is_decimal_digit (drop l.b-index l.bytes)) ≡ list_all is_decimal_digit l.bytes
