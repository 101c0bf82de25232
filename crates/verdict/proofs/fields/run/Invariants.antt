use Rattle.std.proofs.Common.{true, ◌≡◌, ◌+◌, ◌*◌, ◌^◌, ◌<◌, ◌≤◌, take}
use Rattle.std.specs.List.{list_all}
use Rattle.std.specs.Str.Parse.{digits_value}
use Rattle.texts.specs.Digits.{is_decimal_digit}
use Rattle.verdict.proofs.fields.run.Given as goal

abbrev pub invariant-loop-i : goal.invariant-loop-i
invariant-loop-i l = (list_all is_decimal_digit (take l.i l.bytes) ≡ true) × (l.i ≤ 18 → (l.value ≡ digits_value 10 (take l.i l.bytes)) × (l.value < (0 + 1) * 10 ^ l.i))
