use Rattle.std.proofs.Common.{◌≡◌, ℕ, ◌+◌, false, not, ◌&&◌, Some, is_none, sym, ap, ◌∙◌}
use Rattle.std.specs.Option.{option_copied}
use Rattle.gerber_layer.specs.CommandEffects.{is_drawing}
use Rattle.gerber_reading.specs.Command.{bending_of}
use Rattle.gerber_reading.specs.declared.settings.Curve.{Curve}
use Rattle.gerber_reading.specs.declared.settings.Settings.{Settings}
use Rattle.gerber_layer.specs.Reader.{known_of}
use Rattle.gerber_layer.proofs.AtOnce.{operate_is, settings_are, unwrap_is}
use Rattle.gerber_layer.proofs.Outcome.{perform_goes}
use Rattle.gerber_layer.proofs.operations.operate_at_once.Goals as goal

pub returns-clause-ok : goal.returns-clause-ok
returns-clause-ok c =
    let o = c.in_ok-perform_at_once.ensures.ok in
    let drawn : (is_none c.args.code && not (is_drawing c.args.reader.now.settings.last)) ≡ false = sym c.lacks_code.ensures ∙ c.if-lacks_code.false in
    record {
      effect_is = o.effect_is;
      clean = operate_is (known_of c.args.reader.now) (option_copied c.args.x) (option_copied c.args.y) c.args.code c.code_of-code.result c.in-Ok.to drawn c.in-Ok.ensures.value c.requires.outside c.code_of-code.ensures ∙ o.is;
      settings = ap (λ (curve : Curve). let r : Settings = record (c.perform_at_once.new.reader.settings) { at = c.in-Ok.to; last = Some c.code_of-code.result; curve = curve } in r) (c.unwrap_or-reader.ensures ∙ unwrap_is c.args.bending.curve _) ∙ settings_are c.perform_at_once.new.reader.settings c.args.reader.now.settings (option_copied c.args.x) (option_copied c.args.y) c.args.code (bending_of c.args.bending) c.code_of-code.result c.in-Ok.to o.effect_is o.carries.settings c.code_of-code.ensures (perform_goes (known_of c.args.reader.now) c.code_of-code.result c.in-Ok.to o.effect_is o.is);
      dictionary = o.carries.dictionary;
      contour = o.carries.contour;
      pieces = o.carries.pieces;
      start = o.carries.start;
      counts = ap (λ (n : ℕ). n + 1) o.carries.counts;
      place = o.carries.place;
    }
