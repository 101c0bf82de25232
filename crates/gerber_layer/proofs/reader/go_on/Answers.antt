use Rattle.std.proofs.Common.{ℕ, ◌+◌, Option, sym, ap, ◌∙◌}
use Rattle.planar.specs.declared.Spot.{Spot}
use Rattle.gerber_reading.specs.Command.{view}
use Rattle.gerber_reading.specs.declared.settings.Settings.{Settings}
use Rattle.gerber_layer.specs.Reader.{known_of}
use Rattle.gerber_layer.specs.CommandEffects.{Place}
use Rattle.gerber_reading.specs.After.{after, heads}
use Rattle.gerber_layer.proofs.LawfulAfter.{after_lawful}
use Rattle.gerber_layer.specs.Reader.{contour_of}
use Rattle.gerber_layer.proofs.Marks.{straight_keeps}
use Rattle.gerber_layer.proofs.Shown.{heads_shown, opened_shown}
use Rattle.gerber_layer.proofs.reader.go_on.Goals as goal

pub returns-clause-ok : goal.returns-clause-ok
returns-clause-ok c =
    let o = c.in_ok-carry_out.ensures.ok in
    record {
      effect_is = o.effect_is;
      clean = o.is;
      settings = c.go_behind.ensures ∙ ap (λ (s : Settings). after s (view c.args.command.now) c.leads-to.result c.opens_block-next.result) o.carries.settings ∙ ap (λ (to : Option Spot). after c.args.reader.now.settings (view c.args.command.now) to c.opens_block-next.result) (c.leads-to.ensures ∙ sym (heads_shown (known_of c.args.reader.now) c.args.effect o.effect_is o.is)) ∙ ap (after c.args.reader.now.settings (view c.args.command.now) (heads o.effect_is)) (c.opens_block-next.ensures ∙ sym (opened_shown (known_of c.args.reader.now) c.args.effect o.effect_is o.is));
      dictionary = o.carries.dictionary;
      contour = o.carries.contour;
      pieces = o.carries.pieces;
      start = o.carries.start;
      counts = ap (λ (n : ℕ). n + 1) o.carries.counts;
      place = o.carries.place;
    }

pub returns-clause-lawful : goal.returns-clause-lawful
returns-clause-lawful c =
    let o = c.in_ok-carry_out.ensures.ok in
    let counted = c.in_ok-carry_out.ensures.counted in
    let place = o.carries.place in
    record {
      sound = record {
        settings = rw (c.go_behind.ensures, o.carries.settings, c.leads-to.ensures, c.opens_block-next.ensures) (after_lawful c.args.reader.now.dictionary c.args.reader.now.settings (view c.args.command.now) c.args.effect c.requires.lawful.sound.settings c.requires.command c.requires.fit);
        layer = rw (ap (λ (q : Place). q.layer) place) c.requires.lawful.sound.layer;
      };
      fit = c.in_ok-carry_out.ensures.fitting;
      bends = straight_keeps (contour_of c.carry_out.new.reader.contour);
      counted = record { edges = counted.edges; few_pieces = counted.few_pieces; room = counted.room; start = counted.start };
    }
