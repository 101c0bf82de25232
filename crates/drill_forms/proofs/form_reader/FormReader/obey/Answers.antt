use Rattle.std.proofs.Common.{ap, ◌∙◌}
use Rattle.xnc.specs.declared.reader.Reader.{Reader}
use Rattle.board_shapes.specs.Plain.{plain_pieces}
use Rattle.xnc.specs.Reader.{place_of}
use Rattle.drill_forms.specs.declared.notes.Bares.{Bares}
use Rattle.drill_forms.specs.declared.notes.Words.{Words}
use Rattle.drill_forms.specs.Meaning.{noted}
use Rattle.drill_forms.specs.Reader.{bare_after, bare_in}
use Rattle.drill_forms.proofs.Obeyed.{obeyed}
use Rattle.drill_forms.proofs.form_reader.FormReader.obey.Goals as goal

pub returns-clause-ok : goal.returns-clause-ok
returns-clause-ok c =
    let line = c.line_in-line.ensures in
    let o = rw line at c.in_ok-obey.ensures.ok in
    let r = c.note_tool.ensures.reader in
    obeyed c.args.self.now _ c.args.form.now c.obey.new.self c.is_bare-bare.result c.count-count.result o
    (record {
      bare_is = c.is_bare-bare.ensures;
      count_is = c.count-count.ensures;
      pieces = ap (λ (t : Reader). plain_pieces t.pieces.items) r ∙ c.keep.ensures.pieces;
      settings = ap (λ (t : Reader). t.settings) r ∙ c.keep.ensures.settings;
      tools = ap (λ (t : Reader). t.tools) r ∙ c.keep.ensures.tools;
      lines = ap (λ (t : Reader). t.lines) r ∙ c.keep.ensures.lines;
      place = ap (λ (t : Reader). place_of t) r ∙ c.keep.ensures.place;
    })
    (c.noted-self.ensures ∙ ap (λ (w : Words). noted w c.args.form.now) (c.note_tool.ensures.words ∙ c.keep.ensures.words))
    (λ n. c.in_default.ensures.bares n ∙ ap (λ (w : Words). bare_after w (bare_in c.keep.new.self.bares) c.args.form.now n) c.keep.ensures.words ∙ ap (λ (b : Bares). bare_after c.args.self.now.words (bare_in b) c.args.form.now n) c.keep.ensures.bares)
