use Rattle.std.proofs.Common.{List, ℕ, ap, Err, ◌∷◌, [], ◌++◌, ◌∙◌}
use Rattle.lengths.specs.Text.{IsText}
use Rattle.ipc356_records.proofs.NameLemmas.{text_at, names-step}
use Rattle.ipc356_records.proofs.names.NameTable.texts.Goals as goal

pub unreachable-requires : goal.unreachable-requires
unreachable-requires c = c.in-Err-BadText.ensures.bad.0 (ap Err c.in-Err-BadText.field-0-is) (text_at IsText (λ r. r.now) c.args.self.now.names.keys c.as_slice-names.result.now c.loop-name.name-index _ c.as_slice-names.ensures.keys c.requires.lawful c.loop-name-test.true)

pub loop-name-preserved : goal.loop-name-preserved
loop-name-preserved c =
    c.in_ok-push-in-Ok.ensures.ok ∙ ap (λ (t : List ℕ). c.loop-name.rows ++ t ∷ []) c.in-Ok.ensures.ok ∙ names-step (λ r. r.now) c.args.self.now.names.keys c.as_slice-names.result.now c.loop-name.rows c.loop-name.name-index _ c.as_slice-names.ensures.keys c.loop-name.invariant c.loop-name-test.true
