-- What the reader knows is what looking back finds.
use Rattle.std.proofs.Common.{◌≡◌, ℕ, Bool, true, false, cond, List, ◌∷◌, ◌++◌, Option, Some, None, Result, Ok, refl, sym, ap, ◌∙◌, subst}
use Rattle.board_shapes.specs.declared.probe.Probe.{Probe}
use Rattle.lengths.specs.declared.decimal.Unit.{Unit as Measure}
use Rattle.ipc356_records.specs.declared.kind.RecordKind.{RecordKind}
use Rattle.ipc356_records.specs.declared.reader.Reader.{Reader}
use Rattle.ipc356_records.specs.Line.{RecordLine, blank, unread, units, ends, continues, tests, unknown, finishes}
use Rattle.ipc356_records.specs.RecordEffects.{Known, Effect, stays, sets, closes, set_unit, row, behind, effect, probes_of_effect}
use Rattle.ipc356_records.specs.Settings.{known_at}
use Rattle.ipc356_records.specs.NetlistFile.{probes_in, probes_of}
use Rattle.ipc356_records.specs.Reader.{known_of, after, Obeys}
use Rattle.ipc356_records.proofs.Outcome.{Tested, tested}

-- the effect of a line, by cases
abbrev pub Outcome : Known → RecordLine → Effect → Type 0
Outcome k blank e = e ≡ stays
Outcome k unread e = e ≡ stays
Outcome k (units unit) e = (u : Measure) × (k.unit ≡ None) × (unit ≡ Some u) × (e ≡ sets u)
Outcome k ends e = e ≡ closes
Outcome k continues e = ⊥
Outcome k (tests fields) e = Tested k fields e
Outcome k unknown e = ⊥
Outcome k finishes e = e ≡ stays

units_outcome : (k : Known) (before unit : Option Measure) (e : Effect) → k.unit ≡ before → set_unit before unit ≡ Ok e → Outcome k (units unit) e
unfolding set_unit
units_outcome k before None e same h = cc
units_outcome k None (Some u) e same h = (u, same, refl, (let f : sets u ≡ e = cc in sym f))
units_outcome k (Some first) (Some u) e same h = cc

row_outcome : (k : Known) (form : RecordLine) (e : Effect) → row k form ≡ Ok e → Outcome k form e
unfolding row
row_outcome k blank e h = let f : stays ≡ e = cc in sym f
row_outcome k unread e h = let f : stays ≡ e = cc in sym f
row_outcome k (units unit) e h = units_outcome k k.unit unit e refl h
row_outcome k ends e h = let f : closes ≡ e = cc in sym f
row_outcome k continues e h = cc
row_outcome k (tests fields) e h = tested k fields e h
row_outcome k unknown e h = cc
row_outcome k finishes e h = cc

behind_outcome : (k : Known) (form : RecordLine) (e : Effect) → behind form ≡ Ok e → Outcome k form e
behind_outcome k blank e h = let f : stays ≡ e = cc in sym f
behind_outcome k finishes e h = let f : stays ≡ e = cc in sym f
behind_outcome k other e h = cc

pub outcome : (k : Known) (form : RecordLine) (e : Effect) → effect k form ≡ Ok e → Outcome k form e
unfolding effect
outcome k form e h = by k.ended h
  where
    by : (b : Bool) → cond b (behind form) (row k form) ≡ Ok e → Outcome k form e
    by true h = behind_outcome k form e h
    by false h = row_outcome k form e h

-- what is known behind a line is found by looking back from the next
known-push : (layers : ℕ) (earlier : List RecordLine) (form : RecordLine) (e : Effect) → Outcome (known_at layers earlier) form e → after (known_at layers earlier) e ≡ known_at layers (form ∷ earlier)
known-push layers earlier blank e o = rw o refl
known-push layers earlier unread e o = rw o refl
known-push layers earlier (units unit) e o = rw (o.2, o.3) refl
known-push layers earlier ends e o = rw o refl
known-push layers earlier continues e o = absurd o
known-push layers earlier (tests fields) e o = rw (o.is, o.name_is) refl
known-push layers earlier unknown e o = absurd o
known-push layers earlier finishes e o = rw o refl

-- the reader has obeyed these lines
pub record State (layers : ℕ) (earlier : List RecordLine) (r : Reader) : Type 0 where
  pub known : known_of r ≡ known_at layers earlier
  pub probes : r.probes ≡ probes_of layers earlier

-- one line more
pub state-push : (layers : ℕ) (earlier : List RecordLine) (r : Reader) (form : RecordLine) (new : Reader) → State layers earlier r → Obeys r form new → State layers (form ∷ earlier) new
state-push layers earlier r form new s o =
    let k : Known = known_at layers earlier in
    let clean : effect k form ≡ Ok o.effect_is = subst (λ (t : Known). effect t form ≡ Ok o.effect_is) s.known o.clean in
    record {
      known = o.applied.known ∙ ap (λ (t : Known). after t o.effect_is) s.known ∙ known-push layers earlier form o.effect_is (outcome k form o.effect_is clean);
      probes = o.applied.probes ∙ ap (λ (ps : List Probe). ps ++ probes_of_effect (known_of r) o.effect_is) s.probes ∙ ap (λ (t : Known). probes_of layers earlier ++ probes_of_effect t o.effect_is) s.known ∙ ap (λ (x : Result Effect RecordKind). probes_of layers earlier ++ probes_in k x) (sym clean);
    }
