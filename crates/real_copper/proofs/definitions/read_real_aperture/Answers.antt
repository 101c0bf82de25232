use Rattle.std.proofs.Common.{ℕ, ◌∙◌, Bool, true, false, Result, ap, refl, sym}
use Rattle.std.specs.Prelude.{Err}
use Rattle.apertures.proofs.Digits.{few_digits}
use Rattle.apertures.specs.declared.aperture.Aperture.{Aperture}
use Rattle.apertures.specs.declared.fault.ApertureFault.{ApertureFault}
use Rattle.apertures.specs.declared.fault.ApertureFault.TheVariants.{Hole, OffGrid}
use Rattle.real_copper.proofs.definitions.read_real_aperture.Goals as goal

-- there are more parameters than sizes, and a size is not even
abbrev is_holed : Result (ℕ × Aperture) ApertureFault → Bool
is_holed (Err Hole) = true
is_holed other = false

abbrev is_off_grid : Result (ℕ × Aperture) ApertureFault → Bool
is_off_grid (Err OffGrid) = true
is_off_grid other = false

pub number-requires : goal.number-requires
number-requires c =
    few_digits is_holed refl refl c.args.word.now c.args.unit
    (ap is_holed (sym c.in-Err-Hole.ensures.value) ∙ ap (λ (f : ApertureFault). is_holed (Err f)) c.in-Err-Hole.field-0-is)

pub number-requires-in-Err-OffGrid : goal.number-requires-in-Err-OffGrid
number-requires-in-Err-OffGrid c =
    few_digits is_off_grid refl refl c.args.word.now c.args.unit
    (ap is_off_grid (sym c.in-Err-OffGrid.ensures.value) ∙ ap (λ (f : ApertureFault). is_off_grid (Err f)) c.in-Err-OffGrid.field-0-is)
