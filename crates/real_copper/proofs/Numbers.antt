-- Each kind of refusal of real copper has a number of its own.
use Rattle.std.proofs.Common.{◌≡◌, refl, sym, ap, arith}
use Rattle.gerber_layer.specs.Laws.{KindsHaveOwnNumbers}
use Rattle.gerber_layer.specs.MacroKinds.{flatten_row}
use Rattle.gerber_layer.specs.declared.macro_kind.FlattenKind.{FlattenKind}
use Rattle.file_reading.specs.Kinds.{HaveOwnNumbers}
use Rattle.real_copper.specs.Kinds.{real_row}
use Rattle.real_copper.specs.declared.kind.RealKind.{RealKind}
use Rattle.real_copper.specs.declared.kind.RealKind.TheVariants.{Copper, NoOffsets, OffsetsAmiss, NoQuadrants, NoCentre}

-- no kind of an arc has a number of a file with macros
pub apart : KindsHaveOwnNumbers → (a : RealKind) (b : FlattenKind) → (real_row a).number ≡ (flatten_row b).number → a ≡ Copper b
apart law (Copper kind) b same = ap Copper (law.0 kind b same)
apart law other b same = let few = (law.2 b).1 in absurd (omega (arith, few, same))

pub one_number : KindsHaveOwnNumbers → HaveOwnNumbers real_row
one_number law a (Copper kind) same = apart law a kind same
one_number law (Copper kind) b same = sym (apart law b kind (sym same))
one_number law NoOffsets NoOffsets same = refl
one_number law OffsetsAmiss OffsetsAmiss same = refl
one_number law NoQuadrants NoQuadrants same = refl
one_number law NoCentre NoCentre same = refl
one_number law a b same = absurd (omega (arith, same))
