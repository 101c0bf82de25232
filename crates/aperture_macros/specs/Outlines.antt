-- How an outline is judged without keeping its points.
use Rattle.std.specs.Prelude.{ℕ, zero, suc, if◌then◌else◌, List, [], ◌∷◌, ◌++◌, Result, Ok, Err}
use Rattle.planar.specs.declared.Spot.{Spot}
use Rattle.lengths.specs.Decimal.{Fraction}
use Rattle.lengths.specs.declared.decimal.Unit.{Unit as Measure}
use Rattle.aperture_macros.specs.declared.fault.MacroFault.{MacroFault}
use Rattle.aperture_macros.specs.declared.fault.MacroFault.TheVariants.{BadMacro}
use Rattle.aperture_macros.specs.BodyWord.{◌>>=◌, past}
use Rattle.aperture_macros.specs.Values.{point_at}
use Rattle.planar.specs.Plane.{same_spot}

-- the last of n points, or the one before them
unfoldable pub last_from : Spot → ℕ → List ℕ → List Fraction → Measure → Result Spot MacroFault
last_from last zero text parameters unit = Ok last
last_from last (suc n) text parameters unit = point_at text parameters unit >>= λ p. last_from p n (past 2 text) parameters unit

-- whether the last of n further points is the first
unfoldable pub closing_at : ℕ → List ℕ → List Fraction → Measure → Result (Unit {0}) MacroFault
closing_at n text parameters unit =
    point_at text parameters unit >>= λ first. last_from first n (past 2 text) parameters unit >>= λ last.
    if same_spot last first then Ok tt else Err BadMacro

-- some spots, and n further points of the text behind them, each as f gives it
unfoldable pub moved_from : (Spot → Spot) → List Spot → ℕ → List ℕ → List Fraction → Measure → Result (List Spot) MacroFault
moved_from f moved zero text parameters unit = Ok moved
moved_from f moved (suc n) text parameters unit =
    point_at text parameters unit >>= λ p. moved_from f (moved ++ f p ∷ []) n (past 2 text) parameters unit
