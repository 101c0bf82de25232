-- What a trial makes of a fault.
use Rattle.std.specs.Prelude.{◌≡◌}
use Rattle.board_package.specs.declared.fault.BuildFault.{BuildFault}
use Rattle.board_package.specs.declared.fault.BuildFault.TheVariants as fault

-- the same fault, but want of memory for a file that was lost
abbrev pub IsUnlost : BuildFault → BuildFault → Type 0
IsUnlost (fault.CannotRead name) given = given ≡ fault.NoMemory
IsUnlost why given = given ≡ why
