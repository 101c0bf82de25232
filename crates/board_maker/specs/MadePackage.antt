-- The package of a made board.
use Rattle.std.specs.Prelude.{◌≡◌, ℕ, false, if◌then◌else◌, [], Some, None, codes}
use Rattle.std.specs.Str.{bytes_eq}
use Rattle.board_io.specs.Package.{Files}
use Rattle.board_io.specs.Memory.{files_of, calls_of, faults_of, lost_of, fails}
use Rattle.board_io.specs.declared.memory_package.MemoryPackage.{MemoryPackage}
use Rattle.board_maker.specs.MadeBoard.{manifest_text, part_text}
use Rattle.board_maker.specs.declared.files.Part.TheVariants.{Top, Bottom, Holes, Points}

-- the five files, and no other
abbrev pub made_files : ℕ → ℕ → Files
made_files seed size name =
    if bytes_eq (codes "m.json") name then Some manifest_text
    else (if bytes_eq (codes "top.gbr") name then Some (part_text Top seed size)
    else (if bytes_eq (codes "bot.gbr") name then Some (part_text Bottom seed size)
    else (if bytes_eq (codes "pth.drl") name then Some (part_text Holes seed size)
    else (if bytes_eq (codes "n.ipc") name then Some (part_text Points seed size)
    else None))))

-- none of its takes is to fail; there was none, no fault and no lost name, and nothing was handed over
pub record IsUntouched (made : MemoryPackage) : Type 0 where
  pub failing : (call : ℕ) → fails made call ≡ false
  pub calls : calls_of made ≡ 0
  pub faults : faults_of made ≡ 0
  pub lost : lost_of made ≡ []
  pub handed : made.past.log.notes ≡ []

-- a package that holds exactly the five files, and is untouched
pub record IsMade (seed size : ℕ) (made : MemoryPackage) : Type 0 where
  pub files : files_of made ≡ made_files seed size
  pub untouched : IsUntouched made
