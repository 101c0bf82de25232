-- Laws of made packages: how long their files and test records are.
use Rattle.std.specs.Prelude.{◌≡◌, ℕ, ◌<◌, ◌≤◌, List, length, Some}
use Rattle.board_maker.specs.MadeBoard.{test_record}
use Rattle.board_maker.specs.MadePackage.{made_files}
use Rattle.board_maker.specs.declared.TheConstants.{MOST_CELLS}

-- each file of a made package has at most 1,160,100 bytes, so none is too long to be read
abbrev pub MadeFilesAreShort : Type 0
MadeFilesAreShort = (seed size : ℕ) → size ≤ MOST_CELLS → (file bytes : List ℕ) → made_files seed size file ≡ Some bytes → length bytes ≤ 1_160_100

-- a test record of a made package fills 57 columns and a line feed
abbrev pub TestRecordsFillTheirColumns : Type 0
TestRecordsFillTheirColumns = (code access : List ℕ) (i x y : ℕ) → length code ≡ 3 → length access ≡ 3 → i < 10_000 → x < 1_000_000 → y < 1_000_000 → length (test_record code i access x y) ≡ 58
