-- The file of counts: how many pieces stand for each piece of a real board, below it and above.
use Rattle.std.specs.Prelude.{ℕ, zero, suc, ◌<◌, ◌^◌, ◌≡◌, List, [], ◌∷◌, ◌++◌, length, All, codes, decimal}
use Rattle.arc_covers.specs.declared.counts.CountsFault.{CountsFault}
use Rattle.arc_covers.specs.declared.counts.CountsFault.TheVariants.{Line, NoMemory}

-- the first line
abbrev pub first_line : List ℕ
first_line = codes "boardnet-bounds 1" ++ 10 ∷ []

-- the line of a real piece: how many stand for it below and how many above, in decimal, with a blank between and a line feed behind
abbrev pub count_line : ℕ → ℕ → List ℕ
count_line below above = decimal below ++ (32 ∷ (decimal above ++ 10 ∷ []))

-- the lines of the real pieces in their order
abbrev pub count_lines : List ℕ → List ℕ → List ℕ
count_lines [] upper = []
count_lines (below ∷ lower) [] = []
count_lines (below ∷ lower) (above ∷ upper) = count_line below above ++ count_lines lower upper

-- a count is a number of 32 bits
abbrev pub IsCount : ℕ → Type 0
IsCount n = n < 2 ^ 32

-- the bytes are the first line and a line for each real piece
pub record AreCounts (bytes lower upper : List ℕ) : Type 0 where
  pub even : length lower ≡ length upper
  pub below : All IsCount lower
  pub above : All IsCount upper
  pub spelled : bytes ≡ first_line ++ count_lines lower upper

-- k lines of counts stand behind the first line, and something behind them, which does not begin with such a line
pub record IsOther (bytes : List ℕ) (k : ℕ) : Type 0 where
  pub front : List ℕ
  pub lower : List ℕ
  pub upper : List ℕ
  pub before : AreCounts front lower upper
  pub number : length lower ≡ k
  pub rest : List ℕ
  pub whole : bytes ≡ front ++ rest
  pub some : ¬ (rest ≡ [])
  pub other : (below above : ℕ) (more : List ℕ) → IsCount below → IsCount above → ¬ (rest ≡ count_line below above ++ more)

-- line n, from 1, is the first that is of another form
abbrev pub IsFirstOther : List ℕ → ℕ → Type 0
IsFirstOther bytes zero = ⊥
IsFirstOther bytes (suc zero) = (more : List ℕ) → ¬ (bytes ≡ first_line ++ more)
IsFirstOther bytes (suc (suc k)) = IsOther bytes k

-- the fault is one of these bytes
abbrev pub IsCountsFault : List ℕ → CountsFault → Type 0
IsCountsFault bytes (Line n) = IsFirstOther bytes n
IsCountsFault bytes NoMemory = Unit {0}
