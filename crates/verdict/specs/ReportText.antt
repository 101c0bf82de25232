-- The text of a verdict.
use Rattle.std.specs.Prelude.{◌≡◌, ℕ, ◌+◌, ℤ, List, [], ◌∷◌, ◌++◌, length, Option, Some, None, codes, decimal}
use Rattle.std.specs.Fmt.{signed_decimal}
use Rattle.std.specs.List.{flat_map}
use Rattle.verdict.specs.declared.verdict.Twig.{Twig}
use Rattle.verdict.specs.declared.verdict.PointLine.{PointLine}
use Rattle.verdict.specs.declared.verdict.Open.{Open}
use Rattle.verdict.specs.declared.verdict.Branch.{Branch}
use Rattle.verdict.specs.declared.verdict.Short.{Short}
use Rattle.verdict.specs.declared.verdict.SpotLine.{SpotLine}
use Rattle.verdict.specs.declared.verdict.SourceLine.{SourceLine}
use Rattle.verdict.specs.declared.verdict.Supplement.{Supplement}
use Rattle.verdict.specs.declared.verdict.Verdict.{Verdict}

-- nothing is open, shorted or without copper
pub record Agrees (v : Verdict) : Type 0 where
  pub opens : v.opens ≡ []
  pub shorts : v.shorts ≡ []
  pub bare : v.bare ≡ []

-- a blank and a number
abbrev pub word : ℕ → List ℕ
word n = 32 ∷ decimal n

-- a blank and a signed number: one minus before the digits where it is negative, and none before 0
abbrev pub signed_word : ℤ → List ℕ
signed_word z = 32 ∷ signed_decimal z

-- a line feed
abbrev pub end : List ℕ
end = 10 ∷ []

-- a title and a count
abbrev pub count_line : List ℕ → ℕ → List ℕ
count_line title n = title ++ word n ++ end

-- the texts of the items one after another, each of its number and itself
abbrev pub numbered : {X : Type 0} → (ℕ → X → List ℕ) → ℕ → List X → List ℕ
numbered text n [] = []
numbered text n (x ∷ xs) = text n x ++ numbered text (n + 1) xs

-- the text of an item that does not show its number
abbrev pub line_of : {X : Type 0} → (X → List ℕ) → ℕ → X → List ℕ
line_of text n x = text x

-- a title, a count and the items
abbrev pub section_text : {X : Type 0} → List ℕ → (ℕ → X → List ℕ) → List X → List ℕ
section_text title text xs = count_line title (length xs) ++ numbered text 0 xs

-- a colon and the parent of a twig, where it has one
abbrev pub parent_text : Option ℕ → List ℕ
parent_text None = []
parent_text (Some p) = 58 ∷ decimal p

-- a blank, the piece of a twig, and its parent
abbrev pub twig_text : Twig → List ℕ
twig_text t = word t.piece ++ parent_text t.parent

-- net n: its twigs in their order
abbrev pub net_line : ℕ → List Twig → List ℕ
net_line n net = codes "net" ++ word n ++ flat_map twig_text net ++ end

-- name n: its bytes
abbrev pub name_line : ℕ → List ℕ → List ℕ
name_line n name = codes "name" ++ word n ++ 32 ∷ name ++ end

-- the net of a point, or a dash where it has none
abbrev pub net_text : Option ℕ → List ℕ
net_text None = codes " -"
net_text (Some net) = word net

-- test point n: its record, its layer, its name and its net
abbrev pub point_line : ℕ → PointLine → List ℕ
point_line n p = codes "point" ++ word n ++ word p.number ++ word p.layer ++ word p.name ++ net_text p.net ++ end

-- an open: its name, its home, the other net, and the first point there
abbrev pub open_line : Open → List ℕ
open_line o = codes "open" ++ word o.name ++ word o.home ++ word o.other ++ word o.probe ++ end

-- a branch: its name, its point, and the pieces of its path
abbrev pub branch_line : Branch → List ℕ
branch_line b = codes "branch" ++ word b.name ++ word b.probe ++ flat_map word b.pieces ++ end

-- a short: its net, how many branches it has, and a line for each
abbrev pub short_lines : Short → List ℕ
short_lines s = codes "short" ++ word s.net ++ word (length s.branches) ++ end ++ numbered (line_of branch_line) 0 s.branches

-- a point without copper
abbrev pub bare_line : ℕ → List ℕ
bare_line probe = codes "bare" ++ word probe ++ end

-- the place of test point n, in u
abbrev pub spot_line : ℕ → SpotLine → List ℕ
spot_line n s = codes "spot" ++ word n ++ signed_word s.x ++ signed_word s.y ++ end

-- where piece n comes from, a file, a command and a copy, and its first and last layer
abbrev pub source_line : ℕ → SourceLine → List ℕ
source_line n s = codes "source" ++ word n ++ word s.file ++ word s.command ++ word s.copy ++ word s.top ++ word s.bottom ++ end

-- whether anything is open, shorted or without copper
abbrev pub last_line : {A B C : Type 0} → List A → List B → List C → List ℕ
last_line [] [] [] = codes "agrees" ++ end
last_line opens shorts bare = codes "differs" ++ end

-- The sections of the text: nets, names, points, opens, shorts and points without copper.
abbrev pub nets_text : List (List Twig) → List ℕ
nets_text nets = section_text (codes "nets") net_line nets

abbrev pub names_text : List (List ℕ) → List ℕ
names_text names = section_text (codes "names") name_line names

abbrev pub points_text : List PointLine → List ℕ
points_text points = section_text (codes "points") point_line points

abbrev pub opens_text : List Open → List ℕ
opens_text opens = section_text (codes "opens") (line_of open_line) opens

abbrev pub shorts_text : List Short → List ℕ
shorts_text shorts = section_text (codes "shorts") (line_of short_lines) shorts

abbrev pub bare_text : List ℕ → List ℕ
bare_text bare = section_text (codes "missing") (line_of bare_line) bare

-- the first line tells whether there is a supplement
abbrev pub first_line : Option Supplement → List ℕ
first_line None = codes "boardnet 1" ++ end
first_line (Some more) = codes "boardnet 2" ++ end

-- the supplement, where there is one: spots and sources
abbrev pub more_text : Option Supplement → List ℕ
more_text None = []
more_text (Some more) = section_text (codes "spots") spot_line more.spots ++ section_text (codes "sources") source_line more.sources

-- the parts up to the points
abbrev pub tables_text : Verdict → List ℕ
tables_text v = count_line (codes "pieces") v.pieces ++ nets_text v.nets ++ names_text v.names ++ points_text v.points

-- the parts behind them
abbrev pub findings_text : Verdict → List ℕ
findings_text v = opens_text v.opens ++ shorts_text v.shorts ++ bare_text v.bare

-- the text of a verdict
abbrev pub report_text : Verdict → List ℕ
report_text v = first_line v.more ++ tables_text v ++ findings_text v ++ more_text v.more ++ last_line v.opens v.shorts v.bare
