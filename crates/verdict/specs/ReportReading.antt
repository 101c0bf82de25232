-- Reading the text of a verdict from left to right: what stands in front, and the bytes behind it, or nothing where
-- the bytes are no such text. Only contracts of fields and private ones cite it: that it reads the texts of verdicts and
-- nothing else is proved over report_text (proofs/ReadReport).
use Rattle.std.specs.Prelude.{◌≡◌, ℕ, zero, suc, ◌+◌, ◌^◌, ◌<◌, ◌≤◌, ℤ, pos, negsuc, nat_lt, Bool, true, false, not, ◌&&◌, ◌==◌, if◌then◌else◌, List, [], ◌∷◌, ◌++◌, length, take, drop, Option, Some, None, Result, Ok, Err, codes, decimal}
use Rattle.std.specs.Cmp.Lexicographic.{pointwise}
use Rattle.std.specs.List.{after_first, before_first, list_all, list_any, prefix_len, take_while}
use Rattle.std.specs.Str.Parse.{digits_value}
use Rattle.lengths.specs.Text.{is_text}
use Rattle.texts.specs.Digits.{is_decimal_digit}
use Rattle.verdict.specs.ReportText.{last_line}
use Rattle.verdict.specs.declared.report_reading.ReadFault.{ReadFault}
use Rattle.verdict.specs.declared.report_reading.ReadFault.TheVariants.{NotAReport, NoMemory}
use Rattle.verdict.specs.declared.report_reading.Listed.{Listed}
use Rattle.verdict.specs.declared.verdict.Twig.{Twig}
use Rattle.verdict.specs.declared.verdict.PointLine.{PointLine}
use Rattle.verdict.specs.declared.verdict.Open.{Open}
use Rattle.verdict.specs.declared.verdict.Branch.{Branch}
use Rattle.verdict.specs.declared.verdict.Short.{Short}
use Rattle.verdict.specs.declared.verdict.SpotLine.{SpotLine}
use Rattle.verdict.specs.declared.verdict.SourceLine.{SourceLine}
use Rattle.verdict.specs.declared.verdict.Supplement.{Supplement}
use Rattle.verdict.specs.declared.verdict.Verdict.{Verdict}

-- and then, from what was read; where that is nothing, nothing
infixl 10 ◌>>=◌
abbrev pub ◌>>=◌ : {A B : Type 0} → Option A → (A → Option B) → Option B
None >>= f = None
(Some x) >>= f = f x

-- a function fails only where reading gives nothing, or memory ran out
abbrev pub Fails : {Y : Type 0} → ReadFault → Option Y → Type 0
Fails NotAReport read = read ≡ None
Fails NoMemory read = Unit {0}

-- What a function returned, seen by view, is what reading gives, unless memory ran out.
abbrev pub Gives : {X Y : Type 0} → (X → Y) → Result X ReadFault → Option Y → Type 0
Gives view (Ok x) read = read ≡ Some (view x)
Gives view (Err fault) read = Fails fault read

-- ---- Fields

-- the bytes behind a text
unfoldable pub behind : List ℕ → List ℕ → Option (List ℕ)
behind front bytes = if pointwise ◌==◌ (take (length front) bytes) front then Some (drop (length front) bytes) else None

-- the digits in front
abbrev pub run_of : List ℕ → List ℕ
run_of bytes = take_while is_decimal_digit bytes

-- how many digits stand in front, and their value where they are at most 18
pub record IsRun (bytes : List ℕ) (len value : ℕ) : Type 0 where
  pub long : len ≡ prefix_len is_decimal_digit bytes
  pub within : len ≤ length bytes
  pub digits : list_all is_decimal_digit (take len bytes) ≡ true
  pub worth : len ≤ 18 → value ≡ digits_value 10 (take len bytes)
  pub small : len ≤ 18 → value < 10 ^ 18

-- three numbers of one digit, each behind a blank, and the end of a line stand in front of the rest
pub record IsShortEnd (bytes : List ℕ) (first second third : ℕ) (rest : List ℕ) : Type 0 where
  pub small : (first < 10) × (second < 10) × (third < 10)
  pub stands : bytes ≡ 32 ∷ (48 + first) ∷ 32 ∷ (48 + second) ∷ 32 ∷ (48 + third) ∷ 10 ∷ rest

-- no zero leads a number but 0 itself
abbrev pub is_numeral : List ℕ → Bool
is_numeral [] = false
is_numeral (c ∷ []) = true
is_numeral (c ∷ d ∷ rest) = not (c == 48)

-- the value of digits, if it is below 2^64
unfoldable pub value_of : List ℕ → Option ℕ
value_of digits = if nat_lt (digits_value 10 digits) (2 ^ 64) then Some (digits_value 10 digits) else None

-- a number below 2^64, and one below 2^32
unfoldable pub wide_at : List ℕ → Option (ℕ × List ℕ)
wide_at bytes =
    if is_numeral (run_of bytes) then (value_of (run_of bytes) >>= λ n. Some (n, drop (prefix_len is_decimal_digit bytes) bytes)) else None

unfoldable pub number_at : List ℕ → Option (ℕ × List ℕ)
number_at bytes = do
  n ← wide_at bytes
  if nat_lt n.0 (2 ^ 32) then Some n else None

-- what was read, and the bytes behind the end of its line
abbrev pub line_end : {X : Type 0} → X → List ℕ → Option (X × List ℕ)
line_end x bytes = behind (10 ∷ []) bytes >>= λ rest. Some (x, rest)

-- a blank and a number below 2^32
unfoldable pub word_at : List ℕ → Option (ℕ × List ℕ)
word_at bytes = do
  rest ← behind (32 ∷ []) bytes
  number_at rest

-- three such numbers in a row, and what follows from them and the bytes behind
abbrev pub with_words : {X : Type 0} → List ℕ → (ℕ → ℕ → ℕ → List ℕ → Option X) → Option X
with_words bytes make = word_at bytes >>= λ a. word_at a.1 >>= λ b. word_at b.1 >>= λ c. make a.0 b.0 c.0 c.1

-- a blank and a number below 2^8
unfoldable pub layer_at : List ℕ → Option (ℕ × List ℕ)
layer_at bytes = do
  n ← word_at bytes
  if nat_lt n.0 (2 ^ 8) then Some n else None

-- a blank, a count and the end of the line
unfoldable pub count_at : List ℕ → Option (ℕ × List ℕ)
count_at bytes = do
  rest ← behind (32 ∷ []) bytes
  n ← wide_at rest
  line_end n.0 n.1

-- a title, a number below 2^32 and the end of the line
unfoldable pub titled_at : List ℕ → List ℕ → Option (ℕ × List ℕ)
titled_at title bytes = do
  rest ← behind title bytes
  number ← word_at rest
  line_end number.0 number.1

-- so much below zero, from 1 to 2^63
abbrev pub negated : ℕ → Option ℤ
negated zero = None
negated (suc m) = if nat_lt m (2 ^ 63) then Some (negsuc m) else None

-- by what stands behind a minus, where there is one
abbrev pub signed_behind : Option (List ℕ) → List ℕ → Option (ℤ × List ℕ)
signed_behind None bytes = wide_at bytes >>= λ n. if nat_lt n.0 (2 ^ 63) then Some (pos n.0, n.1) else None
signed_behind (Some rest) bytes = wide_at rest >>= λ n. negated n.0 >>= λ z. Some (z, n.1)

-- a number below 2^63, or a minus and a number from 1 to 2^63
unfoldable pub signed_at : List ℕ → Option (ℤ × List ℕ)
signed_at bytes = signed_behind (behind (45 ∷ []) bytes) bytes

-- a blank and a signed number
unfoldable pub signed_word_at : List ℕ → Option (ℤ × List ℕ)
signed_word_at bytes = do
  rest ← behind (32 ∷ []) bytes
  signed_at rest

-- by what stands behind a colon, where there is one
abbrev pub parent_behind : Option (List ℕ) → List ℕ → Option (Option ℕ × List ℕ)
parent_behind None bytes = Some (None, bytes)
parent_behind (Some rest) bytes = number_at rest >>= λ n. Some (Some n.0, n.1)

-- a colon and a parent, or no parent
unfoldable pub parent_at : List ℕ → Option (Option ℕ × List ℕ)
parent_at bytes = parent_behind (behind (58 ∷ []) bytes) bytes

-- a blank, a piece, and its parent where it has one
unfoldable pub twig_at : List ℕ → Option (Twig × List ℕ)
twig_at bytes = do
  piece ← word_at bytes
  parent ← parent_at piece.1
  Some (record { piece = piece.0; parent = parent.0 }, parent.1)

-- by what stands behind ` -`, where it stands there
abbrev pub net_behind : Option (List ℕ) → List ℕ → Option (Option ℕ × List ℕ)
net_behind (Some rest) bytes = Some (None, rest)
net_behind None bytes = word_at bytes >>= λ n. Some (Some n.0, n.1)

-- the net of a point, or ` -` where it has none
unfoldable pub net_number_at : List ℕ → Option (Option ℕ × List ℕ)
net_number_at bytes = net_behind (behind (codes " -") bytes) bytes

-- whether a byte that passes is the first
abbrev pub starts : (ℕ → Bool) → List ℕ → Bool
starts p [] = false
starts p (b ∷ bytes) = p b

-- whether a blank comes next
abbrev pub begins_blank : List ℕ → Bool
begins_blank [] = false
begins_blank (b ∷ bytes) = b == 32

-- an item, and those that were read behind it
abbrev pub with_first : {X : Type 0} → X → Option (List X × List ℕ) → Option (List X × List ℕ)
with_first x read = read >>= λ xs. Some (x ∷ xs.0, xs.1)

-- items up to the byte that is no blank, fewer than a number
unfoldable pub words_at : {X : Type 0} → (List ℕ → Option (X × List ℕ)) → ℕ → List ℕ → Option (List X × List ℕ)
words_at at zero bytes = None
words_at at (suc k) bytes = if begins_blank bytes then (at bytes >>= λ x. with_first x.0 (words_at at k x.1)) else Some ([], bytes)

-- a line feed
abbrev pub is_feed : ℕ → Bool
is_feed b = b == 10

-- a name and the end of its line
unfoldable pub text_at : List ℕ → Option (List ℕ × List ℕ)
text_at bytes =
    if list_any is_feed bytes && is_text (before_first is_feed bytes) then Some (before_first is_feed bytes, after_first is_feed bytes) else None

-- ---- Lines

-- a title and the number of a line
unfoldable pub heading_at : List ℕ → ℕ → List ℕ → Option (List ℕ)
heading_at title n bytes = do
  rest ← behind title bytes
  number ← behind (32 ∷ []) rest
  behind (decimal n) number

-- the lines of nets, names, points and branches, each with what stands behind it
unfoldable pub net_at : ℕ → List ℕ → Option (List Twig × List ℕ)
net_at n bytes = do
  rest ← heading_at (codes "net") n bytes
  net ← words_at twig_at (length rest) rest
  line_end net.0 net.1

unfoldable pub name_at : ℕ → List ℕ → Option (List ℕ × List ℕ)
name_at n bytes = do
  rest ← heading_at (codes "name") n bytes
  text ← behind (32 ∷ []) rest
  text_at text

unfoldable pub point_at : ℕ → List ℕ → Option (PointLine × List ℕ)
point_at n bytes = do
  rest ← heading_at (codes "point") n bytes
  number ← word_at rest
  layer ← layer_at number.1
  name ← word_at layer.1
  net ← net_number_at name.1
  line_end (record { number = number.0; layer = layer.0; name = name.0; net = net.0 }) net.1

unfoldable pub branch_at : ℕ → List ℕ → Option (Branch × List ℕ)
branch_at n bytes = do
  rest ← behind (codes "branch") bytes
  name ← word_at rest
  probe ← word_at name.1
  pieces ← words_at word_at (length probe.1) probe.1
  line_end (record { name = name.0; probe = probe.0; pieces = pieces.0 }) pieces.1

-- so many items, numbered from n
unfoldable pub items_at : {X : Type 0} → (ℕ → List ℕ → Option (X × List ℕ)) → ℕ → ℕ → List ℕ → Option (List X × List ℕ)
items_at at zero n bytes = Some ([], bytes)
items_at at (suc k) n bytes = at n bytes >>= λ x. with_first x.0 (items_at at k (n + 1) x.1)

-- the line of a short and its branches
unfoldable pub short_at : ℕ → List ℕ → Option (Short × List ℕ)
short_at n bytes = do
  rest ← behind (codes "short") bytes
  net ← word_at rest
  count ← count_at net.1
  branches ← items_at branch_at count.0 0 count.1
  Some (record { net = net.0; branches = branches.0 }, branches.1)

-- the lines of an open and of a point without copper
unfoldable pub open_at : ℕ → List ℕ → Option (Open × List ℕ)
open_at n bytes = do
  rest ← behind (codes "open") bytes
  name ← word_at rest
  with_words name.1 (λ home other probe end. line_end (record { name = name.0; home = home; other = other; probe = probe }) end)

abbrev pub bare_at : ℕ → List ℕ → Option (ℕ × List ℕ)
bare_at n bytes = titled_at (codes "bare") bytes

-- the lines of the supplement: the place of a point, and the origin and span of a piece
unfoldable pub spot_at : ℕ → List ℕ → Option (SpotLine × List ℕ)
spot_at n bytes = do
  rest ← heading_at (codes "spot") n bytes
  x ← signed_word_at rest
  y ← signed_word_at x.1
  line_end (record { x = x.0; y = y.0 }) y.1

unfoldable pub source_at : ℕ → List ℕ → Option (SourceLine × List ℕ)
source_at n bytes = do
  rest ← heading_at (codes "source") n bytes
  with_words rest (λ file command copy span. do
    top ← layer_at span
    bottom ← layer_at top.1
    line_end (record { file = file; command = command; copy = copy; top = top.0; bottom = bottom.0 }) bottom.1)

-- ---- Parts

-- a title, a count and so many items
unfoldable pub section_at : {X : Type 0} → (ℕ → List ℕ → Option (X × List ℕ)) → List ℕ → List ℕ → Option (List X × List ℕ)
section_at at title bytes = do
  rest ← behind title bytes
  count ← count_at rest
  items_at at count.0 0 count.1

-- by what stands behind the first line of version 1, where it stands there
abbrev pub first_behind : Option (List ℕ) → List ℕ → Option (Bool × List ℕ)
first_behind (Some rest) text = Some (false, rest)
first_behind None text = behind (codes "boardnet 2" ++ 10 ∷ []) text >>= λ rest. Some (true, rest)

-- whether the first line tells of a supplement
unfoldable pub first_line_at : List ℕ → Option (Bool × List ℕ)
first_line_at text = first_behind (behind (codes "boardnet 1" ++ 10 ∷ []) text) text

-- the spots and the sources
unfoldable pub supplement_at : List ℕ → Option (Supplement × List ℕ)
supplement_at bytes = do
  spots ← section_at spot_at (codes "spots") bytes
  sources ← section_at source_at (codes "sources") spots.1
  Some (record { spots = spots.0; sources = sources.0 }, sources.1)

-- the supplement, where the first line tells of one
unfoldable pub more_at : Bool → List ℕ → Option (Option Supplement × List ℕ)
more_at false bytes = Some (None, bytes)
more_at true bytes = supplement_at bytes >>= λ more. Some (Some more.0, more.1)

-- the last line and the end
abbrev pub ended : Verdict → List ℕ → Option Verdict
ended v rest = if pointwise ◌==◌ rest (last_line v.opens v.shorts v.bare) then Some v else None

-- what stands behind the shorts: the points without copper, the supplement, and the last line that is asked for
unfoldable pub endings_at : Listed → List Open → List Short → List ℕ → Option Verdict
endings_at listed opens shorts bytes = do
  bare ← section_at bare_at (codes "missing") bytes
  more ← more_at listed.told bare.1
  ended (record { pieces = listed.pieces; names = listed.names; nets = listed.nets; points = listed.points; opens = opens; shorts = shorts; bare = bare.0; more = more.0 }) more.1

-- what stands behind the lists of the board: what is amiss, the supplement, and the last line that they ask for
unfoldable pub findings_at : Listed → List ℕ → Option Verdict
findings_at listed bytes = do
  opens ← section_at open_at (codes "opens") bytes
  shorts ← section_at short_at (codes "shorts") opens.1
  endings_at listed opens.0 shorts.0 shorts.1

-- the lists of the board, behind the number of its pieces, and what stands behind them
unfoldable pub lists_at : Bool → ℕ → List ℕ → Option Verdict
lists_at told pieces bytes = do
  nets ← section_at net_at (codes "nets") bytes
  names ← section_at name_at (codes "names") nets.1
  points ← section_at point_at (codes "points") names.1
  findings_at (record { told = told; pieces = pieces; nets = nets.0; names = names.0; points = points.0 }) points.1

-- The whole text: its parts in their order.
unfoldable pub report_at : List ℕ → Option Verdict
report_at text = do
  first ← first_line_at text
  pieces ← titled_at (codes "pieces") first.1
  lists_at first.0 pieces.0 pieces.1
