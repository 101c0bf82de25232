-- How long the report of a verdict on a board within the limits is.
use Rattle.std.proofs.Common.{◌≡◌, ℕ, ◌+◌, ◌*◌, ◌<◌, ◌≤◌, List, [], ◌∷◌, ◌++◌, length, All, Option, Some, None, codes, arith, length-append}
use Rattle.std.proofs.lemmas.Fmt.{length-decimal-le}
use Rattle.std.proofs.lemmas.List.Concat.{length-flat_map}
use Rattle.std.proofs.lemmas.List.Elements.{All-from_recursion}
use Rattle.std.proofs.lemmas.List.Sums.{sum_by-cons, sum_by-le}
use Rattle.std.specs.List.{AllByRecursion, flat_map, sum_by}
use Rattle.std.specs.Prelude.{IfSome}
use Rattle.verdict.specs.declared.verdict.Twig.{Twig}
use Rattle.verdict.specs.declared.verdict.PointLine.{PointLine}
use Rattle.verdict.specs.declared.verdict.Open.{Open}
use Rattle.verdict.specs.declared.verdict.Branch.{Branch}
use Rattle.verdict.specs.declared.verdict.Short.{Short}
use Rattle.verdict.specs.declared.verdict.Supplement.{Supplement}
use Rattle.verdict.specs.Laws.{ReportsAreShort}
use Rattle.verdict.specs.Limits.{HasSixDigits, IsSmallTwig, IsSmallPointLine, IsSmallOpen, IsSmallBranch, IsSmallShort, IsRecordName, branch_count, branch_length, branches_length, net_length}
use Rattle.verdict.specs.ReportText.{word, end, count_line, numbered, line_of, section_text, parent_text, twig_text, net_line, name_line, net_text, point_line, open_line, branch_line, short_lines, bare_line, last_line, nets_text, names_text, points_text, opens_text, shorts_text, bare_text, tables_text, findings_text, first_line, more_text}

-- ---- Words

word_short : (n : ℕ) → HasSixDigits n → length (word n) ≤ 7
word_short n few = let digits = length-decimal-le 6 n (omega arith) few (omega (arith, few)) in omega (arith, digits)

parent_short : (o : Option ℕ) → IfSome o HasSixDigits → length (parent_text o) ≤ 7
parent_short None few = omega arith
parent_short (Some p) few = word_short p few

net_short : (o : Option ℕ) → IfSome o HasSixDigits → length (net_text o) ≤ 7
net_short None few = omega arith
net_short (Some net) few = word_short net few

twig_short : (t : Twig) → IsSmallTwig t → length (twig_text t) ≤ 14
twig_short t small = let piece = word_short t.piece small.piece in let parent = parent_short t.parent small.parent in let both = length-append (word t.piece) (parent_text t.parent) in omega (arith, piece, parent, both)

-- ---- Lists

-- texts of at most so many bytes, one after another
words_short : {X : Type 0} (good : X → Type 0) (text : X → List ℕ) (most : ℕ) → ((x : X) → good x → length (text x) ≤ most) → (xs : List X) → AllByRecursion good xs → length (flat_map text xs) ≤ length xs * most
words_short good text most each xs all =
    let one : All (λ x. length (text x) ≤ most) xs = λ k d below. each _ (All-from_recursion good xs all k d below) in
    let sum = sum_by-le (λ x. length (text x)) most xs one in
    let long = length-flat_map text xs in
    omega (arith, sum, long)

lines_short : {X : Type 0} (good : X → Type 0) (text : ℕ → X → List ℕ) (size : X → ℕ) → ((n : ℕ) (x : X) → HasSixDigits n → good x → length (text n x) ≤ size x) → (xs : List X) (n : ℕ) → n + length xs ≤ 1_000_000 → AllByRecursion good xs → length (numbered text n xs) ≤ sum_by size xs
lines_short good text size each [] n few all = omega arith
lines_short good text size each (x ∷ xs) n few all =
    let one = each n x (omega (arith, few)) all.0 in
    let more = lines_short good text size each xs (n + 1) (omega (arith, few)) all.1 in
    let long = length-append (text n x) (numbered text (n + 1) xs) in
    let sum = sum_by-cons size x xs in
    omega (arith, one, more, long, sum)

-- lines of one size
even_short : {X : Type 0} (good : X → Type 0) (text : ℕ → X → List ℕ) (most : ℕ) → ((n : ℕ) (x : X) → HasSixDigits n → good x → length (text n x) ≤ most) → (xs : List X) → length xs ≤ 1_000_000 → AllByRecursion good xs → length (numbered text 0 xs) ≤ length xs * most
even_short good text most each xs few all =
    let lines = lines_short good text (λ x. most) each xs 0 (omega (arith, few)) all in
    let sum = sum_by-le (λ x. most) most xs (λ k d below. omega arith) in
    omega (arith, lines, sum)

-- a section is its title, its count and its lines
section_short : {X : Type 0} (title : List ℕ) (text : ℕ → X → List ℕ) (xs : List X) → length xs < 1_000_000 → length (section_text title text xs) ≤ length title + 8 + length (numbered text 0 xs)
section_short title text xs few =
    let count = word_short (length xs) few in
    let a = length-append (title ++ word (length xs)) end in
    let b = length-append title (word (length xs)) in
    let whole = length-append (count_line title (length xs)) (numbered text 0 xs) in
    omega (arith, count, a, b, whole)

-- ---- Lines

parts_short : (title a b c d last : List ℕ) → length (title ++ a ++ b ++ c ++ d ++ last) ≡ length title + length a + length b + length c + length d + length last
parts_short title a b c d last =
    let one = length-append title a in
    let two = length-append (title ++ a) b in
    let three = length-append (title ++ a ++ b) c in
    let four = length-append (title ++ a ++ b ++ c) d in
    let five = length-append (title ++ a ++ b ++ c ++ d) last in
    omega (arith, one, two, three, four, five)

net_line_short : (n : ℕ) (net : List Twig) → HasSixDigits n → AllByRecursion IsSmallTwig net → length (net_line n net) ≤ 11 + 14 * net_length net
net_line_short n net few all =
    let number = word_short n few in
    let twigs = words_short IsSmallTwig twig_text 14 twig_short net all in
    let a = length-append (codes "net") (word n) in
    let b = length-append (codes "net" ++ word n) (flat_map twig_text net) in
    let c = length-append (codes "net" ++ word n ++ flat_map twig_text net) end in
    omega (arith, number, twigs, a, b, c)

name_line_short : (n : ℕ) (name : List ℕ) → HasSixDigits n → IsRecordName name → length (name_line n name) ≤ 27
name_line_short n name few short =
    let number = word_short n few in
    let a = length-append (codes "name") (word n) in
    let b = length-append (codes "name" ++ word n) (32 ∷ name) in
    let c = length-append (codes "name" ++ word n ++ 32 ∷ name) end in
    omega (arith, number, short, a, b, c)

point_line_short : (n : ℕ) (p : PointLine) → HasSixDigits n → IsSmallPointLine p → length (point_line n p) ≤ 41
point_line_short n p few small =
    let number = word_short n few in
    let record_number = word_short p.number small.number in
    let layer = word_short p.layer small.layer in
    let name = word_short p.name small.name in
    let net = net_short p.net small.net in
    let parts = parts_short (codes "point") (word n) (word p.number) (word p.layer) (word p.name) (net_text p.net) in
    let whole = length-append (codes "point" ++ word n ++ word p.number ++ word p.layer ++ word p.name ++ net_text p.net) end in
    omega (arith, number, record_number, layer, name, net, parts, whole)

open_line_short : (n : ℕ) (o : Open) → HasSixDigits n → IsSmallOpen o → length (open_line o) ≤ 33
open_line_short n o few small =
    let name = word_short o.name small.name in
    let home = word_short o.home small.home in
    let other = word_short o.other small.other in
    let probe = word_short o.probe small.probe in
    let parts = parts_short (codes "open") (word o.name) (word o.home) (word o.other) (word o.probe) end in
    omega (arith, name, home, other, probe, parts)

branch_line_short : (n : ℕ) (b : Branch) → HasSixDigits n → IsSmallBranch b → length (branch_line b) ≤ 21 + 7 * branch_length b
branch_line_short n b few small =
    let name = word_short b.name small.name in
    let probe = word_short b.probe small.probe in
    let pieces = words_short HasSixDigits word 7 word_short b.pieces small.pieces in
    let parts = parts_short (codes "branch") (word b.name) (word b.probe) (flat_map word b.pieces) end [] in
    let whole = length-append (codes "branch" ++ word b.name ++ word b.probe ++ flat_map word b.pieces ++ end) [] in
    omega (arith, name, probe, pieces, parts, whole)

bare_line_short : (n probe : ℕ) → HasSixDigits n → HasSixDigits probe → length (bare_line probe) ≤ 12
bare_line_short n probe few small =
    let number = word_short probe small in
    let a = length-append (codes "bare") (word probe) in
    let b = length-append (codes "bare" ++ word probe) end in
    omega (arith, number, a, b)

-- ---- Shorts

record IsCountedShort (s : Short) : Type 0 where
  small : IsSmallShort s
  few : branch_count s ≤ 400_000

counted_shorts : (most : ℕ) → most ≤ 400_000 → (shorts : List Short) → sum_by branch_count shorts ≤ most → AllByRecursion IsSmallShort shorts → AllByRecursion IsCountedShort shorts
counted_shorts most low [] few all = tt
counted_shorts most low (s ∷ shorts) few all =
    let sum = sum_by-cons branch_count s shorts in
    (record { small = all.0; few = omega (arith, low, few, sum) }, counted_shorts most low shorts (omega (arith, few, sum)) all.1)

branches_sum : (branches : List Branch) → sum_by (λ b. 21 + 7 * branch_length b) branches ≤ 21 * length branches + 7 * sum_by branch_length branches
branches_sum [] = omega arith
branches_sum (b ∷ branches) =
    let more = branches_sum branches in
    let one = sum_by-cons (λ (x : Branch). 21 + 7 * branch_length x) b branches in
    let two = sum_by-cons branch_length b branches in
    omega (arith, more, one, two)

short_lines_short : (n : ℕ) (s : Short) → HasSixDigits n → IsCountedShort s → length (short_lines s) ≤ 20 + 21 * branch_count s + 7 * branches_length s
short_lines_short n s few counted =
    let low = counted.few in
    let net = word_short s.net counted.small.net in
    let count = word_short (length s.branches) (omega (arith, low)) in
    let lines = lines_short IsSmallBranch (line_of branch_line) (λ b. 21 + 7 * branch_length b) branch_line_short s.branches 0 (omega (arith, low)) counted.small.branches in
    let sum = branches_sum s.branches in
    let parts = parts_short (codes "short") (word s.net) (word (length s.branches)) end (numbered (line_of branch_line) 0 s.branches) [] in
    let whole = length-append (codes "short" ++ word s.net ++ word (length s.branches) ++ end ++ numbered (line_of branch_line) 0 s.branches) [] in
    omega (arith, net, count, lines, sum, parts, whole)

shorts_sum : (shorts : List Short) → sum_by (λ s. 20 + 21 * branch_count s + 7 * branches_length s) shorts ≤ 20 * length shorts + 21 * sum_by branch_count shorts + 7 * sum_by branches_length shorts
shorts_sum [] = omega arith
shorts_sum (s ∷ shorts) =
    let more = shorts_sum shorts in
    let one = sum_by-cons (λ (x : Short). 20 + 21 * branch_count x + 7 * branches_length x) s shorts in
    let two = sum_by-cons branch_count s shorts in
    let three = sum_by-cons branches_length s shorts in
    omega (arith, more, one, two, three)

nets_sum : (nets : List (List Twig)) → sum_by (λ net. 11 + 14 * net_length net) nets ≤ 11 * length nets + 14 * sum_by net_length nets
nets_sum [] = omega arith
nets_sum (net ∷ nets) =
    let more = nets_sum nets in
    let one = sum_by-cons (λ (x : List Twig). 11 + 14 * net_length x) net nets in
    let two = sum_by-cons net_length net nets in
    omega (arith, more, one, two)

-- ---- Sections

nets_short : (nets : List (List Twig)) → length nets ≤ 200_000 → sum_by net_length nets ≤ 200_000 → AllByRecursion (AllByRecursion IsSmallTwig) nets → length (nets_text nets) ≤ 5_000_012
nets_short nets few twigs all =
    let lines = lines_short (AllByRecursion IsSmallTwig) net_line (λ net. 11 + 14 * net_length net) net_line_short nets 0 (omega (arith, few)) all in
    let sum = nets_sum nets in
    let section = section_short (codes "nets") net_line nets (omega (arith, few)) in
    omega (arith, few, twigs, lines, sum, section)

names_short : (names : List (List ℕ)) → length names ≤ 200_000 → AllByRecursion IsRecordName names → length (names_text names) ≤ 5_400_013
names_short names few all =
    let lines = even_short IsRecordName name_line 27 name_line_short names (omega (arith, few)) all in
    let section = section_short (codes "names") name_line names (omega (arith, few)) in
    omega (arith, few, lines, section)

points_short : (points : List PointLine) → length points ≤ 400_000 → AllByRecursion IsSmallPointLine points → length (points_text points) ≤ 16_400_014
points_short points few all =
    let lines = even_short IsSmallPointLine point_line 41 point_line_short points (omega (arith, few)) all in
    let section = section_short (codes "points") point_line points (omega (arith, few)) in
    omega (arith, few, lines, section)

opens_short : (opens : List Open) → length opens ≤ 400_000 → AllByRecursion IsSmallOpen opens → length (opens_text opens) ≤ 13_200_013
opens_short opens few all =
    let lines = even_short IsSmallOpen (line_of open_line) 33 open_line_short opens (omega (arith, few)) all in
    let section = section_short (codes "opens") (line_of open_line) opens (omega (arith, few)) in
    omega (arith, few, lines, section)

shorts_short : (shorts : List Short) → length shorts ≤ 200_000 → sum_by branch_count shorts ≤ 400_000 → sum_by branches_length shorts ≤ 600_000 → AllByRecursion IsSmallShort shorts → length (shorts_text shorts) ≤ 16_600_014
shorts_short shorts few branches paths all =
    let counted = counted_shorts 400_000 (omega arith) shorts branches all in
    let lines = lines_short IsCountedShort (line_of short_lines) (λ s. 20 + 21 * branch_count s + 7 * branches_length s) short_lines_short shorts 0 (omega (arith, few)) counted in
    let sum = shorts_sum shorts in
    let section = section_short (codes "shorts") (line_of short_lines) shorts (omega (arith, few)) in
    omega (arith, few, branches, paths, lines, sum, section)

bare_short : (bare : List ℕ) → length bare ≤ 400_000 → AllByRecursion HasSixDigits bare → length (bare_text bare) ≤ 4_800_015
bare_short bare few all =
    let lines = even_short HasSixDigits (line_of bare_line) 12 bare_line_short bare (omega (arith, few)) all in
    let section = section_short (codes "missing") (line_of bare_line) bare (omega (arith, few)) in
    omega (arith, few, lines, section)

pieces_short : (n : ℕ) → HasSixDigits n → length (count_line (codes "pieces") n) ≤ 14
pieces_short n few =
    let count = word_short n few in
    let a = length-append (codes "pieces" ++ word n) end in
    let b = length-append (codes "pieces") (word n) in
    omega (arith, count, a, b)

last_short : {A B C : Type 0} (opens : List A) (shorts : List B) (bare : List C) → length (last_line opens shorts bare) ≤ 8
last_short [] [] [] = omega arith
last_short [] [] (b ∷ bare) = omega arith
last_short [] (s ∷ shorts) bare = omega arith
last_short (o ∷ opens) shorts bare = omega arith

-- ---- The whole

ends_short : (more : Option Supplement) → more ≡ None → (length (first_line more) ≤ 11) × (length (more_text more) ≤ 0)
ends_short None none = (omega arith, omega arith)
ends_short (Some more) none = absurd cc

pub reports_are_short : ReportsAreShort
reports_are_short v small few none =
    let ends = ends_short v.more none in
    let a = ends.0 in
    let b = ends.1 in
    let pieces = pieces_short v.pieces small.pieces in
    let nets = nets_short v.nets few.nets few.twigs small.nets in
    let names = names_short v.names few.names small.names in
    let points = points_short v.points few.points small.points in
    let opens = opens_short v.opens few.opens small.opens in
    let shorts = shorts_short v.shorts few.shorts few.branches few.paths small.shorts in
    let bare = bare_short v.bare few.bare small.bare in
    let last = last_short v.opens v.shorts v.bare in
    let tables = tables_long (count_line (codes "pieces") v.pieces) (nets_text v.nets) (names_text v.names) (points_text v.points) in
    let findings = findings_long (opens_text v.opens) (shorts_text v.shorts) (bare_text v.bare) in
    let whole = parts_long (first_line v.more) (tables_text v) (findings_text v) (more_text v.more) (last_line v.opens v.shorts v.bare) in
    omega (arith, a, b, pieces, nets, names, points, opens, shorts, bare, last, tables, findings, whole)
  where
    tables_long : (a b c d : List ℕ) → length (a ++ b ++ c ++ d) ≡ length a + length b + length c + length d
    tables_long a b c d =
        let one = length-append a b in
        let two = length-append (a ++ b) c in
        let three = length-append (a ++ b ++ c) d in
        omega (arith, one, two, three)

    findings_long : (a b c : List ℕ) → length (a ++ b ++ c) ≡ length a + length b + length c
    findings_long a b c =
        let one = length-append a b in
        let two = length-append (a ++ b) c in
        omega (arith, one, two)

    parts_long : (a b c d e : List ℕ) → length (a ++ b ++ c ++ d ++ e) ≡ length a + length b + length c + length d + length e
    parts_long a b c d e =
        let one = length-append a b in
        let two = length-append (a ++ b) c in
        let three = length-append (a ++ b ++ c) d in
        let four = length-append (a ++ b ++ c ++ d) e in
        omega (arith, one, two, three, four)
