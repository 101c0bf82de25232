-- Lines of the usual form: what their parts read makes what the line reads.
use Rattle.std.proofs.Common.{◌≡◌, ℕ, ◌+◌, ◌^◌, ◌<◌, ℤ, pos, cond, ltb, true, false, List, [], ◌∷◌, ◌++◌, Option, Some, None, refl, sym, ap, subst, ◌∙◌, append_assoc, arith}
use Rattle.std.specs.Prelude.{codes, decimal}
use Rattle.std.proofs.lemmas.Bool.{lt-ltb}
use Rattle.std.proofs.lemmas.Fmt.{decimal_digit, decimal_nonempty, digits_decimal}
use Rattle.texts.specs.Digits.{is_decimal_digit}
use Rattle.verdict.specs.declared.verdict.PointLine.{PointLine}
use Rattle.verdict.specs.declared.verdict.SourceLine.{SourceLine}
use Rattle.verdict.specs.declared.verdict.SpotLine.{SpotLine}
use Rattle.verdict.specs.declared.verdict.Twig.{Twig}
use Rattle.verdict.specs.ReportReading.{IsShortEnd, behind, starts, wide_at, number_at, word_at, layer_at, signed_behind, signed_at, signed_word_at, parent_at, twig_at, net_number_at, heading_at, point_at, spot_at, source_at}
use Rattle.verdict.specs.ReportText.{word, end}
use Rattle.verdict.proofs.Steps.{step, own, behind_again, behind_takes, layer_short, wide_takes, word_again, word_takes}
use Rattle.verdict.proofs.ReadLines.{behind_none, net_number_again}
use Rattle.verdict.proofs.ReadSupplement.{no_minus}

pub number_reads : (bytes rest : List ℕ) (n : ℕ) → wide_at bytes ≡ Some (n, rest) → n < 2 ^ 32 → number_at bytes ≡ Some (n, rest)
unfolding number_at
number_reads bytes rest n read small = rw (read, lt-ltb n (2 ^ 32) small) refl

pub place_reads : (bytes a rest : List ℕ) (n : ℕ) → behind (32 ∷ []) bytes ≡ Some a → wide_at a ≡ Some (n, rest) → n < 2 ^ 63 → signed_word_at bytes ≡ Some (pos n, rest)
unfolding signed_word_at signed_at
place_reads bytes a rest n blank read small =
    let front = wide_takes a n rest read in
    let below : ltb n (2 ^ 63) ≡ true = lt-ltb n (2 ^ 63) small in
    let none : behind (45 ∷ []) a ≡ None = subst (λ (t : List ℕ). behind (45 ∷ []) t ≡ None) (sym front.0) (behind_none 45 (decimal n ++ rest) (no_minus (decimal n) rest (decimal_nonempty n front.1) (digits_decimal own n front.1))) in
    step (behind (32 ∷ []) bytes) (λ r. signed_at r) a (Some (pos n, rest)) blank
    (ap (λ (o : Option (List ℕ)). signed_behind o a) none
    ∙ step (wide_at a) (λ x. cond (ltb x.0 (2 ^ 63)) (Some (pos x.0, x.1)) None) (n, rest) (Some (pos n, rest)) read (rw below refl))

-- a number whose text ends where no digit stands
pub next_reads : (bytes a rest : List ℕ) (n : ℕ) → behind (32 ∷ []) bytes ≡ Some a → behind (decimal n) a ≡ Some rest → starts is_decimal_digit rest ≡ false → n < 2 ^ 32 → word_at bytes ≡ Some (n, rest)
next_reads bytes a rest n blank read none small =
    let whole : bytes ≡ 32 ∷ (decimal n ++ rest) = behind_takes (32 ∷ []) bytes a blank ∙ ap (λ (t : List ℕ). 32 ∷ t) (behind_takes (decimal n) a rest read) in
    ap word_at whole ∙ word_again n rest small none

pub twig_reads : (bytes a rest : List ℕ) (piece : ℕ) (parent : Option ℕ) → word_at bytes ≡ Some (piece, a) → parent_at a ≡ Some (parent, rest) → twig_at bytes ≡ Some (record { piece = piece; parent = parent }, rest)
unfolding twig_at
twig_reads bytes a rest piece parent h0 h1 =
    let made : Twig = record { piece = piece; parent = parent } in
    step (word_at bytes) _ (piece, a) (Some (made, rest)) h0 (step (parent_at a) _ (parent, rest) (Some (made, rest)) h1 refl)

pub heading_reads : (title bytes a b rest : List ℕ) (n : ℕ) → behind title bytes ≡ Some a → behind (32 ∷ []) a ≡ Some b → behind (decimal n) b ≡ Some rest → heading_at title n bytes ≡ Some rest
unfolding heading_at
heading_reads title bytes a b rest n p q r = step (behind title bytes) _ a (Some rest) p (step (behind (32 ∷ []) a) _ b (Some rest) q r)

-- the same of a title with its blank
pub front_reads : (front title bytes b rest : List ℕ) (n : ℕ) → front ≡ title ++ 32 ∷ [] → behind front bytes ≡ Some b → behind (decimal n) b ≡ Some rest → heading_at title n bytes ≡ Some rest
front_reads front title bytes b rest n is p q =
    let whole : bytes ≡ title ++ (32 ∷ b) = behind_takes front bytes b p ∙ (ap (λ (t : List ℕ). t ++ b) is ∙ append_assoc title (32 ∷ []) b) in
    heading_reads title bytes (32 ∷ b) b rest n (ap (behind title) whole ∙ behind_again title (32 ∷ b)) (behind_again (32 ∷ []) b) q

-- the net of a point, behind which its line ends
net_reads : (bytes rest left : List ℕ) (n : ℕ) → word_at bytes ≡ Some (n, rest) → behind (10 ∷ []) rest ≡ Some left → net_number_at bytes ≡ Some (Some n, rest)
net_reads bytes rest left n read ended =
    let front = word_takes bytes n rest read in
    let tail : rest ≡ end ++ left = behind_takes (10 ∷ []) rest left ended in
    subst (λ (t : List ℕ). net_number_at t ≡ Some (Some n, rest)) (sym front.0) (subst (λ (t : List ℕ). net_number_at (word n ++ t) ≡ Some (Some n, t)) (sym tail) (net_number_again (Some n) left front.1))

pub point_reads : (n number layer name net : ℕ) (bytes a b c d e left : List ℕ) → heading_at (codes "point") n bytes ≡ Some a → word_at a ≡ Some (number, b) → layer_at b ≡ Some (layer, c) → word_at c ≡ Some (name, d) → word_at d ≡ Some (net, e) → behind (10 ∷ []) e ≡ Some left
    → point_at n bytes ≡ Some (record { number = number; layer = layer; name = name; net = Some net }, left)
unfolding point_at
point_reads n number layer name net bytes a b c d e left h0 h1 h2 h3 h4 h5 =
    let made : PointLine = record { number = number; layer = layer; name = name; net = Some net } in
    step (heading_at (codes "point") n bytes) _ a (Some (made, left)) h0
    (step (word_at a) _ (number, b) (Some (made, left)) h1
    (step (layer_at b) _ (layer, c) (Some (made, left)) h2
    (step (word_at c) _ (name, d) (Some (made, left)) h3
    (step (net_number_at d) _ (Some net, e) (Some (made, left)) (net_reads d e left net h4 h5)
    (step (behind (10 ∷ []) e) _ left (Some (made, left)) h5 refl)))))

pub source_reads : (n file command copy top bottom : ℕ) (bytes a b c d e f left : List ℕ) → heading_at (codes "source") n bytes ≡ Some a → word_at a ≡ Some (file, b) → word_at b ≡ Some (command, c) → word_at c ≡ Some (copy, d) → layer_at d ≡ Some (top, e) → layer_at e ≡ Some (bottom, f) → behind (10 ∷ []) f ≡ Some left
    → source_at n bytes ≡ Some (record { file = file; command = command; copy = copy; top = top; bottom = bottom }, left)
unfolding source_at
source_reads n file command copy top bottom bytes a b c d e f left h0 h1 h2 h3 h4 h5 h6 =
    let made : SourceLine = record { file = file; command = command; copy = copy; top = top; bottom = bottom } in
    step (heading_at (codes "source") n bytes) _ a (Some (made, left)) h0
    (step (word_at a) _ (file, b) (Some (made, left)) h1
    (step (word_at b) _ (command, c) (Some (made, left)) h2
    (step (word_at c) _ (copy, d) (Some (made, left)) h3
    (step (layer_at d) _ (top, e) (Some (made, left)) h4
    (step (layer_at e) _ (bottom, f) (Some (made, left)) h5
    (step (behind (10 ∷ []) f) _ left (Some (made, left)) h6 refl))))))

pub spot_reads : (n : ℕ) (x y : ℤ) (bytes a b c left : List ℕ) → heading_at (codes "spot") n bytes ≡ Some a → signed_word_at a ≡ Some (x, b) → signed_word_at b ≡ Some (y, c) → behind (10 ∷ []) c ≡ Some left
    → spot_at n bytes ≡ Some (record { x = x; y = y }, left)
unfolding spot_at
spot_reads n x y bytes a b c left h0 h1 h2 h3 =
    let made : SpotLine = record { x = x; y = y } in
    step (heading_at (codes "spot") n bytes) _ a (Some (made, left)) h0
    (step (signed_word_at a) _ (x, b) (Some (made, left)) h1
    (step (signed_word_at b) _ (y, c) (Some (made, left)) h2
    (step (behind (10 ∷ []) c) _ left (Some (made, left)) h3 refl)))

-- the same behind a title with its blank
pub usual_spot_reads : (n : ℕ) (x y : ℤ) (bytes a b c left : List ℕ) → ((title : List ℕ) → codes "spot " ≡ title ++ 32 ∷ [] → heading_at title n bytes ≡ Some a) → signed_word_at a ≡ Some (x, b) → signed_word_at b ≡ Some (y, c) → behind (10 ∷ []) c ≡ Some left
    → spot_at n bytes ≡ Some (record { x = x; y = y }, left)
usual_spot_reads n x y bytes a b c left h0 h1 h2 h3 = spot_reads n x y bytes a b c left (h0 (codes "spot") refl) h1 h2 h3

-- a number of one digit behind a blank
short_word : (n : ℕ) (rest : List ℕ) → n < 10 → starts is_decimal_digit rest ≡ false → word_at (32 ∷ (48 + n) ∷ rest) ≡ Some (n, rest)
short_word n rest small none = subst (λ (t : List ℕ). word_at (32 ∷ (t ++ rest)) ≡ Some (n, rest)) (decimal_digit n small) (word_again n rest (omega (arith, small)) none)

-- the line of a source whose last three numbers have one digit each
pub short_source : (n file command copy top bottom : ℕ) (bytes a b c left : List ℕ) → heading_at (codes "source") n bytes ≡ Some a → word_at a ≡ Some (file, b) → word_at b ≡ Some (command, c) → IsShortEnd c copy top bottom left
    → source_at n bytes ≡ Some (record { file = file; command = command; copy = copy; top = top; bottom = bottom }, left)
short_source n file command copy top bottom bytes a b c left h0 h1 h2 tail =
    let f : List ℕ = 10 ∷ left in
    let e : List ℕ = 32 ∷ (48 + bottom) ∷ f in
    let d : List ℕ = 32 ∷ (48 + top) ∷ e in
    let small = tail.small in
    source_reads n file command copy top bottom bytes a b c d e f left h0 h1 h2
    (subst (λ (t : List ℕ). word_at t ≡ Some (copy, d)) (sym tail.stands) (short_word copy d small.0 refl))
    (layer_short d e top small.1 (short_word top e small.1 refl))
    (layer_short e f bottom small.2 (short_word bottom f small.2 refl))
    (behind_again (10 ∷ []) left)
