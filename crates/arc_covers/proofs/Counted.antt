-- Lines of counts: what is read stands there, what stands there is read, and it is told by the bytes.
use Rattle.std.proofs.Common.{◌≡◌, ◌⊎◌, inl, inr, ℕ, zero, suc, ◌+◌, ◌<◌, ◌≤◌, List, [], ◌∷◌, ◌++◌, length, All, Some, None, decimal, refl, sym, ap, subst, ◌∙◌, append_assoc, append-nil, arith}
use Rattle.std.proofs.lemmas.List.{length-append}
use Rattle.std.proofs.lemmas.List.Elements.{All-append, All-cons, All-head, All-nil, All-tail}
use Rattle.verdict.specs.ReportReading.{behind, number_at, word_at}
use Rattle.verdict.specs.ReportText.{end, word}
use Rattle.verdict.proofs.Steps.{behind_again, behind_takes, bind_some, front_then, number_again, number_takes, some_is, step, word_again, word_takes}
use Rattle.verdict.proofs.OneText.{pair_parts, cancel}
use Rattle.arc_covers.specs.Counts.{AreCounts, IsCount, IsFirstOther, IsOther, count_line, count_lines, first_line}
use Rattle.arc_covers.specs.CountsReading.{both_at}

-- ---- one line

line_parts : (below above : ℕ) (rest : List ℕ) → count_line below above ++ rest ≡ decimal below ++ (word above ++ (end ++ rest))
line_parts below above rest = simp append_assoc

pub both_takes : (bytes : List ℕ) (below above : ℕ) (rest : List ℕ) → both_at bytes ≡ Some ((below, above), rest) → (bytes ≡ count_line below above ++ rest) × IsCount below × IsCount above
unfolding both_at
both_takes bytes below above rest e =
    let p = bind_some (number_at bytes) _ ((below, above), rest) e in
    let q = bind_some (word_at p.0.1) _ ((below, above), rest) p.2 in
    let t = bind_some (behind (10 ∷ []) q.0.1) _ ((below, above), rest) q.2 in
    let first = number_takes bytes p.0.0 p.0.1 p.1 in
    let second = word_takes p.0.1 q.0.0 q.0.1 q.1 in
    let last = behind_takes (10 ∷ []) q.0.1 t.0 t.1 in
    let whole : bytes ≡ count_line p.0.0 q.0.0 ++ t.0 = front_then bytes (decimal p.0.0) p.0.1 _ first.0 (front_then p.0.1 (word q.0.0) q.0.1 _ second.0 last) ∙ sym (line_parts p.0.0 q.0.0 t.0) in
    subst (λ (y : (ℕ × ℕ) × List ℕ). (bytes ≡ count_line y.0.0 y.0.1 ++ y.1) × IsCount y.0.0 × IsCount y.0.1) (some_is ((p.0.0, q.0.0), t.0) ((below, above), rest) t.2) (whole, first.1, second.1)

pub both_again : (below above : ℕ) (rest : List ℕ) → IsCount below → IsCount above → both_at (count_line below above ++ rest) ≡ Some ((below, above), rest)
unfolding both_at
both_again below above rest few many =
    ap both_at (line_parts below above rest) ∙ step (number_at (decimal below ++ (word above ++ (end ++ rest)))) _ (below, word above ++ (end ++ rest)) (Some ((below, above), rest)) (number_again below (word above ++ (end ++ rest)) few refl)
    (step (word_at (word above ++ (end ++ rest))) _ (above, end ++ rest) (Some ((below, above), rest)) (word_again above (end ++ rest) many refl)
    (step (behind (10 ∷ []) (end ++ rest)) _ rest (Some ((below, above), rest)) (behind_again (10 ∷ []) rest) refl))

-- the bytes begin with a line of counts
abbrev Begins : List ℕ → Type 0
Begins bytes = (below : ℕ) × (above : ℕ) × (more : List ℕ) × IsCount below × IsCount above × (bytes ≡ count_line below above ++ more)

line_some : (below above : ℕ) (more : List ℕ) → 1 ≤ length (count_line below above ++ more)
line_some below above more =
    let parts = ap length (line_parts below above more) in
    let first = length-append (decimal below) (word above ++ (end ++ more)) in
    omega (arith, parts, first)

pub shorter : (bytes : List ℕ) (below above : ℕ) (rest : List ℕ) → bytes ≡ count_line below above ++ rest → length rest < length bytes
shorter bytes below above rest e =
    let n = ap length e in
    let all = length-append (count_line below above) rest in
    let one = line_some below above [] in
    let none = length-append (count_line below above) [] in
    omega (arith, n, all, one, none)

none_begins : Begins [] → ⊥
none_begins (below, above, more, few, many, e) =
    let one = line_some below above more in
    let n = ap length e in
    absurd (omega (arith, one, n))

line_one : (b a c d : ℕ) (r s : List ℕ) → IsCount b → IsCount a → IsCount c → IsCount d → count_line b a ++ r ≡ count_line c d ++ s → (b ≡ c) × (a ≡ d) × (r ≡ s)
line_one b a c d r s hb ha hc hd e =
    let same : ◌≡◌ {A = (ℕ × ℕ) × List ℕ} ((b, a), r) ((c, d), s) = some_is ((b, a), r) ((c, d), s) (sym (both_again b a r hb ha) ∙ (ap both_at e ∙ both_again c d s hc hd)) in
    let parts = pair_parts ((b, a), r) ((c, d), s) same in
    let counts = pair_parts (b, a) (c, d) parts.0 in
    (counts.0, counts.1, parts.1)

-- ---- many lines

pub lines_more : (lower upper : List ℕ) (below above : ℕ) (rest : List ℕ) → length lower ≡ length upper → count_lines (lower ++ below ∷ []) (upper ++ above ∷ []) ++ rest ≡ count_lines lower upper ++ (count_line below above ++ rest)
lines_more [] [] below above rest even = ap (λ (t : List ℕ). t ++ rest) (append-nil (count_line below above))
lines_more [] (a ∷ upper) below above rest even = absurd (omega arith)
lines_more (b ∷ lower) [] below above rest even = absurd (omega arith)
lines_more (b ∷ lower) (a ∷ upper) below above rest even =
    append_assoc (count_line b a) (count_lines (lower ++ below ∷ []) (upper ++ above ∷ [])) rest ∙ (ap (λ (t : List ℕ). count_line b a ++ t) (lines_more lower upper below above rest (omega arith)) ∙ sym (append_assoc (count_line b a) (count_lines lower upper) (count_line below above ++ rest)))

-- even lists of counts
record IsEven (lower upper : List ℕ) : Type 0 where
  even : length lower ≡ length upper
  below : All IsCount lower
  above : All IsCount upper

rest_even : (b a : ℕ) (lower upper : List ℕ) → IsEven (b ∷ lower) (a ∷ upper) → IsEven lower upper
rest_even b a lower upper is = let even = is.even in record { even = omega arith; below = All-tail IsCount b lower is.below; above = All-tail IsCount a upper is.above }

cons_is : {A : Type 0} {a b : A} {xs ys : List A} → a ≡ b → xs ≡ ys → a ∷ xs ≡ b ∷ ys
cons_is p q = cc

first_of : (b a c d : ℕ) (l u m v r s : List ℕ) → IsEven (b ∷ l) (a ∷ u) → IsEven (c ∷ m) (d ∷ v) → count_lines (b ∷ l) (a ∷ u) ++ r ≡ count_lines (c ∷ m) (d ∷ v) ++ s → (b ≡ c) × (a ≡ d) × (count_lines l u ++ r ≡ count_lines m v ++ s)
first_of b a c d l u m v r s is at e =
    line_one b a c d (count_lines l u ++ r) (count_lines m v ++ s) (All-head IsCount b l is.below) (All-head IsCount a u is.above) (All-head IsCount c m at.below) (All-head IsCount d v at.above)
    (sym (append_assoc (count_line b a) (count_lines l u) r) ∙ (e ∙ append_assoc (count_line c d) (count_lines m v) s))

-- lines of one number
as_long : (l u m v r s : List ℕ) → IsEven l u → IsEven m v → length l ≡ length m → count_lines l u ++ r ≡ count_lines m v ++ s → (l ≡ m) × (u ≡ v) × (r ≡ s)
as_long [] [] [] [] r s is at n e = (refl, refl, e)
as_long [] [] [] (d ∷ v) r s is at n e = let even = at.even in absurd (omega arith)
as_long [] [] (c ∷ m) v r s is at n e = absurd (omega arith)
as_long [] (a ∷ u) m v r s is at n e = let even = is.even in absurd (omega arith)
as_long (b ∷ l) [] m v r s is at n e = let even = is.even in absurd (omega arith)
as_long (b ∷ l) (a ∷ u) [] v r s is at n e = absurd (omega arith)
as_long (b ∷ l) (a ∷ u) (c ∷ m) [] r s is at n e = let even = at.even in absurd (omega arith)
as_long (b ∷ l) (a ∷ u) (c ∷ m) (d ∷ v) r s is at n e =
    let head = first_of b a c d l u m v r s is at e in
    let tail = as_long l u m v r s (rest_even b a l u is) (rest_even c d m v at) (omega arith) head.2 in
    (cons_is head.0 tail.0, cons_is head.1 tail.1, tail.2)

-- of more lines than stood here, the next stands behind them
fewer : (l u m v r s : List ℕ) → IsEven l u → IsEven m v → length l < length m → count_lines l u ++ r ≡ count_lines m v ++ s → Begins r
fewer [] [] [] v r s is at n e = absurd (omega arith)
fewer [] [] (c ∷ m) [] r s is at n e = let even = at.even in absurd (omega arith)
fewer [] [] (c ∷ m) (d ∷ v) r s is at n e = (c, d, count_lines m v ++ s, All-head IsCount c m at.below, All-head IsCount d v at.above, e ∙ append_assoc (count_line c d) (count_lines m v) s)
fewer [] (a ∷ u) m v r s is at n e = let even = is.even in absurd (omega arith)
fewer (b ∷ l) [] m v r s is at n e = let even = is.even in absurd (omega arith)
fewer (b ∷ l) (a ∷ u) [] v r s is at n e = absurd (omega arith)
fewer (b ∷ l) (a ∷ u) (c ∷ m) [] r s is at n e = let even = at.even in absurd (omega arith)
fewer (b ∷ l) (a ∷ u) (c ∷ m) (d ∷ v) r s is at n e = fewer l u m v r s (rest_even b a l u is) (rest_even c d m v at) (omega arith) (first_of b a c d l u m v r s is at e).2

-- ---- files

evenly : (bytes lower upper : List ℕ) → AreCounts bytes lower upper → IsEven lower upper
evenly bytes lower upper is = record { even = is.even; below = is.below; above = is.above }

-- two fronts of the same bytes
module _ (bytes f l u r g m v s : List ℕ) (is : AreCounts f l u) (at : AreCounts g m v) (e : bytes ≡ f ++ r) (d : bytes ≡ g ++ s) where
  lines_same : count_lines l u ++ r ≡ count_lines m v ++ s
  lines_same = cancel first_line (count_lines l u ++ r) (count_lines m v ++ s) (sym (whole f l u r is) ∙ (sym e ∙ (d ∙ whole g m v s at)))
    where
      whole : (f l u r : List ℕ) → AreCounts f l u → f ++ r ≡ first_line ++ (count_lines l u ++ r)
      whole f l u r is = ap (λ (t : List ℕ). t ++ r) is.spelled ∙ append_assoc first_line (count_lines l u) r

  cases : (n k : ℕ) → (n < k) ⊎ ((n ≡ k) ⊎ (k < n))
  cases n k = grind arith

  -- behind the fewer stands a line, or both are one
  fronts : Begins r ⊎ (((l ≡ m) × (u ≡ v) × (r ≡ s)) ⊎ Begins s)
  fronts = elim (cases (length l) (length m)) [
    | inl less ↦ inl (fewer l u m v r s (evenly f l u is) (evenly g m v at) less lines_same)
    | inr (inl same) ↦ inr (inl (as_long l u m v r s (evenly f l u is) (evenly g m v at) same lines_same))
    | inr (inr more) ↦ inr (inr (fewer m v l u s r (evenly g m v at) (evenly f l u is) more (sym lines_same)))
  ]

pub one : (bytes lower upper lower' upper' : List ℕ) → AreCounts bytes lower upper → AreCounts bytes lower' upper' → (lower ≡ lower') × (upper ≡ upper')
one bytes l u m v is at = elim (fronts bytes bytes l u [] bytes m v [] is at (sym (append-nil bytes)) (sym (append-nil bytes))) [
  | inl here ↦ absurd (none_begins here)
  | inr (inl same) ↦ (same.0, same.1)
  | inr (inr there) ↦ absurd (none_begins there)
]

begins_not : (bytes : List ℕ) (k : ℕ) (o : IsOther bytes k) → Begins o.rest → ⊥
begins_not bytes k o (below, above, more, few, many, e) = o.other below above more few many e

pub headed : (bytes f l u r : List ℕ) → AreCounts f l u → bytes ≡ f ++ r → bytes ≡ first_line ++ (count_lines l u ++ r)
headed bytes f l u r is e = e ∙ (ap (λ (t : List ℕ). t ++ r) is.spelled ∙ append_assoc first_line (count_lines l u) r)

pub apart : (bytes lower upper : List ℕ) (n : ℕ) → AreCounts bytes lower upper → IsFirstOther bytes n → ⊥
apart bytes l u zero is other = other
apart bytes l u (suc zero) is other = other (count_lines l u) is.spelled
apart bytes l u (suc (suc k)) is o = elim (fronts bytes bytes l u [] o.front o.lower o.upper o.rest is o.before (sym (append-nil bytes)) o.whole) [
  | inl here ↦ none_begins here
  | inr (inl same) ↦ o.some (sym same.2)
  | inr (inr there) ↦ begins_not bytes k o there
]

pub first : (bytes : List ℕ) (n m : ℕ) → IsFirstOther bytes n → IsFirstOther bytes m → n ≡ m
first bytes zero m o p = absurd o
first bytes (suc zero) zero o p = absurd p
first bytes (suc zero) (suc zero) o p = refl
first bytes (suc zero) (suc (suc j)) o p = absurd (o (count_lines p.lower p.upper ++ p.rest) (headed bytes p.front p.lower p.upper p.rest p.before p.whole))
first bytes (suc (suc k)) zero o p = absurd p
first bytes (suc (suc k)) (suc zero) o p = absurd (p (count_lines o.lower o.upper ++ o.rest) (headed bytes o.front o.lower o.upper o.rest o.before o.whole))
first bytes (suc (suc k)) (suc (suc j)) o p = elim (fronts bytes o.front o.lower o.upper o.rest p.front p.lower p.upper p.rest o.before p.before o.whole p.whole) [
  | inl here ↦ absurd (begins_not bytes k o here)
  | inr (inl same) ↦
      let n = o.number in
      let m = p.number in
      let long : length o.lower ≡ length p.lower = ap length same.0 in
      omega (arith, n, m, long)
  | inr (inr there) ↦ absurd (begins_not bytes j p there)
]

-- ---- what the code finds

pub none_some : {A : Type 0} (x : A) → None ≡ Some x → ⊥
none_some x e = absurd cc

pub longer : (xs ys : List ℕ) (x : ℕ) → ys ≡ xs ++ x ∷ [] → length ys ≡ length xs + 1
longer xs ys x e = ap length e ∙ length-append xs (x ∷ [])

pub all_more : (xs ys : List ℕ) (x : ℕ) → ys ≡ xs ++ x ∷ [] → All IsCount xs → IsCount x → All IsCount ys
all_more xs ys x e all one = subst (λ (t : List ℕ). All IsCount t) (sym e) (All-append IsCount xs (x ∷ []) all (All-cons IsCount x [] one (All-nil IsCount)))

pub lines_next : (lines lower upper rest lower' upper' : List ℕ) (below above : ℕ) (after : List ℕ) → length lower ≡ length upper → lower' ≡ lower ++ below ∷ [] → upper' ≡ upper ++ above ∷ [] → rest ≡ count_line below above ++ after → lines ≡ count_lines lower upper ++ rest
    → lines ≡ count_lines lower' upper' ++ after
lines_next lines lower upper rest lower' upper' below above after even low up is whole =
    whole ∙ (ap (λ (t : List ℕ). count_lines lower upper ++ t) is ∙ (sym (lines_more lower upper below above after even) ∙
    (ap (λ (t : List ℕ). count_lines t (upper ++ above ∷ []) ++ after) (sym low) ∙ ap (λ (t : List ℕ). count_lines lower' t ++ after) (sym up))))

pub other_line : (bytes rest lower upper : List ℕ) (line : ℕ) → line ≡ length lower + 2 → length lower ≡ length upper → All IsCount lower → All IsCount upper → bytes ≡ count_lines lower upper ++ rest → (rest ≡ [] → ⊥) → both_at rest ≡ None → IsFirstOther (first_line ++ bytes) line
other_line bytes rest lower upper line n even below above whole some none = subst (IsFirstOther (first_line ++ bytes)) (sym number) found
  where
    number : line ≡ suc (suc (length lower))
    number = omega (arith, n)

    found : IsOther (first_line ++ bytes) (length lower)
    found = record {
      front = first_line ++ count_lines lower upper;
      lower = lower;
      upper = upper;
      before = record { even = even; below = below; above = above; spelled = refl };
      number = refl;
      rest = rest;
      whole = ap (λ (t : List ℕ). first_line ++ t) whole ∙ sym (append_assoc first_line (count_lines lower upper) rest);
      some = some;
      other = λ b a more few many e. none_some ((b, a), more) (sym none ∙ (ap both_at e ∙ both_again b a more few many));
    }
