-- The supplement of a report: what is read stood there, and what stands there is read.
use Rattle.std.proofs.Common.{◌≡◌, ℕ, zero, suc, ◌^◌, ◌<◌, ℤ, pos, negsuc, Bool, true, false, cond, eqb, ltb, List, [], ◌∷◌, ◌++◌, length, Option, Some, None, codes, refl, sym, ap, subst, ◌∙◌, append_assoc, arith}
use Rattle.std.specs.Prelude.{decimal}
use Rattle.std.specs.Fmt.{signed_decimal}
use Rattle.std.specs.List.{list_all}
use Rattle.std.proofs.lemmas.Bool.{ltb-true, lt-ltb, eqb-true}
use Rattle.std.proofs.lemmas.Int.{ints}
use Rattle.std.proofs.lemmas.Fmt.{decimal_nonempty, digits_decimal}
use Rattle.texts.specs.Digits.{is_decimal_digit}
use Rattle.verdict.specs.declared.verdict.SpotLine.{SpotLine}
use Rattle.verdict.specs.declared.verdict.SourceLine.{SourceLine}
use Rattle.verdict.specs.Lawful.{IsSigned, IsSpotLine, IsSourceLine}
use Rattle.verdict.specs.ReportReading.{◌>>=◌, behind, wide_at, negated, signed_behind, signed_at, word_at, layer_at, signed_word_at, heading_at, spot_at, source_at, starts}
use Rattle.verdict.specs.ReportText.{word, signed_word, end, spot_line, source_line}
use Rattle.verdict.proofs.Steps.{step, some_is, guard_some, and_both, front_then, own, behind_takes, behind_again, wide_takes, wide_again, word_takes, word_again, layer_takes, layer_again}
use Rattle.verdict.proofs.ReadLists.{IsLine}
use Rattle.verdict.proofs.ReadLines.{bind_then, false_true, behind_none, heading_takes, heading_again}

-- ---- Signed numbers

high_of : (n : ℕ) → IsSigned (pos n) → n < 2 ^ 63
high_of n h = let t = h.high in omega (arith, ints, t)

low_of : (n : ℕ) → IsSigned (negsuc n) → n < 2 ^ 63
low_of n h = let t = h.low in omega (arith, ints, t)

plain : (n : ℕ) → n < 2 ^ 63 → IsSigned (pos n)
plain n h = record { low = omega (arith, ints, h); high = omega (arith, ints, h) }

below_zero : (n : ℕ) → n < 2 ^ 63 → IsSigned (negsuc n)
below_zero n h = record { low = omega (arith, ints, h); high = omega (arith, ints, h) }

-- a number and the bytes behind it
abbrev with_rest : Option ℤ → List ℕ → Option (ℤ × List ℕ)
with_rest read left = read >>= λ y. Some (y, left)

signed_takes : (bytes : List ℕ) (z : ℤ) (rest : List ℕ) → signed_at bytes ≡ Some (z, rest) → (bytes ≡ signed_decimal z ++ rest) × IsSigned z
unfolding signed_at
signed_takes bytes z rest e = by (behind (45 ∷ []) bytes) refl e
  where
    taken : (n : ℕ) (left bs : List ℕ) → bytes ≡ 45 ∷ bs → bs ≡ decimal n ++ left → with_rest (negated n) left ≡ Some (z, rest) → (bytes ≡ signed_decimal z ++ rest) × IsSigned z
    taken zero left bs h s k = absurd cc
    taken (suc m) left bs h s k = bind_then (negated (suc m)) (λ y. Some (y, left)) (z, rest) k (λ y hy k1.
        let g = guard_some (ltb m (2 ^ 63)) (Some (negsuc m)) y hy in
        let low : m < 2 ^ 63 = ltb-true _ _ g.0 in
        let same : negsuc m ≡ y = some_is _ _ g.1 in
        let whole : bytes ≡ signed_decimal (negsuc m) ++ left = h ∙ ap (λ (t : List ℕ). 45 ∷ t) s in
        subst (λ (x : ℤ × List ℕ). (bytes ≡ signed_decimal x.0 ++ x.1) × IsSigned x.0) (some_is (y, left) (z, rest) k1) (subst (λ (v : ℤ). (bytes ≡ signed_decimal v ++ left) × IsSigned v) same (whole, below_zero m low)))

    by : (o : Option (List ℕ)) → behind (45 ∷ []) bytes ≡ o → signed_behind o bytes ≡ Some (z, rest) → (bytes ≡ signed_decimal z ++ rest) × IsSigned z
    by None h k = bind_then (wide_at bytes) _ (z, rest) k (λ n hn k1.
        let t = wide_takes bytes n.0 n.1 hn in
        let g = guard_some (ltb n.0 (2 ^ 63)) (Some (pos n.0, n.1)) (z, rest) k1 in
        subst (λ (x : ℤ × List ℕ). (bytes ≡ signed_decimal x.0 ++ x.1) × IsSigned x.0) (some_is (pos n.0, n.1) (z, rest) g.1) (t.0, plain n.0 (ltb-true _ _ g.0)))
    by (Some r) h k = bind_then (wide_at r) _ (z, rest) k (λ n hn k1. taken n.0 n.1 r (behind_takes (45 ∷ []) bytes r h) (wide_takes r n.0 n.1 hn).0 k1)

-- digits do not begin with a minus
pub no_minus : (ds rest : List ℕ) → 0 < length ds → list_all is_decimal_digit ds ≡ true → starts (λ b. eqb b 45) (ds ++ rest) ≡ false
no_minus [] rest some all = absurd (omega arith)
no_minus (d ∷ ds) rest some all = by (eqb d 45) refl
  where
    by : (b : Bool) → eqb d 45 ≡ b → b ≡ false
    by false e = refl
    by true e =
        let same : d ≡ 45 = eqb-true d 45 e in
        let digit : is_decimal_digit d ≡ true = (and_both (is_decimal_digit d) (list_all is_decimal_digit ds) all).0 in
        absurd (false_true (ap is_decimal_digit (sym same) ∙ digit))

signed_again : (z : ℤ) (rest : List ℕ) → IsSigned z → starts is_decimal_digit rest ≡ false → signed_at (signed_decimal z ++ rest) ≡ Some (z, rest)
unfolding signed_at
signed_again (pos n) rest h none =
    let small = high_of n h in
    let wide : n < 2 ^ 64 = omega (arith, small) in
    let below : ltb n (2 ^ 63) ≡ true = lt-ltb n (2 ^ 63) small in
    let plus : behind (45 ∷ []) (decimal n ++ rest) ≡ None = behind_none 45 (decimal n ++ rest) (no_minus (decimal n) rest (decimal_nonempty n wide) (digits_decimal own n wide)) in
    ap (λ (o : Option (List ℕ)). signed_behind o (decimal n ++ rest)) plus
    ∙ step (wide_at (decimal n ++ rest)) (λ x. cond (ltb x.0 (2 ^ 63)) (Some (pos x.0, x.1)) None) (n, rest) (Some (pos n, rest)) (wide_again n rest wide none) (rw below refl)
signed_again (negsuc m) rest h none =
    let small = low_of m h in
    let wide : suc m < 2 ^ 64 = omega (arith, small) in
    let below : ltb m (2 ^ 63) ≡ true = lt-ltb m (2 ^ 63) small in
    let minus : behind (45 ∷ []) (45 ∷ (decimal (suc m) ++ rest)) ≡ Some (decimal (suc m) ++ rest) = behind_again (45 ∷ []) (decimal (suc m) ++ rest) in
    ap (λ (o : Option (List ℕ)). signed_behind o (45 ∷ (decimal (suc m) ++ rest))) minus
    ∙ step (wide_at (decimal (suc m) ++ rest)) (λ x. with_rest (negated x.0) x.1) (suc m, rest) (Some (negsuc m, rest)) (wide_again (suc m) rest wide none) (rw below refl)

signed_word_takes : (bytes : List ℕ) (z : ℤ) (rest : List ℕ) → signed_word_at bytes ≡ Some (z, rest) → (bytes ≡ signed_word z ++ rest) × IsSigned z
unfolding signed_word_at
signed_word_takes bytes z rest e = bind_then (behind (32 ∷ []) bytes) (λ r. signed_at r) (z, rest) e (λ a ha e1.
    let t = signed_takes a z rest e1 in
    (behind_takes (32 ∷ []) bytes a ha ∙ ap (λ (r : List ℕ). 32 ∷ r) t.0, t.1))

signed_word_again : (z : ℤ) (rest : List ℕ) → IsSigned z → starts is_decimal_digit rest ≡ false → signed_word_at (signed_word z ++ rest) ≡ Some (z, rest)
unfolding signed_word_at
signed_word_again z rest h none = step (behind (32 ∷ []) (signed_word z ++ rest)) (λ r. signed_at r) (signed_decimal z ++ rest) (Some (z, rest)) (behind_again (32 ∷ []) (signed_decimal z ++ rest)) (signed_again z rest h none)

-- ---- Spots

spot_parts : (n : ℕ) (s : SpotLine) (rest : List ℕ) → spot_line n s ++ rest ≡ codes "spot" ++ (word n ++ (signed_word s.x ++ (signed_word s.y ++ (end ++ rest))))
spot_parts n s rest = simp append_assoc

spot_takes : (n : ℕ) (bytes : List ℕ) (s : SpotLine) (rest : List ℕ) → spot_at n bytes ≡ Some (s, rest) → (bytes ≡ spot_line n s ++ rest) × IsSpotLine s
unfolding spot_at
spot_takes n bytes s rest e = bind_then (heading_at (codes "spot") n bytes) _ (s, rest) e (λ a ha e1. bind_then (signed_word_at a) _ (s, rest) e1 (λ b hb e2. bind_then (signed_word_at b.1) _ (s, rest) e2 (λ c hc e3. bind_then (behind (10 ∷ []) c.1) _ (s, rest) e3 (λ g hg e4.
    let x = signed_word_takes a b.0 b.1 hb in
    let y = signed_word_takes b.1 c.0 c.1 hc in
    let made : SpotLine = record { x = b.0; y = c.0 } in
    let tail : a ≡ signed_word b.0 ++ (signed_word c.0 ++ (end ++ g)) = front_then a (signed_word b.0) b.1 _ x.0 (front_then b.1 (signed_word c.0) c.1 _ y.0 (behind_takes (10 ∷ []) c.1 g hg)) in
    let whole : bytes ≡ spot_line n made ++ g = heading_takes (codes "spot") n bytes a ha ∙ (ap (λ (t : List ℕ). codes "spot" ++ (word n ++ t)) tail ∙ sym (spot_parts n made g)) in
    subst (λ (v : SpotLine × List ℕ). (bytes ≡ spot_line n v.0 ++ v.1) × IsSpotLine v.0) (some_is (made, g) (s, rest) e4) (whole, record { x = x.1; y = y.1 })))))

pub spot_again : (n : ℕ) (s : SpotLine) (rest : List ℕ) → IsSpotLine s → spot_at n (spot_line n s ++ rest) ≡ Some (s, rest)
unfolding spot_at
spot_again n s rest h =
    let t3 = end ++ rest in
    let t2 = signed_word s.y ++ t3 in
    let t1 = signed_word s.x ++ t2 in
    ap (spot_at n) (spot_parts n s rest)
    ∙ step (heading_at (codes "spot") n (codes "spot" ++ (word n ++ t1))) _ t1 (Some (s, rest)) (heading_again (codes "spot") n t1)
    (step (signed_word_at t1) _ (s.x, t2) (Some (s, rest)) (signed_word_again s.x t2 h.x refl)
    (step (signed_word_at t2) _ (s.y, t3) (Some (s, rest)) (signed_word_again s.y t3 h.y refl)
    (step (behind (10 ∷ []) t3) _ rest (Some (s, rest)) (behind_again (10 ∷ []) rest) refl)))

pub spot_is : IsLine IsSpotLine spot_line spot_at
spot_is = record {
  takes = spot_takes;
  again = λ n x rest h short. spot_again n x rest h;
  some = λ n x. omega arith;
}

-- ---- Sources

source_parts : (n : ℕ) (s : SourceLine) (rest : List ℕ) → source_line n s ++ rest ≡ codes "source" ++ (word n ++ (word s.file ++ (word s.command ++ (word s.copy ++ (word s.top ++ (word s.bottom ++ (end ++ rest)))))))
source_parts n s rest = simp append_assoc

source_takes : (n : ℕ) (bytes : List ℕ) (s : SourceLine) (rest : List ℕ) → source_at n bytes ≡ Some (s, rest) → (bytes ≡ source_line n s ++ rest) × IsSourceLine s
unfolding source_at
source_takes n bytes s rest e = bind_then (heading_at (codes "source") n bytes) _ (s, rest) e (λ a ha e1. bind_then (word_at a) _ (s, rest) e1 (λ b hb e2. bind_then (word_at b.1) _ (s, rest) e2 (λ c hc e3. bind_then (word_at c.1) _ (s, rest) e3 (λ d hd e4. bind_then (layer_at d.1) _ (s, rest) e4 (λ f hf e5. bind_then (layer_at f.1) _ (s, rest) e5 (λ k hk e6. bind_then (behind (10 ∷ []) k.1) _ (s, rest) e6 (λ g hg e7.
    let file = word_takes a b.0 b.1 hb in
    let command = word_takes b.1 c.0 c.1 hc in
    let copy = word_takes c.1 d.0 d.1 hd in
    let top = layer_takes d.1 f.0 f.1 hf in
    let bottom = layer_takes f.1 k.0 k.1 hk in
    let made : SourceLine = record { file = b.0; command = c.0; copy = d.0; top = f.0; bottom = k.0 } in
    let tail : a ≡ word b.0 ++ (word c.0 ++ (word d.0 ++ (word f.0 ++ (word k.0 ++ (end ++ g))))) =
    front_then a (word b.0) b.1 _ file.0 (front_then b.1 (word c.0) c.1 _ command.0 (front_then c.1 (word d.0) d.1 _ copy.0 (front_then d.1 (word f.0) f.1 _ top.0 (front_then f.1 (word k.0) k.1 _ bottom.0 (behind_takes (10 ∷ []) k.1 g hg))))) in
    let whole : bytes ≡ source_line n made ++ g = heading_takes (codes "source") n bytes a ha ∙ (ap (λ (t : List ℕ). codes "source" ++ (word n ++ t)) tail ∙ sym (source_parts n made g)) in
    subst (λ (v : SourceLine × List ℕ). (bytes ≡ source_line n v.0 ++ v.1) × IsSourceLine v.0) (some_is (made, g) (s, rest) e7) (whole, record { file = file.1; command = command.1; copy = copy.1; top = top.1; bottom = bottom.1 }))))))))

pub source_again : (n : ℕ) (s : SourceLine) (rest : List ℕ) → IsSourceLine s → source_at n (source_line n s ++ rest) ≡ Some (s, rest)
unfolding source_at
source_again n s rest h =
    let t6 = end ++ rest in
    let t5 = word s.bottom ++ t6 in
    let t4 = word s.top ++ t5 in
    let t3 = word s.copy ++ t4 in
    let t2 = word s.command ++ t3 in
    let t1 = word s.file ++ t2 in
    ap (source_at n) (source_parts n s rest)
    ∙ step (heading_at (codes "source") n (codes "source" ++ (word n ++ t1))) _ t1 (Some (s, rest)) (heading_again (codes "source") n t1)
    (step (word_at t1) _ (s.file, t2) (Some (s, rest)) (word_again s.file t2 h.file refl)
    (step (word_at t2) _ (s.command, t3) (Some (s, rest)) (word_again s.command t3 h.command refl)
    (step (word_at t3) _ (s.copy, t4) (Some (s, rest)) (word_again s.copy t4 h.copy refl)
    (step (layer_at t4) _ (s.top, t5) (Some (s, rest)) (layer_again s.top t5 h.top refl)
    (step (layer_at t5) _ (s.bottom, t6) (Some (s, rest)) (layer_again s.bottom t6 h.bottom refl)
    (step (behind (10 ∷ []) t6) _ rest (Some (s, rest)) (behind_again (10 ∷ []) rest) refl))))))

pub source_is : IsLine IsSourceLine source_line source_at
source_is = record {
  takes = source_takes;
  again = λ n x rest h short. source_again n x rest h;
  some = λ n x. omega arith;
}
