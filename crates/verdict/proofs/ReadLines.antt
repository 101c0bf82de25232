-- Each line of a report: what is read stood in front, and what stands in front is read.
use Rattle.std.proofs.Common.{◌≡◌, ℕ, ◌^◌, ◌<◌, Bool, true, false, eqb, List, [], ◌∷◌, ◌++◌, length, Option, Some, None, codes, refl, sym, ap, subst, ◌∙◌, append_assoc, arith}
use Rattle.std.specs.Prelude.{IfSome, decimal}
use Rattle.std.specs.List.{AllByRecursion, flat_map, list_all}
use Rattle.std.proofs.lemmas.Bool.{eqb-true}
use Rattle.std.proofs.lemmas.Fmt.{decimal_nonempty, digits_decimal}
use Rattle.texts.specs.Digits.{is_decimal_digit}
use Rattle.lengths.specs.Text.{IsText}
use Rattle.verdict.specs.declared.verdict.Twig.{Twig}
use Rattle.verdict.specs.declared.verdict.PointLine.{PointLine}
use Rattle.verdict.specs.declared.verdict.Open.{Open}
use Rattle.verdict.specs.declared.verdict.Branch.{Branch}
use Rattle.verdict.specs.Lawful.{IsNumber, IsTwig, IsPointLine, IsOpen, IsBranchLine}
use Rattle.verdict.specs.ReportReading.{◌>>=◌, behind, number_at, word_at, layer_at, parent_behind, parent_at, twig_at, net_behind, net_number_at, words_at, heading_at, net_at, name_at, point_at, open_at, branch_at, bare_at, titled_at, starts}
use Rattle.verdict.specs.ReportText.{word, end, count_line, parent_text, twig_text, net_line, name_line, net_text, point_line, open_line, branch_line, bare_line}
use Rattle.verdict.proofs.Steps.{step, some_is, and_both, front_then, own, behind_takes, behind_again, number_takes, number_again, word_takes, word_again, layer_takes, layer_again, text_takes, text_again}
use Rattle.verdict.proofs.ReadLists.{IsWord, IsLine, ends, ends_by, words_take, words_again, words_few}

-- what follows from a step that did not fail
pub bind_then : {A B C : Type 0} (r : Option A) (f : A → Option B) (y : B) → (r >>= f) ≡ Some y → ((x : A) → r ≡ Some x → f x ≡ Some y → C) → C
bind_then (Some x) f y e k = k x refl e
bind_then None f y e k = absurd cc

pub false_true : false ≡ true → ⊥
false_true e = absurd cc

-- ---- Twigs and pieces

pub behind_none : (c : ℕ) (rest : List ℕ) → starts (λ b. eqb b c) rest ≡ false → behind (c ∷ []) rest ≡ None
unfolding behind
behind_none c [] e = refl
behind_none c (b ∷ rest) e = let t : eqb b c ≡ false = e in rw t refl

parent_takes : (bytes : List ℕ) (p : Option ℕ) (rest : List ℕ) → parent_at bytes ≡ Some (p, rest) → (bytes ≡ parent_text p ++ rest) × IfSome p IsNumber
unfolding parent_at
parent_takes bytes p rest e = by (behind (58 ∷ []) bytes) refl e
  where
    by : (o : Option (List ℕ)) → behind (58 ∷ []) bytes ≡ o → parent_behind o bytes ≡ Some (p, rest) → (bytes ≡ parent_text p ++ rest) × IfSome p IsNumber
    by None h k = subst (λ (x : Option ℕ × List ℕ). (bytes ≡ parent_text x.0 ++ x.1) × IfSome x.0 IsNumber) (some_is (None, bytes) (p, rest) k) (refl, tt)
    by (Some r) h k = bind_then (number_at r) (λ n. Some (Some n.0, n.1)) (p, rest) k (λ n hn k1.
        let t = number_takes r n.0 n.1 hn in
        let whole : bytes ≡ parent_text (Some n.0) ++ n.1 = behind_takes (58 ∷ []) bytes r h ∙ ap (λ (s : List ℕ). 58 ∷ s) t.0 in
        subst (λ (x : Option ℕ × List ℕ). (bytes ≡ parent_text x.0 ++ x.1) × IfSome x.0 IsNumber) (some_is (Some n.0, n.1) (p, rest) k1) (whole, t.1))

parent_again : (p : Option ℕ) (rest : List ℕ) → IfSome p IsNumber → ends rest ≡ true → parent_at (parent_text p ++ rest) ≡ Some (p, rest)
unfolding parent_at
parent_again None rest h e =
    let none : behind (58 ∷ []) rest ≡ None = behind_none 58 rest (ends_by (λ b. eqb b 58) refl refl rest e) in
    ap (λ (o : Option (List ℕ)). parent_behind o rest) none
parent_again (Some n) rest h e =
    let s : behind (58 ∷ []) (58 ∷ (decimal n ++ rest)) ≡ Some (decimal n ++ rest) = behind_again (58 ∷ []) (decimal n ++ rest) in
    ap (λ (o : Option (List ℕ)). parent_behind o (58 ∷ (decimal n ++ rest))) s
    ∙ step (number_at (decimal n ++ rest)) (λ n. Some (Some n.0, n.1)) (n, rest) (Some (Some n, rest)) (number_again n rest h (ends_by is_decimal_digit refl refl rest e)) refl

after_parent : (p : Option ℕ) (rest : List ℕ) → ends rest ≡ true → starts is_decimal_digit (parent_text p ++ rest) ≡ false
after_parent None rest e = ends_by is_decimal_digit refl refl rest e
after_parent (Some n) rest e = refl

twig_takes : (bytes : List ℕ) (t : Twig) (rest : List ℕ) → twig_at bytes ≡ Some (t, rest) → (bytes ≡ twig_text t ++ rest) × IsTwig t
unfolding twig_at
twig_takes bytes t rest e = bind_then (word_at bytes) _ (t, rest) e (λ a ha e1. bind_then (parent_at a.1) _ (t, rest) e1 (λ b hb e2.
    let first = word_takes bytes a.0 a.1 ha in
    let second = parent_takes a.1 b.0 b.1 hb in
    let made : Twig = record { piece = a.0; parent = b.0 } in
    let whole : bytes ≡ twig_text made ++ b.1 = front_then bytes (word a.0) a.1 (parent_text b.0 ++ b.1) first.0 second.0 ∙ sym (append_assoc (word a.0) (parent_text b.0) b.1) in
    subst (λ (x : Twig × List ℕ). (bytes ≡ twig_text x.0 ++ x.1) × IsTwig x.0) (some_is (made, b.1) (t, rest) e2) (whole, record { piece = first.1; parent = second.1 })))

twig_again : (t : Twig) (rest : List ℕ) → IsTwig t → ends rest ≡ true → twig_at (twig_text t ++ rest) ≡ Some (t, rest)
unfolding twig_at
twig_again t rest h e =
    ap twig_at (append_assoc (word t.piece) (parent_text t.parent) rest)
    ∙ step (word_at (word t.piece ++ (parent_text t.parent ++ rest))) _ (t.piece, parent_text t.parent ++ rest) (Some (t, rest)) (word_again t.piece (parent_text t.parent ++ rest) h.piece (after_parent t.parent rest e))
    (step (parent_at (parent_text t.parent ++ rest)) _ (t.parent, rest) (Some (t, rest)) (parent_again t.parent rest h.parent e) refl)

pub twig_is : IsWord IsTwig twig_text twig_at
twig_is = record {
  takes = twig_takes;
  again = twig_again;
  blank = λ x rest. refl;
  some = λ x. omega arith;
}

pub piece_is : IsWord IsNumber word word_at
piece_is = record {
  takes = word_takes;
  again = λ n rest h e. word_again n rest h (ends_by is_decimal_digit refl refl rest e);
  blank = λ x rest. refl;
  some = λ x. omega arith;
}

-- ---- Nets and names

pub heading_takes : (title : List ℕ) (n : ℕ) (bytes rest : List ℕ) → heading_at title n bytes ≡ Some rest → bytes ≡ title ++ (word n ++ rest)
unfolding heading_at
heading_takes title n bytes rest e = bind_then (behind title bytes) _ rest e (λ a ha e1. bind_then (behind (32 ∷ []) a) _ rest e1 (λ b hb e2.
    front_then bytes title a (word n ++ rest) (behind_takes title bytes a ha) (behind_takes (32 ∷ []) a b hb ∙ ap (λ (t : List ℕ). 32 ∷ t) (behind_takes (decimal n) b rest e2))))

pub heading_again : (title : List ℕ) (n : ℕ) (rest : List ℕ) → heading_at title n (title ++ (word n ++ rest)) ≡ Some rest
unfolding heading_at
heading_again title n rest =
    step (behind title (title ++ (word n ++ rest))) _ (word n ++ rest) (Some rest) (behind_again title (word n ++ rest))
    (step (behind (32 ∷ []) (word n ++ rest)) _ (decimal n ++ rest) (Some rest) (behind_again (32 ∷ []) (decimal n ++ rest)) (behind_again (decimal n) rest))

net_parts : (n : ℕ) (net : List Twig) (rest : List ℕ) → net_line n net ++ rest ≡ codes "net" ++ (word n ++ (flat_map twig_text net ++ (end ++ rest)))
net_parts n net rest = simp append_assoc

net_takes : (n : ℕ) (bytes : List ℕ) (net : List Twig) (rest : List ℕ) → net_at n bytes ≡ Some (net, rest) → (bytes ≡ net_line n net ++ rest) × AllByRecursion IsTwig net
unfolding net_at
net_takes n bytes net rest e = bind_then (heading_at (codes "net") n bytes) _ (net, rest) e (λ a ha e1. bind_then (words_at twig_at (length a) a) _ (net, rest) e1 (λ b hb e2. bind_then (behind (10 ∷ []) b.1) _ (net, rest) e2 (λ c hc e3.
    let twigs = words_take IsTwig twig_text twig_at twig_is (length a) a b.0 b.1 hb in
    let tail : a ≡ flat_map twig_text b.0 ++ (end ++ c) = front_then a (flat_map twig_text b.0) b.1 (end ++ c) twigs.0 (behind_takes (10 ∷ []) b.1 c hc) in
    let whole : bytes ≡ net_line n b.0 ++ c = heading_takes (codes "net") n bytes a ha ∙ (ap (λ (t : List ℕ). codes "net" ++ (word n ++ t)) tail ∙ sym (net_parts n b.0 c)) in
    subst (λ (x : List Twig × List ℕ). (bytes ≡ net_line n x.0 ++ x.1) × AllByRecursion IsTwig x.0) (some_is (b.0, c) (net, rest) e3) (whole, twigs.1))))

pub net_again : (n : ℕ) (net : List Twig) (rest : List ℕ) → AllByRecursion IsTwig net → net_at n (net_line n net ++ rest) ≡ Some (net, rest)
unfolding net_at
net_again n net rest h =
    let tail = flat_map twig_text net ++ (end ++ rest) in
    ap (net_at n) (net_parts n net rest)
    ∙ step (heading_at (codes "net") n (codes "net" ++ (word n ++ tail))) _ tail (Some (net, rest)) (heading_again (codes "net") n tail)
    (step (words_at twig_at (length tail) tail) _ (net, end ++ rest) (Some (net, rest)) (words_again IsTwig twig_text twig_at twig_is net rest (length tail) h (words_few IsTwig twig_text twig_at twig_is net rest))
    (step (behind (10 ∷ []) (end ++ rest)) _ rest (Some (net, rest)) (behind_again (10 ∷ []) rest) refl))

pub net_is : IsLine (AllByRecursion IsTwig) net_line net_at
net_is = record {
  takes = net_takes;
  again = λ n x rest h short. net_again n x rest h;
  some = λ n x. omega arith;
}

name_parts : (n : ℕ) (name rest : List ℕ) → name_line n name ++ rest ≡ codes "name" ++ (word n ++ (32 ∷ (name ++ (end ++ rest))))
name_parts n name rest = simp append_assoc

name_takes : (n : ℕ) (bytes : List ℕ) (name rest : List ℕ) → name_at n bytes ≡ Some (name, rest) → (bytes ≡ name_line n name ++ rest) × IsText name
unfolding name_at
name_takes n bytes name rest e = bind_then (heading_at (codes "name") n bytes) _ (name, rest) e (λ a ha e1. bind_then (behind (32 ∷ []) a) _ (name, rest) e1 (λ b hb e2.
    let text = text_takes b name rest e2 in
    let tail : a ≡ 32 ∷ (name ++ (end ++ rest)) = behind_takes (32 ∷ []) a b hb ∙ ap (λ (t : List ℕ). 32 ∷ t) text.0 in
    (heading_takes (codes "name") n bytes a ha ∙ (ap (λ (t : List ℕ). codes "name" ++ (word n ++ t)) tail ∙ sym (name_parts n name rest)), text.1)))

pub name_again : (n : ℕ) (name rest : List ℕ) → IsText name → name_at n (name_line n name ++ rest) ≡ Some (name, rest)
unfolding name_at
name_again n name rest h =
    let tail = name ++ (end ++ rest) in
    ap (name_at n) (name_parts n name rest)
    ∙ step (heading_at (codes "name") n (codes "name" ++ (word n ++ (32 ∷ tail)))) _ (32 ∷ tail) (Some (name, rest)) (heading_again (codes "name") n (32 ∷ tail))
    (step (behind (32 ∷ []) (32 ∷ tail)) _ tail (Some (name, rest)) (behind_again (32 ∷ []) tail) (text_again name rest h))

pub name_is : IsLine IsText name_line name_at
name_is = record {
  takes = name_takes;
  again = λ n x rest h short. name_again n x rest h;
  some = λ n x. omega arith;
}

-- ---- Points

dash_none : (ds rest : List ℕ) → 0 < length ds → list_all is_decimal_digit ds ≡ true → behind (codes " -") (32 ∷ (ds ++ rest)) ≡ None
unfolding behind
dash_none [] rest some all = absurd (omega arith)
dash_none (d ∷ ds) rest some all =
    let none : eqb d 45 ≡ false = by (eqb d 45) refl in
    rw none refl
  where
    by : (b : Bool) → eqb d 45 ≡ b → b ≡ false
    by false e = refl
    by true e =
        let same : d ≡ 45 = eqb-true d 45 e in
        let digit : is_decimal_digit d ≡ true = (and_both (is_decimal_digit d) (list_all is_decimal_digit ds) all).0 in
        absurd (false_true (ap is_decimal_digit (sym same) ∙ digit))

net_number_takes : (bytes : List ℕ) (p : Option ℕ) (rest : List ℕ) → net_number_at bytes ≡ Some (p, rest) → (bytes ≡ net_text p ++ rest) × IfSome p IsNumber
unfolding net_number_at
net_number_takes bytes p rest e = by (behind (codes " -") bytes) refl e
  where
    by : (o : Option (List ℕ)) → behind (codes " -") bytes ≡ o → net_behind o bytes ≡ Some (p, rest) → (bytes ≡ net_text p ++ rest) × IfSome p IsNumber
    by (Some r) h k = subst (λ (x : Option ℕ × List ℕ). (bytes ≡ net_text x.0 ++ x.1) × IfSome x.0 IsNumber) (some_is (None, r) (p, rest) k) (behind_takes (codes " -") bytes r h, tt)
    by None h k = bind_then (word_at bytes) (λ n. Some (Some n.0, n.1)) (p, rest) k (λ n hn k1.
        let t = word_takes bytes n.0 n.1 hn in
        subst (λ (x : Option ℕ × List ℕ). (bytes ≡ net_text x.0 ++ x.1) × IfSome x.0 IsNumber) (some_is (Some n.0, n.1) (p, rest) k1) t)

pub net_number_again : (p : Option ℕ) (rest : List ℕ) → IfSome p IsNumber → net_number_at (net_text p ++ (end ++ rest)) ≡ Some (p, end ++ rest)
unfolding net_number_at
net_number_again None rest h =
    let s : behind (codes " -") (codes " -" ++ (end ++ rest)) ≡ Some (end ++ rest) = behind_again (codes " -") (end ++ rest) in
    ap (λ (o : Option (List ℕ)). net_behind o (codes " -" ++ (end ++ rest))) s
net_number_again (Some n) rest h =
    let wide : n < 2 ^ 64 = omega (arith, h) in
    let s : behind (codes " -") (word n ++ (end ++ rest)) ≡ None = dash_none (decimal n) (end ++ rest) (decimal_nonempty n wide) (digits_decimal own n wide) in
    ap (λ (o : Option (List ℕ)). net_behind o (word n ++ (end ++ rest))) s
    ∙ step (word_at (word n ++ (end ++ rest))) (λ n. Some (Some n.0, n.1)) (n, end ++ rest) (Some (Some n, end ++ rest)) (word_again n (end ++ rest) h refl) refl

after_name : (p : Option ℕ) (rest : List ℕ) → starts is_decimal_digit (net_text p ++ rest) ≡ false
after_name None rest = refl
after_name (Some n) rest = refl

point_parts : (n : ℕ) (p : PointLine) (rest : List ℕ) → point_line n p ++ rest ≡ codes "point" ++ (word n ++ (word p.number ++ (word p.layer ++ (word p.name ++ (net_text p.net ++ (end ++ rest))))))
point_parts n p rest = simp append_assoc

point_takes : (n : ℕ) (bytes : List ℕ) (p : PointLine) (rest : List ℕ) → point_at n bytes ≡ Some (p, rest) → (bytes ≡ point_line n p ++ rest) × IsPointLine p
unfolding point_at
point_takes n bytes p rest e = bind_then (heading_at (codes "point") n bytes) _ (p, rest) e (λ a ha e1. bind_then (word_at a) _ (p, rest) e1 (λ b hb e2. bind_then (layer_at b.1) _ (p, rest) e2 (λ c hc e3. bind_then (word_at c.1) _ (p, rest) e3 (λ d hd e4. bind_then (net_number_at d.1) _ (p, rest) e4 (λ f hf e5. bind_then (behind (10 ∷ []) f.1) _ (p, rest) e5 (λ g hg e6.
    let number = word_takes a b.0 b.1 hb in
    let layer = layer_takes b.1 c.0 c.1 hc in
    let name = word_takes c.1 d.0 d.1 hd in
    let net = net_number_takes d.1 f.0 f.1 hf in
    let made : PointLine = record { number = b.0; layer = c.0; name = d.0; net = f.0 } in
    let tail : a ≡ word b.0 ++ (word c.0 ++ (word d.0 ++ (net_text f.0 ++ (end ++ g)))) =
    front_then a (word b.0) b.1 _ number.0 (front_then b.1 (word c.0) c.1 _ layer.0 (front_then c.1 (word d.0) d.1 _ name.0 (front_then d.1 (net_text f.0) f.1 _ net.0 (behind_takes (10 ∷ []) f.1 g hg)))) in
    let whole : bytes ≡ point_line n made ++ g = heading_takes (codes "point") n bytes a ha ∙ (ap (λ (t : List ℕ). codes "point" ++ (word n ++ t)) tail ∙ sym (point_parts n made g)) in
    subst (λ (x : PointLine × List ℕ). (bytes ≡ point_line n x.0 ++ x.1) × IsPointLine x.0) (some_is (made, g) (p, rest) e6) (whole, record { number = number.1; layer = layer.1; name = name.1; net = net.1 })))))))

pub point_again : (n : ℕ) (p : PointLine) (rest : List ℕ) → IsPointLine p → point_at n (point_line n p ++ rest) ≡ Some (p, rest)
unfolding point_at
point_again n p rest h =
    let t5 = end ++ rest in
    let t4 = net_text p.net ++ t5 in
    let t3 = word p.name ++ t4 in
    let t2 = word p.layer ++ t3 in
    let t1 = word p.number ++ t2 in
    ap (point_at n) (point_parts n p rest)
    ∙ step (heading_at (codes "point") n (codes "point" ++ (word n ++ t1))) _ t1 (Some (p, rest)) (heading_again (codes "point") n t1)
    (step (word_at t1) _ (p.number, t2) (Some (p, rest)) (word_again p.number t2 h.number refl)
    (step (layer_at t2) _ (p.layer, t3) (Some (p, rest)) (layer_again p.layer t3 h.layer refl)
    (step (word_at t3) _ (p.name, t4) (Some (p, rest)) (word_again p.name t4 h.name (after_name p.net t5))
    (step (net_number_at t4) _ (p.net, t5) (Some (p, rest)) (net_number_again p.net rest h.net)
    (step (behind (10 ∷ []) t5) _ rest (Some (p, rest)) (behind_again (10 ∷ []) rest) refl)))))

pub point_is : IsLine IsPointLine point_line point_at
point_is = record {
  takes = point_takes;
  again = λ n x rest h short. point_again n x rest h;
  some = λ n x. omega arith;
}

-- ---- Findings

open_parts : (o : Open) (rest : List ℕ) → open_line o ++ rest ≡ codes "open" ++ (word o.name ++ (word o.home ++ (word o.other ++ (word o.probe ++ (end ++ rest)))))
open_parts o rest = simp append_assoc

open_takes : (n : ℕ) (bytes : List ℕ) (o : Open) (rest : List ℕ) → open_at n bytes ≡ Some (o, rest) → (bytes ≡ open_line o ++ rest) × IsOpen o
unfolding open_at
open_takes n bytes o rest e = bind_then (behind (codes "open") bytes) _ (o, rest) e (λ a ha e1. bind_then (word_at a) _ (o, rest) e1 (λ b hb e2. bind_then (word_at b.1) _ (o, rest) e2 (λ c hc e3. bind_then (word_at c.1) _ (o, rest) e3 (λ d hd e4. bind_then (word_at d.1) _ (o, rest) e4 (λ f hf e5. bind_then (behind (10 ∷ []) f.1) _ (o, rest) e5 (λ g hg e6.
    let name = word_takes a b.0 b.1 hb in
    let home = word_takes b.1 c.0 c.1 hc in
    let other = word_takes c.1 d.0 d.1 hd in
    let probe = word_takes d.1 f.0 f.1 hf in
    let made : Open = record { name = b.0; home = c.0; other = d.0; probe = f.0 } in
    let tail : a ≡ word b.0 ++ (word c.0 ++ (word d.0 ++ (word f.0 ++ (end ++ g)))) =
    front_then a (word b.0) b.1 _ name.0 (front_then b.1 (word c.0) c.1 _ home.0 (front_then c.1 (word d.0) d.1 _ other.0 (front_then d.1 (word f.0) f.1 _ probe.0 (behind_takes (10 ∷ []) f.1 g hg)))) in
    let whole : bytes ≡ open_line made ++ g = front_then bytes (codes "open") a _ (behind_takes (codes "open") bytes a ha) tail ∙ sym (open_parts made g) in
    subst (λ (x : Open × List ℕ). (bytes ≡ open_line x.0 ++ x.1) × IsOpen x.0) (some_is (made, g) (o, rest) e6) (whole, record { name = name.1; home = home.1; other = other.1; probe = probe.1 })))))))

pub open_again : (n : ℕ) (o : Open) (rest : List ℕ) → IsOpen o → open_at n (open_line o ++ rest) ≡ Some (o, rest)
unfolding open_at
open_again n o rest h =
    let t5 = end ++ rest in
    let t4 = word o.probe ++ t5 in
    let t3 = word o.other ++ t4 in
    let t2 = word o.home ++ t3 in
    let t1 = word o.name ++ t2 in
    ap (open_at n) (open_parts o rest)
    ∙ step (behind (codes "open") (codes "open" ++ t1)) _ t1 (Some (o, rest)) (behind_again (codes "open") t1)
    (step (word_at t1) _ (o.name, t2) (Some (o, rest)) (word_again o.name t2 h.name refl)
    (step (word_at t2) _ (o.home, t3) (Some (o, rest)) (word_again o.home t3 h.home refl)
    (step (word_at t3) _ (o.other, t4) (Some (o, rest)) (word_again o.other t4 h.other refl)
    (step (word_at t4) _ (o.probe, t5) (Some (o, rest)) (word_again o.probe t5 h.probe refl)
    (step (behind (10 ∷ []) t5) _ rest (Some (o, rest)) (behind_again (10 ∷ []) rest) refl)))))

pub open_is : IsLine IsOpen (λ n o. open_line o) open_at
open_is = record {
  takes = open_takes;
  again = λ n x rest h short. open_again n x rest h;
  some = λ n x. omega arith;
}

branch_parts : (b : Branch) (rest : List ℕ) → branch_line b ++ rest ≡ codes "branch" ++ (word b.name ++ (word b.probe ++ (flat_map word b.pieces ++ (end ++ rest))))
branch_parts b rest = simp append_assoc

branch_takes : (n : ℕ) (bytes : List ℕ) (b : Branch) (rest : List ℕ) → branch_at n bytes ≡ Some (b, rest) → (bytes ≡ branch_line b ++ rest) × IsBranchLine b
unfolding branch_at
branch_takes n bytes x rest e = bind_then (behind (codes "branch") bytes) _ (x, rest) e (λ a ha e1. bind_then (word_at a) _ (x, rest) e1 (λ b hb e2. bind_then (word_at b.1) _ (x, rest) e2 (λ c hc e3. bind_then (words_at word_at (length c.1) c.1) _ (x, rest) e3 (λ d hd e4. bind_then (behind (10 ∷ []) d.1) _ (x, rest) e4 (λ g hg e5.
    let name = word_takes a b.0 b.1 hb in
    let probe = word_takes b.1 c.0 c.1 hc in
    let pieces = words_take IsNumber word word_at piece_is (length c.1) c.1 d.0 d.1 hd in
    let made : Branch = record { name = b.0; probe = c.0; pieces = d.0 } in
    let tail : a ≡ word b.0 ++ (word c.0 ++ (flat_map word d.0 ++ (end ++ g))) =
    front_then a (word b.0) b.1 _ name.0 (front_then b.1 (word c.0) c.1 _ probe.0 (front_then c.1 (flat_map word d.0) d.1 _ pieces.0 (behind_takes (10 ∷ []) d.1 g hg))) in
    let whole : bytes ≡ branch_line made ++ g = front_then bytes (codes "branch") a _ (behind_takes (codes "branch") bytes a ha) tail ∙ sym (branch_parts made g) in
    subst (λ (y : Branch × List ℕ). (bytes ≡ branch_line y.0 ++ y.1) × IsBranchLine y.0) (some_is (made, g) (x, rest) e5) (whole, record { name = name.1; probe = probe.1; pieces = pieces.1 }))))))

after_probe : (pieces : List ℕ) (rest : List ℕ) → starts is_decimal_digit (flat_map word pieces ++ (end ++ rest)) ≡ false
after_probe [] rest = refl
after_probe (p ∷ pieces) rest = refl

pub branch_again : (n : ℕ) (b : Branch) (rest : List ℕ) → IsBranchLine b → branch_at n (branch_line b ++ rest) ≡ Some (b, rest)
unfolding branch_at
branch_again n b rest h =
    let t4 = end ++ rest in
    let t3 = flat_map word b.pieces ++ t4 in
    let t2 = word b.probe ++ t3 in
    let t1 = word b.name ++ t2 in
    ap (branch_at n) (branch_parts b rest)
    ∙ step (behind (codes "branch") (codes "branch" ++ t1)) _ t1 (Some (b, rest)) (behind_again (codes "branch") t1)
    (step (word_at t1) _ (b.name, t2) (Some (b, rest)) (word_again b.name t2 h.name refl)
    (step (word_at t2) _ (b.probe, t3) (Some (b, rest)) (word_again b.probe t3 h.probe (after_probe b.pieces rest))
    (step (words_at word_at (length t3) t3) _ (b.pieces, t4) (Some (b, rest)) (words_again IsNumber word word_at piece_is b.pieces rest (length t3) h.pieces (words_few IsNumber word word_at piece_is b.pieces rest))
    (step (behind (10 ∷ []) t4) _ rest (Some (b, rest)) (behind_again (10 ∷ []) rest) refl))))

pub branch_is : IsLine IsBranchLine (λ n b. branch_line b) branch_at
branch_is = record {
  takes = branch_takes;
  again = λ n x rest h short. branch_again n x rest h;
  some = λ n x. omega arith;
}

titled_parts : (title : List ℕ) (n : ℕ) (rest : List ℕ) → count_line title n ++ rest ≡ title ++ (word n ++ (end ++ rest))
titled_parts title n rest = simp append_assoc

pub titled_takes : (title bytes : List ℕ) (n : ℕ) (rest : List ℕ) → titled_at title bytes ≡ Some (n, rest) → (bytes ≡ count_line title n ++ rest) × IsNumber n
unfolding titled_at
titled_takes title bytes n rest e = bind_then (behind title bytes) _ (n, rest) e (λ a ha e1. bind_then (word_at a) _ (n, rest) e1 (λ b hb e2. bind_then (behind (10 ∷ []) b.1) _ (n, rest) e2 (λ g hg e3.
    let number = word_takes a b.0 b.1 hb in
    let tail : a ≡ word b.0 ++ (end ++ g) = front_then a (word b.0) b.1 _ number.0 (behind_takes (10 ∷ []) b.1 g hg) in
    let whole : bytes ≡ count_line title b.0 ++ g = front_then bytes title a _ (behind_takes title bytes a ha) tail ∙ sym (titled_parts title b.0 g) in
    subst (λ (y : ℕ × List ℕ). (bytes ≡ count_line title y.0 ++ y.1) × IsNumber y.0) (some_is (b.0, g) (n, rest) e3) (whole, number.1))))

pub titled_again : (title : List ℕ) (n : ℕ) (rest : List ℕ) → IsNumber n → titled_at title (count_line title n ++ rest) ≡ Some (n, rest)
unfolding titled_at
titled_again title n rest h =
    ap (titled_at title) (titled_parts title n rest)
    ∙ step (behind title (title ++ (word n ++ (end ++ rest)))) _ (word n ++ (end ++ rest)) (Some (n, rest)) (behind_again title (word n ++ (end ++ rest)))
    (step (word_at (word n ++ (end ++ rest))) _ (n, end ++ rest) (Some (n, rest)) (word_again n (end ++ rest) h refl)
    (step (behind (10 ∷ []) (end ++ rest)) _ rest (Some (n, rest)) (behind_again (10 ∷ []) rest) refl))

pub bare_is : IsLine IsNumber (λ n probe. bare_line probe) bare_at
bare_is = record {
  takes = λ n. titled_takes (codes "bare");
  again = λ n x rest h short. titled_again (codes "bare") x rest h;
  some = λ n x. omega arith;
}
