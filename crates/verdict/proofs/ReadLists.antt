-- Lists of words and of lines, as loops read them.
use Rattle.std.proofs.Common.{◌≡◌, ℕ, zero, suc, ◌+◌, ◌-◌, ◌^◌, ◌<◌, ◌≤◌, Bool, true, false, ◌||◌, cond, eqb, List, [], ◌∷◌, ◌++◌, length, Option, Some, None, refl, sym, ap, subst, ◌∙◌, append_assoc, append-nil, arith}
use Rattle.std.specs.List.{AllByRecursion, flat_map}
use Rattle.std.proofs.lemmas.List.{length-append}
use Rattle.std.proofs.lemmas.List.Concat.{flat_map-cons}
use Rattle.verdict.specs.declared.report_reading.ReadFault.{ReadFault}
use Rattle.verdict.specs.declared.report_reading.ReadFault.TheVariants.{NotAReport, NoMemory}
use Rattle.verdict.specs.ReportReading.{◌>>=◌, Fails, begins_blank, with_first, words_at, items_at, starts}
use Rattle.verdict.specs.ReportText.{numbered}
use Rattle.std.proofs.lemmas.Bool.{eqb-true}
use Rattle.verdict.proofs.Steps.{bind_some, some_is, front_then}

-- what was read before, and what is still read
abbrev pub with_front : {X : Type 0} → List X → Option (List X × List ℕ) → Option (List X × List ℕ)
with_front front read = read >>= λ x. Some (front ++ x.0, x.1)

regroup : {X : Type 0} (front : List X) (x : X) (read : Option (List X × List ℕ)) → with_front front (with_first x read) ≡ with_front (front ++ x ∷ []) read
regroup front x (Some y) = ap (λ (xs : List _). Some (xs, y.1)) (sym (append_assoc front (x ∷ []) y.0))
regroup front x None = refl

-- ---- Numbered items

pub items_go_on : {X : Type 0} (at : ℕ → List ℕ → Option (X × List ℕ)) (front : List X) (count n : ℕ) (bytes : List ℕ) (x : X) (after : List ℕ) (total : Option (List X × List ℕ)) → n < count → at n bytes ≡ Some (x, after)
    → with_front front (items_at at (count - n) n bytes) ≡ total → with_front (front ++ x ∷ []) (items_at at (count - (n + 1)) (n + 1) after) ≡ total
unfolding items_at
items_go_on at front count n bytes x after total lt h so_far =
    let k : count - n ≡ suc (count - (n + 1)) = omega arith in
    let one : with_front front (items_at at (count - n) n bytes) ≡ with_front (front ++ x ∷ []) (items_at at (count - (n + 1)) (n + 1) after) = rw (k, h) (regroup front x (items_at at (count - (n + 1)) (n + 1) after)) in
    sym one ∙ so_far

pub items_end : {X : Type 0} (at : ℕ → List ℕ → Option (X × List ℕ)) (fault : ReadFault) (front : List X) (count n : ℕ) (bytes : List ℕ) (total : Option (List X × List ℕ)) → n < count → Fails fault (at n bytes)
    → with_front front (items_at at (count - n) n bytes) ≡ total → Fails fault total
unfolding items_at
items_end at NoMemory front count n bytes total lt h so_far = tt
items_end at NotAReport front count n bytes total lt h so_far =
    let k : count - n ≡ suc (count - (n + 1)) = omega arith in
    let one : with_front front (items_at at (count - n) n bytes) ≡ None = rw (k, h) refl in
    sym so_far ∙ one

pub items_done : {X : Type 0} (at : ℕ → List ℕ → Option (X × List ℕ)) (front : List X) (count n : ℕ) (bytes : List ℕ) (total : Option (List X × List ℕ)) → count ≤ n → with_front front (items_at at (count - n) n bytes) ≡ total → total ≡ Some (front, bytes)
unfolding items_at
items_done at front count n bytes total le so_far =
    let k : count - n ≡ 0 = omega arith in
    let one : with_front front (items_at at (count - n) n bytes) ≡ Some (front, bytes) = rw k (ap (λ (xs : List _). Some (xs, bytes)) (append-nil front)) in
    sym so_far ∙ one

-- ---- Words

pub words_go_on : {X : Type 0} (at : List ℕ → Option (X × List ℕ)) (front : List X) (count n : ℕ) (bytes : List ℕ) (x : X) (after : List ℕ) (total : Option (List X × List ℕ)) → n < count → begins_blank bytes ≡ true → at bytes ≡ Some (x, after)
    → with_front front (words_at at (count - n) bytes) ≡ total → with_front (front ++ x ∷ []) (words_at at (count - (n + 1)) after) ≡ total
unfolding words_at
words_go_on at front count n bytes x after total lt blank h so_far =
    let k : count - n ≡ suc (count - (n + 1)) = omega arith in
    let one : with_front front (words_at at (count - n) bytes) ≡ with_front (front ++ x ∷ []) (words_at at (count - (n + 1)) after) = rw (k, blank, h) (regroup front x (words_at at (count - (n + 1)) after)) in
    sym one ∙ so_far

pub words_end : {X : Type 0} (at : List ℕ → Option (X × List ℕ)) (fault : ReadFault) (front : List X) (count n : ℕ) (bytes : List ℕ) (total : Option (List X × List ℕ)) → n < count → begins_blank bytes ≡ true → Fails fault (at bytes)
    → with_front front (words_at at (count - n) bytes) ≡ total → Fails fault total
unfolding words_at
words_end at NoMemory front count n bytes total lt blank h so_far = tt
words_end at NotAReport front count n bytes total lt blank h so_far =
    let k : count - n ≡ suc (count - (n + 1)) = omega arith in
    let one : with_front front (words_at at (count - n) bytes) ≡ None = rw (k, blank, h) refl in
    sym so_far ∙ one

pub words_stop : {X : Type 0} (at : List ℕ → Option (X × List ℕ)) (front : List X) (count n : ℕ) (bytes : List ℕ) (total : Option (List X × List ℕ)) → n < count → begins_blank bytes ≡ false
    → with_front front (words_at at (count - n) bytes) ≡ total → total ≡ Some (front, bytes)
unfolding words_at
words_stop at front count n bytes total lt blank so_far =
    let k : count - n ≡ suc (count - (n + 1)) = omega arith in
    let one : with_front front (words_at at (count - n) bytes) ≡ Some (front, bytes) = rw (k, blank) (ap (λ (xs : List _). Some (xs, bytes)) (append-nil front)) in
    sym so_far ∙ one

pub words_run_out : {X : Type 0} (at : List ℕ → Option (X × List ℕ)) (front : List X) (count n : ℕ) (bytes : List ℕ) (total : Option (List X × List ℕ)) → count ≤ n → with_front front (words_at at (count - n) bytes) ≡ total → total ≡ None
unfolding words_at
words_run_out at front count n bytes total le so_far =
    let k : count - n ≡ 0 = omega arith in
    let one : with_front front (words_at at (count - n) bytes) ≡ None = rw k refl in
    sym so_far ∙ one

-- ---- What is read stood there, and what stands there is read

-- a list goes on by a blank or its line ends
abbrev pub ends : List ℕ → Bool
ends [] = false
ends (b ∷ bytes) = eqb b 32 || eqb b 10

pub ends_by : (p : ℕ → Bool) → p 32 ≡ false → p 10 ≡ false → (bytes : List ℕ) → ends bytes ≡ true → starts p bytes ≡ false
ends_by p blank feed [] e = refl
ends_by p blank feed (b ∷ bytes) e = by (eqb b 32) (eqb b 10) refl refl e
  where
    by : (s t : Bool) → eqb b 32 ≡ s → eqb b 10 ≡ t → (s || t) ≡ true → p b ≡ false
    by true t h k e = let same : b ≡ 32 = eqb-true b 32 h in rw same blank
    by false true h k e = let same : b ≡ 10 = eqb-true b 10 k in rw same feed
    by false false h k e = absurd cc

pub blank_ends : (bytes : List ℕ) → begins_blank bytes ≡ true → ends bytes ≡ true
blank_ends [] e = absurd cc
blank_ends (b ∷ bytes) e = let t : eqb b 32 ≡ true = e in rw t refl

pub record IsWord {X : Type 0} (lawful : X → Type 0) (text : X → List ℕ) (at : List ℕ → Option (X × List ℕ)) : Type 0 where
  pub takes : (bytes : List ℕ) (x : X) (rest : List ℕ) → at bytes ≡ Some (x, rest) → (bytes ≡ text x ++ rest) × lawful x
  pub again : (x : X) (rest : List ℕ) → lawful x → ends rest ≡ true → at (text x ++ rest) ≡ Some (x, rest)
  pub blank : (x : X) (rest : List ℕ) → begins_blank (text x ++ rest) ≡ true
  pub some : (x : X) → 1 ≤ length (text x)

more_words : {X : Type 0} (text : X → List ℕ) (x : X) (xs : List X) (rest : List ℕ) → flat_map text (x ∷ xs) ++ rest ≡ text x ++ (flat_map text xs ++ rest)
more_words text x xs rest = ap (λ (t : List ℕ). t ++ rest) (flat_map-cons text x xs) ∙ append_assoc (text x) (flat_map text xs) rest

pub words_take : {X : Type 0} (lawful : X → Type 0) (text : X → List ℕ) (at : List ℕ → Option (X × List ℕ)) → IsWord lawful text at → (k : ℕ) (bytes : List ℕ) (xs : List X) (rest : List ℕ) → words_at at k bytes ≡ Some (xs, rest)
    → (bytes ≡ flat_map text xs ++ rest) × AllByRecursion lawful xs
unfolding words_at
words_take lawful text at is zero bytes xs rest e = absurd cc
words_take lawful text at is (suc k) bytes xs rest e = by (begins_blank bytes) e (λ bytes xs rest e. words_take lawful text at is k bytes xs rest e)
  where
    by : (b : Bool) → cond b (at bytes >>= λ x. with_first x.0 (words_at at k x.1)) (Some ([], bytes)) ≡ Some (xs, rest)
        → ((bytes : List ℕ) (xs : List _) (rest : List ℕ) → words_at at k bytes ≡ Some (xs, rest) → (bytes ≡ flat_map text xs ++ rest) × AllByRecursion lawful xs)
        → (bytes ≡ flat_map text xs ++ rest) × AllByRecursion lawful xs
    by false h more = subst (λ (p : List _ × List ℕ). (bytes ≡ flat_map text p.0 ++ p.1) × AllByRecursion lawful p.0) (some_is ([], bytes) (xs, rest) h) (refl, tt)
    by true h more =
        let a = bind_some (at bytes) _ (xs, rest) h in
        let b = bind_some (words_at at k a.0.1) _ (xs, rest) a.2 in
        let first = is.takes bytes a.0.0 a.0.1 a.1 in
        let others = more a.0.1 b.0.0 b.0.1 b.1 in
        let whole : bytes ≡ flat_map text (a.0.0 ∷ b.0.0) ++ b.0.1 = front_then bytes (text a.0.0) a.0.1 (flat_map text b.0.0 ++ b.0.1) first.0 others.0 ∙ sym (more_words text a.0.0 b.0.0 b.0.1) in
        subst (λ (p : List _ × List ℕ). (bytes ≡ flat_map text p.0 ++ p.1) × AllByRecursion lawful p.0) (some_is (a.0.0 ∷ b.0.0, b.0.1) (xs, rest) b.2) (whole, (first.1, others.1))

words_end_well : {X : Type 0} (lawful : X → Type 0) (text : X → List ℕ) (at : List ℕ → Option (X × List ℕ)) → IsWord lawful text at → (xs : List X) (rest : List ℕ) → ends (flat_map text xs ++ (10 ∷ rest)) ≡ true
words_end_well lawful text at is [] rest = refl
words_end_well lawful text at is (x ∷ xs) rest = rw (more_words text x xs (10 ∷ rest)) (blank_ends (text x ++ (flat_map text xs ++ (10 ∷ rest))) (is.blank x (flat_map text xs ++ (10 ∷ rest))))

pub words_again : {X : Type 0} (lawful : X → Type 0) (text : X → List ℕ) (at : List ℕ → Option (X × List ℕ)) → IsWord lawful text at → (xs : List X) (rest : List ℕ) (k : ℕ) → AllByRecursion lawful xs → length xs < k
    → words_at at k (flat_map text xs ++ (10 ∷ rest)) ≡ Some (xs, 10 ∷ rest)
unfolding words_at
words_again lawful text at is [] rest zero all few = absurd (omega arith)
words_again lawful text at is [] rest (suc k) all few = refl
words_again lawful text at is (x ∷ xs) rest zero all few = absurd (omega arith)
words_again lawful text at is (x ∷ xs) rest (suc k) all few =
    let others : words_at at k (flat_map text xs ++ (10 ∷ rest)) ≡ Some (xs, 10 ∷ rest) = words_again lawful text at is xs rest k all.1 (omega arith) in
    let first : at (text x ++ (flat_map text xs ++ (10 ∷ rest))) ≡ Some (x, flat_map text xs ++ (10 ∷ rest)) = is.again x _ all.0 (words_end_well lawful text at is xs rest) in
    let blank : begins_blank (text x ++ (flat_map text xs ++ (10 ∷ rest))) ≡ true = is.blank x _ in
    ap (words_at at (suc k)) (more_words text x xs (10 ∷ rest)) ∙ rw (blank, first, others) refl

pub words_few : {X : Type 0} (lawful : X → Type 0) (text : X → List ℕ) (at : List ℕ → Option (X × List ℕ)) → IsWord lawful text at → (xs : List X) (rest : List ℕ) → length xs < length (flat_map text xs ++ (10 ∷ rest))
words_few lawful text at is [] rest = omega arith
words_few lawful text at is (x ∷ xs) rest =
    let others = words_few lawful text at is xs rest in
    let long = length-append (text x) (flat_map text xs ++ (10 ∷ rest)) in
    let one = is.some x in
    rw (more_words text x xs (10 ∷ rest)) (omega (arith, others, long, one))

-- Lines: fits bytes where there are fewer than 2^64 of them.
pub record IsLine {X : Type 0} (lawful : X → Type 0) (text : ℕ → X → List ℕ) (at : ℕ → List ℕ → Option (X × List ℕ)) : Type 0 where
  pub takes : (n : ℕ) (bytes : List ℕ) (x : X) (rest : List ℕ) → at n bytes ≡ Some (x, rest) → (bytes ≡ text n x ++ rest) × lawful x
  pub again : (n : ℕ) (x : X) (rest : List ℕ) → lawful x → length (text n x ++ rest) < 2 ^ 64 → at n (text n x ++ rest) ≡ Some (x, rest)
  pub some : (n : ℕ) (x : X) → 1 ≤ length (text n x)

pub items_take : {X : Type 0} (lawful : X → Type 0) (text : ℕ → X → List ℕ) (at : ℕ → List ℕ → Option (X × List ℕ)) → IsLine lawful text at → (k n : ℕ) (bytes : List ℕ) (xs : List X) (rest : List ℕ) → items_at at k n bytes ≡ Some (xs, rest)
    → (bytes ≡ numbered text n xs ++ rest) × (length xs ≡ k) × AllByRecursion lawful xs
unfolding items_at
items_take lawful text at is zero n bytes xs rest e =
    subst (λ (p : List _ × List ℕ). (bytes ≡ numbered text n p.0 ++ p.1) × (length p.0 ≡ 0) × AllByRecursion lawful p.0) (some_is ([], bytes) (xs, rest) e) (refl, refl, tt)
items_take lawful text at is (suc k) n bytes xs rest e =
    let a = bind_some (at n bytes) _ (xs, rest) e in
    let b = bind_some (items_at at k (n + 1) a.0.1) _ (xs, rest) a.2 in
    let first = is.takes n bytes a.0.0 a.0.1 a.1 in
    let others = items_take lawful text at is k (n + 1) a.0.1 b.0.0 b.0.1 b.1 in
    let whole : bytes ≡ numbered text n (a.0.0 ∷ b.0.0) ++ b.0.1 = front_then bytes (text n a.0.0) a.0.1 (numbered text (n + 1) b.0.0 ++ b.0.1) first.0 others.0 ∙ sym (append_assoc (text n a.0.0) (numbered text (n + 1) b.0.0) b.0.1) in
    subst (λ (p : List _ × List ℕ). (bytes ≡ numbered text n p.0 ++ p.1) × (length p.0 ≡ suc k) × AllByRecursion lawful p.0) (some_is (a.0.0 ∷ b.0.0, b.0.1) (xs, rest) b.2) (whole, ap suc others.1, (first.1, others.2))

pub items_again : {X : Type 0} (lawful : X → Type 0) (text : ℕ → X → List ℕ) (at : ℕ → List ℕ → Option (X × List ℕ)) → IsLine lawful text at → (xs : List X) (n : ℕ) (rest : List ℕ) → AllByRecursion lawful xs → length (numbered text n xs ++ rest) < 2 ^ 64
    → items_at at (length xs) n (numbered text n xs ++ rest) ≡ Some (xs, rest)
unfolding items_at
items_again lawful text at is [] n rest all short = refl
items_again lawful text at is (x ∷ xs) n rest all short =
    let parts : numbered text n (x ∷ xs) ++ rest ≡ text n x ++ (numbered text (n + 1) xs ++ rest) = append_assoc (text n x) (numbered text (n + 1) xs) rest in
    let long = length-append (text n x) (numbered text (n + 1) xs ++ rest) in
    let whole : length (text n x ++ (numbered text (n + 1) xs ++ rest)) < 2 ^ 64 = subst (λ (t : List ℕ). length t < 2 ^ 64) parts short in
    let others : items_at at (length xs) (n + 1) (numbered text (n + 1) xs ++ rest) ≡ Some (xs, rest) = items_again lawful text at is xs (n + 1) rest all.1 (omega (arith, long, whole)) in
    let first : at n (text n x ++ (numbered text (n + 1) xs ++ rest)) ≡ Some (x, numbered text (n + 1) xs ++ rest) = is.again n x _ all.0 whole in
    ap (items_at at (suc (length xs)) n) parts ∙ rw (first, others) refl

pub items_few : {X : Type 0} (lawful : X → Type 0) (text : ℕ → X → List ℕ) (at : ℕ → List ℕ → Option (X × List ℕ)) → IsLine lawful text at → (xs : List X) (n : ℕ) → length xs ≤ length (numbered text n xs)
items_few lawful text at is [] n = omega arith
items_few lawful text at is (x ∷ xs) n =
    let others = items_few lawful text at is xs (n + 1) in
    let long = length-append (text n x) (numbered text (n + 1) xs) in
    let one = is.some n x in
    omega (arith, others, long, one)
