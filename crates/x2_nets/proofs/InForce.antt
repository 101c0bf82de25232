-- The label in force: the last one whose command is less.
use Rattle.std.proofs.Common.{◌≡◌, ℕ, ◌+◌, ◌-◌, ◌<◌, ◌≤◌, suc, nat_lt, cond, Bool, true, false, List, [], ◌∷◌, ◌++◌, length, get_or, take, drop, Option, Some, None, refl, sym, ap, ◌∙◌, subst, arith, length-drop}
use Rattle.std.specs.Prelude.{option_and_then}
use Rattle.std.specs.Option.{option_or}
use Rattle.std.specs.List.{AllWithin}
use Rattle.std.specs.List.Sorted.{IsPartitionPoint}
use Rattle.std.proofs.Math.Seq.{drop-nil}
use Rattle.std.proofs.lemmas.Bool.{le-ltb, lt-ltb, ltb-true, ltb-false}
use Rattle.std.proofs.lemmas.List.{append-nil, get_or-drop, take-append-drop, take_more}
use Rattle.x2_nets.specs.Labels.{Said, nothing, named, unnamed, before_command, label_before, labels_of, last_before, name_at}
use Rattle.x2_nets.specs.declared.label_table.Label.{Label}

-- ---- Lists put end to end

or_none : (o : Option Label) → option_or o None ≡ o
or_none None = refl
or_none (Some l) = refl

or_or : (a b c : Option Label) → option_or (option_or a b) c ≡ option_or a (option_or b c)
or_or None b c = refl
or_or (Some l) b c = refl

last_append : (n : ℕ) (xs ys : List Label) → last_before n (xs ++ ys) ≡ option_or (last_before n ys) (last_before n xs)
last_append n [] ys = sym (or_none (last_before n ys))
last_append n (x ∷ xs) ys =
    let here : Option Label = cond (nat_lt x.command n) (Some x) None in
    ap (λ (o : Option Label). option_or o here) (last_append n xs ys) ∙ or_or (last_before n ys) (last_before n xs) here

-- one more label, whose command is less, or is not
less_last : (n : ℕ) (xs : List Label) (l : Label) → nat_lt l.command n ≡ true → last_before n (xs ++ l ∷ []) ≡ Some l
less_last n xs l h = last_append n xs (l ∷ []) ∙ rw h refl

not_less_last : (n : ℕ) (xs : List Label) (l : Label) → nat_lt l.command n ≡ false → last_before n (xs ++ l ∷ []) ≡ last_before n xs
not_less_last n xs l h = last_append n xs (l ∷ []) ∙ rw h refl

-- ---- A place that parts the labels

none_less : (n : ℕ) (xs : List Label) → ((k : ℕ) (d : Label) → k < length xs → nat_lt (get_or xs k d).command n ≡ false) → last_before n xs ≡ None
none_less n [] h = refl
none_less n (x ∷ xs) h =
    let head : nat_lt x.command n ≡ false = h 0 x (omega arith) in
    let tail = none_less n xs (λ k d less. h (suc k) d (omega arith)) in
    rw (tail, head) refl

none_at : (n : ℕ) (xs : List Label) → AllWithin (λ l. nat_lt l.command n ≡ false) xs 0 (length xs) → last_before n xs ≡ None
none_at n xs h = none_less n xs (λ k d less. h k d (omega arith) less)

last_at : (n : ℕ) (xs : List Label) (j : ℕ) (d : Label) → j < length xs → nat_lt (get_or xs j d).command n ≡ true → AllWithin (λ l. nat_lt l.command n ≡ false) xs (j + 1) (length xs) → last_before n xs ≡ Some (get_or xs j d)
last_at n xs j d below passes others =
    let front : last_before n (take (j + 1) xs) ≡ Some (get_or xs j d) = subst (λ (ys : List Label). last_before n ys ≡ Some (get_or xs j d)) (sym (take_more xs j d below)) (less_last n (take j xs) (get_or xs j d) passes) in
    let size = length-drop (j + 1) xs in
    let back : last_before n (drop (j + 1) xs) ≡ None = none_less n (drop (j + 1) xs) (λ k e less. subst (λ (l : Label). nat_lt l.command n ≡ false) (sym (get_or-drop (j + 1) xs k e)) (others (j + 1 + k) e (omega arith) (omega arith))) in
    ap (last_before n) (sym (take-append-drop (j + 1) xs)) ∙ last_append n (take (j + 1) xs) (drop (j + 1) xs) ∙ rw (back, front) refl

abbrev name_of : Option Label → Option (List ℕ)
name_of o = option_and_then (λ l. l.name) o

pub no_name : (n : ℕ) (xs : List Label) (count : ℕ) → IsPartitionPoint (λ l. nat_lt l.command n ≡ true) (λ l. nat_lt l.command n ≡ false) xs count → count ≡ 0 → None ≡ name_at xs n
no_name n xs count p e = sym (ap name_of (none_at n xs (λ k d low high. p.1 k d (omega arith) high)))

pub name_found : (n : ℕ) (xs : List Label) (count : ℕ) (d : Label) → count ≤ length xs → IsPartitionPoint (λ l. nat_lt l.command n ≡ true) (λ l. nat_lt l.command n ≡ false) xs count → (count ≡ 0 → ⊥) → (get_or xs (count - 1) d).name ≡ name_at xs n
name_found n xs count d within p some =
    let last = last_at n xs (count - 1) d (omega (arith, some)) (p.0 (count - 1) d (omega arith) (omega (arith, some))) (λ k e low high. p.1 k e (omega (arith, some)) high) in
    sym (ap name_of last)

-- ---- One label more of a walk

pub found_less : (n : ℕ) (xs : List Label) (i : ℕ) (d : Label) → i < length xs → (get_or xs i d).command < n → (get_or xs i d).name ≡ name_at (take (i + 1) xs) n
found_less n xs i d below less =
    let last : last_before n (take (i + 1) xs) ≡ Some (get_or xs i d) = subst (λ (ys : List Label). last_before n ys ≡ Some (get_or xs i d)) (sym (take_more xs i d below)) (less_last n (take i xs) (get_or xs i d) (lt-ltb (get_or xs i d).command n less)) in
    rw last refl

pub found_other : (n : ℕ) (xs : List Label) (i : ℕ) (d : Label) (found : Option (List ℕ)) → i < length xs → n ≤ (get_or xs i d).command → found ≡ name_at (take i xs) n → found ≡ name_at (take (i + 1) xs) n
found_other n xs i d found below least so_far =
    let same : last_before n (take (i + 1) xs) ≡ last_before n (take i xs) = subst (λ (ys : List Label). last_before n ys ≡ last_before n (take i xs)) (sym (take_more xs i d below)) (not_less_last n (take i xs) (get_or xs i d) (le-ltb (get_or xs i d).command n least)) in
    so_far ∙ sym (ap (λ (o : Option Label). option_and_then (λ l. l.name) o) same)

-- ---- Looking back

none_dropped : {A : Type 0} (k : ℕ) (xs : List A) → k ≡ 0 → drop k xs ≡ xs
none_dropped k xs e = rw e refl

one_more_dropped : {A : Type 0} (k j : ℕ) (x : A) (xs : List A) → k ≡ suc j → drop k (x ∷ xs) ≡ drop j xs
one_more_dropped k j x xs e = rw e refl

in_force : (s : Said) (earlier : List Said) (n : ℕ) → nat_lt (length earlier + 1) n ≡ true → name_at (labels_of earlier) n ≡ label_before earlier → name_at (labels_of (s ∷ earlier)) n ≡ label_before (s ∷ earlier)
in_force nothing earlier n h same = ap (λ (ls : List Label). name_at ls n) (append-nil (labels_of earlier)) ∙ same
in_force (named t) earlier n h same = ap (λ (o : Option Label). option_and_then (λ l. l.name) o) (less_last n (labels_of earlier) (record { command = length earlier + 1; name = Some t }) h)
in_force unnamed earlier n h same = ap (λ (o : Option Label). option_and_then (λ l. l.name) o) (less_last n (labels_of earlier) (record { command = length earlier + 1; name = None }) h)

not_in_force : (s : Said) (earlier : List Said) (n : ℕ) → nat_lt (length earlier + 1) n ≡ false → name_at (labels_of (s ∷ earlier)) n ≡ name_at (labels_of earlier) n
not_in_force nothing earlier n h = ap (λ (ls : List Label). name_at ls n) (append-nil (labels_of earlier))
not_in_force (named t) earlier n h = ap (λ (o : Option Label). option_and_then (λ l. l.name) o) (not_less_last n (labels_of earlier) (record { command = length earlier + 1; name = Some t }) h)
not_in_force unnamed earlier n h = ap (λ (o : Option Label). option_and_then (λ l. l.name) o) (not_less_last n (labels_of earlier) (record { command = length earlier + 1; name = None }) h)

one_back : (s : Said) (earlier : List Said) (n : ℕ) (b : Bool) → nat_lt (length earlier + 1) n ≡ b → name_at (labels_of earlier) n ≡ label_before (before_command n earlier) → name_at (labels_of (s ∷ earlier)) n ≡ label_before (before_command n (s ∷ earlier))
one_back s earlier n true h same =
    let less : length earlier + 1 < n = ltb-true (length earlier + 1) n h in
    let now = none_dropped (length (s ∷ earlier) + 1 - n) (s ∷ earlier) (omega arith) in
    let before = none_dropped (length earlier + 1 - n) earlier (omega arith) in
    in_force s earlier n h (same ∙ ap label_before before) ∙ ap label_before (sym now)
one_back s earlier n false h same =
    let least : n ≤ length earlier + 1 = ltb-false (length earlier + 1) n h in
    let more = one_more_dropped (length (s ∷ earlier) + 1 - n) (length earlier + 1 - n) s earlier (omega arith) in
    not_in_force s earlier n h ∙ same ∙ ap label_before (sym more)

pub look_back : (earlier : List Said) (n : ℕ) → name_at (labels_of earlier) n ≡ label_before (before_command n earlier)
look_back [] n = sym (ap label_before (drop-nil (0 + 1 - n)))
look_back (s ∷ earlier) n = one_back s earlier n (nat_lt (length earlier + 1) n) refl (look_back earlier n)
