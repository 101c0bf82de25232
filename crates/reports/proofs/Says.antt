-- What a sink got, piece by piece.
use Rattle.std.proofs.Common.{◌≡◌, ℕ, suc, ◌+◌, ◌<◌, ◌≤◌, List, ◌∷◌, ◌++◌, length, take, drop, get_or, Option, Some, None, option_map, refl, sym, ap, subst, ◌∙◌, append_assoc, length-append, arith}
use Rattle.std.specs.List.{flat_map}
use Rattle.std.proofs.Math.Seq.{take-append-add, split_at}
use Rattle.std.proofs.lemmas.List.{take-append-le}
use Rattle.std.proofs.lemmas.Grind.{flat_map-append}
use Rattle.board_io.specs.Causes.{Rose}
use Rattle.board_io.specs.Sink.{Gains, GainsFrontOf, Puts, HasPutCause}
use Rattle.board_io.specs.declared.sink.Put.{Put}
use Rattle.board_io.specs.declared.sink.Put.TheVariants.{Failed}
use Rattle.reports.specs.Lines.{Says}

-- to append twice is to append both
twice : (a : Option (List ℕ)) (xs ys : List ℕ) → option_map (λ g. g ++ ys) (option_map (λ g. g ++ xs) a) ≡ option_map (λ g. g ++ (xs ++ ys)) a
twice None xs ys = refl
twice (Some g) xs ys = ap Some (append_assoc g xs ys)

pub Gains-then : (a b c : Option (List ℕ)) (xs ys : List ℕ) → Gains a xs b → Gains b ys c → Gains a (xs ++ ys) c
Gains-then a b c xs ys p q = q ∙ (ap (option_map (λ (g : List ℕ). g ++ ys)) p ∙ twice a xs ys)

-- bytes that were got, then a front of others
pub GainsFrontOf-then : (a b c : Option (List ℕ)) (done rest : List ℕ) → Gains a done b → GainsFrontOf b rest c → GainsFrontOf a (done ++ rest) c
GainsFrontOf-then a b c done rest p (n, within, q) =
    let bytes : done ++ take n rest ≡ take (length done + n) (done ++ rest) = sym (take-append-add done rest n) in
    let fits : length done + n ≤ length (done ++ rest) = omega (arith, length-append done rest) in
    let gains : Gains a (done ++ take n rest) c = Gains-then a b c done (take n rest) p q in
    (length done + n, fits, gains ∙ ap (λ (t : List ℕ). option_map (λ (g : List ℕ). g ++ t) a) bytes)

-- a front of bytes is one of them and others
pub GainsFrontOf-before : (a b : Option (List ℕ)) (bytes rest : List ℕ) → GainsFrontOf a bytes b → GainsFrontOf a (bytes ++ rest) b
GainsFrontOf-before a b bytes rest (n, within, q) =
    let same : take n bytes ≡ take n (bytes ++ rest) = sym (take-append-le n bytes rest within) in
    let fits : n ≤ length (bytes ++ rest) = omega (arith, length-append bytes rest, within) in
    (n, fits, q ∙ ap (λ (t : List ℕ). option_map (λ (g : List ℕ). g ++ t) a) same)

-- all pieces, cut around one
pub flat_map-around : {X : Type 0} (f : X → List ℕ) (xs : List X) (i : ℕ) (d : X) → i < length xs → flat_map f xs ≡ flat_map f (take i xs) ++ (f (get_or xs i d) ++ flat_map f (drop (suc i) xs))
flat_map-around f xs i d below = ap (flat_map f) (split_at xs i d below) ∙ flat_map-append f (take i xs) (get_or xs i d ∷ drop (suc i) xs)

-- bytes that were got, and then what is said of others
pub says_then : {N : Type 0} (got : N → Option (List ℕ)) (faults : N → ℕ) (old mid new : N) (done rest : List ℕ) → Gains (got old) done (got mid) → faults mid ≡ faults old → Says got faults mid new rest → Says got faults old new (done ++ rest)
says_then got faults old mid new done rest gains calm said = record {
  front = GainsFrontOf-then (got old) (got mid) (got new) done rest gains said.front;
  whole = λ none. Gains-then (got old) (got mid) (got new) done rest gains (said.whole (λ rose. none (subst (λ (x : ℕ). Rose x (faults new)) calm rose)));
  later = subst (λ (x : ℕ). x ≤ faults new) calm said.later;
}

-- where the faults rose, what is said of bytes is said of them and others
pub says_before : {N : Type 0} (got : N → Option (List ℕ)) (faults : N → ℕ) (old new : N) (bytes rest : List ℕ) → Rose (faults old) (faults new) → Says got faults old new bytes → Says got faults old new (bytes ++ rest)
says_before got faults old new bytes rest rose said = record {
  front = GainsFrontOf-before (got old) (got new) bytes rest said.front;
  whole = λ none. absurd (none rose);
  later = said.later;
}

-- a put that fails after bytes that were got, before others
pub says_failed : {N : Type 0} (got : N → Option (List ℕ)) (faults : N → ℕ) (old mid new : N) (r : Put) (done piece rest : List ℕ) → Gains (got old) done (got mid) → faults mid ≡ faults old → Puts r (got mid) piece (got new) → HasPutCause r (faults mid) (faults new) → r ≡ Failed
    → Says got faults old new (done ++ (piece ++ rest)) × Rose (faults old) (faults new)
says_failed got faults old mid new r done piece rest gains calm put cause failed =
    let part : GainsFrontOf (got mid) piece (got new) = subst (λ (x : Put). Puts x (got mid) piece (got new)) failed put in
    let rose : HasPutCause Failed (faults mid) (faults new) = subst (λ (x : Put). HasPutCause x (faults mid) (faults new)) failed cause in
    let said : Says got faults mid new piece = record { front = part; whole = λ none. absurd (none rose.0); later = rose.1 } in (
      says_then got faults old mid new done (piece ++ rest) gains calm (says_before got faults mid new piece rest rose.0 said),
      subst (λ (x : ℕ). Rose x (faults new)) calm rose.0,
    )
