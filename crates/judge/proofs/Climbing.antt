-- Paths up a tree.
use Rattle.std.proofs.Common.{◌≡◌, inl, inr, ℕ, zero, suc, ◌<◌, Bool, true, false, List, [], ◌∷◌, ◌++◌, length, get_or, set, Contains, All, Option, Some, None, sym, ap, subst, ◌∙◌, append_assoc, arith}
use Rattle.std.proofs.lemmas.List.{length-set, get_or-set_same, get_or-set_other, get_or_default}
use Rattle.std.proofs.lemmas.List.Elements.{All-push, Contains-append_left, Contains-append_cases, Contains-push}
use Rattle.std.proofs.lemmas.Bool.{cases_eq}
use Rattle.verdict.specs.declared.verdict.Twig.{Twig}
use Rattle.verdict.specs.Forest.{pieces_of}
use Rattle.verdict.specs.Right.{IsPath, HasParent, BeginsAt}
use Rattle.verdict.proofs.Placing.{placed, twig_inside}
use Rattle.judge.specs.Judged.{HangAbove, AreFlags}
use Rattle.verdict.specs.Places.{twig_at, HasPlaces}

-- a path that has not ended: its last piece has `next` as its parent
abbrev pub IsOpenPath : List Twig → List ℕ → List ℕ → ℕ → Type 0
IsOpenPath net ends [] next = Unit {0}
IsOpenPath net ends (piece ∷ []) next = (Contains ends piece → ⊥) × HasParent net piece next
IsOpenPath net ends (piece ∷ parent ∷ rest) next = (Contains ends piece → ⊥) × HasParent net piece parent × IsOpenPath net ends (parent ∷ rest) next

pub open_more : (net : List Twig) (ends pieces : List ℕ) (cur next : ℕ) → IsOpenPath net ends pieces cur → (Contains ends cur → ⊥) → HasParent net cur next → IsOpenPath net ends (pieces ++ cur ∷ []) next
open_more net ends [] cur next path not parent = (not, parent)
open_more net ends (p ∷ []) cur next (a, b) not parent = (a, b, (not, parent))
open_more net ends (p ∷ q ∷ rest) cur next (a, b, more) not parent = (a, b, open_more net ends (q ∷ rest) cur next more not parent)

pub path_ends : (net : List Twig) (ends pieces : List ℕ) (cur : ℕ) → IsOpenPath net ends pieces cur → Contains ends cur → IsPath net ends (pieces ++ cur ∷ [])
path_ends net ends [] cur path here = here
path_ends net ends (p ∷ []) cur (a, b) here = (a, b, here)
path_ends net ends (p ∷ q ∷ rest) cur (a, b, more) here = (a, b, path_ends net ends (q ∷ rest) cur more here)

-- a loop that goes up has come to place k
pub record IsUp (net : List Twig) (flags : List Bool) (from : ℕ) (pieces : List ℕ) (k : ℕ) : Type 0 where
  pub within : k < length net
  pub start : BeginsAt (λ piece. piece ≡ from) (pieces ++ (twig_at net k).piece ∷ [])
  pub path : (ends : List ℕ) → AreFlags net ends flags → IsOpenPath net ends pieces (twig_at net k).piece
  pub inside : All (λ piece. Contains (pieces_of net) piece) pieces

some_same : (a b : ℕ) → Some a ≡ Some b → a ≡ b
some_same a b e = cc

pub above_there : (net : List Twig) (places : List ℕ) (k parent : ℕ) → HangAbove net → HasPlaces net places → 0 < k → k < length net → (twig_at net k).parent ≡ Some parent → (parent < length places) × (get_or places parent 0 < k) × (parent ≡ (twig_at net (get_or places parent 0)).piece)
above_there net places k parent hang all inner within named =
    let h = hang k inner within in
    let same : parent ≡ (twig_at net h.place).piece = some_same parent (twig_at net h.place).piece (sym named ∙ h.named) in
    let below : h.place < length net = let b = h.before in omega arith in
    let fact = all h.place below in
    let place : get_or places parent 0 ≡ h.place = ap (λ (x : ℕ). get_or places x 0) same ∙ fact.1 in
    (subst (λ (x : ℕ). x < length places) (sym same) fact.0, (let b = h.before in omega arith), same ∙ ap (λ (x : ℕ). (twig_at net x).piece) (sym place))

pub above_some : (net : List Twig) (k : ℕ) → HangAbove net → 0 < k → k < length net → (twig_at net k).parent ≡ None → ⊥
above_some net k hang inner within named = let h = hang k inner within in let n = h.named in cc

begins_more : (P : ℕ → Type 0) (xs ys : List ℕ) → BeginsAt P xs → BeginsAt P (xs ++ ys)
begins_more P [] ys h = absurd h
begins_more P (x ∷ xs) ys h = h

pub up_start : (net : List Twig) (places : List ℕ) (flags : List Bool) (from : ℕ) → HasPlaces net places → Contains (pieces_of net) from → IsUp net flags from [] (get_or places from 0)
up_start net places flags from all inside =
    let p = placed net places from all inside in
    record { within = p.0; start = p.2; path = λ ends agree. tt; inside = λ k d h. absurd (omega arith) }

pub up_more : (net : List Twig) (flags : List Bool) (from : ℕ) (pieces : List ℕ) (k next : ℕ) → IsUp net flags from pieces k → get_or flags k false ≡ false → next < k → (twig_at net k).parent ≡ Some (twig_at net next).piece → IsUp net flags from (pieces ++ (twig_at net k).piece ∷ []) next
up_more net flags from pieces k next u off lower named =
    let within = u.within in
    let t : Twig = record { piece = (twig_at net k).piece; parent = Some (twig_at net next).piece } in
    let whole : twig_at net k ≡ t = ap (λ (o : Option ℕ). let x : Twig = record { piece = (twig_at net k).piece; parent = o } in x) named in
    let parent : HasParent net (twig_at net k).piece (twig_at net next).piece = (k, within, get_or_default net k t (record { piece = 0; parent = None }) within ∙ whole) in
    record {
      within = omega arith;
      start = begins_more (λ piece. piece ≡ from) (pieces ++ (twig_at net k).piece ∷ []) ((twig_at net next).piece ∷ []) u.start;
      path = λ ends agree. open_more net ends pieces (twig_at net k).piece (twig_at net next).piece (u.path ends agree) (λ held. let on = (agree k within).0 held in cc) parent;
      inside = All-push (λ piece. Contains (pieces_of net) piece) pieces (twig_at net k).piece u.inside (twig_inside net k within);
    }

pub up_done : (net : List Twig) (flags : List Bool) (from : ℕ) (pieces : List ℕ) (k : ℕ) → IsUp net flags from pieces k → get_or flags k false ≡ true → (ends : List ℕ) → AreFlags net ends flags → IsPath net ends (pieces ++ (twig_at net k).piece ∷ [])
up_done net flags from pieces k u on ends agree = path_ends net ends pieces (twig_at net k).piece (u.path ends agree) ((agree k u.within).1 on)

pub up_inside : (net : List Twig) (flags : List Bool) (from : ℕ) (pieces : List ℕ) (k : ℕ) → IsUp net flags from pieces k → All (λ piece. Contains (pieces_of net) piece) (pieces ++ (twig_at net k).piece ∷ [])
up_inside net flags from pieces k u = All-push (λ piece. Contains (pieces_of net) piece) pieces (twig_at net k).piece u.inside (twig_inside net k u.within)

-- The pieces of `done` were flagged too.
pub record AreFlagged (net : List Twig) (old : List Bool) (done : List ℕ) (flags : List Bool) : Type 0 where
  pub long : length flags ≡ length old
  pub agree : (ends : List ℕ) → AreFlags net ends old → AreFlags net (ends ++ done) flags

pub flagged_more : (net : List Twig) (places : List ℕ) (old : List Bool) (done : List ℕ) (flags : List Bool) (q : ℕ) → HasPlaces net places → length old ≡ length net → Contains (pieces_of net) q → AreFlagged net old done flags → AreFlagged net old (done ++ q ∷ []) (set flags (get_or places q 0) true)
flagged_more net places old done flags q all long inside f =
    let p = placed net places q all inside in
    let j : ℕ = get_or places q 0 in
    let below : j < length flags = let e = f.long in let b = p.0 in omega arith in
    record {
      long = length-set flags j true ∙ f.long;
      agree = λ ends a k within.
          let was = f.agree ends a k within in
          let piece : ℕ = (twig_at net k).piece in
          let forth : Contains (ends ++ (done ++ q ∷ [])) piece → get_or (set flags j true) k false ≡ true =
          λ held. elim (cases_eq k j) [
            | inl same ↦ ap (λ (x : ℕ). get_or (set flags j true) x false) same ∙ get_or-set_same flags j true false below
            | inr other ↦ get_or-set_other flags j k true false other ∙ was.0 (elim (Contains-append_cases (ends ++ done) (q ∷ []) piece (subst (λ (xs : List ℕ). Contains xs piece) (sym (append_assoc ends done (q ∷ []))) held)) [
              | inl old ↦ old
              | inr new ↦ absurd (other (sym (all k within).1 ∙ ap (λ (x : ℕ). get_or places x 0) (sym (only q piece new))))
            ])
          ] in
          let back : get_or (set flags j true) k false ≡ true → Contains (ends ++ (done ++ q ∷ [])) piece =
          λ on. subst (λ (xs : List ℕ). Contains xs piece) (append_assoc ends done (q ∷ [])) (elim (cases_eq k j) [
            | inl same ↦ subst (λ (x : ℕ). Contains (ends ++ done ++ q ∷ []) x) (sym (ap (λ (x : ℕ). (twig_at net x).piece) same ∙ p.2)) (Contains-push (ends ++ done) q)
            | inr other ↦ Contains-append_left (ends ++ done) (q ∷ []) piece (was.1 (sym (get_or-set_other flags j k true false other) ∙ on))
          ]) in
          (forth, back);
    }
  where
    only : (x y : ℕ) → Contains (x ∷ []) y → x ≡ y
    only x y (zero, below, same) = same
    only x y (suc k, below, same) = absurd (omega arith)
