-- Branches one by one, and the shorts that have them.
use Rattle.std.proofs.Common.{◌≡◌, ◌↔◌, ℕ, ◌+◌, ◌<◌, ◌≤◌, max, List, [], ◌∷◌, ◌++◌, length, get_or, take, drop, All, Option, Some, sym, ap, subst, ◌∙◌, arith, slice_get}
use Rattle.std.proofs.lemmas.List.{drop_more, take_all, take_more}
use Rattle.std.proofs.lemmas.List.Elements.{All-get_or, All-push}
use Rattle.std.proofs.lemmas.Option.{slice_get-get_or}
use Rattle.verdict.specs.declared.verdict.Branch.{Branch}
use Rattle.verdict.specs.declared.verdict.PointLine.{PointLine}
use Rattle.verdict.specs.declared.verdict.Short.{Short}
use Rattle.verdict.specs.declared.verdict.Twig.{Twig}
use Rattle.verdict.specs.declared.verdict.Mark.{Mark}
use Rattle.verdict.specs.Forest.{first_piece, net_at}
use Rattle.verdict.specs.Places.{HasPlaces}
use Rattle.verdict.specs.Right.{AreBranches, BeginsAtHome, HasBranches, IsBranch}
use Rattle.verdict.specs.Seats.{AreFirst, IsFirst, marks_at}
use Rattle.witness_check.specs.Marked.{AreStamped, AreUpTo, HasMarks}

-- ---- The branches of a short

-- The branches before i are right, and the rest decides: the pieces with the stamp are its ends.
pub record AreBranchedTo (net : List Twig) (homes : List (Option ℕ)) (marks : List Mark) (branches : List Branch) (stamp room i : ℕ) (stamps : List ℕ) : Type 0 where
  pub long : length stamps ≡ room
  pub highest : AreUpTo stamp stamps
  pub ends : List ℕ
  pub stamped : AreStamped ends stamp stamps
  pub right : (number : ℕ) (lines : List PointLine) → All (IsFirst number lines) marks → AreBranches net (BeginsAtHome homes) lines number (first_piece net ∷ []) branches ↔ AreBranches net (BeginsAtHome homes) lines number ends (drop i branches)

branch_next : (branches : List Branch) (i : ℕ) (b : Branch) → i < length branches → b ≡ get_or branches i b → drop i branches ≡ b ∷ drop (i + 1) branches
branch_next branches i b below item = drop_more branches i b below ∙ ap (λ (x : Branch). x ∷ drop (i + 1) branches) (sym item)

pub branched_more : (net : List Twig) (homes : List (Option ℕ)) (marks : List Mark) (branches : List Branch) (stamp room i : ℕ) (stamps stamps' : List ℕ) (b : Branch) (m : Mark) → i < length branches → i < length marks → b ≡ get_or branches i b → length stamps' ≡ length stamps → AreUpTo stamp stamps'
    → ((number : ℕ) (lines : List PointLine) (ends : List ℕ) → IsFirst number lines (get_or marks i m) → AreStamped ends stamp stamps → IsBranch net (BeginsAtHome homes) lines number ends b)
    → ((ends : List ℕ) → AreStamped ends stamp stamps → AreStamped (ends ++ b.pieces) stamp stamps') → AreBranchedTo net homes marks branches stamp room i stamps → AreBranchedTo net homes marks branches stamp room (i + 1) stamps'
branched_more net homes marks branches stamp room i stamps stamps' b m below within item long up is more to = record {
  long = long ∙ to.long;
  highest = up;
  ends = to.ends ++ b.pieces;
  stamped = more to.ends to.stamped;
  right = λ number lines firsts. (
    (λ whole. (subst (AreBranches net (BeginsAtHome homes) lines number to.ends) (branch_next branches i b below item) ((to.right number lines firsts).0 whole)).1),
    λ rest. (to.right number lines firsts).1 (subst (AreBranches net (BeginsAtHome homes) lines number to.ends) (sym (branch_next branches i b below item)) (is number lines to.ends (All-get_or (IsFirst number lines) marks i m within firsts) to.stamped, rest)),
  );
}

pub branched_stops : (net : List Twig) (homes : List (Option ℕ)) (marks : List Mark) (branches : List Branch) (stamp room i : ℕ) (stamps : List ℕ) (b : Branch) (m : Mark) → i < length branches → i < length marks → b ≡ get_or branches i b
    → ((number : ℕ) (lines : List PointLine) (ends : List ℕ) → IsFirst number lines (get_or marks i m) → AreStamped ends stamp stamps → IsBranch net (BeginsAtHome homes) lines number ends b → ⊥)
    → AreBranchedTo net homes marks branches stamp room i stamps → (number : ℕ) (lines : List PointLine) → All (IsFirst number lines) marks → AreBranches net (BeginsAtHome homes) lines number (first_piece net ∷ []) branches → ⊥
branched_stops net homes marks branches stamp room i stamps b m below within item not to number lines firsts whole =
    not number lines to.ends (All-get_or (IsFirst number lines) marks i m within firsts) to.stamped (subst (AreBranches net (BeginsAtHome homes) lines number to.ends) (branch_next branches i b below item) ((to.right number lines firsts).0 whole)).0

-- ---- All shorts

-- The shorts before i have right branches.
pub record AreRightTo (nets : List (List Twig)) (table : List (List Mark)) (homes : List (Option ℕ)) (shorts : List Short) (room i : ℕ) (stamps : List ℕ) : Type 0 where
  pub long : length stamps ≡ room
  pub highest : AreUpTo i stamps
  pub right : (lines : List PointLine) → AreFirst lines table → All (HasBranches nets (BeginsAtHome homes) lines) (take i shorts)

-- A short of a net that is there has its branches exactly where they are right in that net.
short_is : (nets : List (List Twig)) (starts : ℕ → ℕ → Type 0) (lines : List PointLine) (s : Short) (net : List Twig) → slice_get nets s.net ≡ Some net → AreBranches net starts lines s.net (first_piece net ∷ []) s.branches ↔ HasBranches nets starts lines s
short_is nets starts lines s net there = (
  (λ all. record { net = net; there = there; branches = all }),
  λ has. subst (λ (n : List Twig). AreBranches n starts lines s.net (first_piece n ∷ []) s.branches) (some_net (sym has.there ∙ there)) has.branches,
) where
  some_net : {a b : List Twig} → Some a ≡ Some b → a ≡ b
  some_net e = cc

-- What the loop has in hand at short i: the short, its net and the marks there.
pub record IsInHand (nets : List (List Twig)) (table : List (List Mark)) (shorts : List Short) (i : ℕ) (s : Short) (net : List Twig) (row : List Mark) : Type 0 where
  pub below : i < length shorts
  pub item : s ≡ get_or shorts i s
  pub within : s.net < length table
  pub has : net ≡ net_at nets s.net
  pub there : s.net < length nets
  pub named : row ≡ marks_at table s.net

pub in_hand : (nets : List (List Twig)) (table : List (List Mark)) (shorts : List Short) (i : ℕ) (s : Short) (net : List Twig) (row : List Mark) → length table ≡ length nets → All (HasMarks table) shorts → i < length shorts → s ≡ get_or shorts i s
    → (s.net < length nets → net ≡ net_at nets s.net) → (s.net < length table → row ≡ marks_at table s.net) → IsInHand nets table shorts i s net row
in_hand nets table shorts i s net row long marked below item has named =
    let within : s.net < length table = (subst (HasMarks table) (sym item) (All-get_or (HasMarks table) shorts i s below marked)).within in
    let there : s.net < length nets = omega arith in
    record { below = below; item = item; within = within; has = has there; there = there; named = named within }

pub right_more : (nets : List (List Twig)) (table : List (List Mark)) (homes : List (Option ℕ)) (shorts : List Short) (room i : ℕ) (stamps stamps' : List ℕ) (s : Short) (net : List Twig) (row : List Mark) → IsInHand nets table shorts i s net row
    → length stamps' ≡ length stamps → AreUpTo (i + 1) stamps' → ((number : ℕ) (lines : List PointLine) → All (IsFirst number lines) row → AreBranches net (BeginsAtHome homes) lines number (first_piece net ∷ []) s.branches)
    → AreRightTo nets table homes shorts room i stamps → AreRightTo nets table homes shorts room (i + 1) stamps'
right_more nets table homes shorts room i stamps stamps' s net row hand long up all to = record {
  long = long ∙ to.long;
  highest = up;
  right = λ lines firsts. subst (All (HasBranches nets (BeginsAtHome homes) lines)) (sym (take_more shorts i s hand.below ∙ ap (λ (x : Short). take i shorts ++ x ∷ []) (sym hand.item)))
      (All-push (HasBranches nets (BeginsAtHome homes) lines) (take i shorts) s (to.right lines firsts)
      ((short_is nets (BeginsAtHome homes) lines s net (slice_get-get_or nets s.net [] hand.there ∙ ap Some (sym hand.has))).0 (all s.net lines (subst (All (IsFirst s.net lines)) (sym hand.named) (firsts s.net hand.within)))));
}

pub right_stops : (nets : List (List Twig)) (table : List (List Mark)) (homes : List (Option ℕ)) (shorts : List Short) (i : ℕ) (s : Short) (net : List Twig) (row : List Mark) → IsInHand nets table shorts i s net row
    → ((number : ℕ) (lines : List PointLine) → All (IsFirst number lines) row → AreBranches net (BeginsAtHome homes) lines number (first_piece net ∷ []) s.branches → ⊥)
    → (lines : List PointLine) → AreFirst lines table → All (HasBranches nets (BeginsAtHome homes) lines) shorts → ⊥
right_stops nets table homes shorts i s net row hand not lines firsts all =
    not s.net lines (subst (All (IsFirst s.net lines)) (sym hand.named) (firsts s.net hand.within))
    ((short_is nets (BeginsAtHome homes) lines s net (slice_get-get_or nets s.net [] hand.there ∙ ap Some (sym hand.has))).1 (subst (HasBranches nets (BeginsAtHome homes) lines) (sym hand.item) (All-get_or (HasBranches nets (BeginsAtHome homes) lines) shorts i s hand.below all)))

pub right_done : (nets : List (List Twig)) (table : List (List Mark)) (homes : List (Option ℕ)) (shorts : List Short) (room i : ℕ) (stamps : List ℕ) → length shorts ≤ i → AreRightTo nets table homes shorts room i stamps → (lines : List PointLine) → AreFirst lines table → All (HasBranches nets (BeginsAtHome homes) lines) shorts
right_done nets table homes shorts room i stamps past to lines firsts = subst (All (HasBranches nets (BeginsAtHome homes) lines)) (take_all i shorts past) (to.right lines firsts)

-- The first piece of a net has a place in a table that is never empty.
first_known : (net : List Twig) (places : List ℕ) (room : ℕ) → HasPlaces net places → length places ≤ room → 0 < room → first_piece net < room
first_known [] places room placed most some = some
first_known (t ∷ rest) places room placed most some = let e = (placed 0 (omega arith)).0 in omega arith

-- the places of the net in hand
pub hand_placed : (nets : List (List Twig)) (table : List (List Mark)) (shorts : List Short) (i : ℕ) (s : Short) (net : List Twig) (row : List Mark) (places : List ℕ) → IsInHand nets table shorts i s net row → ((n : ℕ) → n < length nets → HasPlaces (net_at nets n) places) → HasPlaces net places
hand_placed nets table shorts i s net row places hand placed = subst (λ (n : List Twig). HasPlaces n places) (sym hand.has) (placed s.net hand.there)

pub first_placed : (nets : List (List Twig)) (table : List (List Mark)) (shorts : List Short) (i : ℕ) (s : Short) (net : List Twig) (row : List Mark) (places : List ℕ) (room : ℕ) → IsInHand nets table shorts i s net row → ((n : ℕ) → n < length nets → HasPlaces (net_at nets n) places) → room ≡ max (length places) 1 → first_piece net < room
first_placed nets table shorts i s net row places room hand placed most = first_known net places room (hand_placed nets table shorts i s net row places hand placed) (omega (arith, most)) (omega (arith, most))
