-- Parts of a contour, and what stands for them.
use Rattle.std.proofs.Common.{◌≡◌, ◌≢◌, ◌↔◌, ℕ, suc, ◌+◌, ◌≤◌, ◌<◌, ℤ, pos, List, [], ◌∷◌, ◌++◌, length, get_or, take, drop, All, Bool, true, false, IsTrue, Option, Some, IfSome, refl, sym, ap, ◌∙◌, subst, arith}
use Rattle.std.proofs.lemmas.List.{drop-map, drop_more, length-append, length-map, length-reverse, length-take-le, take-append-drop, take-map}
use Rattle.std.proofs.lemmas.List.Elements.{All-head, All-tail}
use Rattle.std.proofs.Math.Seq.{drop-append_seam, take-append_seam}
use Rattle.planar.specs.declared.Spot.{Spot}
use Rattle.board_shapes.specs.Figures.{Figure, round}
use Rattle.board_shapes.specs.Pieces.{PlainPiece, plain_piece, plain_pieces}
use Rattle.board_shapes.specs.declared.placed.Placed.{Placed}
use Rattle.board_shapes.specs.declared.shape.Shape.{Shape}
use Rattle.arc_regions.specs.Copper.{end_of}
use Rattle.arc_regions.specs.declared.Bend.{Bend}
use Rattle.arc_regions.specs.declared.Part.{Part}
use Rattle.arc_regions.specs.declared.Part.TheVariants.{Straight, Curved}
use Rattle.arc_covers.specs.Bounds.{capsules_from, capsules_of, figures_of}
use Rattle.arc_covers.specs.Regions.{ArcStands, Begin, EndFirst, NoneStands, StandAlong, StandsHere, chain_of}
use Rattle.arc_covers.proofs.Figures.{as_many, round_parts, some_of}

-- ---- lists in two parts

seam : {X : Type 0} (xs ys : List X) (n : ℕ) (all : List X) → all ≡ xs ++ ys → length xs ≡ n → (xs ≡ take n all) × (ys ≡ drop n all)
seam xs ys n all is long = (
  sym (ap (λ (k : ℕ). take k all) (sym long) ∙ ap (λ (zs : List _). take (length xs) zs) is ∙ take-append_seam xs ys),
  sym (ap (λ (k : ℕ). drop k all) (sym long) ∙ ap (λ (zs : List _). drop (length xs) zs) is ∙ drop-append_seam xs ys),
)

no_longer : {X : Type 0} (xs ys all : List X) → all ≡ xs ++ ys → length xs ≤ length all
no_longer xs ys all is = let n = ap length is in let m = length-append xs ys in omega (arith, n, m)

pub figures_drop : (m : ℕ) (pieces : List (Placed Shape)) → figures_of (plain_pieces (drop m pieces)) ≡ drop m (figures_of (plain_pieces pieces))
figures_drop m pieces = sym (drop-map (λ (p : PlainPiece). p.figure) m (plain_pieces pieces) ∙ ap figures_of (drop-map plain_piece m pieces))

pub figures_take : (m : ℕ) (pieces : List (Placed Shape)) → figures_of (plain_pieces (take m pieces)) ≡ take m (figures_of (plain_pieces pieces))
figures_take m pieces = sym (take-map (λ (p : PlainPiece). p.figure) m (plain_pieces pieces) ∙ ap figures_of (take-map plain_piece m pieces))

-- ---- up to the end of an arc

one_front : (z : Spot) (front other later more : List Spot) → All (λ s. s ≢ z) front → All (λ s. s ≢ z) other → (front ++ z ∷ []) ++ later ≡ (other ++ z ∷ []) ++ more → length front ≡ length other
one_front z [] [] later more h k e = refl
one_front z [] (g ∷ other) later more h k e = absurd (All-head (λ s. s ≢ z) g other k (let same : z ≡ g = cc in sym same))
one_front z (f ∷ front) [] later more h k e = absurd (All-head (λ s. s ≢ z) f front h (let same : f ≡ z = cc in same))
one_front z (f ∷ front) (g ∷ other) later more h k e =
    let tails : (front ++ z ∷ []) ++ later ≡ (other ++ z ∷ []) ++ more = cc in
    ap suc (one_front z front other later more (All-tail (λ s. s ≢ z) f front h) (All-tail (λ s. s ≢ z) g other k) tails)

long_by_one : (z : Spot) (front spots : List Spot) → spots ≡ front ++ z ∷ [] → length spots ≡ length front + 1
long_by_one z front spots is = ap length is ∙ length-append front (z ∷ [])

one_end : (z : Spot) (spots other later more : List Spot) → EndFirst z spots → EndFirst z other → spots ++ later ≡ other ++ more → length spots ≡ length other
one_end z spots other later more (front, is, off) (front', is', off') e =
    let n = long_by_one z front spots is in
    let m = long_by_one z front' other is' in
    let k = one_front z front front' later more off off' (ap (λ (xs : List Spot). xs ++ later) (sym is) ∙ e ∙ ap (λ (xs : List Spot). xs ++ more) is') in
    omega (arith, n, m, k)

has_end : (z : Spot) (front later : List Spot) → All (λ s. s ≢ z) ((front ++ z ∷ []) ++ later) → ⊥
has_end z [] later h = All-head (λ s. s ≢ z) z later h refl
has_end z (f ∷ front) later h = has_end z front later (All-tail (λ s. s ≢ z) f ((front ++ z ∷ []) ++ later) h)

-- ---- as many capsules as spots

chain_length : (a : Spot) (t : Bend) (b : Bool) (spots : List Spot) → length (chain_of a (record { centre = t.centre; end = t.end; counterclockwise = b }) spots) ≡ suc (length spots)
chain_length a t true spots = refl
chain_length a t false spots = length-reverse (a ∷ spots)

capsules_length : (chain : List Spot) (n : ℕ) (r : ℤ) → length chain ≡ suc n → length (capsules_of chain r) ≡ n
capsules_length [] n r long = absurd (omega (arith, long))
capsules_length (a ∷ rest) n r long = as_many a rest r ∙ (let same : suc (length rest) ≡ suc n = long in omega (arith, same))

arc_length : (a : Spot) (t : Bend) (spots : List Spot) (figures : List Figure) → ArcStands a t (chain_of a t spots) figures → length figures ≡ length spots
arc_length a t spots figures (r, is, stands) = ap length is ∙ capsules_length (chain_of a t spots) (length spots) (pos r) (chain_length a t t.counterclockwise spots)

-- ---- one part

one_here : (a : Spot) (x : Part) (spots other later further : List Spot) (these those more yet : List Figure) → StandsHere a x spots these → StandsHere a x other those → spots ++ later ≡ other ++ further → (length spots ≡ length other) × (length these ≡ length those)
one_here a (Straight b) spots other later further these those more yet (s, f, p) (s', f', p') e = (ap length s ∙ sym (ap length s'), ap length f ∙ sym (ap length f'))
one_here a (Curved t) spots other later further these those more yet (ends, stands) (ends', stands') e =
    let n = one_end t.end spots other later further ends ends' e in
    (n, arc_length a t spots these stands ∙ n ∙ sym (arc_length a t other those stands'))

pub step : (z a : Spot) (x : Part) (rest : List Part) (corners : List Spot) (figures : List Figure) (n m : ℕ) → n ≤ length corners → m ≤ length figures → StandsHere a x (take n corners) (take m figures)
    → StandAlong z (end_of x) rest (drop n corners) (drop m figures) ↔ StandAlong z a (x ∷ rest) corners figures
step z a x rest corners figures n m some many here = (
  λ h. record { spots = take n corners; later = drop n corners; these = take m figures; more = drop m figures; corners_are = sym (take-append-drop n corners); figures_are = sym (take-append-drop m figures); stands = here; behind = h },
  back,
)
  where
    back : Begin a x corners figures (StandAlong z (end_of x) rest) → StandAlong z (end_of x) rest (drop n corners) (drop m figures)
    back b =
        let long = one_here a x b.spots (take n corners) b.later (drop n corners) b.these (take m figures) b.more (drop m figures) b.stands here (sym b.corners_are ∙ sym (take-append-drop n corners)) in
        let first = seam b.spots b.later n corners b.corners_are (long.0 ∙ length-take-le n corners some) in
        let last = seam b.these b.more m figures b.figures_are (long.1 ∙ length-take-le m figures many) in
        subst (λ (fs : List Figure). StandAlong z (end_of x) rest (drop n corners) fs) last.1 (subst (λ (cs : List Spot). StandAlong z (end_of x) rest cs b.more) first.1 b.behind)

-- ---- an arc that nothing stands for

pub without_end : (a : Spot) (t : Bend) (corners : List Spot) (figures : List Figure) → All (λ s. s ≢ t.end) corners → NoneStands a (Curved t) corners figures
without_end a t corners figures none spots later these more is are ((front, ends, off), stands) =
    has_end t.end front later (subst (λ (xs : List Spot). All (λ s. s ≢ t.end) xs) (is ∙ ap (λ (xs : List Spot). xs ++ later) ends) none)

pub too_few : (a : Spot) (t : Bend) (corners : List Spot) (figures : List Figure) (n : ℕ) → n ≤ length corners → EndFirst t.end (take n corners) → length figures < n → NoneStands a (Curved t) corners figures
too_few a t corners figures n some ends few spots later these more is are (ends', stands) =
    let k = one_end t.end spots (take n corners) later (drop n corners) ends' ends (sym is ∙ sym (take-append-drop n corners)) in
    let l = arc_length a t spots these stands in
    let m = no_longer these more figures are in
    let taken = length-take-le n corners some in
    absurd (omega (arith, k, l, m, taken, few))

pub untaken : (a : Spot) (t : Bend) (corners : List Spot) (figures : List Figure) (n : ℕ) → n ≤ length corners → n ≤ length figures → EndFirst t.end (take n corners) → (ArcStands a t (chain_of a t (take n corners)) (take n figures) → ⊥) → NoneStands a (Curved t) corners figures
untaken a t corners figures n some many ends off spots later these more is are (ends', stands) =
    let k = one_end t.end spots (take n corners) later (drop n corners) ends' ends (sym is ∙ sym (take-append-drop n corners)) in
    let taken = length-take-le n corners some in
    let first = seam spots later n corners is (k ∙ taken) in
    let last = seam these more n figures are (arc_length a t spots these stands ∙ k ∙ taken) in
    off (subst (λ (fs : List Figure). ArcStands a t (chain_of a t (take n corners)) fs) last.0 (subst (λ (xs : List Spot). ArcStands a t (chain_of a t xs) these) first.0 stands))

-- ---- the code's answers

pub figures_length : (pieces : List (Placed Shape)) → length (figures_of (plain_pieces pieces)) ≡ length pieces
figures_length pieces = length-map (plain_pieces pieces) (λ (p : PlainPiece). p.figure) ∙ length-map pieces plain_piece

pub link_read : (f : Figure) (a to b : Spot) (r : ℤ) (t : Bool) → f ≡ round (record { a = a; b = to; r = r }) → IsTrue t ↔ (to ≡ b) → IsTrue t ↔ (f ≡ round (record { a = a; b = b; r = r }))
link_read f a to b r t is told = (λ yes. is ∙ ap (λ (s : Spot). round (record { a = a; b = s; r = r })) (told.0 yes), λ e. told.1 (round_parts a to a b r r (sym is ∙ e)).1)

pub other_length : (pieces : List (Placed Shape)) (a : Spot) (rest : List Spot) (r : ℤ) → ¬ (length pieces ≡ length rest) → IsTrue false ↔ (figures_of (plain_pieces pieces) ≡ capsules_from a rest r)
other_length pieces a rest r off = (λ yes. absurd cc, λ e. absurd (off (sym (figures_length pieces) ∙ ap length e ∙ as_many a rest r)))

-- the first n of the corners and of the pieces, by the chain that was made of them
pub arc_alike : (a : Spot) (t : Bend) (chain corners : List Spot) (pieces : List (Placed Shape)) (n : ℕ) → chain ≡ chain_of a t (take n corners)
    → ArcStands a t chain (figures_of (plain_pieces (take n pieces))) ↔ ArcStands a t (chain_of a t (take n corners)) (take n (figures_of (plain_pieces pieces)))
arc_alike a t chain corners pieces n is = (
  λ h. subst (λ (fs : List Figure). ArcStands a t (chain_of a t (take n corners)) fs) (figures_take n pieces) (subst (λ (xs : List Spot). ArcStands a t xs (figures_of (plain_pieces (take n pieces)))) is h),
  λ h. subst (λ (xs : List Spot). ArcStands a t xs (figures_of (plain_pieces (take n pieces)))) (sym is) (subst (λ (fs : List Figure). ArcStands a t (chain_of a t (take n corners)) fs) (sym (figures_take n pieces)) h),
)

-- ---- one part more

turned : (z a : Spot) (parts : List Part) (i : ℕ) (d : Part) (corners : List Spot) (pieces : List (Placed Shape)) (n m : ℕ) → i < length parts → n ≤ length corners → m ≤ length pieces
    → StandsHere a (get_or parts i d) (take n corners) (take m (figures_of (plain_pieces pieces)))
    → StandAlong z (end_of (get_or parts i d)) (drop (i + 1) parts) (drop n corners) (figures_of (plain_pieces (drop m pieces))) ↔ StandAlong z a (drop i parts) corners (figures_of (plain_pieces pieces))
turned z a parts i d corners pieces n m below some many here =
    let long = figures_length pieces in
    let turn = step z a (get_or parts i d) (drop (i + 1) parts) corners (figures_of (plain_pieces pieces)) n m some (omega (arith, long, many)) here in
    let cut = drop_more parts i d below in (
      λ h. subst (λ (xs : List Part). StandAlong z a xs corners (figures_of (plain_pieces pieces))) (sym cut) (turn.0 (subst (λ (fs : List Figure). StandAlong z (end_of (get_or parts i d)) (drop (i + 1) parts) (drop n corners) fs) (figures_drop m pieces) h)),
      λ h. subst (λ (fs : List Figure). StandAlong z (end_of (get_or parts i d)) (drop (i + 1) parts) (drop n corners) fs) (sym (figures_drop m pieces)) (turn.1 (subst (λ (xs : List Part). StandAlong z a xs corners (figures_of (plain_pieces pieces))) cut h)),
    )

pub parts_turn : (z a e : Spot) (parts : List Part) (i : ℕ) (d : Part) (corners later : List Spot) (pieces more : List (Placed Shape)) (found : Option (ℕ × ℕ)) (n m : ℕ) → found ≡ Some (n, m)
    → IfSome found (λ k. (k.0 ≤ length corners) × (k.1 ≤ length pieces) × StandsHere a (get_or parts i d) (take k.0 corners) (take k.1 (figures_of (plain_pieces pieces))))
    → i < length parts → e ≡ end_of (get_or parts i d) → later ≡ drop n corners → more ≡ drop m pieces
    → StandAlong z e (drop (i + 1) parts) later (figures_of (plain_pieces more)) ↔ StandAlong z a (drop i parts) corners (figures_of (plain_pieces pieces))
parts_turn z a e parts i d corners later pieces more found n m is told below ends cut_corners cut_pieces =
    let k = some_of found (n, m) (λ k. (k.0 ≤ length corners) × (k.1 ≤ length pieces) × StandsHere a (get_or parts i d) (take k.0 corners) (take k.1 (figures_of (plain_pieces pieces)))) is told in
    subst (λ (s : Spot). StandAlong z s (drop (i + 1) parts) later (figures_of (plain_pieces more)) ↔ StandAlong z a (drop i parts) corners (figures_of (plain_pieces pieces))) (sym ends)
    (subst (λ (cs : List Spot). StandAlong z (end_of (get_or parts i d)) (drop (i + 1) parts) cs (figures_of (plain_pieces more)) ↔ StandAlong z a (drop i parts) corners (figures_of (plain_pieces pieces))) (sym cut_corners)
    (subst (λ (ps : List (Placed Shape)). StandAlong z (end_of (get_or parts i d)) (drop (i + 1) parts) (drop n corners) (figures_of (plain_pieces ps)) ↔ StandAlong z a (drop i parts) corners (figures_of (plain_pieces pieces))) (sym cut_pieces)
    (turned z a parts i d corners pieces n m below k.0 k.1 k.2)))
