-- Points shifted, one by one.
use Rattle.std.proofs.Common.{ℕ, zero, suc, ◌+◌, ◌-◌, ◌<◌, List, [], ◌∷◌, ◌++◌, map, take, length, get_or, All, ◌≡◌, refl, sym, ◌∙◌, ap, subst, arith, ℤ, ◌+ℤ◌, to_z, of_z, w64}
use Rattle.std.proofs.lemmas.Int.{ints}
use Rattle.std.proofs.lemmas.List.{length-map, map-append, take_more}
use Rattle.std.proofs.lemmas.List.Elements.{All-push, All-nil, All-cons, All-head, All-tail}
use Rattle.planar.specs.Plane.{IsPlaced, IsReached, IsWithin}
use Rattle.planar.specs.declared.Spot.{Spot}
use Rattle.planar.specs.declared.TheConstants.{TWO_METRES}
use Rattle.area_contact.specs.Contour.{end_from, IsClosed}
use Rattle.board_shapes.specs.Figures.{Stroke, round, filled}
use Rattle.board_shapes.specs.Moved.{shifted, IsShift, IsMoveFault}
use Rattle.board_shapes.specs.declared.moved.MoveFault.{MoveFault}
use Rattle.board_shapes.specs.declared.moved.MoveFault.TheVariants.{OutOfRange}

pub sum_read : (a b : ℤ) → IsReached a → IsWithin TWO_METRES b → to_z w64 (of_z w64 (to_z w64 (of_z w64 a) +ℤ to_z w64 (of_z w64 b))) ≡ a +ℤ b
sum_read a b h k = omega (arith, ints)

pub shift_read : (p : Spot) (dx dy : ℤ) → IsPlaced p → IsShift dx → IsShift dy →
    ◌≡◌ {A = Spot} (record { x = to_z w64 (of_z w64 (to_z w64 (of_z w64 p.x) +ℤ to_z w64 (of_z w64 dx))); y = to_z w64 (of_z w64 (to_z w64 (of_z w64 p.y) +ℤ to_z w64 (of_z w64 dy))) }) (shifted dx dy p)
shift_read p dx dy h k l = rw (sum_read p.x dx h.0 k, sum_read p.y dy h.1 l)

pub corner_placed : (points : List Spot) (i : ℕ) (p : Spot) → All IsPlaced points → i < length points → ((d : Spot) → get_or points i d ≡ p) → IsPlaced p
corner_placed points i p h l e = subst IsPlaced (e p) (h i p l)

at_map : (f : Spot → Spot) (points : List Spot) (i : ℕ) (d : Spot) → i < length points → get_or (map f points) i d ≡ f (get_or points i d)
at_map f [] i d h = absurd (omega arith)
at_map f (p ∷ points) zero d h = refl
at_map f (p ∷ points) (suc i) d h = at_map f points i d (omega arith)

-- a corner that is not placed when it is shifted
pub not_all_placed : (f : Spot → Spot) (points : List Spot) (i : ℕ) (p : Spot) → i < length points → ((d : Spot) → get_or points i d ≡ p) → ¬ IsPlaced (f p) → All IsPlaced (map f points) → ⊥
not_all_placed f points i p l e off h = off (subst IsPlaced (at_map f points i p l ∙ ap f (e p)) (h i p (simp length-map l)))

-- one more corner
pub one_more : (f : Spot → Spot) (points items after : List Spot) (i : ℕ) (p q : Spot) → i < length points → ((d : Spot) → get_or points i d ≡ p) → q ≡ f p → items ≡ map f (take i points) → after ≡ items ++ (q ∷ []) → after ≡ map f (take (i + 1) points)
one_more f points items after i p q l e same h k =
    k ∙ ap (λ (z : List Spot). z ++ (q ∷ [])) h ∙ ap (λ (z : Spot). map f (take i points) ++ (z ∷ [])) (same ∙ ap f (sym (e p))) ∙ sym (ap (map f) (take_more points i p l) ∙ map-append f (take i points) (get_or points i p ∷ []))

pub placed_more : (items after : List Spot) (q : Spot) → All IsPlaced items → IsPlaced q → after ≡ items ++ (q ∷ []) → All IsPlaced after
placed_more items after q h k e = subst (λ (l : List Spot). All IsPlaced l) (sym e) (All-push IsPlaced items q h k)

-- the last of a closed list is its first
last_first : (points : List Spot) (p : Spot) → IsClosed points → 0 < length points → ((d : Spot) → get_or points 0 d ≡ p) → take (length points - 1) points ++ (p ∷ []) ≡ points
last_first [] p c h e = absurd (omega arith)
last_first (a ∷ rest) p c h e = ap (λ (z : Spot). take (length (a ∷ rest) - 1) (a ∷ rest) ++ (z ∷ [])) (sym (e p) ∙ sym c) ∙ front a rest (length (a ∷ rest) - 1) (omega arith)
  where
    front : (a : Spot) (rest : List Spot) (k : ℕ) → k ≡ length rest → take k (a ∷ rest) ++ (end_from a rest ∷ []) ≡ a ∷ rest
    front a [] k e = rw e
    front a (b ∷ rest) zero e = absurd (omega arith)
    front a (b ∷ rest) (suc k) e = ap (λ (z : List Spot). a ∷ z) (front b rest k (omega arith))

pub all_moved : (f : Spot → Spot) (points items after : List Spot) (i : ℕ) (p q : Spot) → IsClosed points → 0 < length points → i ≡ length points - 1 → ((d : Spot) → get_or points 0 d ≡ p) → q ≡ f p → items ≡ map f (take i points) → after ≡ items ++ (q ∷ []) → after ≡ map f points
all_moved f points items after i p q closed some n e same h k =
    k ∙ ap (λ (z : List Spot). z ++ (q ∷ [])) h ∙ ap (λ (z : Spot). map f (take i points) ++ (z ∷ [])) same ∙ sym (map-append f (take i points) (p ∷ []))
    ∙ ap (map f) (ap (λ (m : ℕ). take m points ++ (p ∷ [])) n ∙ last_first points p closed some e)

-- a list shifted is as long
pub as_many : (f : Spot → Spot) (points after : List Spot) → after ≡ map f points → length after ≡ length points
as_many f points after e = ap length e ∙ simp length-map

-- a closed list shifted is closed
pub map_closed : (f : Spot → Spot) (points : List Spot) → IsClosed points → IsClosed (map f points)
map_closed f [] h = tt
map_closed f (a ∷ rest) h = last a rest ∙ ap f h
  where
    last : (b : Spot) (others : List Spot) → end_from (f b) (map f others) ≡ f (end_from b others)
    last b [] = refl
    last b (c ∷ others) = last c others

-- ---- What a fault says of a figure

pub ends_stay : (f : Spot → Spot) (a b p q : Spot) → p ≡ f a → q ≡ f b → IsPlaced p → IsPlaced q → All IsPlaced (map f (a ∷ b ∷ []))
ends_stay f a b p q e g h k = All-cons IsPlaced (f a) (f b ∷ []) (subst IsPlaced e h) (All-cons IsPlaced (f b) [] (subst IsPlaced g k) (All-nil IsPlaced))

pub start_leaves : (dx dy : ℤ) (s : Stroke) (p : Spot) (fault : MoveFault) → p ≡ s.a → (fault ≡ OutOfRange) × (¬ IsPlaced (shifted dx dy p)) → IsMoveFault dx dy (round s) fault
start_leaves dx dy s p fault e (is, off) = subst (IsMoveFault dx dy (round s)) (sym is) (λ all. off (subst (λ (q : Spot). IsPlaced (shifted dx dy q)) (sym e) (All-head IsPlaced (shifted dx dy s.a) (shifted dx dy s.b ∷ []) all)))

pub end_leaves : (dx dy : ℤ) (s : Stroke) (p : Spot) (fault : MoveFault) → p ≡ s.b → (fault ≡ OutOfRange) × (¬ IsPlaced (shifted dx dy p)) → IsMoveFault dx dy (round s) fault
end_leaves dx dy s p fault e (is, off) =
    subst (IsMoveFault dx dy (round s)) (sym is) (λ all. off (subst (λ (q : Spot). IsPlaced (shifted dx dy q)) (sym e) (All-head IsPlaced (shifted dx dy s.b) [] (All-tail IsPlaced (shifted dx dy s.a) (shifted dx dy s.b ∷ []) all))))

pub corner_leaves : (dx dy : ℤ) (points : List Spot) (i : ℕ) (p : Spot) (fault : MoveFault) → i < length points → ((d : Spot) → get_or points i d ≡ p) → (fault ≡ OutOfRange) × (¬ IsPlaced (shifted dx dy p)) → IsMoveFault dx dy (filled points) fault
corner_leaves dx dy points i p fault l e (is, off) = subst (IsMoveFault dx dy (filled points)) (sym is) (not_all_placed (shifted dx dy) points i p l e off)
