-- The kinds of turn, one by one.
use Rattle.std.proofs.Common.{◌≡◌, ◌↔◌, ◌⊎◌, inl, inr, Bool, IsTrue, pos, ◌≤ℤ◌, ◌<ℤ◌, arith}
use Rattle.planar.specs.declared.Spot.{Spot}
use Rattle.planar.specs.Plane.{cross_of, dot_of}
use Rattle.planar.proofs.Ring.{linear}
use Rattle.arcs.specs.Chains.{InTurnBoth, in_less, after_start, before_end, in_half, in_whole}
use Rattle.arcs.proofs.Chain.{flat_self, not_back}

module _ (c s e a b : Spot) (al ar bl br t : Bool) (a_left : IsTrue al ↔ pos 0 ≤ℤ cross_of c s a) (a_right : IsTrue ar ↔ cross_of c e a ≤ℤ pos 0) (b_left : IsTrue bl ↔ pos 0 ≤ℤ cross_of c s b) (b_right : IsTrue br ↔ cross_of c e b ≤ℤ pos 0) where
  pub less : pos 0 <ℤ cross_of c s e → IsTrue t ↔ ((IsTrue al × IsTrue bl) × (IsTrue ar × IsTrue br)) → IsTrue t ↔ InTurnBoth c s e a b
  less way told = (λ yes. let l = told.0 yes in in_less way (a_left.0 l.0.0) (b_left.0 l.0.1) (a_right.0 l.1.0) (b_right.0 l.1.1), λ turn. told.1 (of turn))
    where
      of : InTurnBoth c s e a b → (IsTrue al × IsTrue bl) × (IsTrue ar × IsTrue br)
      of (in_less w x y z u) = ((a_left.1 x, b_left.1 y), (a_right.1 z, b_right.1 u))
      of (after_start w x y) = absurd (omega (arith, linear, way, w))
      of (before_end w x y) = absurd (omega (arith, linear, way, w))
      of (in_half w x y z) = absurd (omega (arith, linear, way, w))
      of (in_whole w) = absurd (omega (arith, linear, way, flat_self c s e w))

  pub more : cross_of c s e <ℤ pos 0 → IsTrue t ↔ ((IsTrue al × IsTrue bl) ⊎ ((IsTrue al ⊎ IsTrue ar) × IsTrue br)) → IsTrue t ↔ InTurnBoth c s e a b
  more way told = (λ yes. to (told.0 yes), λ turn. told.1 (of turn))
    where
      to : (IsTrue al × IsTrue bl) ⊎ ((IsTrue al ⊎ IsTrue ar) × IsTrue br) → InTurnBoth c s e a b
      to (inl l) = after_start way (a_left.0 l.0) (b_left.0 l.1)
      to (inr l) = before_end way (elim l.0 [ inl h ↦ inl (a_left.0 h) | inr h ↦ inr (a_right.0 h) ]) (b_right.0 l.1)

      of : InTurnBoth c s e a b → (IsTrue al × IsTrue bl) ⊎ ((IsTrue al ⊎ IsTrue ar) × IsTrue br)
      of (in_less w x y z u) = absurd (omega (arith, linear, way, w))
      of (after_start w x y) = inl (a_left.1 x, b_left.1 y)
      of (before_end w x y) = inr (elim x [ inl h ↦ inl (a_left.1 h) | inr h ↦ inr (a_right.1 h) ], b_right.1 y)
      of (in_half w x y z) = absurd (omega (arith, linear, way, w))
      of (in_whole w) = absurd (omega (arith, linear, way, flat_self c s e w))

  pub half : cross_of c s e ≡ pos 0 → dot_of c s e <ℤ pos 0 → IsTrue t ↔ (IsTrue al × IsTrue bl) → IsTrue t ↔ InTurnBoth c s e a b
  half flat way told = (λ yes. let l = told.0 yes in in_half flat way (a_left.0 l.0) (b_left.0 l.1), λ turn. told.1 (of turn))
    where
      of : InTurnBoth c s e a b → IsTrue al × IsTrue bl
      of (in_less w x y z u) = absurd (omega (arith, linear, flat, w))
      of (after_start w x y) = absurd (omega (arith, linear, flat, w))
      of (before_end w x y) = absurd (omega (arith, linear, flat, w))
      of (in_half w x y z) = (a_left.1 y, b_left.1 z)
      of (in_whole w) = absurd (omega (arith, linear, way, not_back c s e w))

pub whole : (c s e a b : Spot) (t : Bool) → cross_of c s e ≡ pos 0 → pos 0 ≤ℤ dot_of c s e → IsTrue t ↔ s ≡ e → IsTrue t ↔ InTurnBoth c s e a b
whole c s e a b t flat way told = (λ yes. in_whole (told.0 yes), λ turn. told.1 (of turn))
  where
    of : InTurnBoth c s e a b → s ≡ e
    of (in_less w x y z u) = absurd (omega (arith, linear, flat, w))
    of (after_start w x y) = absurd (omega (arith, linear, flat, w))
    of (before_end w x y) = absurd (omega (arith, linear, flat, w))
    of (in_half w x y z) = absurd (omega (arith, linear, way, x))
    of (in_whole w) = w
