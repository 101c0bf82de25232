-- What the code's numbers and answers tell.
use Rattle.std.proofs.Common.{◌≡◌, ◌↔◌, ◌⊎◌, inl, inr, Bool, IsTrue, sym, Option, Some, None, SomeIff, ◌<◌, ◌^◌, ℕ, ℤ, pos, ◌+◌, ◌*◌, ◌≤◌, ◌+ℤ◌, ◌*ℤ◌, ◌≤ℤ◌, ◌<ℤ◌, unsigned_abs, FitsSigned, to_z, of_z, to_z-of_z, arith, ap, ◌∙◌, rules}
use Rattle.std.proofs.lemmas.Int.{ints}
use lib.Signed.{le_z}
use Rattle.std.specs.Int.{w128}
use Rattle.planar.specs.Plane.{square}
use Rattle.planar.proofs.Read.{from_abs}
use Rattle.arcs.specs.Chains.{HasRoom, IsHeld}

-- a square of a length, as it is read
pub abs_is : (n : ℕ) (d z : ℤ) → d ≡ z → pos 0 ≤ℤ d → FitsSigned w128 d → n ≡ unsigned_abs (to_z w128 (of_z w128 d)) → pos n ≡ z
abs_is n d z same from fits e = sym (from_abs n d from (e ∙ ap unsigned_abs (to_z-of_z fits))) ∙ same

pub within_read : (n far : ℕ) (d z : ℤ) (t : Bool) → d ≡ z → pos 0 ≤ℤ d → FitsSigned w128 d → n ≡ unsigned_abs (to_z w128 (of_z w128 d)) → IsTrue t ↔ (n ≤ far * far) → IsTrue t ↔ (z ≤ℤ square (pos far))
within_read n far d z t same from fits e told = rw (← abs_is n d z same from fits e) (λ yes. omega (arith, ints, told.0 yes), λ h. told.1 (omega (arith, ints, h)))

pub to_zero_read : (k z : ℤ) → k ≡ z → FitsSigned w128 k → IsTrue (le_z (to_z w128 (of_z w128 k)) (pos 0)) ↔ (z ≤ℤ pos 0)
to_zero_read k z same fits = rw (to_z-of_z fits, same) (search rules)

pub meant_read : (u d k : ℕ) (z swing unlike apart : ℤ) (t : Bool) → z ≡ swing → FitsSigned w128 z → k ≡ unsigned_abs (to_z w128 (of_z w128 z)) → pos u ≡ unlike → pos d ≡ apart → IsTrue t ↔ ((k ≡ 0) ⊎ ((u ≤ d) ⊎ (u ≤ k + k)))
    → IsTrue t ↔ ((swing ≡ pos 0) ⊎ ((unlike ≤ℤ apart) ⊎ (unlike ≤ℤ (pos (unsigned_abs swing) +ℤ pos (unsigned_abs swing)))))
meant_read u d k z swing unlike apart t same fits e is far told = rw (← is, ← far) (λ yes. to (told.0 yes), λ h. told.1 (of h))
  where
    kk : k ≡ unsigned_abs swing
    kk = e ∙ ap unsigned_abs (to_z-of_z fits) ∙ ap unsigned_abs same

    to : (k ≡ 0) ⊎ ((u ≤ d) ⊎ (u ≤ k + k)) → (swing ≡ pos 0) ⊎ ((pos u ≤ℤ pos d) ⊎ (pos u ≤ℤ (pos (unsigned_abs swing) +ℤ pos (unsigned_abs swing))))
    to (inl h) = inl (omega (arith, ints, kk, h))
    to (inr (inl h)) = inr (inl (omega (arith, ints, h)))
    to (inr (inr h)) = inr (inr (omega (arith, ints, kk, h)))

    of : (swing ≡ pos 0) ⊎ ((pos u ≤ℤ pos d) ⊎ (pos u ≤ℤ (pos (unsigned_abs swing) +ℤ pos (unsigned_abs swing)))) → (k ≡ 0) ⊎ ((u ≤ d) ⊎ (u ≤ k + k))
    of (inl h) = inl (omega (arith, ints, kk, h))
    of (inr (inl h)) = inr (inl (omega (arith, ints, h)))
    of (inr (inr h)) = inr (inr (omega (arith, ints, kk, h)))

pub line_read : (near whole off : ℕ) (d k whole_is off_is : ℤ) (t : Bool) → d ≡ whole_is → k ≡ off_is → pos 0 ≤ℤ d → pos 1 ≤ℤ k → FitsSigned w128 d → FitsSigned w128 k → whole ≡ unsigned_abs (to_z w128 (of_z w128 d)) → off ≡ unsigned_abs (to_z w128 (of_z w128 k))
    → IsTrue t ↔ ((near * near * whole ≤ off * off) × (near * near * whole < 2 ^ 128)) → IsTrue t ↔ ((pos 1 ≤ℤ off_is) × ((square (pos near) *ℤ whole_is) ≤ℤ square off_is) × ((square (pos near) *ℤ whole_is) <ℤ pos (2 ^ 128)))
line_read near whole off d k whole_is off_is t g h hd hk fd fk e f told = rw (w, o) plain
  where
    w : whole_is ≡ pos whole
    w = sym g ∙ from_abs whole d hd (e ∙ ap unsigned_abs (to_z-of_z fd))

    kk : k ≡ pos off
    kk = from_abs off k (omega (arith, ints, hk)) (f ∙ ap unsigned_abs (to_z-of_z fk))

    o : off_is ≡ pos off
    o = sym h ∙ kk

    some : pos 1 ≤ℤ pos off
    some = rw (← kk) hk

    plain : IsTrue t ↔ ((pos 1 ≤ℤ pos off) × ((square (pos near) *ℤ pos whole) ≤ℤ square (pos off)) × ((square (pos near) *ℤ pos whole) <ℤ pos (2 ^ 128)))
    plain = (λ yes. let l = told.0 yes in (some, omega (arith, ints, l.0), omega (arith, ints, l.1)), λ z. told.1 (omega (arith, ints, z.1), omega (arith, ints, z.2)))

pub room_read : (low high : ℤ) (least most near k : ℕ) → square (pos least) ≤ℤ low → high ≤ℤ square (pos most) → most ≤ near + k → HasRoom low high (pos near) (pos (least + k)) (pos k)
room_read low high least most near k h l n = record {
  least = pos least;
  most = pos most;
  room = record {
    least_from = omega (arith, ints);
    most_from = omega (arith, ints);
    near_from = omega (arith, ints);
    far_from = omega (arith, ints);
    k_from = omega (arith, ints);
    least_is = h;
    most_is = l;
    near_is = omega (arith, ints, n);
    far_is = omega (arith, ints);
  };
}

pub held : (o : Option ℕ) (v : ℕ) (z : ℤ) → SomeIff o (v < 2 ^ 128) v → pos v ≡ z → IsHeld o z
held None v z none is = rw (← is) (omega (arith, ints, none))
held (Some x) v z some is = ap pos some.1 ∙ is
