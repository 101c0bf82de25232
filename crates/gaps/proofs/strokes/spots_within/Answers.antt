use Rattle.std.proofs.Common.{◌≡◌, ◌↔◌, ◌*◌, ◌≤ℤ◌, ℕ, ℤ, pos, nat_le, unsigned_abs, IsTrue, FitsSigned, to_z, of_z, to_z-of_z, w64, arith, rules, ap, subst, sym, ◌∙◌}
use Rattle.std.proofs.lemmas.Int.{ints}
use Rattle.planar.specs.Plane.{dot_of, square}
use Rattle.planar.specs.declared.TheConstants.{MOST_REACH}
use Rattle.planar.proofs.SpotWithin.{square_decides, square_fits, whole_from_zero}
use Rattle.gaps.proofs.strokes.spots_within.Goals as goal

-- a length, as it is read
amount : (n m : ℕ) (r : ℤ) → FitsSigned w64 r → pos 0 ≤ℤ r → n ≡ m → m ≡ unsigned_abs (to_z w64 (of_z w64 r)) → pos n ≡ r
amount n m r fits from e f = let is : n ≡ unsigned_abs r = e ∙ (f ∙ ap unsigned_abs (to_z-of_z fits)) in omega (arith, ints)

pub overflow_mul-result : goal.overflow_mul-result
overflow_mul-result c =
    let is : pos c.from-reach.result ≡ c.args.reach = amount c.from-reach.result c.unsigned_abs.result c.args.reach (search rules) c.requires.radius.0 c.from-reach.ensures c.unsigned_abs.ensures.value in
    square_fits c.from-reach.result (subst (λ (z : ℤ). z ≤ℤ MOST_REACH) (sym is) c.requires.radius.1)

pub returns : goal.returns
returns c =
    let is : pos c.from-reach.result ≡ c.args.reach = amount c.from-reach.result c.unsigned_abs.result c.args.reach (search rules) c.requires.radius.0 c.from-reach.ensures c.unsigned_abs.ensures.value in
    subst (λ (z : ℤ). IsTrue (nat_le c.unsigned_abs-2.result (c.from-reach.result * c.from-reach.result)) ↔ ((dot_of c.args.p c.args.q c.args.q) ≤ℤ square z)) is
    (square_decides (search rules) (whole_from_zero c.args.p c.args.q) c.dot.ensures c.unsigned_abs-2.ensures.value)
