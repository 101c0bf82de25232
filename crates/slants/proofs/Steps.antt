-- Each regular polygon's directions follow each other, and so it has a copper.
use Rattle.std.proofs.Common.{◌≡◌, ◌⊎◌, inl, inr, ℕ, suc, ◌+◌, ◌-◌, ◌*◌, ◌/◌, ◌%◌, ◌<◌, ◌≤◌, ◌∙◌, subst, pos, ◌*ℤ◌, arith, refl}
use Rattle.std.proofs.lemmas.Int.{ints}
use Rattle.std.proofs.lemmas.Nat.{mul-le}
use Rattle.planar.specs.Plane.{Point}
use Rattle.planar.proofs.Ring.{mul_assoc, over_zero}
use Rattle.slants.specs.Cones.{cosine, cosine_by, half_of, sine_by}
use Rattle.slants.specs.Polygons.{IsPolygon, PossiblyInPolygon, SurelyInPolygon, direction_of, inner_of, reach_of, step_of, turns_to}
use Rattle.slants.specs.Turned.{IsBetween, meet_of}
use Rattle.slants.specs.declared.cones.TheConstants.{RADIUS, RIGHT_ANGLE}
use Rattle.slants.specs.declared.polygons.RegularPolygon.{RegularPolygon}
use Rattle.slants.specs.declared.polygons.TheConstants.{HALF_TURN, PARTS}
use Rattle.slants.specs.declared.turns.Motions.{Motions}
use Rattle.slants.specs.declared.turns.Turn.{Turn}
use Rattle.slants.proofs.Added.{EIGHTH, TWELFTH}
use Rattle.slants.proofs.Following.{Fits, FitsBack, step_high, step_low}
use Rattle.slants.proofs.Horner.{le_or_over}
use Rattle.slants.proofs.Quarters.{follows_high, follows_low, whole_round, whole_way}
use Rattle.slants.proofs.Rims.{copper_by, set_out, spoke}
use Rattle.slants.proofs.Rotated.{wide_from}
use Rattle.slants.proofs.Spokes.{Follows, GoRound}
use Rattle.slants.proofs.Ways.{WHOLE, half_small, high, way, way_between, whole_some, wide}

-- ---- in numbers, where the cosine of half a step is over w/RADIUS: half steps of s, whose halves are y and z

record Step (w s y z : ℕ) : Type 0 where
  small : s ≤ 600000000
  y_is : half_of s ≡ y
  z_is : half_of (RIGHT_ANGLE - s) ≡ z
  first : Fits w y
  other : Fits w (y + 1)
  back : FitsBack w z
  other_back : FitsBack w (z + 1)

step_3 : Step 49999999 600000000 523598775598298873 261799387799149436
unfolding cosine_by sine_by
step_3 = record { small = omega arith; y_is = omega arith; z_is = omega arith; first = record { small = omega arith; some = omega arith; less = omega arith; low = omega arith }; other = record { small = omega arith; some = omega arith; less = omega arith; low = omega arith }; back = record { small = omega arith; some = omega arith; less = omega arith; high = omega arith }; other_back = record { small = omega arith; some = omega arith; less = omega arith; high = omega arith } }

step_4 : Step 70710676 450000000 392699081698724154 392699081698724154
unfolding cosine_by sine_by
step_4 = record { small = omega arith; y_is = omega arith; z_is = omega arith; first = record { small = omega arith; some = omega arith; less = omega arith; low = omega arith }; other = record { small = omega arith; some = omega arith; less = omega arith; low = omega arith }; back = record { small = omega arith; some = omega arith; less = omega arith; high = omega arith }; other_back = record { small = omega arith; some = omega arith; less = omega arith; high = omega arith } }

step_5 : Step 80901698 360000000 314159265358979323 471238898038468985
unfolding cosine_by sine_by
step_5 = record { small = omega arith; y_is = omega arith; z_is = omega arith; first = record { small = omega arith; some = omega arith; less = omega arith; low = omega arith }; other = record { small = omega arith; some = omega arith; less = omega arith; low = omega arith }; back = record { small = omega arith; some = omega arith; less = omega arith; high = omega arith }; other_back = record { small = omega arith; some = omega arith; less = omega arith; high = omega arith } }

step_6 : Step 86602539 300000000 261799387799149436 523598775598298873
unfolding cosine_by sine_by
step_6 = record { small = omega arith; y_is = omega arith; z_is = omega arith; first = record { small = omega arith; some = omega arith; less = omega arith; low = omega arith }; other = record { small = omega arith; some = omega arith; less = omega arith; low = omega arith }; back = record { small = omega arith; some = omega arith; less = omega arith; high = omega arith }; other_back = record { small = omega arith; some = omega arith; less = omega arith; high = omega arith } }

step_7 : Step 90096885 257142857 224399475131747427 560998688265700881
unfolding cosine_by sine_by
step_7 = record { small = omega arith; y_is = omega arith; z_is = omega arith; first = record { small = omega arith; some = omega arith; less = omega arith; low = omega arith }; other = record { small = omega arith; some = omega arith; less = omega arith; low = omega arith }; back = record { small = omega arith; some = omega arith; less = omega arith; high = omega arith }; other_back = record { small = omega arith; some = omega arith; less = omega arith; high = omega arith } }

step_7_more : Step 90096885 257142858 224399476004412053 560998687393036255
unfolding cosine_by sine_by
step_7_more = record { small = omega arith; y_is = omega arith; z_is = omega arith; first = record { small = omega arith; some = omega arith; less = omega arith; low = omega arith }; other = record { small = omega arith; some = omega arith; less = omega arith; low = omega arith }; back = record { small = omega arith; some = omega arith; less = omega arith; high = omega arith }; other_back = record { small = omega arith; some = omega arith; less = omega arith; high = omega arith } }

step_8 : Step 92387951 225000000 196349540849362077 589048622548086232
unfolding cosine_by sine_by
step_8 = record { small = omega arith; y_is = omega arith; z_is = omega arith; first = record { small = omega arith; some = omega arith; less = omega arith; low = omega arith }; other = record { small = omega arith; some = omega arith; less = omega arith; low = omega arith }; back = record { small = omega arith; some = omega arith; less = omega arith; high = omega arith }; other_back = record { small = omega arith; some = omega arith; less = omega arith; high = omega arith } }

step_9 : Step 93969260 200000000 174532925199432957 610865238198015351
unfolding cosine_by sine_by
step_9 = record { small = omega arith; y_is = omega arith; z_is = omega arith; first = record { small = omega arith; some = omega arith; less = omega arith; low = omega arith }; other = record { small = omega arith; some = omega arith; less = omega arith; low = omega arith }; back = record { small = omega arith; some = omega arith; less = omega arith; high = omega arith }; other_back = record { small = omega arith; some = omega arith; less = omega arith; high = omega arith } }

step_10 : Step 95105650 180000000 157079632679489661 628318530717958647
unfolding cosine_by sine_by
step_10 = record { small = omega arith; y_is = omega arith; z_is = omega arith; first = record { small = omega arith; some = omega arith; less = omega arith; low = omega arith }; other = record { small = omega arith; some = omega arith; less = omega arith; low = omega arith }; back = record { small = omega arith; some = omega arith; less = omega arith; high = omega arith }; other_back = record { small = omega arith; some = omega arith; less = omega arith; high = omega arith } }

step_11 : Step 95949295 163636363 142799665516931294 642598497880517015
unfolding cosine_by sine_by
step_11 = record { small = omega arith; y_is = omega arith; z_is = omega arith; first = record { small = omega arith; some = omega arith; less = omega arith; low = omega arith }; other = record { small = omega arith; some = omega arith; less = omega arith; low = omega arith }; back = record { small = omega arith; some = omega arith; less = omega arith; high = omega arith }; other_back = record { small = omega arith; some = omega arith; less = omega arith; high = omega arith } }

step_11_more : Step 95949295 163636364 142799666389595920 642598497007852389
unfolding cosine_by sine_by
step_11_more = record { small = omega arith; y_is = omega arith; z_is = omega arith; first = record { small = omega arith; some = omega arith; less = omega arith; low = omega arith }; other = record { small = omega arith; some = omega arith; less = omega arith; low = omega arith }; back = record { small = omega arith; some = omega arith; less = omega arith; high = omega arith }; other_back = record { small = omega arith; some = omega arith; less = omega arith; high = omega arith } }

step_12 : Step 96592581 150000000 130899693899574718 654498469497873591
unfolding cosine_by sine_by
step_12 = record { small = omega arith; y_is = omega arith; z_is = omega arith; first = record { small = omega arith; some = omega arith; less = omega arith; low = omega arith }; other = record { small = omega arith; some = omega arith; less = omega arith; low = omega arith }; back = record { small = omega arith; some = omega arith; less = omega arith; high = omega arith }; other_back = record { small = omega arith; some = omega arith; less = omega arith; high = omega arith } }

-- ---- directions so far apart

-- the way of an angle, without a factor
abbrev plain : ℕ → Turn
plain angle = whole_way (wide (half_of angle)) (high (half_of angle))

module _ (inner reach w : ℕ) (short : inner * RADIUS ≤ reach * w) where
  low_on : (k x y f : ℕ) → f ≡ x + y → x ≤ EIGHTH → y ≤ TWELFTH → f ≤ EIGHTH → Fits w y → Follows inner reach (set_out k (whole_way (wide x) (high x))) (set_out k (whole_way (wide f) (high f)))
  low_on k x y f e hx hy hf fits =
      let l = step_low w x y hx hy (omega (arith, e, hf)) fits in
      rw e (follows_low inner reach w short k (wide x) (high x) (wide (x + y)) (high (x + y)) (wide x * wide (x + y) + high x * high (x + y)) l.b refl l.is l.fits)

  high_on : (k x z f : ℕ) → f ≡ z + x → x ≤ TWELFTH → z ≤ EIGHTH → f ≤ EIGHTH → FitsBack w z → Follows inner reach (set_out k (whole_way (wide f) (high f))) (set_out (k + 1) (whole_way (wide x) (high x)))
  high_on k x z f e hx hz hf fits =
      let l = step_high w x z hx hz (omega (arith, e, hf)) fits in
      rw e (follows_high inner reach w short k (wide (z + x)) (high (z + x)) (wide x) (high x) (wide x * wide (z + x) + high x * high (z + x)) l.b refl l.is l.fits)

  module _ (s y z : ℕ) (step : Step w s y z) where
    fits : (v : ℕ) → y ≤ v → v ≤ y + 1 → Fits w v
    fits v from to = elim (le_or_over v y) [
      | inl l ↦ let e : y ≡ v = omega (arith, from, l) in subst (Fits w) e step.first
      | inr l ↦ let e : y + 1 ≡ v = omega (arith, to, l) in subst (Fits w) e step.other
    ]

    fits_back : (v : ℕ) → z ≤ v → v ≤ z + 1 → FitsBack w v
    fits_back v from to = elim (le_or_over v z) [
      | inl l ↦ let e : z ≡ v = omega (arith, from, l) in subst (FitsBack w) e step.back
      | inr l ↦ let e : z + 1 ≡ v = omega (arith, to, l) in subst (FitsBack w) e step.other_back
    ]

    -- in the same right angle
    same : (k a : ℕ) → a + s < RIGHT_ANGLE → Follows inner reach (set_out k (plain a)) (set_out k (plain (a + s)))
    same k a h =
        let from : y ≤ half_of (a + s) - half_of a = omega (arith, step.y_is) in
        let to : half_of (a + s) - half_of a ≤ y + 1 = omega (arith, step.y_is) in
        low_on k (half_of a) (half_of (a + s) - half_of a) (half_of (a + s)) (omega arith) (omega (arith, h)) (omega (arith, to, step.y_is, step.small)) (omega (arith, h)) (fits (half_of (a + s) - half_of a) from to)

    -- in the next
    next : (k a b : ℕ) → a < RIGHT_ANGLE → a + s ≡ RIGHT_ANGLE + b → Follows inner reach (set_out k (plain a)) (set_out (k + 1) (plain b))
    next k a b h is =
        let small = step.small in
        let from : z ≤ half_of a - half_of b = omega (arith, step.z_is, is, small) in
        let to : half_of a - half_of b ≤ z + 1 = omega (arith, step.z_is, is, small) in
        high_on k (half_of b) (half_of a - half_of b) (half_of a) (omega (arith, is, small)) (omega (arith, h, is, small)) (omega (arith, h)) (omega (arith, h)) (fits_back (half_of a - half_of b) from to)

    on : (d : ℕ) → Follows inner reach (set_out (d / RIGHT_ANGLE) (plain (d % RIGHT_ANGLE))) (set_out ((d + s) / RIGHT_ANGLE) (plain ((d + s) % RIGHT_ANGLE)))
    on d = elim (le_or_over RIGHT_ANGLE (d % RIGHT_ANGLE + s)) [
      | inl l ↦
          let small = step.small in
          let e : (d + s) / RIGHT_ANGLE ≡ d / RIGHT_ANGLE + 1 = omega (arith, l, small) in
          let f : (d + s) % RIGHT_ANGLE ≡ d % RIGHT_ANGLE + s - RIGHT_ANGLE = omega (arith, l, small) in
          rw (e, f) (next (d / RIGHT_ANGLE) (d % RIGHT_ANGLE) (d % RIGHT_ANGLE + s - RIGHT_ANGLE) (omega arith) (omega (arith, l)))
      | inr l ↦
          let e : (d + s) / RIGHT_ANGLE ≡ d / RIGHT_ANGLE = omega (arith, l) in
          let f : (d + s) % RIGHT_ANGLE ≡ d % RIGHT_ANGLE + s = omega (arith, l) in
          rw (e, f) (same (d / RIGHT_ANGLE) (d % RIGHT_ANGLE) l)
    ]

-- ---- of each count of corners

record Half (w d e : ℕ) : Type 0 where
  s : ℕ
  y : ℕ
  z : ℕ
  is : e ≡ d + s
  step : Step w s y z

record Lawful (n : ℕ) : Type 0 where
  w : ℕ
  w_is : cosine (2 * HALF_TURN / n) - 1 ≡ w
  halves : (h : ℕ) → Half w (h * HALF_TURN / n) ((h + 1) * HALF_TURN / n)
  whole : (2 * n - 1 + 1) * HALF_TURN / n ≡ 4 * RIGHT_ANGLE

lawful_3 : Lawful 3
unfolding cosine cosine_by
lawful_3 = record { w = 49999999; w_is = omega arith; halves = λ h. record { s = 600000000; y = 523598775598298873; z = 261799387799149436; is = omega arith; step = step_3 }; whole = omega arith }

lawful_4 : Lawful 4
unfolding cosine cosine_by
lawful_4 = record { w = 70710676; w_is = omega arith; halves = λ h. record { s = 450000000; y = 392699081698724154; z = 392699081698724154; is = omega arith; step = step_4 }; whole = omega arith }

lawful_5 : Lawful 5
unfolding cosine cosine_by
lawful_5 = record { w = 80901698; w_is = omega arith; halves = λ h. record { s = 360000000; y = 314159265358979323; z = 471238898038468985; is = omega arith; step = step_5 }; whole = omega arith }

lawful_6 : Lawful 6
unfolding cosine cosine_by
lawful_6 = record { w = 86602539; w_is = omega arith; halves = λ h. record { s = 300000000; y = 261799387799149436; z = 523598775598298873; is = omega arith; step = step_6 }; whole = omega arith }

lawful_7 : Lawful 7
unfolding cosine cosine_by
lawful_7 = record {
  w = 90096885;
  w_is = omega arith;
  halves = λ h. elim (le_or_over ((h + 1) * HALF_TURN / 7) (h * HALF_TURN / 7 + 257142857)) [
    | inl l ↦ record { s = 257142857; y = 224399475131747427; z = 560998688265700881; is = omega (arith, l); step = step_7 }
    | inr l ↦ record { s = 257142858; y = 224399476004412053; z = 560998687393036255; is = omega (arith, l); step = step_7_more }
  ];
  whole = omega arith;
}

lawful_8 : Lawful 8
unfolding cosine cosine_by
lawful_8 = record { w = 92387951; w_is = omega arith; halves = λ h. record { s = 225000000; y = 196349540849362077; z = 589048622548086232; is = omega arith; step = step_8 }; whole = omega arith }

lawful_9 : Lawful 9
unfolding cosine cosine_by
lawful_9 = record { w = 93969260; w_is = omega arith; halves = λ h. record { s = 200000000; y = 174532925199432957; z = 610865238198015351; is = omega arith; step = step_9 }; whole = omega arith }

lawful_10 : Lawful 10
unfolding cosine cosine_by
lawful_10 = record { w = 95105650; w_is = omega arith; halves = λ h. record { s = 180000000; y = 157079632679489661; z = 628318530717958647; is = omega arith; step = step_10 }; whole = omega arith }

lawful_11 : Lawful 11
unfolding cosine cosine_by
lawful_11 = record {
  w = 95949295;
  w_is = omega arith;
  halves = λ h. elim (le_or_over ((h + 1) * HALF_TURN / 11) (h * HALF_TURN / 11 + 163636363)) [
    | inl l ↦ record { s = 163636363; y = 142799665516931294; z = 642598497880517015; is = omega (arith, l); step = step_11 }
    | inr l ↦ record { s = 163636364; y = 142799666389595920; z = 642598497007852389; is = omega (arith, l); step = step_11_more }
  ];
  whole = omega arith;
}

lawful_12 : Lawful 12
unfolding cosine cosine_by
lawful_12 = record { w = 96592581; w_is = omega arith; halves = λ h. record { s = 150000000; y = 130899693899574718; z = 654498469497873591; is = omega arith; step = step_12 }; whole = omega arith }

one_or_more : (k n : ℕ) → k ≤ n → (k ≡ n) ⊎ (suc k ≤ n)
one_or_more k n h = grind arith

lawful : (n : ℕ) → 3 ≤ n → n ≤ 12 → Lawful n
lawful n from few = elim (one_or_more 3 n from) [
  | inl e ↦ subst Lawful e lawful_3
  | inr l3 ↦ elim (one_or_more 4 n l3) [
    | inl e ↦ subst Lawful e lawful_4
    | inr l4 ↦ elim (one_or_more 5 n l4) [
      | inl e ↦ subst Lawful e lawful_5
      | inr l5 ↦ elim (one_or_more 6 n l5) [
        | inl e ↦ subst Lawful e lawful_6
        | inr l6 ↦ elim (one_or_more 7 n l6) [
          | inl e ↦ subst Lawful e lawful_7
          | inr l7 ↦ elim (one_or_more 8 n l7) [
            | inl e ↦ subst Lawful e lawful_8
            | inr l8 ↦ elim (one_or_more 9 n l8) [
              | inl e ↦ subst Lawful e lawful_9
              | inr l9 ↦ elim (one_or_more 10 n l9) [
                | inl e ↦ subst Lawful e lawful_10
                | inr l10 ↦ elim (one_or_more 11 n l10) [
                  | inl e ↦ subst Lawful e lawful_11
                  | inr l11 ↦ (let e : 12 ≡ n = omega (arith, few, l11) in subst Lawful e lawful_12)
                ]
              ]
            ]
          ]
        ]
      ]
    ]
  ]
]

-- ---- once round

inner_short : (d w : ℕ) → d * w / (2 * PARTS * RADIUS) * RADIUS ≤ (d + (2 * PARTS - 1)) / (2 * PARTS) * w
inner_short d w =
    let l : d * w ≤ (d + (2 * PARTS - 1)) / (2 * PARTS) * (2 * PARTS) * w = mul-le d w ((d + (2 * PARTS - 1)) / (2 * PARTS) * (2 * PARTS)) w (omega arith) (omega arith) in
    omega (arith, l)

round_again : (k : ℕ) (t : Turn) → set_out (k + 4) t ≡ set_out k t
unfolding set_out
round_again k t = rw (whole_round k (record { x = (meet_of t t).x; y = (meet_of t t).y })) refl

module _ (g : RegularPolygon) (regular : IsPolygon g) (law : Lawful g.corners) where
  short : inner_of g * RADIUS ≤ reach_of g * law.w
  short = subst (λ (v : ℕ). inner_of g * RADIUS ≤ reach_of g * v) law.w_is (inner_short g.diameter (cosine (step_of g) - 1))

  go_on : (d e : ℕ) → Half law.w d e → Follows (inner_of g) (reach_of g) (set_out ((g.angle + d) / RIGHT_ANGLE) (plain ((g.angle + d) % RIGHT_ANGLE))) (set_out ((g.angle + e) / RIGHT_ANGLE) (plain ((g.angle + e) % RIGHT_ANGLE)))
  go_on d e half =
      let f : g.angle + e ≡ g.angle + d + half.s = omega (arith, half.is) in
      rw f (on (inner_of g) (reach_of g) law.w short half.s half.y half.z half.step (g.angle + d))

  follow : (h : ℕ) → Follows (inner_of g) (reach_of g) (spoke g plain h) (spoke g plain (h + 1))
  follow h = go_on (h * HALF_TURN / g.corners) ((h + 1) * HALF_TURN / g.corners) (law.halves h)

  begun_again : spoke g plain (2 * g.corners - 1 + 1) ≡ spoke g plain 0
  begun_again =
      let zero : direction_of g 0 ≡ g.angle = omega arith in
      let e : direction_of g (2 * g.corners - 1 + 1) / RIGHT_ANGLE ≡ g.angle / RIGHT_ANGLE + 4 = omega (arith, law.whole) in
      let f : direction_of g (2 * g.corners - 1 + 1) % RIGHT_ANGLE ≡ g.angle % RIGHT_ANGLE = omega (arith, law.whole) in
      rw (e, f, zero) (round_again (g.angle / RIGHT_ANGLE) (plain (g.angle % RIGHT_ANGLE)))

  go_round : GoRound g.corners (inner_of g) (reach_of g) (spoke g plain)
  go_round = record {
    next = λ h below. follow h;
    last = subst (Follows (inner_of g) (reach_of g) (spoke g plain (2 * g.corners - 1))) begun_again (follow (2 * g.corners - 1));
  }

-- ---- the ways are in their cones

-- a way of an angle, RADIUS times as long
unscaled : (m : Motions) (x y : ℕ) → 1 ≤ x → IsBetween m (record { x = pos (RADIUS * x); y = pos (RADIUS * y) }) → IsBetween m (whole_way x y)
unscaled m x y some h = record {
  some = let l : 1 * 1 ≤ x * x = mul-le 1 1 x x some some in let k : 1 ≤ x * x + y * y = omega (arith, l) in omega (arith, ints, k);
  i = h.i *ℤ pos RADIUS;
  j = h.j;
  k = h.k;
  positive = over_zero h.i (pos RADIUS) h.positive (record { le = tt });
  from_first = h.from_first;
  from_last = h.from_last;
  across = mul_assoc h.i (pos RADIUS) (pos x) ∙ h.across;
  up = mul_assoc h.i (pos RADIUS) (pos y) ∙ h.up;
}

wide_some : (x : ℕ) → x ≤ EIGHTH → 1 ≤ wide x
wide_some x h = let l = wide_from x h in let k : 1 ≤ WHOLE = whole_some in omega (arith, l, k)

between : (g : RegularPolygon) (h : ℕ) → IsBetween (turns_to g h) (plain (direction_of g h % RIGHT_ANGLE))
unfolding way
between g h =
    let a : direction_of g h % RIGHT_ANGLE < RIGHT_ANGLE = omega arith in
    let small : half_of (direction_of g h % RIGHT_ANGLE) ≤ EIGHTH = half_small (direction_of g h % RIGHT_ANGLE) a in
    unscaled (turns_to g h) (wide (half_of (direction_of g h % RIGHT_ANGLE))) (high (half_of (direction_of g h % RIGHT_ANGLE))) (wide_some (half_of (direction_of g h % RIGHT_ANGLE)) small) (way_between g.centre (direction_of g h % RIGHT_ANGLE) a)

pub polygon_copper : (g : RegularPolygon) (p : Point) → IsPolygon g → SurelyInPolygon g p → PossiblyInPolygon g p
polygon_copper g p regular = copper_by g plain p (between g) regular (go_round g regular (lawful g.corners regular.enough regular.few))
