-- What an outline's points say of the first and the last.
use Rattle.std.proofs.Common.{◌≡◌, ℕ, ◌+◌, suc, zero, Bool, true, false, cond, List, [], ◌∷◌, ◌++◌, length, length-append, map, Some, Result, Ok, Err, refl, sym, ap, subst, ◌∙◌, arith}
use Rattle.std.proofs.lemmas.List.{length-map, map-append}
use Rattle.std.specs.List.{list_all}
use Rattle.planar.specs.Plane.{is_placed, same_spot}
use Rattle.planar.specs.declared.Spot.{Spot}
use Rattle.planar.proofs.Spots.{spot_is}
use Rattle.board_shapes.specs.Figures.{filled}
use Rattle.area_contact.specs.Contour.{IsClosed, end_from}
use Rattle.lengths.specs.Decimal.{Fraction}
use Rattle.lengths.specs.declared.decimal.Unit.{Unit as Measure}
use Rattle.aperture_macros.specs.declared.fault.MacroFault.{MacroFault}
use Rattle.aperture_macros.specs.declared.fault.MacroFault.TheVariants.{BadMacro, OutOfRange}
use Rattle.aperture_macros.specs.BodyWord.{◌>>=◌, past}
use Rattle.aperture_macros.specs.Values.{point_at}
use Rattle.aperture_macros.specs.Images.{area_at, is_closed, is_done, judged_by, outlined, set_down, outline_at, points_from}
use Rattle.aperture_macros.specs.Outlines.{closing_at, last_from, moved_from}
use Rattle.aperture_macros.specs.Seen.{IsRefusal, Makes}
use Rattle.aperture_macros.specs.declared.primitive.Form.TheVariants.{Outline}
use Rattle.aperture_macros.specs.declared.primitive.Copper.{Copper}
use Rattle.aperture_macros.specs.declared.primitive.Rotation.{Rotation}
use Rattle.aperture_macros.specs.declared.fault.FigureFault.{FigureFault}
use Rattle.aperture_macros.specs.declared.fault.FigureFault.TheVariants.{Macro, NoMemory}

ends : (p : Spot) (ps : List Spot) (q : Spot) → end_from p (ps ++ q ∷ []) ≡ q
ends p [] q = refl
ends p (a ∷ ps) q = ends a ps q

abbrev checked : List Spot → Result (List Spot) MacroFault
checked points = cond (is_closed points) (Ok points) (Err BadMacro)

abbrev ended : Spot → Spot → Result (Unit {0}) MacroFault
ended first last = cond (same_spot last first) (Ok tt) (Err BadMacro)

closing : (p : Spot) (ps : List Spot) (n : ℕ) (text : List ℕ) (given : List Fraction) (unit : Measure) → is_done (points_from (p ∷ ps) n text given unit >>= checked) ≡ (last_from (end_from p ps) n text given unit >>= ended p)
unfolding points_from last_from
closing p ps zero text given unit = by (same_spot (end_from p ps) p) refl
  where
    by : (b : Bool) → same_spot (end_from p ps) p ≡ b → is_done (checked (p ∷ ps)) ≡ ended p (end_from p ps)
    by true e = rw e refl
    by false e = rw e refl
closing p ps (suc n) text given unit = by (point_at text given unit) refl (λ q. closing p (ps ++ q ∷ []) n (past 2 text) given unit)
  where
    by : (r : Result Spot MacroFault) → point_at text given unit ≡ r → ((q : Spot) → is_done (points_from (p ∷ (ps ++ q ∷ [])) n (past 2 text) given unit >>= checked) ≡ (last_from (end_from p (ps ++ q ∷ [])) n (past 2 text) given unit >>= ended p)) → is_done (points_from (p ∷ ps) (suc n) text given unit >>= checked) ≡ (last_from (end_from p ps) (suc n) text given unit >>= ended p)
    by (Ok q) e more = rw e (rw (ends p ps q) at (more q))
    by (Err fault) e more = rw e refl

-- the first and the last point judge an outline
pub closing_is : (n : ℕ) (text : List ℕ) (given : List Fraction) (unit : Measure) → closing_at n text given unit ≡ is_done (outline_at n text given unit)
unfolding closing_at outline_at points_from
closing_is n text given unit = let e : n + 1 ≡ suc n = omega arith in rw e (by (point_at text given unit) refl)
  where
    by : (r : Result Spot MacroFault) → point_at text given unit ≡ r → (point_at text given unit >>= λ first. last_from first n (past 2 text) given unit >>= λ last. cond (same_spot last first) (Ok tt) (Err BadMacro)) ≡ is_done (points_from [] (suc n) text given unit >>= λ points. cond (is_closed points) (Ok points) (Err BadMacro))
    by (Ok q) e = rw e (sym (closing q [] n (past 2 text) given unit))
    by (Err fault) e = rw e refl

moved_is : (f : Spot → Spot) (points : List Spot) (n : ℕ) (text : List ℕ) (given : List Fraction) (unit : Measure) → moved_from f (map f points) n text given unit ≡ (points_from points n text given unit >>= λ ps. Ok (map f ps))
unfolding points_from moved_from
moved_is f points zero text given unit = refl
moved_is f points (suc n) text given unit = by (point_at text given unit) refl (λ q. moved_is f (points ++ q ∷ []) n (past 2 text) given unit)
  where
    by : (r : Result Spot MacroFault) → point_at text given unit ≡ r → ((q : Spot) → moved_from f (map f (points ++ q ∷ [])) n (past 2 text) given unit ≡ (points_from (points ++ q ∷ []) n (past 2 text) given unit >>= λ ps. Ok (map f ps))) → moved_from f (map f points) (suc n) text given unit ≡ (points_from points (suc n) text given unit >>= λ ps. Ok (map f ps))
    by (Ok q) e more = rw e (rw (map-append f points (q ∷ [])) at (more q))
    by (Err fault) e more = rw e refl

length_is : (points : List Spot) (n : ℕ) (text : List ℕ) (given : List Fraction) (unit : Measure) (made : List Spot) → points_from points n text given unit ≡ Ok made → length made ≡ length points + n
unfolding points_from
length_is points zero text given unit made h = let e : points ≡ made = cc in omega (arith, ap length e)
length_is points (suc n) text given unit made h = by (point_at text given unit) refl h (λ q. length_is (points ++ q ∷ []) n (past 2 text) given unit made)
  where
    by : (r : Result Spot MacroFault) → point_at text given unit ≡ r → points_from points (suc n) text given unit ≡ Ok made → ((q : Spot) → points_from (points ++ q ∷ []) n (past 2 text) given unit ≡ Ok made → length made ≡ length (points ++ q ∷ []) + n) → length made ≡ length points + suc n
    by (Ok q) e h more = let k = more q (rw e at h) in omega (arith, k, length-append points (q ∷ []))
    by (Err fault) e h more = absurd (let k = rw e at h in cc)

end_moved : (f : Spot → Spot) (p : Spot) (ps : List Spot) → end_from (f p) (map f ps) ≡ f (end_from p ps)
end_moved f p [] = refl
end_moved f p (q ∷ ps) = end_moved f q ps

pub closed_moved : (f : Spot → Spot) (points : List Spot) → is_closed points ≡ true → IsClosed (map f points)
closed_moved f [] h = tt
closed_moved f (p ∷ ps) h = end_moved f p ps ∙ ap f (spot_is (end_from p ps) p h)

past_checked : (b : Bool) (points made : List Spot) → ◌≡◌ {A = Result (List Spot) MacroFault} (cond b (Ok points) (Err BadMacro)) (Ok made) → (b ≡ true) × (points ≡ made)
past_checked true points made h = (refl, cc)
past_checked false points made h = cc

-- an outline that is judged well, with each point as f gives it
pub record IsOutlined (f : Spot → Spot) (n : ℕ) (text : List ℕ) (given : List Fraction) (unit : Measure) (moved : List Spot) : Type 0 where
  pub points : List Spot
  pub outline : outline_at n text given unit ≡ Ok points
  pub each : moved ≡ map f points
  pub closed : IsClosed moved
  pub long : length moved ≡ n + 1

done_closed : (b : Bool) (points : List Spot) → is_done (cond b (Ok points) (Err BadMacro)) ≡ Ok tt → b ≡ true
done_closed true points h = refl
done_closed false points h = cc

long : (n a b c : ℕ) → n ≡ a → a ≡ b → b ≡ 0 + (c + 1) → n ≡ c + 1
long n a b c p q r = omega (arith, p, q, r)

pub outlined_by : (f : Spot → Spot) (n : ℕ) (text : List ℕ) (given : List Fraction) (unit : Measure) (moved : List Spot) → closing_at n text given unit ≡ Ok tt → moved_from f [] (n + 1) text given unit ≡ Ok moved → IsOutlined f n text given unit moved
unfolding outline_at
outlined_by f n text given unit moved judged made = by (points_from [] (n + 1) text given unit) refl (sym (moved_is f [] (n + 1) text given unit) ∙ made) (sym (closing_is n text given unit) ∙ judged)
  where
    by : (r : Result (List Spot) MacroFault) → points_from [] (n + 1) text given unit ≡ r → (r >>= λ ps. Ok (map f ps)) ≡ Ok moved → is_done (points_from [] (n + 1) text given unit >>= λ points. cond (is_closed points) (Ok points) (Err BadMacro)) ≡ Ok tt → IsOutlined f n text given unit moved
    by (Ok points) e m j =
        let same : map f points ≡ moved = cc in
        let closed : is_closed points ≡ true = done_closed (is_closed points) points (rw e at j) in
        record {
          points = points;
          outline = rw (e, closed) refl;
          each = sym same;
          closed = subst (λ (ps : List Spot). IsClosed ps) same (closed_moved f points closed);
          long = long (length moved) _ _ n (ap length (sym same)) (length-map points f) (length_is [] (n + 1) text given unit points e);
        }
    by (Err fault) e m j = absurd (let k : ◌≡◌ {A = Result (List Spot) MacroFault} (Err fault) (Ok moved) = m in cc)

-- a point that is refused refuses the outline
pub outline_refused : (f : Spot → Spot) (n : ℕ) (text : List ℕ) (given : List Fraction) (unit : Measure) (fault : MacroFault) → moved_from f [] (n + 1) text given unit ≡ Err fault → outline_at n text given unit ≡ Err fault
unfolding outline_at
outline_refused f n text given unit fault h = by (points_from [] (n + 1) text given unit) refl (sym (moved_is f [] (n + 1) text given unit) ∙ h)
  where
    by : (r : Result (List Spot) MacroFault) → points_from [] (n + 1) text given unit ≡ r → (r >>= λ ps. Ok (map f ps)) ≡ Err fault → (points_from [] (n + 1) text given unit >>= λ points. cond (is_closed points) (Ok points) (Err BadMacro)) ≡ Err fault
    by (Ok points) e m = absurd (let k : ◌≡◌ {A = Result (List Spot) MacroFault} (Ok (map f points)) (Err fault) = m in cc)
    by (Err g) e m = rw e m

-- and so does the judgement
pub judged_refused : (n : ℕ) (text : List ℕ) (given : List Fraction) (unit : Measure) (fault : MacroFault) → closing_at n text given unit ≡ Err fault → outline_at n text given unit ≡ Err fault
judged_refused n text given unit fault h = by (outline_at n text given unit) (sym (closing_is n text given unit) ∙ h)
  where
    by : (r : Result (List Spot) MacroFault) → is_done r ≡ Err fault → r ≡ Err fault
    by (Ok points) e = cc
    by (Err g) e = (let k : g ≡ fault = cc in ap Err k)

-- what the judgement of an outline is
pub judged_is : (copper : Copper) (n : ℕ) (text : List ℕ) (given : List Fraction) (unit : Measure) → closing_at n text given unit ≡ judged_by copper (Outline n) text given unit
unfolding judged_by
judged_is copper n text given unit = closing_is n text given unit

-- why there are no moved points is why there is no figure
pub points_refused : (rotation : Rotation) (at : Spot) (n : ℕ) (text : List ℕ) (given : List Fraction) (unit : Measure) (fault : FigureFault) → IsRefusal (moved_from (set_down rotation at) [] (n + 1) text given unit) fault → Makes (Err fault) (outlined rotation at (outline_at n text given unit))
points_refused rotation at n text given unit (Macro e) h = let o = outline_refused (set_down rotation at) n text given unit e h in rw o refl
points_refused rotation at n text given unit NoMemory h = tt

-- the area of an outline whose corners are placed, and the fault of one whose are not
pub outline_placed : (f : Spot → Spot) (n : ℕ) (text : List ℕ) (given : List Fraction) (unit : Measure) (moved : List Spot) → IsOutlined f n text given unit moved → list_all is_placed moved ≡ true → (outline_at n text given unit >>= λ points. area_at (map f points)) ≡ Ok (Some (filled moved))
outline_placed f n text given unit moved o placed = rw (o.outline, ← o.each, placed) refl

pub outline_unplaced : (f : Spot → Spot) (n : ℕ) (text : List ℕ) (given : List Fraction) (unit : Measure) (moved : List Spot) → IsOutlined f n text given unit moved → list_all is_placed moved ≡ false → (outline_at n text given unit >>= λ points. area_at (map f points)) ≡ Err OutOfRange
outline_unplaced f n text given unit moved o placed = rw (o.outline, ← o.each, placed) refl

-- an outline is closed, and has a point more than edges
pub outline_is : (n : ℕ) (text : List ℕ) (given : List Fraction) (unit : Measure) (points : List Spot) → outline_at n text given unit ≡ Ok points → (is_closed points ≡ true) × (length points ≡ n + 1)
unfolding outline_at
outline_is n text given unit points h = by (points_from [] (n + 1) text given unit) refl h
  where
    by : (r : Result (List Spot) MacroFault) → points_from [] (n + 1) text given unit ≡ r → (r >>= λ ps. cond (is_closed ps) (Ok ps) (Err BadMacro)) ≡ Ok points → (is_closed points ≡ true) × (length points ≡ n + 1)
    by (Err fault) e h = cc
    by (Ok made) e h =
        let c = past_checked (is_closed made) made points h in
        let long = length_is [] (n + 1) text given unit made e in
        (subst (λ (ps : List Spot). is_closed ps ≡ true) c.1 c.0, ap length (sym c.1) ∙ long ∙ omega arith)
