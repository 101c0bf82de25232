-- The contour by looking back.
use Rattle.std.proofs.Common.{◌≡◌, Bool, true, false, cond, List, [], ◌∷◌, ◌++◌, drop, Option, Some, None, refl, sym, ap, ◌∙◌, subst}
use Rattle.std.proofs.lemmas.List.{append-nil, map-append}
use Rattle.planar.specs.declared.Spot.{Spot}
use Rattle.gerber_reading.specs.Command.{Command, opens_region, closes_region, operates}
use Rattle.gerber_reading.specs.declared.command.Code.TheVariants.{Draw, Move, Flash}
use Rattle.gerber_reading.specs.CommandEffects.{Leg, Outline}
use Rattle.gerber_reading.specs.Settings.{contour_before, drawn, lengthened, point_before, region_open, spots_of}
use Rattle.gerber_layer.specs.CommandEffects.{exact_meaning}
use Rattle.gerber_layer.specs.Laws.{begins_contour, since_begun, up_to_begun, draws_in, points_along, LooksBackToItsContour}

-- spots with one more, behind the current point where they are none
abbrev longer : List Spot → Spot → Spot → List Spot
longer [] from to = from ∷ to ∷ []
longer (p ∷ spots) from to = p ∷ spots ++ to ∷ []

-- those of a contour with an edge more
longer_is : {E : Type 0} (contour : Option (Outline E)) (from to : Spot) (e : E) → spots_of (lengthened contour from to e) ≡ longer (spots_of contour) from to
longer_is None from to e = refl
longer_is (Some o) from to e = ap (λ (spots : List Spot). o.first ∷ spots) (map-append (λ (l : Leg _). l.to) o.legs (record { to = to; bend = e } ∷ []))

-- one draw more
along_more : (hs : List (List Command)) (h : List Command) → points_along (hs ++ h ∷ []) ≡ longer (points_along hs) (point_before (drop 1 h)) (point_before h)
along_more [] h = refl
along_more (g ∷ gs) h = ap (λ (spots : List Spot). point_before (drop 1 g) ∷ spots) (map-append point_before (g ∷ gs) (h ∷ []))

-- the two parts of a history
parts : (earlier : List Command) → since_begun earlier ++ up_to_begun earlier ≡ earlier
parts [] = refl
parts (c ∷ earlier) = by (begins_contour c) (parts earlier)
  where
    by : (b : Bool) → since_begun earlier ++ up_to_begun earlier ≡ earlier → cond b [] (c ∷ since_begun earlier) ++ cond b (c ∷ earlier) (up_to_begun earlier) ≡ c ∷ earlier
    by true e = refl
    by false e = ap (λ (cs : List Command). c ∷ cs) e

draw_more : (c : Command) (earlier since before : List Command) (spots : List Spot) → since ++ before ≡ earlier → spots ≡ points_along (draws_in since before) → longer spots (point_before earlier) (point_before (c ∷ earlier)) ≡ points_along (draws_in since before ++ (c ∷ since ++ before) ∷ [])
draw_more c earlier since before spots e h =
    subst (λ (cs : List Command). longer spots (point_before cs) (point_before (c ∷ cs)) ≡ points_along (draws_in since before ++ (c ∷ since ++ before) ∷ [])) e
    (ap (λ (some : List Spot). longer some (point_before (since ++ before)) (point_before (c ∷ since ++ before))) h ∙ sym (along_more (draws_in since before) (c ∷ since ++ before)))

none_more : (since before : List Command) (spots : List Spot) → spots ≡ points_along (draws_in since before) → spots ≡ points_along (draws_in since before ++ [])
none_more since before spots h = h ∙ ap points_along (sym (append-nil (draws_in since before)))

-- the contour so far
abbrev contour : List Command → Option (Outline (Unit {0}))
contour earlier = contour_before exact_meaning.edge earlier

drawing : (c : Command) (earlier : List Command) → region_open earlier ≡ true → spots_of (contour earlier) ≡ points_along (draws_in (since_begun earlier) (up_to_begun earlier)) → spots_of (drawn Draw (region_open earlier) (contour earlier) (point_before earlier) (point_before (c ∷ earlier)) tt) ≡ points_along (draws_in (since_begun earlier) (up_to_begun earlier) ++ (c ∷ since_begun earlier ++ up_to_begun earlier) ∷ [])
drawing c earlier h more =
    ap (λ (inside : Bool). spots_of (drawn Draw inside (contour earlier) (point_before earlier) (point_before (c ∷ earlier)) tt)) h
    ∙ longer_is (contour earlier) (point_before earlier) (point_before (c ∷ earlier)) tt
    ∙ draw_more c earlier (since_begun earlier) (up_to_begun earlier) (spots_of (contour earlier)) (parts earlier) more

moving : (c : Command) (earlier : List Command) → region_open earlier ≡ true → spots_of (drawn Move (region_open earlier) (contour earlier) (point_before earlier) (point_before (c ∷ earlier)) tt) ≡ []
moving c earlier h = ap (λ (inside : Bool). spots_of (drawn Move inside (contour earlier) (point_before earlier) (point_before (c ∷ earlier)) tt)) h

pub looks_back_to_its_contour : (earlier : List Command) → LooksBackToItsContour earlier
looks_back_to_its_contour [] h = absurd (cc)
looks_back_to_its_contour (operates x y None b ∷ earlier) h = drawing (operates x y None b) earlier h (looks_back_to_its_contour earlier h)
looks_back_to_its_contour (operates x y (Some Draw) b ∷ earlier) h = drawing (operates x y (Some Draw) b) earlier h (looks_back_to_its_contour earlier h)
looks_back_to_its_contour (operates x y (Some Move) b ∷ earlier) h = moving (operates x y (Some Move) b) earlier h
looks_back_to_its_contour (operates x y (Some Flash) b ∷ earlier) h = none_more (since_begun earlier) (up_to_begun earlier) (spots_of (contour earlier)) (looks_back_to_its_contour earlier h)
looks_back_to_its_contour (opens_region ∷ earlier) h = refl
looks_back_to_its_contour (closes_region ∷ earlier) h = absurd (cc)
looks_back_to_its_contour (other ∷ earlier) h = none_more (since_begun earlier) (up_to_begun earlier) (spots_of (contour earlier)) (looks_back_to_its_contour earlier h)
