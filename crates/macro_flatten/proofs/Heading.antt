-- The head: what stands behind its lines.
use Rattle.std.proofs.Common.{◌≡◌, ℕ, zero, suc, ◌+◌, ◌<◌, ◌≤◌, Bool, true, false, cond, eqb, List, [], ◌∷◌, length, get_or, pos, Some, None, Result, refl, ap, ◌∙◌, subst, arith, eq-eqb}
use Rattle.std.specs.Option.{option_or}
use Rattle.std.proofs.lemmas.Bool.{eqb-true}
use Rattle.std.specs.List.{AllByRecursion}
use Rattle.lengths.specs.declared.decimal.Unit.TheVariants.{Mm}
use Rattle.apertures.specs.declared.aperture.Aperture.{Aperture}
use Rattle.apertures.specs.declared.aperture.Aperture.TheVariants.{Circle}
use Rattle.apertures.specs.declared.fault.ApertureFault.{ApertureFault}
use Rattle.gerber_reading.specs.Command.{Command, formats, counts_in, defines}
use Rattle.gerber_layer.specs.CommandEffects.{stays, makes}
use Rattle.gerber_reading.specs.declared.place.Place.{Place}
use Rattle.gerber_layer.specs.Tools.{standard, composed_in, tool_by}
use Rattle.gerber_reading.specs.Settings.{aperture_before, region_open, definitions_before, as_number}
use Rattle.gerber_layer.specs.Image.{known_before, pieces_of}
use Rattle.macro_flatten.specs.FlatText.{circle, circles}
use Rattle.macro_flatten.proofs.Operations.{seven}
use Rattle.macro_flatten.proofs.Definitions.{circle_text, defines_circle, reads_definition}
use Rattle.macro_flatten.proofs.Effects.{sets_format, sets_unit, makes_one}
use Rattle.macro_flatten.proofs.History.{told, behind, as_read, Stands, is_set, clean_then, pieces_then, no_pieces}
use Rattle.macro_flatten.proofs.PenPlaces.{IsPen}
use Rattle.macro_flatten.proofs.Exact.{defined_before}

-- Before the figures: apertures are defined up to a number, and no piece is there.
pub record Heading (p : Place) (n : ℕ) (h : List Command) : Type 0 where
  pub stands : Stands p h
  pub outside : region_open h ≡ false
  pub unselected : aperture_before h ≡ None
  pub counted : definitions_before h + 10 ≡ n
  pub fresh : (m : ℕ) → n ≤ m → defined_before h m ≡ None
  pub none : pieces_of p h ≡ []

pub begun : (p : Place) → Heading p 10 (counts_in Mm ∷ formats seven ∷ [])
begun p =
    let e = sets_format (known_before p []) refl refl in
    let f = sets_unit (known_before p (formats seven ∷ [])) refl refl in
    record {
      stands = record { clean = clean_then p (formats seven ∷ []) (counts_in Mm) stays (clean_then p [] (formats seven) stays tt e) f; format = refl; unit = refl; block = refl; ended = refl };
      outside = refl;
      unselected = refl;
      counted = refl;
      fresh = λ m low. refl;
      none = pieces_then p (formats seven ∷ []) (counts_in Mm) stays f ∙ pieces_then p [] (formats seven) stays e ∙ no_pieces p;
    }

-- what a number is defined as behind one more definition
defined_then : (p : Place) (n d m : ℕ) (h : List Command) → 10 ≤ n → n ≤ 70_000 → IsPen d → Stands p h → defined_before (defines (circle_text n d) ∷ h) m ≡ option_or (cond (eqb n m) (Some (standard (Circle (pos d)))) None) (defined_before h m)
defined_then p n d m h low high small s = rw s.unit (ap (λ (r : Result (ℕ × Aperture) ApertureFault). option_or (as_number m (tool_by r (composed_in (circle_text n d) Mm))) (defined_before h m)) (defines_circle n d low high small.0 small.1))

other : (n m : ℕ) → (n ≡ m → ⊥) → eqb n m ≡ false
other n m f = by (eqb n m) refl
  where
    by : (b : Bool) → eqb n m ≡ b → eqb n m ≡ false
    by true e = absurd (f (eqb-true n m e))
    by false e = e

-- the lines of circles: earlier numbers keep what they stand for, and each pen has the next number
pub record Circled (p : Place) (n : ℕ) (pens : List ℕ) (h h' : List Command) : Type 0 where
  pub head : Heading p (n + length pens) h'
  pub old : (m : ℕ) → m < n → defined_before h' m ≡ defined_before h m
  pub new : (i : ℕ) → i < length pens → defined_before h' (n + i) ≡ Some (standard (Circle (pos (get_or pens i 0))))

pub circled : (p : Place) (n : ℕ) (pens : List ℕ) (h : List Command) → Heading p n h → 10 ≤ n → n + length pens ≤ 65_546 → AllByRecursion IsPen pens → Circled p n pens h (behind h (circles n pens))
circled p n [] h k low high small = record {
  head = subst (λ (m : ℕ). Heading p m h) (omega arith) k;
  old = λ m l. refl;
  new = λ i l. absurd (omega (arith, l));
}
circled p n (d ∷ pens) h k low high small =
    let text = circle_text n d in
    let is = defines_circle n d low (omega (arith, high)) small.0.0 small.0.1 in
    let count = k.counted in
    let e = makes_one (known_before p h) text n (Circle (pos d)) (is_set p h k.stands) is (k.fresh n (omega arith)) (omega (arith, count, high)) in
    let then : (m : ℕ) → defined_before (defines text ∷ h) m ≡ option_or (cond (eqb n m) (Some (standard (Circle (pos d)))) None) (defined_before h m) = λ m. defined_then p n d m h low (omega (arith, high)) small.0 k.stands in
    let next : Heading p (n + 1) (defines text ∷ h) = record {
      stands = record { clean = clean_then p h (defines text) (makes n (standard (Circle (pos d)))) k.stands.clean e; format = k.stands.format; unit = k.stands.unit; block = k.stands.block; ended = k.stands.ended };
      outside = k.outside;
      unselected = k.unselected;
      counted = omega (arith, count);
      fresh = λ m above. then m ∙ rw (other n m (λ s. omega (arith, s, above)), k.fresh m (omega (arith, above))) refl;
      none = pieces_then p h (defines text) (makes n (standard (Circle (pos d)))) e ∙ k.none;
    } in
    let read : Heading p (n + 1) (told (circle n d) ∷ h) = as_read (Heading p (n + 1)) h (circle n d) (defines text) (reads_definition 0 n d) next in
    let told_then : (m : ℕ) → defined_before (told (circle n d) ∷ h) m ≡ option_or (cond (eqb n m) (Some (standard (Circle (pos d)))) None) (defined_before h m) = λ m. as_read (λ g. defined_before g m ≡ option_or (cond (eqb n m) (Some (standard (Circle (pos d)))) None) (defined_before h m)) h (circle n d) (defines text) (reads_definition 0 n d) (then m) in
    let c = circled p (n + 1) pens (told (circle n d) ∷ h) read (omega (arith, low)) (omega (arith, high)) small.1 in
    record {
      head = subst (λ (m : ℕ). Heading p m (behind (told (circle n d) ∷ h) (circles (n + 1) pens))) (omega arith) c.head;
      old = λ m below. c.old m (omega (arith, below)) ∙ told_then m ∙ rw (other n m (λ s. omega (arith, s, below))) refl;
      new = λ i below. each i (c.old n (omega arith) ∙ told_then n ∙ rw (eq-eqb n n refl) refl) (λ j l. c.new j l) below;
    }
  where
    each : (i : ℕ) → defined_before (behind (told (circle n d) ∷ h) (circles (n + 1) pens)) n ≡ Some (standard (Circle (pos d))) → ((j : ℕ) → j < length pens → defined_before (behind (told (circle n d) ∷ h) (circles (n + 1) pens)) (n + 1 + j) ≡ Some (standard (Circle (pos (get_or pens j 0))))) → i < suc (length pens) → defined_before (behind (told (circle n d) ∷ h) (circles (n + 1) pens)) (n + i) ≡ Some (standard (Circle (pos (get_or (d ∷ pens) i 0))))
    each zero first more below = let same : n + 0 ≡ n = omega arith in rw same first
    each (suc j) first more below = let same : n + suc j ≡ n + 1 + j = omega arith in rw same (more j (omega (arith, below)))
