-- What the reader has carried out, by what a row says.
use Rattle.std.proofs.Common.{◌≡◌, ◌+◌, List, [], Option, Some, None, Result, Ok, Err, refl, sym, ap, subst, append-nil}
use Rattle.std.specs.Prelude.{IfErr, IfOk, OnOk}
use Rattle.planar.specs.declared.Spot.{Spot}
use Rattle.file_reading.specs.declared.halt.Halt.{Halt}
use Rattle.file_reading.specs.declared.halt.Halt.TheVariants as halt
use Rattle.gerber_reading.specs.Command.{Bending}
use Rattle.gerber_reading.specs.CommandEffects.{listed, performs}
use Rattle.gerber_reading.specs.Image.{made}
use Rattle.gerber_reading.specs.Reader.{AllFit, AllKeep, Stops, TakesOn, contour_of, place_of}
use Rattle.gerber_reading.specs.declared.dictionary.Dictionary.{Dictionary}
use Rattle.regions.specs.declared.contour.Contour.{Contour}
use Rattle.real_copper.specs.Arcs.{no_arc}
use Rattle.real_copper.specs.Draws.{IsNearBend}
use Rattle.real_copper.specs.Figures.{RealFigure}
use Rattle.real_copper.specs.RealReader.{Flashed, HasObeyed, IsCounted, IsLawful, IsRight, KeepsRest, Seen, known, plain}
use Rattle.real_copper.specs.Rows.{RealEffect, RealKnown, draw, flash, flashed, stroke}
use Rattle.real_copper.specs.Table.{fits}
use Rattle.real_copper.specs.declared.aperture.RealAperture.{RealAperture}
use Rattle.real_copper.specs.declared.draw.Bend.{Bend}
use Rattle.real_copper.specs.declared.kind.RealKind.{RealKind}

-- what follows of a value, or of a fault, follows of an answer
pub if_ok : {A E : Type 0} (P Q : A → Type 0) → ((x : A) → P x → Q x) → (r : Result A E) → IfOk r P → IfOk r Q
if_ok P Q f (Ok x) h = f x h
if_ok P Q f (Err e) h = tt

pub if_err : {A E : Type 0} (P Q : E → Type 0) → ((e : E) → P e → Q e) → (r : Result A E) → IfErr r P → IfErr r Q
if_err P Q f (Ok x) h = tt
if_err P Q f (Err e) h = f e h

pub on_ok : {A E : Type 0} (P Q : Type 0) → (P → Q) → (r : Result A E) → OnOk r P → OnOk r Q
on_ok P Q f (Ok x) h = f h
on_ok P Q f (Err e) h = tt

-- ---- Pieces

pub takes_nothing : (r : Seen) → TakesOn plain r [] r
takes_nothing r = record { settings = refl; dictionary = refl; contour = refl; pieces = sym (append-nil _); start = refl; counts = refl; place = refl }

pub has_performed : (old new : Seen) (what : Result RealEffect RealKind) (to : Spot) (figures : List RealFigure) → what ≡ Ok (performs to figures) → TakesOn plain old (made (place_of old) (old.commands + 1) figures) new → HasObeyed old what (Some to) None new
has_performed old new what to figures is t = record {
  effect_is = performs to figures;
  is = is;
  carries = record { settings = t.settings; dictionary = t.dictionary; contour = ap contour_of t.contour; pieces = t.pieces; start = t.start; counts = t.counts; place = t.place };
  to_is = refl;
  next_is = refl;
}

pub keeps_rest : (old new : Seen) (more : List _) → TakesOn plain old more new → IsCounted new → KeepsRest old new
keeps_rest old new more t counted = record { dictionary = t.dictionary; contour = t.contour; counted = counted }

pub keeps_itself : (r : Seen) → IsLawful r → KeepsRest r r
keeps_itself r h = record { dictionary = refl; contour = refl; counted = h.counted }

pub still_right : (old new : Seen) → IsLawful old → KeepsRest old new → IsRight new
still_right old new h k = record {
  fit = subst (λ (d : Dictionary RealAperture). AllFit fits d) (sym k.dictionary) h.fit;
  bends = subst (λ (c : Option (Contour (Option Bend))). AllKeep IsNearBend (contour_of c)) (sym k.contour) h.bends;
  counted = k.counted;
}

pub right_itself : (r : Seen) → IsLawful r → IsRight r
right_itself r h = record { fit = h.fit; bends = h.bends; counted = h.counted }

-- ---- Draws

pub draw_is : (k : RealKnown) (b : Bending) (to : Spot) (figure : Option RealFigure) → Ok figure ≡ stroke k b to → draw k b to ≡ Ok (performs to (listed figure))
unfolding draw
draw_is k b to figure h = rw (← h) refl

pub draw_stops : (k : RealKnown) (b : Bending) (to : Spot) (why : RealKind) → Err why ≡ stroke k b to → draw k b to ≡ Err why
unfolding draw
draw_stops k b to why h = rw (← h) refl

-- ---- Flashes

flash_is : (k : RealKnown) (b : Bending) (to : Spot) (figures : List RealFigure) → flashed k to ≡ Ok figures → no_arc b ≡ Ok None → flash k b to ≡ Ok (performs to figures)
unfolding flash
flash_is k b to figures f n = rw (f, n) refl

pub has_flashed : (old new : Seen) (b : Bending) (to : Spot) → Flashed old (flashed (known old) to) new → no_arc b ≡ Ok None → HasObeyed old (flash (known old) b to) (Some to) None new
has_flashed old new b to f n = has_performed old new (flash (known old) b to) to f.figures (flash_is (known old) b to f.figures f.is n) f.takes

pub flash_stops : (k : RealKnown) (b : Bending) (to : Spot) (why : Halt RealKind) → Stops (flashed k to) why → Stops (flash k b to) why
unfolding flash
flash_stops k b to (halt.Fault why) f = rw f refl
flash_stops k b to halt.NoMemory f = tt

offsets_stop : (k : RealKnown) (b : Bending) (to : Spot) (figures : List RealFigure) → flashed k to ≡ Ok figures → (why : Halt RealKind) → Stops (no_arc b) why → Stops (flash k b to) why
unfolding flash
offsets_stop k b to figures f (halt.Fault why) n = rw (f, n) refl
offsets_stop k b to figures f halt.NoMemory n = tt

pub flash_stops_behind : (old new : Seen) (b : Bending) (to : Spot) → Flashed old (flashed (known old) to) new → (why : Halt RealKind) → Stops (no_arc b) why → Stops (flash (known old) b to) why
flash_stops_behind old new b to f why n = offsets_stop (known old) b to f.figures f.is why n
