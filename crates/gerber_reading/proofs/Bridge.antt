-- The state of the reader is what looking back finds.
use Rattle.std.specs.Option.{option_or}
use Rattle.std.proofs.Common.{◌≡◌, ℕ, ◌+◌, Bool, true, false, cond, eqb, List, ◌∷◌, length, ℤ, Option, Some, None, option_map, Result, Ok, Err, refl, sym, ap, ◌∙◌, subst, arith}
use mathlib.Core.Path.{fun_ext}
use Rattle.lengths.specs.declared.decimal.Unit.{Unit as Measure}
use Rattle.planar.specs.declared.Spot.{Spot}
use Rattle.board_shapes.specs.Pieces.{PieceOf}
use Rattle.step_repeat.specs.Copies.{pieces_by}
use Rattle.aperture_macros.specs.BodyWord.{PlainPrimitive}
use Rattle.aperture_macros.specs.declared.fault.MacroFault.{MacroFault}
use Rattle.gerber_reading.specs.Command.{Bending, Command, defines, repeats, opens_region, closes_region, operates, ends, names_macro, body_word}
use Rattle.gerber_reading.specs.declared.command.Format.{Format}
use Rattle.gerber_reading.specs.declared.command.Code.{Code}
use Rattle.gerber_reading.specs.declared.command.Code.TheVariants.{Draw, Move, Flash}
use Rattle.gerber_reading.specs.declared.settings.Settings.{Settings}
use Rattle.gerber_reading.specs.declared.dictionary.Dictionary.{Dictionary}
use Rattle.gerber_reading.specs.declared.reader.Reader.{Reader}
use Rattle.gerber_reading.specs.CommandEffects.{Meaning, Outline, Place, Known, Effect, Profile, stays, makes, begins_macro, fills_macro, steps, concludes, code_of, coordinate}
use Rattle.gerber_reading.specs.Tools.{Macro, Macros, Tool, begun, filled_up, latest_or, longer}
use Rattle.gerber_reading.specs.After.{after, contour_after, heads, opened}
use Rattle.gerber_reading.specs.Settings.{value_or, value_in, settings_before, format_before, unit_before, x_before, y_before, point_before, region_open, drawn, contour_before, defined_before, definitions_before, macros_before, ok_or_none, with_body}
use Rattle.gerber_reading.specs.Image.{Image, with_effect, known_with, known_by, image_by}
use Rattle.gerber_reading.specs.Reader.{defined_in, macros_in, size_of, Adds, HasMacros, Turns, contour_of, known_of, place_of, Obeys}
use Rattle.gerber_reading.specs.Outcomes.{HasOutcomes, IsEffect, IsFilled, Outcome}

-- a coordinate's value
value_is : (x : Option (List ℕ)) (format : Format) (unit : Measure) (here to : ℤ) → coordinate format unit here x ≡ Ok to → value_in x (Some format) (Some unit) here ≡ to
unfolding coordinate
value_is None format unit here to h = cc
value_is (Some digits) format unit here to h = ap (value_or here) h

-- an operation's effect leads to its spot
heads_is : {G E A : Type 0} → (inside : Bool) (code : Code) (to : Spot) (leg : E) (e : (Effect G E A)) → IsEffect inside code to leg e → heads e ≡ Some to
heads_is false code to leg e i = ap heads i.is
heads_is true Draw to leg e i = ap heads i
heads_is true Move to leg e i = ap heads i.1
heads_is true Flash to leg e i = absurd i

-- where an operation leads is found by looking back
point_is : {G E A : Type 0} (m : Meaning E A) → (p : Place) (earlier : List Command) (ps : (Image G)) (x y : Option (List ℕ)) (code : Option Code) (b : Bending) (e : (Effect G E A)) (o : Outcome m (known_with m p earlier ps) (operates x y code b) e) → o.to ≡ point_before (operates x y code b ∷ earlier)
point_is m p earlier ps x y code b e o =
    let across : value_in x (format_before earlier) (unit_before earlier) (x_before earlier) ≡ o.to.x = rw (o.format_is, o.unit_is) (value_is x o.format o.unit (x_before earlier) o.to.x o.x_is) in
    let up : value_in y (format_before earlier) (unit_before earlier) (y_before earlier) ≡ o.to.y = rw (o.format_is, o.unit_is) (value_is y o.format o.unit (y_before earlier) o.to.y o.y_is) in
    rw (across, up) refl

-- the settings behind a command are found by looking back from the next
settings-push : {G E A : Type 0} (m : Meaning E A) → (p : Place) (earlier : List Command) (ps : (Image G)) (c : Command) (e : (Effect G E A)) → Outcome m (known_with m p earlier ps) c e → after (settings_before earlier) c (heads e) (opened e) ≡ settings_before (c ∷ earlier)
settings-push m p earlier ps (repeats text) e o = rw (ap opened o.is, ap ok_or_none o.next_is) refl
settings-push m p earlier ps (operates x y code b) e o =
    let there = point_is m p earlier ps x y code b e o in
    rw (heads_is (region_open earlier) (code_of code) o.to (m.edge (settings_before earlier) (operates x y code b)) e o.is, there) refl
settings-push m p earlier ps other e o = refl

-- so is the contour
keeps : {G E A : Type 0} → (e f : (Effect G E A)) (contour : Option (Outline E)) (from : Spot) → e ≡ f → contour_after f contour from ≡ contour → contour_after e contour from ≡ contour
keeps e f contour from same h = rw same h

drawn_is : {G E A : Type 0} → (inside : Bool) (code : Code) (to : Spot) (leg : E) (e : (Effect G E A)) (contour : Option (Outline E)) (from : Spot) → IsEffect inside code to leg e → contour_after e contour from ≡ drawn code inside contour from to leg
drawn_is true Draw to leg e contour from i = ap (λ (f : (Effect _ _ _)). contour_after f contour from) i
drawn_is true Move to leg e contour from i = ap (λ (f : (Effect _ _ _)). contour_after f contour from) i.1
drawn_is true Flash to leg e contour from i = absurd i
drawn_is false Draw to leg e contour from i = ap (λ (f : (Effect _ _ _)). contour_after f contour from) i.is
drawn_is false Move to leg e contour from i = ap (λ (f : (Effect _ _ _)). contour_after f contour from) i.is
drawn_is false Flash to leg e contour from i = ap (λ (f : (Effect _ _ _)). contour_after f contour from) i.is

filled_keeps : {G E A : Type 0} → (r : Result (Option PlainPrimitive) MacroFault) (e : (Effect G E A)) (contour : Option (Outline E)) (from : Spot) → IsFilled r e → contour_after e contour from ≡ contour
filled_keeps (Ok None) e contour from o = keeps e stays contour from o refl
filled_keeps (Ok (Some p)) e contour from o = keeps e (fills_macro p) contour from o refl
filled_keeps (Err fault) e contour from o = absurd o

contour-push : {G E A : Type 0} (m : Meaning E A) → (p : Place) (earlier : List Command) (ps : (Image G)) (c : Command) (e : (Effect G E A)) → Outcome m (known_with m p earlier ps) c e → contour_after e (contour_before m.edge earlier) (point_before earlier) ≡ contour_before m.edge (c ∷ earlier)
contour-push m p earlier ps (operates x y code b) e o =
    drawn_is (region_open earlier) (code_of code) o.to (m.edge (settings_before earlier) (operates x y code b)) e (contour_before m.edge earlier) (point_before earlier) o.is ∙ ap (λ (to : Spot). drawn (code_of code) (region_open earlier) (contour_before m.edge earlier) (point_before earlier) to (m.edge (settings_before earlier) (operates x y code b))) (point_is m p earlier ps x y code b e o)
contour-push m p earlier ps opens_region e o = ap (λ (f : (Effect _ _ _)). contour_after f (contour_before m.edge earlier) (point_before earlier)) o
contour-push m p earlier ps closes_region e o = ap (λ (f : (Effect _ _ _)). contour_after f (contour_before m.edge earlier) (point_before earlier)) o.1
contour-push m p earlier ps (defines text) e o = keeps e (makes o.n o.tool) (contour_before m.edge earlier) (point_before earlier) o.is refl
contour-push m p earlier ps (repeats text) e o = keeps e (steps o.next o.pieces) (contour_before m.edge earlier) (point_before earlier) o.is refl
contour-push m p earlier ps ends e o = keeps e (concludes o.0) (contour_before m.edge earlier) (point_before earlier) o.1 refl
contour-push m p earlier ps (names_macro name) e o = keeps e (begins_macro name) (contour_before m.edge earlier) (point_before earlier) o refl
contour-push m p earlier ps (body_word text) e o = filled_keeps (m.primitive text) e (contour_before m.edge earlier) (point_before earlier) o
contour-push m p earlier ps other e o = keeps e stays (contour_before m.edge earlier) (point_before earlier) o refl

-- an operation and the end of a region leave the dictionary as it was
operation_keeps : {G E A : Type 0} → (old new : Dictionary A) (inside : Bool) (code : Code) (to : Spot) (leg : E) (e : (Effect G E A)) → IsEffect inside code to leg e → Turns old e new → new ≡ old
operation_keeps old new false code to leg e i t = subst (λ (f : (Effect _ _ _)). Turns old f new) i.is t
operation_keeps old new true Draw to leg e i t = subst (λ (f : (Effect _ _ _)). Turns old f new) i t
operation_keeps old new true Move to leg e i t = subst (λ (f : (Effect _ _ _)). Turns old f new) i.1 t
operation_keeps old new true Flash to leg e i t = absurd i

-- every command but a definition, of an aperture or of a macro, does
abbrev Keeps : {A : Type 0} → Command → Dictionary A → Dictionary A → Type 0
Keeps (defines text) old new = Unit {0}
Keeps (names_macro name) old new = Unit {0}
Keeps (body_word text) old new = Unit {0}
Keeps other old new = new ≡ old

keeps_dictionary : {G E A : Type 0} (m : Meaning E A) → (old new : Dictionary A) (k : (Known G E A)) (c : Command) (e : (Effect G E A)) → Outcome m k c e → Turns old e new → Keeps c old new
keeps_dictionary m old new k (defines text) e o t = tt
keeps_dictionary m old new k (names_macro name) e o t = tt
keeps_dictionary m old new k (body_word text) e o t = tt
keeps_dictionary m old new k (operates x y code b) e o t = operation_keeps old new k.settings.region (code_of code) o.to (m.edge k.settings (operates x y code b)) e o.is t
keeps_dictionary m old new k closes_region e o t = subst (λ (f : (Effect _ _ _)). Turns old f new) o.1 t
keeps_dictionary m old new k (repeats text) e o t = subst (λ (f : (Effect _ _ _)). Turns old f new) o.is t
keeps_dictionary m old new k ends e o t = subst (λ (f : (Effect _ _ _)). Turns old f new) o.1 t
keeps_dictionary m old new k other e o t = subst (λ (f : (Effect _ _ _)). Turns old f new) o t

-- The aperture dictionary and the macros are found by looking back.
pub record Found {E A : Type 0} (m : Meaning E A) (new : Dictionary A) (earlier : List Command) : Type 0 where
  pub defined : (n : ℕ) → defined_in new n ≡ defined_before m.aperture earlier n
  pub size : size_of new ≡ definitions_before earlier
  pub latest : (macros_in new).latest ≡ (macros_before m.primitive earlier).latest
  pub others : (name : List ℕ) → (macros_in new).others name ≡ (macros_before m.primitive earlier).others name

same_found : {E A : Type 0} (m : Meaning E A) (old new : Dictionary A) (earlier : List Command) → Found m old earlier → new ≡ old → Found m new earlier
same_found m old new earlier h same = subst (λ (d : Dictionary _). Found m d earlier) (sym same) h

-- also behind a macro that begins
begun-push : {E A : Type 0} (m : Meaning E A) (old new : Dictionary A) (earlier : List Command) (name : List ℕ) → Found m old earlier → HasMacros old new (begun (macros_in old) name) → Found m new (names_macro name ∷ earlier)
begun-push m old new earlier name h o = record {
  defined = λ n. o.defined n ∙ h.defined n;
  size = o.size ∙ h.size;
  latest = o.latest;
  others = λ q. o.others q ∙ ap (λ (o : Option (List PlainPrimitive)). latest_or (macros_in old).latest o q) (h.others q) ∙ ap (λ (l : Option Macro). latest_or l ((macros_before m.primitive earlier).others q) q) h.latest;
}

-- and behind a word of its body
record Fills {E A : Type 0} (m : Meaning E A) (old new : Dictionary A) (earlier : List Command) (macros : Macros) : Type 0 where
  defined : (n : ℕ) → defined_in new n ≡ defined_before m.aperture earlier n
  size : size_of new ≡ definitions_before earlier
  latest : (macros_in new).latest ≡ macros.latest
  others : (name : List ℕ) → (macros_in new).others name ≡ macros.others name

filled-push : {G E A : Type 0} (m : Meaning E A) → (old new : Dictionary A) (earlier : List Command) (r : Result (Option PlainPrimitive) MacroFault) (e : (Effect G E A)) → Found m old earlier → IsFilled r e → Turns old e new → Fills m old new earlier (with_body (macros_before m.primitive earlier) r)
filled-push m old new earlier (Ok None) e h o t =
    let f = same_found m old new earlier h (subst (λ (f : (Effect _ _ _)). Turns old f new) o t) in
    record { defined = f.defined; size = f.size; latest = f.latest; others = f.others }
filled-push m old new earlier (Ok (Some p)) e h o t =
    let o : HasMacros old new (filled_up (macros_in old) p) = subst (λ (f : (Effect _ _ _)). Turns old f new) o t in
    record {
      defined = λ n. o.defined n ∙ h.defined n;
      size = o.size ∙ h.size;
      latest = o.latest ∙ ap (option_map (longer p)) h.latest;
      others = λ q. o.others q ∙ h.others q;
    }
filled-push m old new earlier (Err fault) e h o t = absurd o

dictionary-push : {G E A : Type 0} (m : Meaning E A) → (old new : Dictionary A) (p : Place) (earlier : List Command) (ps : (Image G)) (c : Command) (e : (Effect G E A)) → Found m old earlier → Outcome m (known_with m p earlier ps) c e → Turns old e new → Keeps c old new → Found m new (c ∷ earlier)
dictionary-push m old new p earlier ps (defines text) e h o t u =
    let adds : Adds old new o.n o.tool = subst (λ (f : (Effect _ _ _)). Turns old f new) o.is t in
    record {
      defined = λ n. adds.defined n ∙ rw (o.unit_is, o.read_is, h.defined n) (by (eqb o.n n) n);
      size = adds.more ∙ ap (λ (k : ℕ). k + 1) h.size;
      latest = ap (λ (o : Macros). o.latest) adds.macros ∙ h.latest;
      others = λ name. ap (λ (o : Macros). o.others name) adds.macros ∙ h.others name;
    }
  where
    by : (b : Bool) (n : ℕ) → cond b (Some o.tool) (defined_before m.aperture earlier n) ≡ option_or (cond b (Some o.tool) None) (defined_before m.aperture earlier n)
    by true n = refl
    by false n = refl
dictionary-push m old new p earlier ps (names_macro name) e h o t u = begun-push m old new earlier name h (subst (λ (f : (Effect _ _ _)). Turns old f new) o t)
dictionary-push m old new p earlier ps (body_word text) e h o t u = let f = filled-push m old new earlier (m.primitive text) e h o t in record { defined = f.defined; size = f.size; latest = f.latest; others = f.others }
dictionary-push m old new p earlier ps other e h o t u = let f = same_found m old new earlier h u in record { defined = f.defined; size = f.size; latest = f.latest; others = f.others }

-- the reader has obeyed these commands
pub record State {F G E A W : Type 0} (plain : F → G) (f : Profile G E A W) (p : Place) (earlier : List Command) (r : (Reader F E A)) : Type 0 where
  pub known : known_of plain r ≡ known_by f p earlier
  pub counts : r.commands ≡ length earlier

pub same_known : {G E A : Type 0} → (s s' : Settings) (d d' : ℕ → Option (Tool A)) (n n' : ℕ) (o o' : Macros) (c c' : Option (Outline E)) (i i' : (Image G)) (m m' : Place) → s ≡ s' → d ≡ d' → n ≡ n' → o ≡ o' → c ≡ c' → i ≡ i' → m ≡ m' → ◌≡◌ {A = Known G E A} (record { settings = s; defined = d; definitions = n; macros = o; contour = c; pieces = i.pieces; start = i.start; place = m }) (record { settings = s'; defined = d'; definitions = n'; macros = o'; contour = c'; pieces = i'.pieces; start = i'.start; place = m' })
same_known s s' d d' n n' o o' c c' i i' m m' a b e l f g h = cc

pub same_macros : (m n : Macros) → m.latest ≡ n.latest → ((name : List ℕ) → m.others name ≡ n.others name) → m ≡ n
same_macros m n a b =
    ap (λ (x : Option Macro). let r : Macros = record { latest = x; others = m.others } in r) a ∙ ap (λ (f : List ℕ → Option (List PlainPrimitive)). let r : Macros = record { latest = n.latest; others = f } in r) (fun_ext b)

-- the pieces of a reader, and how many of them stand before the open block
abbrev pub reader_image : {F G E A : Type 0} → (F → G) → (Reader F E A) → (Image G)
reader_image plain r = record { pieces = pieces_by plain r.pieces.items; start = r.start }

-- the image with an effect
same_image : {G E A W : Type 0} (old new earlier : (Image G)) (q p : Place) (m n : ℕ) (e : (Effect G E A)) (x : Result (Effect G E A) W) → new ≡ with_effect {W = W} q m old (Ok e) → old ≡ earlier → q ≡ p → m ≡ n → Ok e ≡ x → new ≡ with_effect p n earlier x
same_image {W = W} old new earlier q p m n e x h a b c d =
    h ∙ ap (λ (i : (Image _)). with_effect {W = W} q m i (Ok e)) a ∙ ap (λ (t : Place). with_effect {W = W} t m earlier (Ok e)) b ∙ ap (λ (t : ℕ). with_effect {W = W} p t earlier (Ok e)) c ∙ ap (λ (t : Result (Effect _ _ _) W). with_effect p n earlier t) d

new_image : {G : Type 0} → (i j : (Image G)) → i.pieces ≡ j.pieces → i.start ≡ j.start → i ≡ j
new_image i j a b =
    ap (λ (xs : List (PieceOf _)). let r : (Image _) = record { pieces = xs; start = i.start } in r) a ∙ ap (λ (n : ℕ). let r : (Image _) = record { pieces = j.pieces; start = n } in r) b

-- one command more
pub state-push : {F G E A W : Type 0} (plain : F → G) → (f : Profile G E A W) → HasOutcomes f → (p : Place) (earlier : List Command) (r : (Reader F E A)) (c : Command) (new : (Reader F E A)) → State plain f p earlier r → Obeys plain r c (f.does (known_of plain r) c) new → State plain f p (c ∷ earlier) new
unfolding image_by
state-push {W = W} plain f outcome p earlier r c new s o =
    let e : (Effect _ _ _) = o.effect_is in
    let ps : (Image _) = image_by f p earlier in
    let clean : f.does (known_by f p earlier) c ≡ Ok e = subst (λ (k : (Known _ _ _)). f.does k c ≡ Ok e) s.known o.clean in
    let did : Outcome f.means (known_with f.means p earlier ps) c e = outcome (known_with f.means p earlier ps) c e clean in
    let place : place_of r ≡ p = ap (λ (k : (Known _ _ _)). k.place) s.known in
    let settings : new.settings ≡ settings_before (c ∷ earlier) = o.settings ∙ ap (λ (t : Settings). after t c (heads e) (opened e)) (ap (λ (k : (Known _ _ _)). k.settings) s.known) ∙ settings-push f.means p earlier ps c e did in
    let had : Found f.means r.dictionary earlier = record { defined = λ m. ap (λ (k : (Known _ _ _)). k.defined m) s.known; size = ap (λ (k : (Known _ _ _)). k.definitions) s.known; latest = ap (λ (k : (Known _ _ _)). k.macros.latest) s.known; others = λ name. ap (λ (k : (Known _ _ _)). k.macros.others name) s.known } in
    let has : Found f.means new.dictionary (c ∷ earlier) = dictionary-push f.means r.dictionary new.dictionary p earlier ps c e had did o.dictionary (keeps_dictionary f.means r.dictionary new.dictionary (known_with f.means p earlier ps) c e did o.dictionary) in
    let contour : contour_of new.contour ≡ contour_before f.means.edge (c ∷ earlier) = o.contour ∙ ap (λ (k : (Known _ _ _)). contour_after e k.contour k.settings.at) s.known ∙ contour-push f.means p earlier ps c e did in
    let number : r.commands + 1 ≡ length earlier + 1 = ap (λ (k : ℕ). k + 1) s.counts in
    let same : reader_image plain r ≡ ps = new_image (reader_image plain r) ps (ap (λ (k : (Known _ _ _)). k.pieces) s.known) (ap (λ (k : (Known _ _ _)). k.start) s.known) in
    let next : reader_image plain new ≡ with_effect {W = W} (place_of r) (r.commands + 1) (reader_image plain r) (Ok e) = new_image (reader_image plain new) (with_effect {W = W} (place_of r) (r.commands + 1) (reader_image plain r) (Ok e)) o.pieces o.start in
    let image : reader_image plain new ≡ image_by f p (c ∷ earlier) = same_image (reader_image plain r) (reader_image plain new) ps (place_of r) p (r.commands + 1) (length earlier + 1) e (f.does (known_by f p earlier) c) next same place number (sym clean) in
    record {
      known = same_known new.settings (settings_before (c ∷ earlier)) (defined_in new.dictionary) (defined_before f.means.aperture (c ∷ earlier)) (size_of new.dictionary) (definitions_before (c ∷ earlier)) (macros_in new.dictionary) (macros_before f.means.primitive (c ∷ earlier)) (contour_of new.contour) (contour_before f.means.edge (c ∷ earlier)) (reader_image plain new) (image_by f p (c ∷ earlier)) (place_of new) p settings (fun_ext has.defined) has.size (same_macros (macros_in new.dictionary) (macros_before f.means.primitive (c ∷ earlier)) has.latest has.others) contour image (o.place ∙ place);
      counts = (let e = o.counts in let f = s.counts in omega arith);
    }
