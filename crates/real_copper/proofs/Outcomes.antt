-- What an effect says of its command.
use Rattle.std.proofs.Common.{◌≡◌, ℕ, ◌+◌, Bool, true, false, not, ◌&&◌, ◌||◌, cond, nat_le, List, [], ℤ, Option, Some, None, is_some, is_none, Result, Ok, Err, refl, sym, ap, ◌∙◌}
use Rattle.std.specs.Prelude.{option_map}
use Rattle.std.specs.Str.Parse.{digits_value}
use Rattle.planar.specs.declared.Spot.{Spot}
use Rattle.lengths.specs.Decimal.{Fraction, other_unit}
use Rattle.lengths.specs.declared.decimal.Unit.{Unit as Measure}
use Rattle.area_contact.specs.declared.TheConstants.{MOST_CONTOUR_EDGES}
use Rattle.apertures.specs.Definition.{name_of, name_text, number_digits}
use Rattle.apertures.specs.declared.fault.ApertureFault.{ApertureFault}
use Rattle.apertures.specs.declared.fault.ApertureFault.TheVariants as aperture
use Rattle.aperture_macros.specs.BodyWord.{PlainPrimitive, primitive_at}
use Rattle.aperture_macros.specs.declared.fault.MacroFault.{MacroFault}
use Rattle.aperture_macros.specs.declared.primitive.Copper.TheVariants.{Real}
use Rattle.board_shapes.specs.Pieces.{PieceOf}
use Rattle.file_reading.specs.Conditions.{◌>>=◌, unless, needed}
use Rattle.step_repeat.specs.declared.repeat.Repeat.{Repeat}
use Rattle.gerber_layer.proofs.Outcome.{bind_ok, got, past_test}
use Rattle.gerber_layer.specs.MacroTable.{is_reserved}
use Rattle.gerber_layer.specs.declared.macro_kind.FlattenKind.TheVariants.{BadMacro, MacroTwice, NoMacro}
use Rattle.gerber_reading.specs.Command.{Bending, Command, body_word, breaks, closes_region, counts_in, curves, defines, ends, finishes, formats, functions, names_macro, nothing, opens_region, operates, quarters, refused, repeats, selects}
use Rattle.gerber_reading.specs.CommandEffects.{begins_macro, closes, code_of, concludes, coordinate, define_as, ended_block_by, exceed, edges_in, extends, fills_macro, is_drawing, is_finish, is_of_layer, leaves, listed, makes, next_block, opens, other_format, performs, stays, steps, target}
use Rattle.gerber_reading.specs.Outcomes.{Defined, Goes, HasOutcomes, IsEffect, IsFilled, Outcome, Performed}
use Rattle.gerber_reading.specs.Tools.{composed, composed_in, has_room, macro_named, parameters_in, standard, tool_by}
use Rattle.gerber_reading.specs.declared.TheConstants.{MOST_APERTURES}
use Rattle.gerber_reading.specs.declared.command.Code.{Code}
use Rattle.gerber_reading.specs.declared.command.Code.TheVariants.{Draw, Move, Flash}
use Rattle.gerber_reading.specs.declared.command.Format.{Format}
use Rattle.gerber_reading.specs.declared.kind.GerberKind.{GerberKind}
use Rattle.gerber_reading.specs.declared.kind.GerberKind.TheVariants as kind
use Rattle.gerber_reading.specs.declared.settings.Settings.{Settings}
use Rattle.real_copper.specs.Apertures.{real_aperture_at}
use Rattle.real_copper.specs.Arcs.{as_real, bend_of, no_arc}
use Rattle.real_copper.specs.Figures.{RealFigure, real_handling}
use Rattle.real_copper.specs.Kinds.{gerber}
use Rattle.real_copper.specs.Rows.{RealEffect, RealKnown, closing, draw, end, extend, flash, flashed, leave, operate, operate_at, perform, perform_in_region, repeat, stroke}
use Rattle.real_copper.specs.Table.{all_judged, as_macro, bend_or_none, compose, compose_as, define, define_by, effect, fill_by, fill_macro, name_macro, real_edge, real_table, row}
use Rattle.real_copper.specs.declared.aperture.RealAperture.{RealAperture}
use Rattle.real_copper.specs.declared.draw.Bend.{Bend}
use Rattle.real_copper.specs.declared.kind.RealKind.{RealKind}
use Rattle.real_copper.specs.declared.kind.RealKind.TheVariants.{Copper}

as_real_ok : {A : Type 0} (r : Result A GerberKind) (x : A) → as_real r ≡ Ok x → r ≡ Ok x
as_real_ok (Ok y) x h = let e : y ≡ x = cc in ap Ok e
as_real_ok (Err why) x h = cc

-- the effect is the one that is made
pub same_effect : (made e : RealEffect) → ◌≡◌ {A = Result RealEffect RealKind} (Ok made) (Ok e) → e ≡ made
same_effect made e h = let f : made ≡ e = cc in sym f

-- ---- Operations

goes : (to : Spot) (figures : List RealFigure) (e : RealEffect) → ◌≡◌ {A = Result RealEffect RealKind} (Ok (performs to figures)) (Ok e) → Goes e to
goes to figures e h = record { figures = figures; is = same_effect (performs to figures) e h }

draw_goes : (k : RealKnown) (b : Bending) (to : Spot) (e : RealEffect) → draw k b to ≡ Ok e → Goes e to
unfolding draw
draw_goes k b to e h = let f = bind_ok (stroke k b to) (λ figure. Ok (performs to (listed figure))) e h in goes to (listed f.0) e f.2

flash_goes : (k : RealKnown) (b : Bending) (to : Spot) (e : RealEffect) → flash k b to ≡ Ok e → Goes e to
unfolding flash
flash_goes k b to e h =
    let f = bind_ok (flashed k to) (λ figures. no_arc b >>= λ none. Ok (performs to figures)) e h in
    let n = bind_ok (no_arc b) (λ none. Ok (performs to f.0)) e f.2 in
    goes to f.0 e n.2

perform_goes : (k : RealKnown) (code : Code) (b : Bending) (to : Spot) (e : RealEffect) → perform k code b to ≡ Ok e → Goes e to
unfolding perform
perform_goes k Draw b to e h = draw_goes k b to e h
perform_goes k Move b to e h = let n = bind_ok (no_arc b) (λ none. Ok (performs to [])) e h in goes to [] e n.2
perform_goes k Flash b to e h = flash_goes k b to e h

extend_is : (k : RealKnown) (b : Bending) (to : Spot) (bend : Option Bend) (e : RealEffect) → ((x : Option Bend) → bend_of k.settings b to ≡ Ok x → x ≡ bend) → extend k b to ≡ Ok e → e ≡ extends to bend
unfolding extend
extend_is k b to bend e same h =
    let one = past_test (nat_le MOST_CONTOUR_EDGES (edges_in k.contour) || exceed real_handling k (edges_in k.contour + 1)) (gerber kind.TooManyVertices) (bend_of k.settings b to >>= λ x. Ok (extends to x)) e h in
    let f = bind_ok (bend_of k.settings b to) (λ x. Ok (extends to x)) e one in
    same_effect (extends to f.0) e f.2 ∙ ap (λ (x : Option Bend). extends to x) (same f.0 f.1)

begin_did : (k : RealKnown) (b : Bending) (to : Spot) (e : RealEffect) → (closing k >>= λ area. no_arc b >>= λ none. Ok (closes to area)) ≡ Ok e → (area : Option RealFigure) × (e ≡ closes to area)
begin_did k b to e h =
    let f = bind_ok (closing k) (λ area. no_arc b >>= λ none. Ok (closes to area)) e h in
    let n = bind_ok (no_arc b) (λ none. Ok (closes to f.0)) e f.2 in
    (f.0, same_effect (closes to f.0) e n.2)

in_region_is : (k : RealKnown) (code : Code) (b : Bending) (to : Spot) (bend : Option Bend) (e : RealEffect) → ((x : Option Bend) → bend_of k.settings b to ≡ Ok x → x ≡ bend) → perform_in_region k code b to ≡ Ok e → IsEffect true code to bend e
unfolding perform_in_region
in_region_is k Draw b to bend e same h = extend_is k b to bend e same h
in_region_is k Move b to bend e same h = begin_did k b to e h
in_region_is k Flash b to bend e same h = cc

either_is : (k : RealKnown) (inside : Bool) (code : Code) (b : Bending) (to : Spot) (bend : Option Bend) (e : RealEffect) → ((x : Option Bend) → bend_of k.settings b to ≡ Ok x → x ≡ bend) → cond inside (perform_in_region k code b to) (perform k code b to) ≡ Ok e → IsEffect inside code to bend e
either_is k true code b to bend e same h = in_region_is k code b to bend e same h
either_is k false code b to bend e same h = perform_goes k code b to e h

-- the bend that is looked back at is that of the edge
edge_is : (s : Settings) (x y : Option (List ℕ)) (code : Option Code) (b : Bending) (to : Spot) → target s x y ≡ Ok to → (bend : Option Bend) → bend_of s b to ≡ Ok bend → bend ≡ real_edge s (operates x y code b)
edge_is s x y code b to t bend h =
    sym (ap (λ (r : Result Spot GerberKind). bend_or_none (as_real r >>= λ there. bend_of s b there)) t ∙ ap bend_or_none h)

-- by its parts
performed : (k : RealKnown) (x y : Option (List ℕ)) (code : Option Code) (b : Bending) (e : RealEffect) (format : Format) (unit : Measure) (to_x to_y : ℤ) (to : Spot) → needed kind.MissingFormat k.settings.format ≡ Ok format → needed kind.MissingUnit k.settings.unit ≡ Ok unit → coordinate format unit k.settings.at.x x ≡ Ok to_x → coordinate format unit k.settings.at.y y ≡ Ok to_y → ◌≡◌ {A = Result Spot GerberKind} (Ok (record { x = to_x; y = to_y })) (Ok to) → target k.settings x y ≡ Ok to → operate_at k (code_of code) b to ≡ Ok e → Performed real_edge k x y code b e
performed k x y code b e format unit to_x to_y to has_format has_unit is_x is_y made there h =
    let at : ◌≡◌ {A = Spot} (record { x = to_x; y = to_y }) to = cc in
    record {
      format = format;
      unit = unit;
      to = to;
      format_is = got kind.MissingFormat k.settings.format format has_format;
      unit_is = got kind.MissingUnit k.settings.unit unit has_unit;
      x_is = is_x ∙ ap (λ (s : Spot). Ok s.x) at;
      y_is = is_y ∙ ap (λ (s : Spot). Ok s.y) at;
      is = either_is k k.settings.region (code_of code) b to (real_edge k.settings (operates x y code b)) e (edge_is k.settings x y code b to there) h;
    }

target_did : (k : RealKnown) (x y : Option (List ℕ)) (code : Option Code) (b : Bending) (e : RealEffect) (to : Spot) → target k.settings x y ≡ Ok to → operate_at k (code_of code) b to ≡ Ok e → Performed real_edge k x y code b e
unfolding target
target_did k x y code b e to there h =
    let f = bind_ok (needed kind.MissingFormat k.settings.format) (λ format. needed kind.MissingUnit k.settings.unit >>= λ unit. coordinate format unit k.settings.at.x x >>= λ to_x. coordinate format unit k.settings.at.y y >>= λ to_y. Ok (record { x = to_x; y = to_y })) to there in
    let u = bind_ok (needed kind.MissingUnit k.settings.unit) (λ unit. coordinate f.0 unit k.settings.at.x x >>= λ to_x. coordinate f.0 unit k.settings.at.y y >>= λ to_y. Ok (record { x = to_x; y = to_y })) to f.2 in
    let a = bind_ok (coordinate f.0 u.0 k.settings.at.x x) (λ to_x. coordinate f.0 u.0 k.settings.at.y y >>= λ to_y. Ok (record { x = to_x; y = to_y })) to u.2 in
    let t_y = bind_ok (coordinate f.0 u.0 k.settings.at.y y) (λ to_y. Ok (record { x = a.0; y = to_y })) to a.2 in
    performed k x y code b e f.0 u.0 a.0 t_y.0 to f.1 u.1 a.1 t_y.1 t_y.2 there h

operate_did : (k : RealKnown) (x y : Option (List ℕ)) (code : Option Code) (b : Bending) (e : RealEffect) → operate k x y code b ≡ Ok e → Performed real_edge k x y code b e
unfolding operate
operate_did k x y code b e h =
    let one = past_test (is_none code && not (is_drawing k.settings.last)) (gerber kind.NoOperation) (as_real (target k.settings x y) >>= λ to. operate_at k (code_of code) b to) e h in
    let t = bind_ok (as_real (target k.settings x y)) (λ to. operate_at k (code_of code) b to) e one in
    target_did k x y code b e t.0 (as_real_ok (target k.settings x y) t.0 t.1) t.2

-- ---- Definitions

named : (k : RealKnown) (name : List ℕ) (e : RealEffect) → name_macro k name ≡ Ok e → e ≡ begins_macro name
unfolding name_macro
named k name e h =
    let one = past_test (is_reserved name) (Copper BadMacro) (unless (is_some (macro_named k.macros name)) (Copper MacroTwice) (Ok (begins_macro name))) e h in
    same_effect (begins_macro name) e (past_test (is_some (macro_named k.macros name)) (Copper MacroTwice) (Ok (begins_macro name)) e one)

filled : (room : Bool) (r : Result (Option PlainPrimitive) MacroFault) (e : RealEffect) → fill_by room r ≡ Ok e → IsFilled r e
filled room (Ok None) e h = same_effect stays e h
filled true (Ok (Some p)) e h = same_effect (fills_macro p) e h
filled false (Ok (Some p)) e h = cc
filled true (Err fault) e h = cc
filled false (Err fault) e h = cc

filled_is : (k : RealKnown) (text : List ℕ) (e : RealEffect) → fill_macro k text ≡ Ok e → IsFilled (primitive_at Real text) e
unfolding fill_macro
filled_is k text e h = filled (has_room k.macros.latest) (primitive_at Real text) e h

-- what an aperture of a macro makes
record Composed (text : List ℕ) (unit : Measure) (e : RealEffect) : Type 0 where
  parameters : List Fraction
  read : parameters_in (name_text text) ≡ Some parameters
  is : e ≡ makes (digits_value 10 (number_digits text)) (composed (name_of (name_text text)) parameters unit)

composes : (k : RealKnown) (n : ℕ) (name : List ℕ) (body : List PlainPrimitive) (parameters : List Fraction) (unit : Measure) (e : RealEffect) → compose_as k n name body parameters unit ≡ Ok e → e ≡ makes n (composed name parameters unit)
unfolding compose_as
composes k n name body parameters unit e h =
    let last : Result RealEffect RealKind = as_macro (all_judged body parameters unit) >>= λ done. Ok (makes n (composed name parameters unit)) in
    let one = past_test (is_some (k.defined n)) (gerber kind.ApertureTwice) (unless (nat_le MOST_APERTURES k.definitions) (gerber kind.TooManyApertures) last) e h in
    let two = past_test (nat_le MOST_APERTURES k.definitions) (gerber kind.TooManyApertures) last e one in
    let d = bind_ok (as_macro (all_judged body parameters unit)) (λ done. Ok (makes n (composed name parameters unit))) e two in
    same_effect (makes n (composed name parameters unit)) e d.2

compose_did : (k : RealKnown) (text : List ℕ) (unit : Measure) (e : RealEffect) → compose k text unit ≡ Ok e → Composed text unit e
unfolding compose
compose_did k text unit e h =
    let b = bind_ok (needed (Copper NoMacro) (macro_named k.macros (name_of (name_text text)))) (λ body. needed (Copper BadMacro) (parameters_in (name_text text)) >>= λ parameters. compose_as k (digits_value 10 (number_digits text)) (name_of (name_text text)) body parameters unit) e h in
    let p = bind_ok (needed (Copper BadMacro) (parameters_in (name_text text))) (λ parameters. compose_as k (digits_value 10 (number_digits text)) (name_of (name_text text)) b.0 parameters unit) e b.2 in
    record { parameters = p.0; read = got (Copper BadMacro) (parameters_in (name_text text)) p.0 p.1; is = composes k (digits_value 10 (number_digits text)) (name_of (name_text text)) b.0 p.0 unit e p.2 }

defines_as : (k : RealKnown) (made : ℕ × RealAperture) (e : RealEffect) → as_real (define_as k made) ≡ Ok e → e ≡ makes made.0 (standard made.1)
defines_as k made e h =
    let r : define_as k made ≡ Ok e = as_real_ok (define_as k made) e h in
    let one = past_test (is_some (k.defined made.0)) kind.ApertureTwice (unless (nat_le MOST_APERTURES k.definitions) kind.TooManyApertures (Ok (makes made.0 (standard made.1)))) e r in
    let two : ◌≡◌ {A = Result RealEffect GerberKind} (Ok (makes made.0 (standard made.1))) (Ok e) = past_test (nat_le MOST_APERTURES k.definitions) kind.TooManyApertures (Ok (makes made.0 (standard made.1))) e one in
    let same : makes made.0 (standard made.1) ≡ e = cc in
    sym same

defined_by : (k : RealKnown) (text : List ℕ) (unit : Measure) (e : RealEffect) → k.settings.unit ≡ Some unit → (r : Result (ℕ × RealAperture) ApertureFault) → real_aperture_at text unit ≡ r → define_by k text unit r ≡ Ok e → Defined real_aperture_at k text e
defined_by k text unit e unit_is (Ok made) is h =
    record { unit = unit; n = made.0; tool = standard made.1; unit_is = unit_is; read_is = ap (λ (s : Result (ℕ × RealAperture) ApertureFault). tool_by s (composed_in text unit)) is; is = defines_as k made e h }
defined_by k text unit e unit_is (Err aperture.Macro) is h =
    let c = compose_did k text unit e h in
    record {
      unit = unit;
      n = digits_value 10 (number_digits text);
      tool = composed (name_of (name_text text)) c.parameters unit;
      unit_is = unit_is;
      read_is =
          ap (λ (s : Result (ℕ × RealAperture) ApertureFault). tool_by s (composed_in text unit)) is
          ∙ ap (option_map (λ (ps : List Fraction). (digits_value 10 (number_digits text), composed (name_of (name_text text)) ps unit))) c.read;
      is = c.is;
    }
defined_by k text unit e unit_is (Err other) is h = cc

define_did : (k : RealKnown) (text : List ℕ) (e : RealEffect) → define k text ≡ Ok e → Defined real_aperture_at k text e
unfolding define
define_did k text e h =
    let u = bind_ok (needed (gerber kind.MissingUnit) k.settings.unit) (λ unit. define_by k text unit (real_aperture_at text unit)) e h in
    defined_by k text u.0 e (got (gerber kind.MissingUnit) k.settings.unit u.0 u.1) (real_aperture_at text u.0) refl u.2

-- ---- Regions and blocks

leave_is : (k : RealKnown) (e : RealEffect) → leave k ≡ Ok e → (area : Option RealFigure) × (e ≡ leaves area)
unfolding leave
leave_is k e h =
    let one = past_test (not k.settings.region) (gerber kind.NotInRegion) (closing k >>= λ area. Ok (leaves area)) e h in
    let f = bind_ok (closing k) (λ area. Ok (leaves area)) e one in
    (f.0, same_effect (leaves f.0) e f.2)

-- what a step and repeat word leaves, and the file's end
pub record Stepped (k : RealKnown) (text : List ℕ) (e : RealEffect) : Type 0 where
  pub next : Option Repeat
  pub pieces : List (PieceOf RealFigure)
  pub next_is : next_block k.settings.unit text ≡ Ok next
  pub ended : ended_block_by real_handling k ≡ Ok pieces
  pub is : e ≡ steps next pieces

pub repeat_did : (k : RealKnown) (text : List ℕ) (e : RealEffect) → repeat k text ≡ Ok e → Stepped k text e
unfolding repeat
repeat_did k text e h =
    let one = past_test k.settings.region (gerber kind.NotInRegion) (as_real (next_block k.settings.unit text) >>= λ next. as_real (ended_block_by real_handling k) >>= λ pieces. Ok (steps next pieces)) e h in
    let n = bind_ok (as_real (next_block k.settings.unit text)) (λ next. as_real (ended_block_by real_handling k) >>= λ pieces. Ok (steps next pieces)) e one in
    let p = bind_ok (as_real (ended_block_by real_handling k)) (λ pieces. Ok (steps n.0 pieces)) e n.2 in
    record { next = n.0; pieces = p.0; next_is = as_real_ok (next_block k.settings.unit text) n.0 n.1; ended = as_real_ok (ended_block_by real_handling k) p.0 p.1; is = same_effect (steps n.0 p.0) e p.2 }

pub record Concluded (k : RealKnown) (e : RealEffect) : Type 0 where
  pub pieces : List (PieceOf RealFigure)
  pub ended : ended_block_by real_handling k ≡ Ok pieces
  pub is : e ≡ concludes pieces

pub end_did : (k : RealKnown) (e : RealEffect) → end k ≡ Ok e → Concluded k e
unfolding end
end_did k e h =
    let one = past_test k.settings.region (gerber kind.NotInRegion) (as_real (ended_block_by real_handling k) >>= λ pieces. Ok (concludes pieces)) e h in
    let p = bind_ok (as_real (ended_block_by real_handling k)) (λ pieces. Ok (concludes pieces)) e one in
    record { pieces = p.0; ended = as_real_ok (ended_block_by real_handling k) p.0 p.1; is = same_effect (concludes p.0) e p.2 }

-- ---- Each row

pub row_did : (k : RealKnown) (c : Command) (e : RealEffect) → row k c ≡ Ok e → Outcome real_table.means k c e
unfolding row
row_did k nothing e h = same_effect stays e h
row_did k (refused why) e h = cc
row_did k (counts_in unit) e h = same_effect stays e (past_test (other_unit k.settings.unit unit) (gerber kind.UnitConflict) (Ok stays) e h)
row_did k (formats format) e h = same_effect stays e (past_test (other_format k.settings.format format) (gerber kind.BadFormat) (Ok stays) e h)
row_did k (defines text) e h = define_did k text e h
row_did k (names_macro name) e h = named k name e h
row_did k (body_word text) e h = filled_is k text e h
row_did k (selects n) e h = same_effect stays e (past_test (is_none (k.defined n)) (gerber kind.NoAperture) (Ok stays) e h)
row_did k (curves curve) e h = same_effect stays e h
row_did k (quarters quadrants) e h = same_effect stays e h
row_did k (operates x y code b) e h = operate_did k x y code b e h
row_did k opens_region e h = same_effect opens e (past_test k.settings.region (gerber kind.NotInRegion) (Ok opens) e h)
row_did k closes_region e h = leave_is k e h
row_did k (repeats text) e h = let s = repeat_did k text e h in record { next = s.next; pieces = s.pieces; next_is = s.next_is; is = s.is }
row_did k ends e h = let s = end_did k e h in (s.pieces, s.is)
row_did k (breaks fault) e h = cc
row_did k finishes e h = cc
row_did k (functions function layer) e h = same_effect stays e (past_test (not (is_of_layer function layer k.place.layer)) (gerber kind.WrongLayer) (Ok stays) e h)

-- behind the end
ended_did : (k : RealKnown) (c : Command) (e : RealEffect) → cond (is_finish c) (Ok stays) (Err (gerber kind.AfterEnd)) ≡ Ok e → Outcome real_table.means k c e
ended_did k finishes e h = same_effect stays e h
ended_did k other e h = absurd (cc)

pub effect_did : HasOutcomes real_table
unfolding effect
effect_did k c e h = by k.settings.ended h
  where
    by : (b : Bool) → cond b (cond (is_finish c) (Ok stays) (Err (gerber kind.AfterEnd))) (row k c) ≡ Ok e → Outcome real_table.means k c e
    by true h = ended_did k c e h
    by false h = row_did k c e h
