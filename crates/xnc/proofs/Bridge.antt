-- The state of the reader is what looking back finds.
use Rattle.std.proofs.Common.{◌≡◌, ℕ, ◌+◌, Bool, true, false, cond, eqb, List, ◌∷◌, ◌++◌, length, ℤ, Option, Some, None, Result, Ok, refl, sym, ap, ◌∙◌, subst, arith}
use Rattle.std.proofs.lemmas.List.{length-map}
use mathlib.Core.Path.{fun_ext}
use Rattle.planar.specs.declared.Spot.{Spot}
use Rattle.lengths.specs.Decimal.{Fraction}
use Rattle.lengths.specs.declared.decimal.Unit.{Unit as Measure}
use Rattle.board_shapes.specs.Plain.{PlainPiece, plain_piece, plain_pieces}
use Rattle.xnc.specs.declared.kind.DrillKind.{DrillKind}
use Rattle.xnc.specs.declared.line.Coordinates.{Coordinates}
use Rattle.xnc.specs.declared.line.DrillLine.{DrillLine}
use Rattle.xnc.specs.declared.line.DrillLine.TheVariants as form
use Rattle.xnc.specs.declared.settings.Settings.{Settings}
use Rattle.xnc.specs.declared.tools.Tools.{Tools}
use Rattle.xnc.specs.declared.reader.Reader.{Reader}
use Rattle.xnc.specs.Places.{Place}
use Rattle.xnc.specs.DrillEffects.{Known, Effect, stays, makes, coordinate, effect, after}
use Rattle.std.specs.Option.{option_or}
use Rattle.file_reading.specs.LookingBack.{how_many}
use Rattle.xnc.specs.Settings.{value_or, value_in, settings_at, unit_at, x_at, y_at, defined_at, is_tool, piece_of, known_with, known_at, barrels_at}
use Rattle.xnc.specs.Reader.{defined_in, count_of, Adds, Turns, known_of, place_of, Obeys}
use Rattle.xnc.proofs.Outcome.{IsPlain, Leads, Crossed, Outcome, outcome}

-- a coordinate's value
value_is : (unit : Measure) (here to : ℤ) (d : Option Fraction) → coordinate unit here d ≡ Ok to → value_in (Some unit) here d ≡ to
value_is unit here to None h = cc
value_is unit here to (Some d) h = ap (value_or here) h

-- and that of the second of two
value_then : (unit : Measure) (here first to : ℤ) (c d : Option Fraction) → coordinate unit here c ≡ Ok first → coordinate unit first d ≡ Ok to → value_in (Some unit) here (option_or d c) ≡ to
value_then unit here first to c None h k = let e : first ≡ to = cc in value_is unit here first c h ∙ e
value_then unit here first to c (Some d) h k = ap (value_or here) k

-- where a place led
led : (earlier : List DrillLine) (c : Coordinates) (to : Spot) → Leads (unit_at earlier) (record { x = x_at earlier; y = y_at earlier }) c to → ◌≡◌ {A = Spot} to (record { x = value_in (unit_at earlier) (x_at earlier) c.x; y = value_in (unit_at earlier) (y_at earlier) c.y })
led earlier c to l =
    let across : value_in (unit_at earlier) (x_at earlier) c.x ≡ to.x = rw l.unit_is (value_is l.measure (x_at earlier) to.x c.x l.x_is) in
    let up : value_in (unit_at earlier) (y_at earlier) c.y ≡ to.y = rw l.unit_is (value_is l.measure (y_at earlier) to.y c.y l.y_is) in
    rw (across, up) refl

crossed : (p : Place) (earlier : List DrillLine) (n : ℕ) (from to : Coordinates) (e : Effect) → (o : Crossed (known_with p earlier n) from to e) → ◌≡◌ {A = Spot} o.last (record { x = value_in (unit_at earlier) (x_at earlier) (option_or to.x from.x); y = value_in (unit_at earlier) (y_at earlier) (option_or to.y from.y) })
crossed p earlier n from to e o =
    let same : o.starts.measure ≡ o.leads.measure = (let h : Some o.starts.measure ≡ Some o.leads.measure = sym o.starts.unit_is ∙ o.leads.unit_is in cc) in
    let first_x : coordinate o.leads.measure (x_at earlier) from.x ≡ Ok o.first.x = subst (λ (m : Measure). coordinate m (x_at earlier) from.x ≡ Ok o.first.x) same o.starts.x_is in
    let first_y : coordinate o.leads.measure (y_at earlier) from.y ≡ Ok o.first.y = subst (λ (m : Measure). coordinate m (y_at earlier) from.y ≡ Ok o.first.y) same o.starts.y_is in
    let across : value_in (unit_at earlier) (x_at earlier) (option_or to.x from.x) ≡ o.last.x = rw o.leads.unit_is (value_then o.leads.measure (x_at earlier) o.first.x o.last.x from.x to.x first_x o.leads.x_is) in
    let up : value_in (unit_at earlier) (y_at earlier) (option_or to.y from.y) ≡ o.last.y = rw o.leads.unit_is (value_then o.leads.measure (y_at earlier) o.first.y o.last.y from.y to.y first_y o.leads.y_is) in
    rw (across, up) refl

-- the settings behind a line are found by looking back from the next
pub settings-push : (p : Place) (earlier : List DrillLine) (n : ℕ) (f : DrillLine) (e : Effect) → Outcome (known_with p earlier n) f e → after (settings_at earlier) f e ≡ settings_at (f ∷ earlier)
settings-push p earlier n (form.Rout to) e o = let at = o.goes.there (record { x = x_at earlier; y = y_at earlier }) ∙ led earlier to o.to o.leads in rw at refl
settings-push p earlier n (form.Straight to) e o = let at = o.goes.there (record { x = x_at earlier; y = y_at earlier }) ∙ led earlier to o.to o.leads in rw at refl
settings-push p earlier n (form.Hit to) e o = let at = o.goes.there (record { x = x_at earlier; y = y_at earlier }) ∙ led earlier to o.to o.leads in rw at refl
settings-push p earlier n (form.Slot from to) e o = let at = o.goes.there (record { x = x_at earlier; y = y_at earlier }) ∙ crossed p earlier n from to e o in rw at refl
settings-push p earlier n other e o = refl

-- what does not define leaves the tools
plain_turns : (old new : Tools) (e : Effect) → IsPlain e → Turns old e new → new ≡ old
plain_turns old new (makes n d) h t = absurd h
plain_turns old new other h t = t

-- the tools of the reader are those that looking back finds
pub record HasTools (t : Tools) (earlier : List DrillLine) : Type 0 where
  pub defined : (m : ℕ) → defined_in t m ≡ defined_at earlier m
  pub count : count_of t ≡ how_many is_tool earlier

kept : (old new : Tools) (earlier : List DrillLine) (e : Effect) → HasTools old earlier → IsPlain e → Turns old e new → HasTools new earlier
kept old new earlier e h plain t = subst (λ (s : Tools). HasTools s earlier) (sym (plain_turns old new e plain t)) h

idle : (e : Effect) → e ≡ stays → IsPlain e
idle e h = subst IsPlain (sym h) tt

pub tools-push : (old new : Tools) (p : Place) (earlier : List DrillLine) (n : ℕ) (f : DrillLine) (e : Effect) → HasTools old earlier → Outcome (known_with p earlier n) f e → Turns old e new → HasTools new (f ∷ earlier)
tools-push old new p earlier n (form.Tool k d) e h o t =
    let adds : Adds old new k o.size = subst (λ (g : Effect). Turns old g new) o.is t in
    record {
      defined = λ m. adds.defined m ∙ rw (o.size_is, h.defined m) (by m (eqb k m));
      count = adds.more ∙ ap (λ (c : ℕ). c + 1) h.count;
    }
  where
    by : (m : ℕ) (b : Bool) → cond b (Some o.size) (defined_at earlier m) ≡ option_or (cond b (Some o.size) None) (defined_at earlier m)
    by m true = refl
    by m false = refl
tools-push old new p earlier n (form.Rout to) e h o t = let k = kept old new earlier e h o.goes.plain t in record { defined = k.defined; count = k.count }
tools-push old new p earlier n (form.Straight to) e h o t = let k = kept old new earlier e h o.goes.plain t in record { defined = k.defined; count = k.count }
tools-push old new p earlier n (form.Hit to) e h o t = let k = kept old new earlier e h o.goes.plain t in record { defined = k.defined; count = k.count }
tools-push old new p earlier n (form.Slot from to) e h o t = let k = kept old new earlier e h o.goes.plain t in record { defined = k.defined; count = k.count }
tools-push old new p earlier n other e h o t = let k = kept old new earlier e h (idle e o) t in record { defined = k.defined; count = k.count }

-- the reader has obeyed these lines
pub record State (p : Place) (earlier : List DrillLine) (r : Reader) : Type 0 where
  pub known : known_of r ≡ known_at p earlier
  pub pieces : plain_pieces r.pieces.items ≡ barrels_at p earlier
  pub counts : r.lines ≡ length earlier
  pub place : place_of r ≡ p

pub same_known : (s s' : Settings) (d d' : ℕ → Option ℕ) (n n' k k' m m' : ℕ) → s ≡ s' → d ≡ d' → n ≡ n' → k ≡ k' → m ≡ m' → ◌≡◌ {A = Known} (record { settings = s; defined = d; tools = n; pieces = k; room = m }) (record { settings = s'; defined = d'; tools = n'; pieces = k'; room = m' })
same_known s s' d d' n n' k k' m m' a b c e f = cc

same_pieces : (a b : List PlainPiece) (q p : Place) (m n : ℕ) (x y : Result Effect DrillKind) → a ≡ b → q ≡ p → m ≡ n → x ≡ y → a ++ piece_of q m x ≡ b ++ piece_of p n y
same_pieces a b q p m n x y e f g h = ap (λ (xs : List PlainPiece). xs ++ piece_of q m x) e ∙ ap (λ (t : Place). b ++ piece_of t m x) f ∙ ap (λ (t : ℕ). b ++ piece_of p t x) g ∙ ap (λ (t : Result Effect DrillKind). b ++ piece_of p n t) h

-- one line more
pub state-push : (p : Place) (earlier : List DrillLine) (r : Reader) (f : DrillLine) (new : Reader) → State p earlier r → Obeys r f new → State p (f ∷ earlier) new
unfolding barrels_at
state-push p earlier r f new s o =
    let n : ℕ = length (barrels_at p earlier) in
    let clean : effect (known_at p earlier) f ≡ Ok o.effect_is = subst (λ (k : Known). effect k f ≡ Ok o.effect_is) s.known o.clean in
    let did : Outcome (known_with p earlier n) f o.effect_is = outcome (known_with p earlier n) f o.effect_is clean in
    let settings : new.settings ≡ settings_at (f ∷ earlier) = o.settings ∙ ap (λ (t : Settings). after t f o.effect_is) (ap (λ (k : Known). k.settings) s.known) ∙ settings-push p earlier n f o.effect_is did in
    let tools : HasTools new.tools (f ∷ earlier) = tools-push r.tools new.tools p earlier n f o.effect_is (record { defined = λ m. ap (λ (k : Known). k.defined m) s.known; count = ap (λ (k : Known). k.tools) s.known }) did o.tools in
    let number : r.lines + 1 ≡ length earlier + 1 = ap (λ (k : ℕ). k + 1) s.counts in
    let pieces : plain_pieces new.pieces.items ≡ barrels_at p (f ∷ earlier) = o.pieces ∙ same_pieces (plain_pieces r.pieces.items) (barrels_at p earlier) (place_of r) p (r.lines + 1) (length earlier + 1) (Ok o.effect_is) (effect (known_at p earlier) f) s.pieces s.place number (sym clean) in
    let size : length new.pieces.items ≡ length (barrels_at p (f ∷ earlier)) = sym (length-map new.pieces.items plain_piece) ∙ ap length pieces in
    let place : place_of new ≡ p = o.place ∙ s.place in
    record {
      known = same_known new.settings (settings_at (f ∷ earlier)) (defined_in new.tools) (defined_at (f ∷ earlier)) (count_of new.tools) (how_many is_tool (f ∷ earlier)) (length new.pieces.items) (length (barrels_at p (f ∷ earlier))) new.room p.room settings (fun_ext tools.defined) tools.count size (ap (λ (q : Place). q.room) place);
      pieces = pieces;
      counts = (let e = o.counts in let g = s.counts in omega arith);
      place = place;
    }
