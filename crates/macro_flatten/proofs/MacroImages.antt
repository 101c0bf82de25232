-- The image of a copper file with macros can be flattened: its end counts its radii.
use Rattle.std.proofs.Common.{◌≡◌, ℕ, ◌+◌, ◌*◌, ◌≤◌, Bool, true, false, cond, eqb, nat_eq, List, [], ◌∷◌, ◌++◌, length, map, reverse, Result, Ok, Err, IsOk, refl, sym, ap, ◌∙◌, subst, arith, append-nil}
use Rattle.std.proofs.lemmas.Bool.{eqb-false, eqb-true}
use Rattle.std.proofs.lemmas.List.{length-map, map-append, reverse-append, reverse-reverse}
use Rattle.std.specs.List.{list_any}
use Rattle.std.specs.Prelude.{unsigned_abs}
use Rattle.board_shapes.specs.Figures.{Figure, round, filled}
use Rattle.board_shapes.specs.Pieces.{PlainPiece}
use Rattle.file_reading.specs.Reading.{Clean, said}
use Rattle.gerber_words.specs.Items.{stop_item, word_item}
use Rattle.gerber_words.specs.Words.{Stop, ended, broken}
use Rattle.gerber_reading.specs.Command.{Command, ends}
use Rattle.gerber_reading.specs.declared.kind.GerberKind.TheVariants as kind
use Rattle.gerber_layer.specs.declared.macro_kind.FlattenKind.{FlattenKind}
use Rattle.gerber_layer.specs.declared.macro_kind.FlattenKind.TheVariants.{Gerber}
use Rattle.gerber_layer.specs.Radii.{radii_after, radii_of, with_radius, with_radius_of}
use Rattle.gerber_layer.specs.CommandEffects.{Known, Effect, stays, ◌>>=◌, is_finish, kind_of_word, row}
use Rattle.gerber_reading.specs.Settings.{has_ended}
use Rattle.gerber_layer.specs.Image.{pieces_after}
use Rattle.gerber_layer.specs.Layer.{stop_command}
use Rattle.gerber_layer.specs.MacroLayer.{flat_place}
use Rattle.gerber_layer.specs.MacroCommands.{command_with_macros}
use Rattle.gerber_layer.specs.MacroTable.{effect_with_macros, few_radii, macro_row, row_with_macros}
use Rattle.gerber_layer.proofs.MacroOutcome.{outcome_with_macros}
use Rattle.gerber_layer.proofs.Outcome.{not_ok}
use Rattle.macro_flatten.specs.FlatText.{figures_in, pens_after, pens_of, with_pen, with_pen_of}
use Rattle.macro_flatten.specs.Laws.{IsFlat, MacroImagesAreFlat}
use Rattle.macro_flatten.proofs.Images.{image_flat, then_pieces}
use Rattle.macro_flatten.proofs.Rows.{HasFewRadii, macro_rows, shared_by_macros}
use Rattle.gerber_reading.specs.declared.TheConstants.{MOST_APERTURES}
use Rattle.macro_flatten.proofs.Exact.{effect_by, known_by, pieces_by}

-- ---- A pen is twice a radius

twice : List ℕ → List ℕ
twice radii = map (λ r. 2 * r) radii

same_twice : (r s : ℕ) → eqb (2 * r) (2 * s) ≡ eqb r s
same_twice r s = by (eqb r s) (eqb (2 * r) (2 * s)) refl refl
  where
    by : (a b : Bool) → eqb r s ≡ a → eqb (2 * r) (2 * s) ≡ b → b ≡ a
    by true true ea eb = refl
    by false false ea eb = refl
    by true false ea eb = absurd (eqb-false (2 * r) (2 * s) eb (ap (λ (n : ℕ). 2 * n) (eqb-true r s ea)))
    by false true ea eb = let same = eqb-true (2 * r) (2 * s) eb in absurd (eqb-false r s ea (omega (arith, same)))

any_twice : (r : ℕ) (radii : List ℕ) → list_any (nat_eq (2 * r)) (twice radii) ≡ list_any (nat_eq r) radii
unfolding twice
any_twice r [] = refl
any_twice r (s ∷ radii) = rw (same_twice r s, any_twice r radii) refl

with_twice : (r : ℕ) (radii : List ℕ) → with_pen (2 * r) (twice radii) ≡ twice (with_radius r radii)
unfolding twice
with_twice r radii = rw (any_twice r radii) (by (list_any (nat_eq r) radii))
  where
    by : (b : Bool) → cond b (twice radii) (twice radii ++ 2 * r ∷ []) ≡ twice (cond b radii (radii ++ r ∷ []))
    by true = refl
    by false = sym (map-append (λ (n : ℕ). 2 * n) radii (r ∷ []))

with_twice_of : (radii : List ℕ) (f : Figure) → with_pen_of (twice radii) f ≡ twice (with_radius_of radii f)
with_twice_of radii (round s) = with_twice (unsigned_abs s.r) radii
with_twice_of radii (filled points) = refl

pens_are : (radii : List ℕ) (pieces : List PlainPiece) → pens_after (twice radii) (figures_in pieces) ≡ twice (radii_after radii pieces)
pens_are radii [] = refl
pens_are radii (q ∷ pieces) = ap (λ (pens : List ℕ). pens_after pens (figures_in pieces)) (with_twice_of radii q.figure) ∙ pens_are (with_radius_of radii q.figure) pieces

as_many_pens : (pieces : List PlainPiece) → length (pens_of (figures_in pieces)) ≡ length (radii_of pieces)
unfolding twice
as_many_pens pieces = ap length (pens_are [] pieces) ∙ length-map (radii_of pieces) (λ (r : ℕ). 2 * r)

-- ---- The end

abbrev pieces_here : List Command → List PlainPiece
pieces_here h = pieces_by effect_with_macros flat_place h

abbrev known_here : List Command → Known
known_here h = known_by effect_with_macros flat_place h

abbrev IsClean : List Command → Type 0
IsClean h = Clean (effect_by effect_with_macros flat_place) h

-- behind the end only the file's end stands
stays_behind : (k : Known) (c : Command) (e : Effect) → k.settings.ended ≡ true → effect_with_macros k c ≡ Ok e → e ≡ stays
unfolding effect_with_macros
stays_behind k c e over h = by k.settings.ended (is_finish c) over h
  where
    by : (a b : Bool) → a ≡ true → cond a (cond b (Ok stays) (Err (Gerber kind.AfterEnd))) (row_with_macros k c >>= few_radii) ≡ Ok e → e ≡ stays
    by true true over h = let same : stays ≡ e = cc in sym same
    by true false over h = cc
    by false b over h = cc

few_more : (h : List Command) (c : Command) (e : Effect) → effect_with_macros (known_here h) c ≡ Ok e → has_ended (c ∷ h) ≡ true → (has_ended h ≡ true → length (radii_of (pieces_here h)) ≤ MOST_APERTURES) → length (radii_of (pieces_here (c ∷ h))) ≤ MOST_APERTURES
few_more h ends e is over more =
    let few = (shared_by_macros (known_here h) ends e tt is).1 in
    let o = outcome_with_macros (known_here h) ends e is in
    let then : pieces_here (ends ∷ h) ≡ o.0 = then_pieces effect_with_macros flat_place h ends e is ∙ ap (pieces_after flat_place (length h + 1) (pieces_here h)) o.1 in
    subst (λ (ps : List PlainPiece). length (radii_of ps) ≤ MOST_APERTURES) (sym then) (subst HasFewRadii o.1 few)
few_more h other e is over more =
    let then : pieces_here (other ∷ h) ≡ pieces_here h = then_pieces effect_with_macros flat_place h other e is ∙ ap (pieces_after flat_place (length h + 1) (pieces_here h)) (stays_behind (known_here h) other e over is) in
    subst (λ (ps : List PlainPiece). length (radii_of ps) ≤ MOST_APERTURES) (sym then) (more over)

-- a file that has ended has few radii
few_radii_behind : (h : List Command) → IsClean h → has_ended h ≡ true → length (radii_of (pieces_here h)) ≤ MOST_APERTURES
few_radii_behind [] clean over = cc
few_radii_behind (c ∷ h) clean over = by (effect_with_macros (known_here h) c) refl clean.0 (few_radii_behind h clean.1)
  where
    by : (r : Result Effect FlattenKind) → effect_with_macros (known_here h) c ≡ r → IsOk r → (has_ended h ≡ true → length (radii_of (pieces_here h)) ≤ MOST_APERTURES) → length (radii_of (pieces_here (c ∷ h))) ≤ MOST_APERTURES
    by (Ok e) is ok more = few_more h c e is over more
    by (Err why) is ok more = absurd (not_ok Effect why ok)

-- and a file that stops without a fault has ended
ended_at_stop : (h : List Command) (stop : Stop) → IsOk (effect_with_macros (known_here h) (stop_command stop)) → has_ended (stop_command stop ∷ h) ≡ true
unfolding effect_with_macros row_with_macros macro_row row
ended_at_stop h ended ok = by (has_ended h) refl ok
  where
    by : (b : Bool) → has_ended h ≡ b → IsOk {T = Effect} (cond b (Ok stays) (Err (Gerber kind.NotEnded))) → has_ended h ≡ true
    by true e ok = e
    by false e ok = absurd (not_ok Effect (Gerber kind.NotEnded) ok)
ended_at_stop h (broken fault at) ok = by (has_ended h) ok
  where
    by : (b : Bool) → IsOk {T = Effect} (cond b (Err (Gerber kind.AfterEnd)) (Err (Gerber (kind_of_word fault)))) → has_ended h ≡ true
    by true ok = absurd (not_ok Effect (Gerber kind.AfterEnd) ok)
    by false ok = absurd (not_ok Effect (Gerber (kind_of_word fault)) ok)

-- the last item is the first of the history
last_first : {A : Type 0} (xs earlier : List A) (x : A) → xs ++ x ∷ [] ≡ reverse earlier ++ [] → earlier ≡ x ∷ reverse xs
last_first xs earlier x h = sym (reverse-reverse earlier) ∙ ap reverse (sym (append-nil (reverse earlier)) ∙ sym h) ∙ reverse-append xs (x ∷ [])

pub macro_images_are_flat : MacroImagesAreFlat
macro_images_are_flat file pieces (items, are, r) =
    let words = map (word_item command_with_macros) are.words in
    let stop = stop_item stop_command (length file) are.stop in
    let parts : said r.earlier ≡ stop_command are.stop ∷ said (reverse words) = ap said (last_first words r.earlier stop (sym are.are ∙ r.whole.split)) in
    let clean = subst IsClean parts r.whole.clean in
    let over = ended_at_stop (said (reverse words)) are.stop clean.0 in
    let few = few_radii_behind (said r.earlier) r.whole.clean (subst (λ (h : List Command). has_ended h ≡ true) (sym parts) over) in
    let pens = as_many_pens (pieces_here (said r.earlier)) in
    let flat = image_flat effect_with_macros macro_rows flat_place (said r.earlier) refl r.whole.clean (omega (arith, few, pens)) in
    subst (λ (ps : List PlainPiece). IsFlat (figures_in ps)) (sym r.is) flat
