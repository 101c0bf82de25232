-- What `check` reads means the same in the wider dialect, where no line says of tools whether they are plated.
use Rattle.std.proofs.Common.{◌≡◌, ℕ, suc, ◌+◌, Bool, true, false, ◌-◌, ◌==◌, ◌&&◌, ◌||◌, not, cond, if◌then◌else◌, codes, drop, ℤ, List, [], ◌∷◌, ◌++◌, length, map, reverse, Option, Some, None, Result, Ok, Err, IsOk, refl, sym, ap, ◌∙◌, subst}
use Rattle.std.specs.List.{before_first, list_any}
use Rattle.planar.specs.declared.Spot.{Spot}
use Rattle.lengths.specs.Grid.{position_of}
use Rattle.texts.specs.Digits.{is_decimal_digit}
use Rattle.texts.specs.Words.{begins, is_word}
use Rattle.xnc.specs.DrillLines.{field}
use Rattle.std.proofs.lemmas.List.{append-nil, map-append, reverse-append, reverse-reverse}
use Rattle.board_shapes.specs.Plain.{PlainPiece}
use Rattle.lengths.specs.Decimal.{Fraction}
use Rattle.lengths.specs.declared.decimal.Unit.{Unit as Measure}
use Rattle.lengths.specs.declared.decimal.Unit.TheVariants.{Mm, Inch}
use Rattle.file_reading.specs.Reading.{Item, Clean, said}
use Rattle.texts.specs.Blanks.{trimmed}
use Rattle.texts.specs.Lines.{PlainLine, lines_of}
use Rattle.xnc.specs.declared.kind.DrillKind.{DrillKind}
use Rattle.xnc.specs.declared.kind.DrillKind.TheVariants as kind
use Rattle.xnc.specs.declared.line.Coordinates.{Coordinates}
use Rattle.xnc.specs.declared.line.DrillLine.{DrillLine}
use Rattle.xnc.specs.declared.line.DrillLine.TheVariants as line
use Rattle.xnc.specs.declared.settings.Stage.{Stage}
use Rattle.xnc.specs.declared.settings.Stage.TheVariants.{Opening, Header, Body, Ended}
use Rattle.xnc.specs.declared.settings.Settings.{Settings}
use Rattle.xnc.specs.Places.{Place}
use Rattle.xnc.specs.DrillEffects.{Known, Effect, effect, staged, header, body, coordinate, gridded, value_of, unless}
use Rattle.xnc.specs.DrillFile as narrow
use Rattle.xnc.specs.Settings as narrow_at
use Rattle.xnc.specs.Settings.{settings_at, known_with, piece_of}
use Rattle.xnc.proofs.Outcome.{Leads, outcome, placed, no_ok}
use Rattle.drill_forms.specs.declared.form.FormLine.{FormLine}
use Rattle.drill_forms.specs.declared.form.FormLine.TheVariants as form
use Rattle.drill_forms.specs.declared.notes.Words.{Words}
use Rattle.drill_forms.specs.FormLines.{widened, form_of, comment, layout_comment, attribute, counts_of, have_points, has_point, is_slash}
use Rattle.drill_forms.specs.Meaning.{line_in, told, is_amiss, idle, is_body, is_header, is_outside}
use Rattle.drill_forms.specs.History.{words_at, bare_at, bare_tool, lines_at, line_at, is_bare_at, kept, barrels_at, effect_at}
use Rattle.drill_forms.specs.FormFile.{item_of, items}
use Rattle.drill_forms.specs.Laws.{says_plating, TakesTheSame}

-- nothing was said of tools
pub record Quiet (w : Words) : Type 0 where
  pub own : w.own ≡ None
  pub lasting : w.lasting ≡ None
  pub bare : w.has_bare ≡ false
  pub mixed : (w.mixed ≡ Some true) → ⊥

-- what says nothing of tools means nothing, as a comment
abbrev MeansNothing : Settings → Words → FormLine → Type 0
MeansNothing s w f = says_plating f ≡ false → line_in s w f ≡ line.Blank

either : (P : FormLine → Type 0) (b : Bool) (f g : FormLine) → P f → P g → P (cond b f g)
either P true f g x y = x
either P false f g x y = y

blank_means : (s : Settings) (w : Words) → MeansNothing s w (form.Says line.Blank)
unfolding line_in
blank_means s w mute = refl

untold_means : (s : Settings) (w : Words) → MeansNothing s w form.Untold
unfolding line_in
untold_means s w mute = refl

function_means : (s : Settings) (w : Words) → Quiet w → MeansNothing s w (form.Function false)
unfolding line_in
function_means s w q mute = rw q.bare refl

attribute_means : (s : Settings) (w : Words) (t : List ℕ) → MeansNothing s w (attribute t)
unfolding attribute
attribute_means s w t =
    either (MeansNothing s w) (is_word (field t) (codes "Plated")) (form.Next true) (if is_word (field t) (codes "NonPlated") then form.Next false else form.Untold) (λ mute. cc)
    (either (MeansNothing s w) (is_word (field t) (codes "NonPlated")) (form.Next false) form.Untold (λ mute. cc) (untold_means s w))

counts_mean : (s : Settings) (w : Words) (t : List ℕ) → MeansNothing s w (counts_of t)
unfolding counts_of line_in
counts_mean s w [] = λ mute. refl
counts_mean s w (a ∷ []) = λ mute. refl
counts_mean s w (a ∷ b ∷ []) = λ mute. refl
counts_mean s w (a ∷ b ∷ c ∷ []) = either (MeansNothing s w) (b == 58 && (is_decimal_digit a && is_decimal_digit c)) (form.Counts (record { whole = a - 48; places = c - 48 })) (form.Says line.Blank) (λ mute. refl) (λ mute. refl)
counts_mean s w (a ∷ b ∷ c ∷ d ∷ t) = λ mute. refl

layouts_mean : (s : Settings) (w : Words) (t : List ℕ) → MeansNothing s w (layout_comment t)
unfolding layout_comment
layouts_mean s w t =
    let kicad : FormLine = if begins t (codes "; FORMAT={") then counts_of (before_first is_slash (drop 10 t)) else form.Says line.Blank in
    either (MeansNothing s w) (begins t (codes ";FILE_FORMAT=")) (counts_of (drop 13 t)) kicad (counts_mean s w (drop 13 t))
    (either (MeansNothing s w) (begins t (codes "; FORMAT={")) (counts_of (before_first is_slash (drop 10 t))) (form.Says line.Blank) (counts_mean s w (before_first is_slash (drop 10 t))) (blank_means s w))

comment_means : (s : Settings) (w : Words) (t : List ℕ) → Quiet w → MeansNothing s w (comment t)
unfolding comment
comment_means s w t q =
    let fifth : FormLine = if begins t (codes "; #@! TF.FileFunction,") then form.Function false else layout_comment t in
    let fourth : FormLine = if begins t (codes "; #@! TD") then form.Untold else fifth in
    let third : FormLine = if begins t (codes "; #@! TA.AperFunction,") then attribute (drop 22 t) else fourth in
    let second : FormLine = if is_word t (codes ";TYPE=NON_PLATED") then form.Lasting false else third in
    either (MeansNothing s w) (is_word t (codes ";TYPE=PLATED")) (form.Lasting true) second (λ mute. cc)
    (either (MeansNothing s w) (is_word t (codes ";TYPE=NON_PLATED")) (form.Lasting false) third (λ mute. cc)
    (either (MeansNothing s w) (begins t (codes "; #@! TA.AperFunction,")) (attribute (drop 22 t)) fourth (attribute_means s w (drop 22 t))
    (either (MeansNothing s w) (begins t (codes "; #@! TD")) form.Untold fifth (untold_means s w)
    (either (MeansNothing s w) (begins t (codes "; #@! TF.FileFunction,")) (form.Function false) (layout_comment t) (function_means s w q) (layouts_mean s w t)))))

-- a coordinate that led somewhere has a point
value_pointed : (unit : Measure) (d : Fraction) (z : ℤ) → value_of unit d ≡ Ok z → d.pointed ≡ true
unfolding value_of
value_pointed unit d z h = by d.pointed refl h
  where
    by : (b : Bool) → d.pointed ≡ b → unless (not b) kind.ImpliedDecimals (gridded (position_of d unit)) ≡ Ok z → d.pointed ≡ true
    by true is g = is
    by false is g = absurd (no_ok kind.ImpliedDecimals z g)

coordinate_pointed : (unit : Measure) (here z : ℤ) (c : Option Fraction) → coordinate unit here c ≡ Ok z → has_point c ≡ true
coordinate_pointed unit here z None h = refl
coordinate_pointed unit here z (Some d) h = value_pointed unit d z h

led_points : (k : Option Measure) (here : Spot) (c : Coordinates) (to : Spot) → Leads k here c to → have_points c ≡ true
led_points k here c to l = rw (coordinate_pointed l.measure here.x to.x c.x l.x_is, coordinate_pointed l.measure here.y to.y c.y l.y_is) refl

-- ---- One line

is_ok_at : (r : Result Effect DrillKind) → IsOk r → (e : Effect) × (r ≡ Ok e)
is_ok_at (Ok e) ok = (e, refl)
is_ok_at (Err why) ok = cc

format_idle : (s : Stage) (k : Known) (e : Effect) → staged s k line.Format ≡ Ok e → idle s ≡ line.Format
unfolding staged body
format_idle Opening k e h = refl
format_idle Header k e h = refl
format_idle Body k e h = absurd (no_ok kind.BadLine e h)
format_idle Ended k e h = refl

unit_before : (s : Stage) (k : Known) (u : Measure) (e : Effect) → staged s k (line.Unit u) ≡ Ok e → is_body s ≡ false
unfolding staged body
unit_before Opening k u e h = refl
unit_before Header k u e h = refl
unit_before Body k u e h = absurd (no_ok kind.BadLine e h)
unit_before Ended k u e h = refl

end_inside : (s : Stage) (k : Known) (e : Effect) → staged s k line.HeaderEnd ≡ Ok e → is_outside s ≡ false
unfolding staged
end_inside Opening k e h = absurd (no_ok kind.NoHeader e h)
end_inside Header k e h = refl
end_inside Body k e h = refl
end_inside Ended k e h = absurd (no_ok kind.AfterEnd e h)

drill_behind : (s : Stage) (k : Known) (e : Effect) → staged s k line.Drill ≡ Ok e → is_header s ≡ false
unfolding staged header
drill_behind Opening k e h = refl
drill_behind Header k e h = absurd (no_ok kind.BadLine e h)
drill_behind Body k e h = refl
drill_behind Ended k e h = refl

told_none : (w : Words) → Quiet w → told w ≡ None
told_none w q = rw (q.own, q.lasting) refl

quiet_tool : (w : Words) → Quiet w → is_amiss w.mixed (told w) w ≡ false
quiet_tool w q = ap (λ (t : Option Bool). is_amiss w.mixed t w) (told_none w q) ∙ by w.mixed refl
  where
    by : (m : Option Bool) → w.mixed ≡ m → is_amiss m None w ≡ false
    by None h = q.bare
    by (Some true) h = absurd (q.mixed h)
    by (Some false) h = refl

never_unknown : (k : Known) (e : Effect) → effect k line.Unknown ≡ Ok e → ⊥
unfolding effect header body
never_unknown k e h = placed ⊥ k.settings.stage k line.Unknown e (λ s t. cc) (no_ok kind.BadLine e) (no_ok kind.BadLine e) h

-- a line without a fault means what it says
means : (from to : ℕ) (w : Words) (k : Known) (n : DrillLine) (t : List ℕ) (e : Effect) → Quiet w → effect k n ≡ Ok e → says_plating (widened from to n t) ≡ false → line_in k.settings w (widened from to n t) ≡ n
unfolding widened line_in effect
means from to w k line.Blank t e q ok mute = comment_means k.settings w t q mute
means from to w k (line.Misfit why) t e q ok mute = absurd (no_ok why e ok)
means from to w k line.Format t e q ok mute = format_idle k.settings.stage k e ok
means from to w k (line.Unit Mm) t e q ok mute = rw (unit_before k.settings.stage k Mm e ok) refl
means from to w k (line.Unit Inch) t e q ok mute = rw (unit_before k.settings.stage k Inch e ok) refl
means from to w k (line.Tool n d) t e q ok mute = rw (quiet_tool w q) refl
means from to w k line.HeaderEnd t e q ok mute = rw (end_inside k.settings.stage k e ok) refl
means from to w k line.Drill t e q ok mute = rw (drill_behind k.settings.stage k e ok) refl
means from to w k (line.Rout c) t e q ok mute = let o = outcome k (line.Rout c) e ok in rw (led_points k.settings.unit k.settings.at c o.to o.leads) refl
means from to w k (line.Straight c) t e q ok mute = let o = outcome k (line.Straight c) e ok in rw (led_points k.settings.unit k.settings.at c o.to o.leads) refl
means from to w k (line.Hit c) t e q ok mute = let o = outcome k (line.Hit c) e ok in rw (led_points k.settings.unit k.settings.at c o.to o.leads) refl
means from to w k (line.Slot c d) t e q ok mute =
    let o = outcome k (line.Slot c d) e ok in
    rw (led_points k.settings.unit k.settings.at c o.first o.starts, led_points k.settings.unit o.first d o.last o.leads) refl
means from to w k line.Unknown t e q ok mute = absurd (never_unknown k e ok)
means from to w k line.Start t e q ok mute = refl
means from to w k line.Absolute t e q ok mute = refl
means from to w k line.Arc t e q ok mute = refl
means from to w k line.NoTool t e q ok mute = refl
means from to w k (line.Select n) t e q ok mute = refl
means from to w k line.Lower t e q ok mute = refl
means from to w k line.Raise t e q ok mute = refl
means from to w k line.End t e q ok mute = refl
means from to w k line.Finish t e q ok mute = refl

-- ---- Many lines

left : (a b : Bool) → (a || b) ≡ false → a ≡ false
left true b h = cc
left false b h = refl

right : (a b : Bool) → (a || b) ≡ false → b ≡ false
right true b h = cc
right false b h = h

quiet_push : (earlier : List FormLine) (f : FormLine) → says_plating f ≡ false → Quiet (words_at earlier) → Quiet (words_at (f ∷ earlier))
quiet_push earlier (form.Lasting plated) mute q = cc
quiet_push earlier (form.Next plated) mute q = cc
quiet_push earlier (form.Function mixed) mute q = record { own = q.own; lasting = q.lasting; bare = q.bare; mixed = λ h. cc }
quiet_push earlier form.Untold mute q = record { own = refl; lasting = q.lasting; bare = q.bare; mixed = q.mixed }
quiet_push earlier (form.Says (line.Tool n d)) mute q = record { own = refl; lasting = q.lasting; bare = rw (told_none (words_at earlier) q, q.bare) refl; mixed = q.mixed }
quiet_push earlier other mute q = record { own = q.own; lasting = q.lasting; bare = q.bare; mixed = q.mixed }

quiet_at : (earlier : List FormLine) → list_any says_plating earlier ≡ false → Quiet (words_at earlier)
quiet_at [] mute = record { own = refl; lasting = refl; bare = refl; mixed = λ h. cc }
quiet_at (f ∷ earlier) mute = quiet_push earlier f (left (says_plating f) (list_any says_plating earlier) mute) (quiet_at earlier (right (says_plating f) (list_any says_plating earlier) mute))

none_bare : (earlier : List FormLine) → list_any says_plating earlier ≡ false → (n : ℕ) → bare_at earlier n ≡ false
none_bare [] mute n = refl
none_bare (form.Says (line.Tool m d) ∷ earlier) mute n = rw (told_none (words_at earlier) (quiet_at earlier mute)) (none_bare earlier mute n)
none_bare (f ∷ earlier) mute n = none_bare earlier (right (says_plating f) (list_any says_plating earlier) mute) n

no_bare : (o : Option ℕ) (bare : ℕ → Bool) → ((n : ℕ) → bare n ≡ false) → bare_tool o bare ≡ false
no_bare None bare none = refl
no_bare (Some n) bare none = none n

-- each line is read here by what it says to `check`
abbrev Widens : Place → List DrillLine → List FormLine → Type 0
Widens p [] [] = Unit {0}
Widens p (n ∷ ns) (w ∷ ws) = ((t : List ℕ) × (w ≡ widened p.from p.to n t)) × Widens p ns ws
Widens p ns ws = ⊥

as_long : (p : Place) (ns : List DrillLine) (ws : List FormLine) → Widens p ns ws → length ws ≡ length ns
as_long p [] [] h = refl
as_long p (n ∷ ns) (w ∷ ws) h = ap (λ (k : ℕ). suc k) (as_long p ns ws h.1)
as_long p [] (w ∷ ws) h = absurd h
as_long p (n ∷ ns) [] h = absurd h

record Follows (p : Place) (ns : List DrillLine) (ws : List FormLine) : Type 0 where
  lines : lines_at ws ≡ ns
  barrels : barrels_at p ws ≡ narrow_at.barrels_at p ns
  clean : Clean (effect_at p) ws

-- what a line does, where the lines before it mean and make the same
same_does : (p : Place) (a b : List DrillLine) (x y : List PlainPiece) (l n : DrillLine) → a ≡ b → x ≡ y → l ≡ n → effect (known_with p a (length x)) l ≡ effect (known_with p b (length y)) n
same_does p a b x y l n e f g =
    ap (λ (t : List DrillLine). effect (known_with p t (length x)) l) e ∙ ap (λ (t : List PlainPiece). effect (known_with p b (length t)) l) f ∙ ap (λ (t : DrillLine). effect (known_with p b (length y)) t) g

same_makes : (p : Place) (x y : List PlainPiece) (b : Bool) (m n : ℕ) (r s : Result Effect DrillKind) → x ≡ y → b ≡ false → m ≡ n → r ≡ s → x ++ kept b (piece_of p (m + 1) r) ≡ y ++ piece_of p (n + 1) s
same_makes p x y b m n r s e f g h =
    ap (λ (t : List PlainPiece). t ++ kept b (piece_of p (m + 1) r)) e ∙ ap (λ (t : Bool). y ++ kept t (piece_of p (m + 1) r)) f ∙ ap (λ (t : ℕ). y ++ piece_of p (t + 1) r) g ∙ ap (λ (t : Result Effect DrillKind). y ++ piece_of p (n + 1) t) h

two_lists : (l n : DrillLine) (a b : List DrillLine) → l ≡ n → a ≡ b → ◌≡◌ {A = List DrillLine} (l ∷ a) (n ∷ b)
two_lists l n a b e f = ap (λ (t : DrillLine). t ∷ a) e ∙ ap (λ (t : List DrillLine). n ∷ t) f

follow : (p : Place) (ns : List DrillLine) (ws : List FormLine) → Widens p ns ws → list_any says_plating ws ≡ false → Clean (narrow_at.effect_at p) ns → Follows p ns ws
unfolding lines_at barrels_at narrow_at.barrels_at
follow p [] [] h mute clean = record { lines = refl; barrels = refl; clean = tt }
follow p [] (w ∷ ws) h mute clean = absurd h
follow p (n ∷ ns) [] h mute clean = absurd h
follow p (n ∷ ns) (w ∷ ws) ((t, is), rest) mute clean =
    let later : list_any says_plating ws ≡ false = right (says_plating w) (list_any says_plating ws) mute in
    let f : Follows p ns ws = follow p ns ws rest later clean.1 in
    let k : Known = known_with p ns (length (narrow_at.barrels_at p ns)) in
    let e = is_ok_at (effect k n) clean.0 in
    let silent : says_plating (widened p.from p.to n t) ≡ false = ap says_plating (sym is) ∙ left (says_plating w) (list_any says_plating ws) mute in
    let here : line_at ws w ≡ n = ap (λ (ls : List DrillLine). line_in (settings_at ls) (words_at ws) w) f.lines ∙ ap (λ (v : FormLine). line_in (settings_at ns) (words_at ws) v) is ∙ means p.from p.to (words_at ws) k n t e.0 (quiet_at ws later) e.1 silent in
    let does : effect_at p ws w ≡ effect k n = same_does p (lines_at ws) ns (barrels_at p ws) (narrow_at.barrels_at p ns) (line_at ws w) n f.lines f.barrels here in
    let plated : is_bare_at ws ≡ false = no_bare (narrow_at.tool_at (lines_at ws)) (bare_at ws) (none_bare ws later) in
    record {
      lines = two_lists (line_at ws w) n (lines_at ws) ns here f.lines;
      barrels = same_makes p (barrels_at p ws) (narrow_at.barrels_at p ns) (is_bare_at ws) (length ws) (length ns) (effect_at p ws w) (effect k n) f.barrels plated (as_long p ns ws rest) does;
      clean = (subst IsOk (sym does) clean.0, f.clean);
    }

-- ---- A file

map_back : {A B : Type 0} (f : A → B) (xs : List A) → reverse (map f xs) ≡ map f (reverse xs)
map_back f [] = refl
map_back f (x ∷ xs) = reverse-append (f x ∷ []) (map f xs) ∙ ap (λ ys. ys ++ f x ∷ []) (map_back f xs) ∙ sym (map-append f (reverse xs) (x ∷ [])) ∙ ap (map f) (sym (reverse-append (x ∷ []) xs))

-- the items of lines and an end, the last first
back : {A B : Type 0} (f : A → B) (xs : List A) (last : B) → reverse (map f xs ++ last ∷ []) ≡ last ∷ map f (reverse xs)
back f xs last = reverse-append (map f xs) (last ∷ []) ∙ ap (λ ys. last ∷ ys) (map_back f xs)

widen_lines : (p : Place) (h : List PlainLine) → Widens p (said (map (narrow.item_of p) h)) (said (map (item_of p) h))
unfolding form_of
widen_lines p [] = tt
widen_lines p (l ∷ h) = ((trimmed l.text, refl), widen_lines p h)

any_append : {A : Type 0} (test : A → Bool) (xs ys : List A) → list_any test xs ≡ false → list_any test ys ≡ false → list_any test (xs ++ ys) ≡ false
any_append test [] ys h g = g
any_append test (x ∷ xs) ys h g = rw (left (test x) (list_any test xs) h) (any_append test xs ys (right (test x) (list_any test xs) h) g)

any_back : {A : Type 0} (test : A → Bool) (xs : List A) → list_any test xs ≡ false → list_any test (reverse xs) ≡ false
any_back test [] h = refl
any_back test (x ∷ xs) h = subst (λ ys. list_any test ys ≡ false) (sym (reverse-append (x ∷ []) xs)) (any_append test (reverse xs) (x ∷ []) (any_back test xs (right (test x) (list_any test xs) h)) (rw (left (test x) (list_any test xs) h) refl))

said_back : {A : Type 0} (items : List (Item A)) → said (reverse items) ≡ reverse (said items)
said_back [] = refl
said_back {A = A} (item ∷ items) = ap said (reverse-append (item ∷ []) items) ∙ map-append (λ (i : Item A). i.says) (reverse items) (item ∷ []) ∙ ap (λ (xs : List A). xs ++ item.says ∷ []) (said_back items) ∙ sym (reverse-append (item.says ∷ []) (said items))

-- a list that is the reverse of another and nothing more
turned : {A : Type 0} (xs ys : List A) → xs ≡ reverse ys ++ [] → ys ≡ reverse xs
turned xs ys h = sym (reverse-reverse ys) ∙ ap reverse (sym (append-nil (reverse ys)) ∙ sym h)

abbrev narrow_end : ℕ → Item DrillLine
narrow_end size = record { says = line.Finish; at = size }

abbrev wide_end : ℕ → Item FormLine
wide_end size = record { says = form.Says line.Finish; at = size }

pub takes_the_same : (file : List ℕ) (p : Place) → TakesTheSame file p
unfolding widened
takes_the_same file p pieces mute read =
    let size : ℕ = length file in
    let h : List PlainLine = reverse (lines_of file) in
    let ns : List (Item DrillLine) = narrow_end size ∷ map (narrow.item_of p) h in
    let ws : List (Item FormLine) = wide_end size ∷ map (item_of p) h in
    let are : read.earlier ≡ ns = turned (narrow.items p file) read.earlier read.whole.split ∙ back (narrow.item_of p) (lines_of file) (narrow_end size) in
    let back_is : reverse (items p file) ≡ ws = back (item_of p) (lines_of file) (wide_end size) in
    let quiet : list_any says_plating (said ws) ≡ false = subst (λ (is : List (Item FormLine)). list_any says_plating (said is) ≡ false) back_is (subst (λ (fs : List FormLine). list_any says_plating fs ≡ false) (sym (said_back (items p file))) (any_back says_plating (said (items p file)) mute)) in
    let clean : Clean (narrow_at.effect_at p) (said ns) = subst (λ (is : List (Item DrillLine)). Clean (narrow_at.effect_at p) (said is)) are read.whole.clean in
    let f : Follows p (said ns) (said ws) = follow p (said ns) (said ws) (([], refl), widen_lines p h) quiet clean in
    record {
      earlier = ws;
      whole = record { split = sym (append-nil (reverse ws) ∙ ap reverse (sym back_is) ∙ reverse-reverse (items p file)); clean = f.clean };
      is = read.is ∙ ap (λ (is : List (Item DrillLine)). narrow_at.barrels_at p (said is)) are ∙ sym f.barrels;
    }
