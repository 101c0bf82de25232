-- What is right of the apertures of a file: a primitive that is marked has no image, and stays what it is.
use Rattle.std.specs.Prelude.{All}
use Rattle.gerber_reading.specs.CommandEffects.{Outline}
use Rattle.std.proofs.Common.{◌≡◌, ℕ, ◌<◌, ◌==◌, zero, suc, Bool, true, false, cond, not, List, [], ◌∷◌, ◌++◌, length, get_or, slice_get, Option, Some, None, option_map, IfSome, IsSomeAnd, refl, sym, ap, subst, ◌∙◌}
use Rattle.std.proofs.lemmas.Bool.Decides.{Decides-eqb}
use Rattle.std.proofs.lemmas.Option.{IfSome_then, slice_get-map, slice_get_read}
use Rattle.std.proofs.lemmas.Slice.Eq.{slice_eq-Decides}
use Rattle.texts.specs.Words.{is_word}
use Rattle.lengths.specs.Decimal.{Fraction}
use Rattle.lengths.specs.declared.decimal.Unit.{Unit as Measure}
use Rattle.aperture_macros.specs.BodyWord.{PlainPrimitive}
use Rattle.aperture_macros.specs.Flashes.{IsBlank}
use Rattle.aperture_macros.specs.Seen.{plain}
use Rattle.aperture_macros.specs.declared.primitive.Primitive.{Primitive}
use Rattle.gerber_reading.specs.declared.tool.Tool.TheVariants as given
use Rattle.gerber_layer.specs.Tools.{Macro, Macros, begun, filled_up, latest_or, longer, macro_named}
use Rattle.gerber_layer.specs.Reader.{Adds, AllFit, AreBlank, AreBlankIn, Dictionary, Fits, Given, HasMacros, KeepsStraight, KeepsTools, body_of, kept_in, macros_in, tool_of}

-- ---- Marks of a body

-- one mark more
one_mark : (marks : List Bool) (mark : Bool) (P : ℕ → Type 0) → ((i : ℕ) → get_or marks i false ≡ true → P i) → (mark ≡ true → P (length marks)) → (i : ℕ) → get_or (marks ++ mark ∷ []) i false ≡ true → P i
one_mark [] mark P old new zero h = new h
one_mark [] mark P old new (suc i) h = cc
one_mark (x ∷ marks) mark P old new zero h = old zero h
one_mark (x ∷ marks) mark P old new (suc i) h = one_mark marks mark (λ j. P (suc j)) (λ j k. old (suc j) k) new i h

-- no mark
pub no_marks : (body : List PlainPrimitive) (parameters : List Fraction) (unit : Measure) (marks : List Bool) → marks ≡ [] → AreBlank body parameters unit marks
no_marks body parameters unit marks none = subst (AreBlank body parameters unit) (sym none) (λ i h. cc)

primitive_here : (body : List Primitive) (i : ℕ) (here : Primitive) → i < length body → here ≡ get_or body i here → slice_get (body_of body) i ≡ Some (plain here)
primitive_here body i here h at = slice_get-map plain body i ∙ ap (option_map plain) (slice_get_read body (length body) i here refl h at)

marked_off : (has : Bool) → not has ≡ true → has ≡ false
marked_off true h = cc
marked_off false h = refl

-- a primitive without an image is marked, and one with an image is not
pub mark_more : (body : List Primitive) (i : ℕ) (here : Primitive) (parameters : List Fraction) (unit : Measure) (marks new : List Bool) (has : Bool) → i < length body → here ≡ get_or body i here → length marks ≡ i → (has ≡ false → IsBlank (plain here) parameters unit) → new ≡ marks ++ not has ∷ [] → AreBlank (body_of body) parameters unit marks → AreBlank (body_of body) parameters unit new
mark_more body i here parameters unit marks new has h at counted blank is all =
    let there : slice_get (body_of body) (length marks) ≡ Some (plain here) = subst (λ (k : ℕ). slice_get (body_of body) k ≡ Some (plain here)) (sym counted) (primitive_here body i here h at) in
    subst (AreBlank (body_of body) parameters unit) (sym is)
    (one_mark marks (not has) (λ k. IsSomeAnd (slice_get (body_of body) k) (λ p. IsBlank p parameters unit)) all
    (λ off. subst (λ (o : Option PlainPrimitive). IsSomeAnd o (λ p. IsBlank p parameters unit)) (sym there) (blank (marked_off has off))))

-- what is marked has no image
pub here_blank : (body : List Primitive) (i : ℕ) (here : Primitive) (parameters : List Fraction) (unit : Measure) (marks : List Bool) → i < length body → here ≡ get_or body i here → AreBlank (body_of body) parameters unit marks → get_or marks i false ≡ true → IsBlank (plain here) parameters unit
here_blank body i here parameters unit marks h at all is =
    subst (λ (o : Option PlainPrimitive). IsSomeAnd o (λ p. IsBlank p parameters unit)) (primitive_here body i here h at) (all i is)

-- ---- Where the macros of a file change

-- a body grows at its end
grown : (body : List PlainPrimitive) (p : PlainPrimitive) (P : PlainPrimitive → Type 0) (i : ℕ) → IsSomeAnd (slice_get body i) P → IsSomeAnd (slice_get (body ++ p ∷ []) i) P
grown [] p P i h = absurd h
grown (x ∷ body) p P zero h = h
grown (x ∷ body) p P (suc i) h = grown body p P i h

filled_in : (latest : Option Macro) (other : Option (List PlainPrimitive)) (p : PlainPrimitive) (name : List ℕ) (parameters : List Fraction) (unit : Measure) (marks : List Bool) → AreBlankIn (latest_or latest other name) parameters unit marks → AreBlankIn (latest_or (option_map (longer p) latest) other name) parameters unit marks
filled_in None other p name parameters unit marks h = h
filled_in (Some m) other p name parameters unit marks h = by (is_word m.name name) h
  where
    by : (b : Bool) → AreBlankIn (cond b (Some m.body) other) parameters unit marks → AreBlankIn (cond b (Some (m.body ++ p ∷ [])) other) parameters unit marks
    by true h = λ i k. grown m.body p (λ q. IsBlank q parameters unit) i (h i k)
    by false h = h

-- a macro that begins has a name of its own
begun_in : (m : Macros) (new name : List ℕ) (parameters : List Fraction) (unit : Measure) (marks : List Bool) → macro_named m new ≡ None → AreBlankIn (macro_named m name) parameters unit marks → AreBlankIn (macro_named (begun m new) name) parameters unit marks
begun_in m new name parameters unit marks free h = by (is_word new name) refl
  where
    by : (b : Bool) → is_word new name ≡ b → AreBlankIn (cond b (Some []) (macro_named m name)) parameters unit marks
    by false e = h
    by true e =
        let same : new ≡ name = (slice_eq-Decides Decides-eqb new name (is_word new name) refl).0 e in
        let none : macro_named m name ≡ None = subst (λ (x : List ℕ). macro_named m x ≡ None) same free in
        absurd (subst (λ (o : Option (List PlainPrimitive)). AreBlankIn o parameters unit marks) none h)

-- ---- Along a dictionary

-- what is right by some macros is right by others
abbrev Carries : Macros → Macros → Type 0
Carries m n = (name : List ℕ) (parameters : List Fraction) (unit : Measure) (marks : List Bool) → AreBlankIn (macro_named m name) parameters unit marks → AreBlankIn (macro_named n name) parameters unit marks

carried : (m n : Macros) → Carries m n → (tool : Given) → Fits m tool → Fits n tool
carried m n f (given.Standard aperture) h = h
carried m n f (given.Composed name parameters unit marks) h = f name.now parameters.items unit marks.items h

all_carried : (old new : Dictionary) → Carries (macros_in old) (macros_in new) → KeepsTools old new → AllFit old → AllFit new
all_carried old new f kept h = λ n. subst (λ (o : Option Given). IfSome o (Fits (macros_in new))) (sym (kept n)) (IfSome_then (kept_in old n) (h n) (carried (macros_in old) (macros_in new) f))

named_alike : (m n : Macros) → n.latest ≡ m.latest → ((name : List ℕ) → n.others name ≡ m.others name) → (name : List ℕ) → macro_named m name ≡ macro_named n name
named_alike m n l o name = sym (ap (λ (x : Option Macro). latest_or x (n.others name) name) l ∙ ap (λ (y : Option (List PlainPrimitive)). latest_or m.latest y name) (o name))

has_carried : (old new : Dictionary) (macros : Macros) → HasMacros old new macros → Carries (macros_in old) macros → KeepsTools old new → AllFit old → AllFit new
has_carried old new macros has f kept h =
    all_carried old new (λ name parameters unit marks k. subst (λ (o : Option (List PlainPrimitive)). AreBlankIn o parameters unit marks) (named_alike macros (macros_in new) has.latest has.others name) (f name parameters unit marks k)) kept h

pub filled_marked : (old new : Dictionary) (p : PlainPrimitive) → HasMacros old new (filled_up (macros_in old) p) → KeepsTools old new → AllFit old → AllFit new
filled_marked old new p has kept h =
    has_carried old new (filled_up (macros_in old) p) has (λ name parameters unit marks k. filled_in (macros_in old).latest ((macros_in old).others name) p name parameters unit marks k) kept h

pub begun_marked : (old new : Dictionary) (name : List ℕ) → HasMacros old new (begun (macros_in old) name) → KeepsTools old new → macro_named (macros_in old) name ≡ None → AllFit old → AllFit new
begun_marked old new name has kept free h =
    has_carried old new (begun (macros_in old) name) has (λ other parameters unit marks k. begun_in (macros_in old) name other parameters unit marks free k) kept h

-- an aperture more
added_one : (b : Bool) (m : Macros) (tool : Given) (old : Option Given) → Fits m tool → IfSome old (Fits m) → IfSome (cond b (Some tool) old) (Fits m)
added_one true m tool old right h = right
added_one false m tool old right h = h

pub added_marked : (old new : Dictionary) (n : ℕ) (tool : Given) → Adds old new n (tool_of tool) → ((k : ℕ) → kept_in new k ≡ cond (n == k) (Some tool) (kept_in old k)) → Fits (macros_in old) tool → AllFit old → AllFit new
added_marked old new n tool adds kept right h = λ k.
    subst (λ (m : Macros). IfSome (kept_in new k) (Fits m)) (sym adds.macros)
    (subst (λ (o : Option Given). IfSome o (Fits (macros_in old))) (sym (kept k)) (added_one (n == k) (macros_in old) tool (kept_in old k) right (h k)))

-- ---- Contours

-- nothing is kept of a straight edge
pub straight_keeps : (contour : Option (Outline (Unit {0}))) → IfSome contour (λ o. All (λ l. KeepsStraight l.bend) o.legs)
straight_keeps None = tt
straight_keeps (Some o) = λ i d below. tt
