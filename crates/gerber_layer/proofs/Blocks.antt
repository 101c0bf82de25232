-- The pieces before a block by looking back.
use Rattle.std.proofs.Common.{◌≡◌, ℕ, ◌+◌, ◌≤◌, Bool, true, false, cond, List, [], ◌∷◌, ◌++◌, length, take, drop, Option, Some, None, Result, Ok, Err, IsOk, refl, sym, ap, ◌∙◌, subst, arith, length-append}
use Rattle.std.proofs.Math.Seq.{take-length}
use Rattle.std.proofs.lemmas.List.{take-append-le}
use Rattle.std.proofs.lemmas.Grind.{common_steps}
use Rattle.board_shapes.specs.Pieces.{PlainPiece}
use Rattle.step_repeat.specs.Copies.{Refusal, copies_at}
use Rattle.step_repeat.specs.declared.repeat.Repeat.{Repeat}
use Rattle.file_reading.specs.Reading.{Clean}
use Rattle.gerber_reading.specs.Command.{Command, defines, repeats, opens_region, closes_region, operates, ends, names_macro, body_word}
use Rattle.gerber_reading.specs.declared.kind.GerberKind.{GerberKind}
use Rattle.gerber_reading.specs.declared.kind.GerberKind.TheVariants as kind
use Rattle.gerber_layer.specs.CommandEffects.{Place, Known, Effect, stays, begins_macro, performs, closes, opens, leaves, steps, concludes, ◌>>=◌, as_copies, with_copies, left, listed, ended_block, repeat, row, effect, code_of}
use Rattle.gerber_reading.specs.CommandEffects.{ended_block_by, next_block}
use Rattle.gerber_reading.specs.Image.{image_by}
use Rattle.gerber_layer.specs.Image.{Image, image_of, pieces_of, known_before, effect_before, made, pieces_after, start_after, with_effect}
use Rattle.gerber_layer.specs.Laws.{is_repeat, up_to_block, LooksBackToItsBlock}
use Rattle.gerber_layer.proofs.Outcome.{bind_ok, not_body, not_ok, past_test, outcome}
use Rattle.gerber_layer.proofs.Placing.{IsSimple, simple_by, simple_effect}

-- the first pieces are kept
record Keeps (start : ℕ) (old new : List PlainPiece) : Type 0 where
  within : start ≤ length new
  same : take start new ≡ take start old

kept : (start : ℕ) (pieces : List PlainPiece) → start ≤ length pieces → Keeps start pieces pieces
kept start pieces h = record { within = h; same = refl }

kept_before : (start : ℕ) (pieces more : List PlainPiece) → start ≤ length pieces → Keeps start pieces (pieces ++ more)
kept_before start pieces more h = record {
  within = omega (arith, h, length-append pieces more);
  same = take-append-le start pieces more h;
}

simple_keeps : (p : Place) (n start : ℕ) (pieces : List PlainPiece) (e : Effect) → IsSimple e → start ≤ length pieces → Keeps start pieces (pieces_after p n pieces e)
simple_keeps p n start pieces (steps next all) simple h = absurd simple
simple_keeps p n start pieces (concludes all) simple h = absurd simple
simple_keeps p n start pieces (performs to figures) simple h = kept_before start pieces (made p n figures) h
simple_keeps p n start pieces (closes to figure) simple h = kept_before start pieces (made p n (listed figure)) h
simple_keeps p n start pieces (leaves figure) simple h = kept_before start pieces (made p n (listed figure)) h
simple_keeps p n start pieces other simple h = kept start pieces h

simple_start : (start : ℕ) (e : Effect) → IsSimple e → start_after start e ≡ start
simple_start start (steps next all) simple = absurd simple
simple_start start other simple = refl

-- a block ends, and the pieces before it stay
joined : (start : ℕ) (pieces : List PlainPiece) (copies : Result (List PlainPiece) Refusal) (all : List PlainPiece) → start ≤ length pieces → as_copies (take start pieces) copies ≡ Ok all → Keeps start pieces all
joined start pieces (Err why) all h e = absurd (cc)
joined start pieces (Ok some) all h e =
    let same : take start pieces ++ some ≡ all = cc in
    let size : length (take start pieces) ≡ start = grind (arith, common_steps) in
    let within : start ≤ length (take start pieces ++ some) = omega (arith, size, length-append (take start pieces) some) in
    let first : take start (take start pieces ++ some) ≡ take start pieces = grind (arith, common_steps) in
    subst (λ xs. Keeps start pieces xs) same (record { within = within; same = first })

ended_keeps : (k : Known) (block : Option Repeat) (all : List PlainPiece) → k.start ≤ length k.pieces → with_copies k block ≡ Ok all → Keeps k.start k.pieces all
ended_keeps k None all h e = let same : k.pieces ≡ all = cc in subst (λ xs. Keeps k.start k.pieces xs) same (kept k.start k.pieces h)
ended_keeps k (Some block) all h e = joined k.start k.pieces (copies_at block (left k) (drop k.start k.pieces)) all h e

-- an effect keeps the first pieces, and their count
record KeepsBlock (p : Place) (n : ℕ) (k : Known) (e : Effect) : Type 0 where
  pieces : Keeps k.start k.pieces (pieces_after p n k.pieces e)
  start : start_after k.start e ≡ k.start

simple : (p : Place) (n : ℕ) (k : Known) (e : Effect) → IsSimple e → k.start ≤ length k.pieces → KeepsBlock p n k e
simple p n k e s h = record { pieces = simple_keeps p n k.start k.pieces e s h; start = simple_start k.start e s }

concluded : (p : Place) (n : ℕ) (k : Known) (e : Effect) → k.start ≤ length k.pieces → cond k.settings.region (Err kind.NotInRegion) (ended_block k >>= λ pieces. Ok (concludes pieces)) ≡ Ok e → KeepsBlock p n k e
unfolding ended_block_by
concluded p n k e h is =
    let one = past_test k.settings.region kind.NotInRegion (ended_block k >>= λ pieces. Ok (concludes pieces)) e is in
    let all = bind_ok (ended_block k) (λ pieces. Ok (concludes pieces)) e one in
    let done : ◌≡◌ {A = Result Effect GerberKind} (Ok (concludes all.0)) (Ok e) = all.2 in
    let same : concludes all.0 ≡ e = cc in
    subst (λ x. KeepsBlock p n k x) same (record { pieces = ended_keeps k k.settings.block all.0 h all.1; start = refl })

other_keeps : (p : Place) (n : ℕ) (k : Known) (c : Command) (e : Effect) → is_repeat c ≡ false → k.start ≤ length k.pieces → effect k c ≡ Ok e → KeepsBlock p n k e
unfolding effect row
other_keeps p n k (repeats text) e unlike h is = absurd (cc)
other_keeps p n k ends e unlike h is = concluded p n k e h (past_test k.settings.ended kind.AfterEnd _ e is)
other_keeps p n k (defines text) e unlike h is = let o = outcome k (defines text) e is in simple p n k e (simple_by e _ o.is tt) h
other_keeps p n k (operates x y code b) e unlike h is = let o = outcome k (operates x y code b) e is in simple p n k e (simple_effect e k.settings.region (code_of code) o.to o.is) h
other_keeps p n k opens_region e unlike h is = simple p n k e (simple_by e opens (outcome k opens_region e is) tt) h
other_keeps p n k closes_region e unlike h is = let o = outcome k closes_region e is in simple p n k e (simple_by e (leaves o.0) o.1 tt) h
other_keeps p n k (names_macro name) e unlike h is = simple p n k e (simple_by e (begins_macro name) (outcome k (names_macro name) e is) tt) h
other_keeps p n k (body_word text) e unlike h is = absurd (not_body k text e is)
other_keeps p n k other e unlike h is = simple p n k e (simple_by e stays (outcome k other e is) tt) h

-- a step and repeat word
repeated : (k : Known) (text : List ℕ) (e : Effect) → repeat k text ≡ Ok e → (next : Option Repeat) × (all : List PlainPiece) × (e ≡ steps next all)
unfolding repeat
repeated k text e h =
    let one = past_test k.settings.region kind.NotInRegion (next_block k.settings.unit text >>= λ next. ended_block k >>= λ pieces. Ok (steps next pieces)) e h in
    let next = bind_ok (next_block k.settings.unit text) (λ next. ended_block k >>= λ pieces. Ok (steps next pieces)) e one in
    let all = bind_ok (ended_block k) (λ pieces. Ok (steps next.0 pieces)) e next.2 in
    let done : ◌≡◌ {A = Result Effect GerberKind} (Ok (steps next.0 all.0)) (Ok e) = all.2 in
    let same : steps next.0 all.0 ≡ e = cc in
    (next.0, all.0, sym same)

steps_is : (k : Known) (c : Command) (e : Effect) → is_repeat c ≡ true → effect k c ≡ Ok e → (next : Option Repeat) × (all : List PlainPiece) × (e ≡ steps next all)
unfolding effect row
steps_is k (repeats text) e is h = repeated k text e (past_test k.settings.ended kind.AfterEnd (repeat k text) e h)
steps_is k other e is h = absurd (cc)

-- the pieces before the block are these
record HasBefore (image : Image) (pieces : List PlainPiece) : Type 0 where
  within : image.start ≤ length image.pieces
  are : take image.start image.pieces ≡ pieces

begun : (p : Place) (n : ℕ) (image : Image) (e : Effect) (next : Option Repeat) (all : List PlainPiece) → e ≡ steps next all → HasBefore (with_effect {W = GerberKind} p n image (Ok e)) (with_effect {W = GerberKind} p n image (Ok e)).pieces
begun p n image e next all is = subst (λ x. HasBefore (with_effect {W = GerberKind} p n image (Ok x)) (with_effect {W = GerberKind} p n image (Ok x)).pieces) (sym is) (record { within = omega arith; are = take-length all })

kept_on : (p : Place) (n : ℕ) (image : Image) (e : Effect) (pieces : List PlainPiece) → HasBefore image pieces → Keeps image.start image.pieces (pieces_after p n image.pieces e) → start_after image.start e ≡ image.start → HasBefore (with_effect {W = GerberKind} p n image (Ok e)) pieces
kept_on p n image e pieces b k same = record {
  within = rw same k.within;
  are = rw same (k.same ∙ b.are);
}

before_block : (p : Place) (earlier : List Command) → Clean (effect_before p) earlier → HasBefore (image_of p earlier) (pieces_of p (up_to_block earlier))
unfolding image_by
before_block p [] clean = record { within = omega arith; are = refl }
before_block p (c ∷ earlier) clean = split (is_repeat c) refl (before_block p earlier clean.1)
  where
    by : (b : Bool) → is_repeat c ≡ b → HasBefore (image_of p earlier) (pieces_of p (up_to_block earlier)) → (r : Result Effect GerberKind) → effect (known_before p earlier) c ≡ r → IsOk r → HasBefore (with_effect p (length earlier + 1) (image_of p earlier) r) (cond b (with_effect p (length earlier + 1) (image_of p earlier) r).pieces (pieces_of p (up_to_block earlier)))
    by b rep had (Err fault) is ok = absurd (not_ok Effect fault ok)
    by true rep had (Ok e) is ok = let s = steps_is (known_before p earlier) c e rep is in begun p (length earlier + 1) (image_of p earlier) e s.0 s.1 s.2
    by false rep had (Ok e) is ok =
        let s = other_keeps p (length earlier + 1) (known_before p earlier) c e rep had.within is in
        kept_on p (length earlier + 1) (image_of p earlier) e (pieces_of p (up_to_block earlier)) had s.pieces s.start

    split : (b : Bool) → is_repeat c ≡ b → HasBefore (image_of p earlier) (pieces_of p (up_to_block earlier)) → HasBefore (image_of p (c ∷ earlier)) (pieces_of p (cond b (c ∷ earlier) (up_to_block earlier)))
    split true rep had = by true rep had (effect (known_before p earlier) c) refl clean.0
    split false rep had = by false rep had (effect (known_before p earlier) c) refl clean.0

-- so many are taken where so many are there
counted : (n : ℕ) (pieces before : List PlainPiece) → n ≤ length pieces → take n pieces ≡ before → n ≡ length before
counted n pieces before h is =
    let size : length (take n pieces) ≡ n = grind (arith, common_steps) in
    sym size ∙ ap length is

pub looks_back_to_its_block : (p : Place) (earlier : List Command) → LooksBackToItsBlock p earlier
looks_back_to_its_block p earlier clean =
    let had = before_block p earlier clean in
    record {
      counted = counted (image_of p earlier).start (pieces_of p earlier) (pieces_of p (up_to_block earlier)) had.within had.are;
      pieces = had.are;
    }
