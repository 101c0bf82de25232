-- What the reader has obeyed, when it has kept its barrels and noted the words of a line.
use Rattle.std.proofs.Common.{◌≡◌, ℕ, ◌+◌, Bool, true, false, cond, List, ◌++◌, length, take, Ok, refl, sym, ap, ◌∙◌, subst, arith}
use Rattle.std.proofs.lemmas.List.{append-nil, length-map, take-append-le, take_all}
use Rattle.board_shapes.specs.Plain.{PlainPiece, plain_piece, plain_pieces}
use Rattle.xnc.specs.declared.reader.Reader.{Reader}
use Rattle.xnc.specs.declared.settings.Settings.{Settings}
use Rattle.xnc.specs.declared.tools.Tools.{Tools}
use Rattle.xnc.specs.Reader as narrow
use Rattle.xnc.specs.Reader.{IsLawfulReader, AreLawful, Turns, place_of}
use Rattle.xnc.specs.Settings.{piece_of}
use Rattle.planar.specs.Plane.{IsPlaced}
use Rattle.drill_forms.specs.declared.form.FormLine.{FormLine}
use Rattle.drill_forms.specs.declared.form_reader.FormReader.{FormReader}
use Rattle.drill_forms.specs.Meaning.{noted}
use Rattle.drill_forms.specs.History.{kept}
use Rattle.drill_forms.specs.Reader.{Obeys, bare_after, bare_in, is_bare_for, line_for}

-- the reader of lines went on, and these of its barrels were kept
pub record Kept (old : FormReader) (mid : Reader) (bare : Bool) (count : ℕ) (new : Reader) : Type 0 where
  pub bare_is : bare ≡ is_bare_for old
  pub count_is : count ≡ length old.reader.pieces.items
  pub pieces : plain_pieces new.pieces.items ≡ cond bare (take count (plain_pieces mid.pieces.items)) (plain_pieces mid.pieces.items)
  pub settings : new.settings ≡ mid.settings
  pub tools : new.tools ≡ mid.tools
  pub lines : new.lines ≡ mid.lines
  pub place : place_of new ≡ place_of mid

front_kept : (b : Bool) (xs ys : List PlainPiece) → cond b (take (length xs) (xs ++ ys)) (xs ++ ys) ≡ xs ++ kept b ys
front_kept true xs ys = take-append-le (length xs) xs ys (omega arith) ∙ take_all (length xs) xs (omega arith) ∙ sym (append-nil xs)
front_kept false xs ys = refl

pub obeyed : (old new : FormReader) (f : FormLine) (mid : Reader) (bare : Bool) (count : ℕ) → narrow.Obeys old.reader (line_for old f) mid → Kept old mid bare count new.reader → new.words ≡ noted old.words f → ((n : ℕ) → bare_in new.bares n ≡ bare_after old.words (bare_in old.bares) f n) → Obeys old f new
obeyed old new f mid bare count o k words bares =
    let piece : List PlainPiece = piece_of (place_of old.reader) (old.reader.lines + 1) (Ok o.effect_is) in
    let xs : List PlainPiece = plain_pieces old.reader.pieces.items in
    let size : count ≡ length xs = k.count_is ∙ sym (length-map old.reader.pieces.items plain_piece) in
    record {
      effect_is = o.effect_is;
      clean = o.clean;
      settings = k.settings ∙ o.settings;
      tools = subst (λ (t : Tools). Turns old.reader.tools o.effect_is t) (sym k.tools) o.tools;
      pieces = k.pieces ∙ ap (λ (ps : List PlainPiece). cond bare (take count ps) ps) o.pieces ∙ ap (λ (n : ℕ). cond bare (take n (xs ++ piece)) (xs ++ piece)) size ∙ front_kept bare xs piece ∙ ap (λ (b : Bool). xs ++ kept b piece) k.bare_is;
      counts = k.lines ∙ o.counts;
      place = k.place ∙ o.place;
      words = words;
      bares = bares;
    }

pub still_lawful : (mid new : Reader) → new.settings ≡ mid.settings → new.tools ≡ mid.tools → IsLawfulReader mid → IsLawfulReader new
still_lawful mid new settings tools l = record {
  at = subst (λ (s : Settings). IsPlaced s.at) (sym settings) l.at;
  tools = subst AreLawful (sym tools) l.tools;
}
