-- What holds under the command that the words ask for holds under each that they ask for.
use Rattle.std.proofs.Common.{◌≡◌, ◌<◌, ◌≤◌, ℕ, List, [], ◌∷◌, length, Option, Some, None, IfNone, IfSome, String, subst, sym, ap, ◌∙◌, get_or, arith}
use Rattle.std.specs.Prelude.{map, string_bytes}
use Rattle.std.specs.declared.alloc.Global.{Global}
use Rattle.board_io.specs.Package.{Files}
use Rattle.boardnet.proofs.Soundness.{sound}
use Rattle.boardnet.specs.Outcome.{OfFilesRead}
use Rattle.boardnet.specs.commands.{command_of_words}
use Rattle.boardnet.specs.Command.{asked}
use Rattle.boardnet.specs.Words.{Asks, CanAsk, Command, SpelledAsk}
use Rattle.boardnet.specs.declared.commands.Command.{Command as Given}

-- where no command can be asked for by words that are spelled so, these ask for none
pub none_asks : {A : Type 0} (found : Option A) (words : List (String Global)) (spelled : List (List ℕ)) → map string_bytes words ≡ spelled
    → IfNone found ((c : Command) → CanAsk spelled c → ⊥) → IfNone found ((c : Command) → Asks words c → ⊥)
none_asks None words spelled same none = λ c asks. none c (words, same, asks)
none_asks (Some given) words spelled same none = tt

-- what all words that are spelled so ask for these ask for
pub some_asks : (found : Option Given) (words : List (String Global)) (spelled : List (List ℕ)) → map string_bytes words ≡ spelled
    → IfSome found (λ given. SpelledAsk spelled (asked given)) → IfSome found (λ given. Asks words (asked given))
some_asks None words spelled same h = tt
some_asks (Some given) words spelled same h = h words same

-- how two words are spelled, three and five
pub spelled_two : (words : List (String Global)) (a b : String Global) (x y : List ℕ) → 2 ≤ length words → length words < 3 → a ≡ get_or words 0 a → b ≡ get_or words 1 b → x ≡ string_bytes a → y ≡ string_bytes b
    → map string_bytes words ≡ x ∷ y ∷ []
spelled_two [] a b x y least most p q e f = absurd (omega (arith, least))
spelled_two (w ∷ []) a b x y least most p q e f = absurd (omega (arith, least))
spelled_two (w ∷ v ∷ []) a b x y least most p q e f = cc (p, q, e, f)
spelled_two (w ∷ v ∷ u ∷ rest) a b x y least most p q e f = absurd (omega (arith, most))

pub spelled_three : (words : List (String Global)) (a b d : String Global) (x y z : List ℕ) → 3 ≤ length words → length words < 4 → a ≡ get_or words 0 a → b ≡ get_or words 1 b → d ≡ get_or words 2 d
    → x ≡ string_bytes a → y ≡ string_bytes b → z ≡ string_bytes d → map string_bytes words ≡ x ∷ y ∷ z ∷ []
spelled_three [] a b d x y z least most p q r e f h = absurd (omega (arith, least))
spelled_three (w ∷ []) a b d x y z least most p q r e f h = absurd (omega (arith, least))
spelled_three (w ∷ v ∷ []) a b d x y z least most p q r e f h = absurd (omega (arith, least))
spelled_three (w ∷ v ∷ u ∷ []) a b d x y z least most p q r e f h = cc (p, q, r, e, f, h)
spelled_three (w ∷ v ∷ u ∷ t ∷ rest) a b d x y z least most p q r e f h = absurd (omega (arith, most))

pub spelled_five : (words : List (String Global)) (a b d e f : String Global) (x y z u v : List ℕ) → 5 ≤ length words → length words < 6 → a ≡ get_or words 0 a → b ≡ get_or words 1 b → d ≡ get_or words 2 d → e ≡ get_or words 3 e → f ≡ get_or words 4 f
    → x ≡ string_bytes a → y ≡ string_bytes b → z ≡ string_bytes d → u ≡ string_bytes e → v ≡ string_bytes f → map string_bytes words ≡ x ∷ y ∷ z ∷ u ∷ v ∷ []
spelled_five [] a b d e f x y z u v least most p q r s t h i j k l = absurd (omega (arith, least))
spelled_five (w1 ∷ []) a b d e f x y z u v least most p q r s t h i j k l = absurd (omega (arith, least))
spelled_five (w1 ∷ w2 ∷ []) a b d e f x y z u v least most p q r s t h i j k l = absurd (omega (arith, least))
spelled_five (w1 ∷ w2 ∷ w3 ∷ []) a b d e f x y z u v least most p q r s t h i j k l = absurd (omega (arith, least))
spelled_five (w1 ∷ w2 ∷ w3 ∷ w4 ∷ []) a b d e f x y z u v least most p q r s t h i j k l = absurd (omega (arith, least))
spelled_five (w1 ∷ w2 ∷ w3 ∷ w4 ∷ w5 ∷ []) a b d e f x y z u v least most p q r s t h i j k l = cc (p, q, r, s, t, h, i, j, k, l)
spelled_five (w1 ∷ w2 ∷ w3 ∷ w4 ∷ w5 ∷ w6 ∷ rest) a b d e f x y z u v least most p q r s t h i j k l = absurd (omega (arith, most))

-- the command that words ask for is the one that they are read as
pub asked_by : (words : List (String Global)) (c : Command) → Asks words c → command_of_words (map string_bytes words) ≡ Some c
asked_by words c is = ap command_of_words ((sound c).spelled words is) ∙ (sound c).read ((sound c).names words is)

-- so words ask for one
pub one_command : (words : List (String Global)) (a b : Command) → Asks words a → Asks words b → b ≡ a
one_command words a b p q = let same : Some b ≡ Some a = sym (asked_by words b q) ∙ asked_by words a p in cc same

pub under_command : (held : Option Files) (words : List (String Global)) (command : Command) (P : Files → Command → Type 0) → Asks words command
    → OfFilesRead command held (λ files. P files command) → (c : Command) → Asks words c → OfFilesRead c held (λ files. P files c)
under_command held words command P is h c other = subst (λ (z : Command). OfFilesRead z held (λ files. P files z)) (sym (one_command words command c is other)) h

-- the same of what is said of no files
pub under_asked : (words : List (String Global)) (command : Command) (Q : Command → Type 0) → Asks words command → Q command → (c : Command) → Asks words c → Q c
under_asked words command Q is h c other = subst Q (sym (one_command words command c is other)) h
