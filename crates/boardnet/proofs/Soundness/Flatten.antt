-- That what is told of the command `flatten` is sound.
use Rattle.std.proofs.Common.{◌≡◌, ◌≤◌, ℕ, List, Option, Some, None, IfSome, String, refl, subst, ◌⊎◌, sym, ◌∙◌}
use Rattle.std.specs.declared.alloc.Global.{Global}
use Rattle.board_io.specs.Handed.{AgreeWith, Handed}
use Rattle.board_io.specs.Package.{Files}
use Rattle.board_package.specs.HandedLaw.{HandedIsHeld, HoldsWhatWasHanded}
use Rattle.board_package.specs.PackageBoard.{IsHeld, Stop, StopsTaking}
use Rattle.board_shapes.specs.Pieces.{PlainPiece}
use Rattle.boardnet.proofs.Audits.{no_stop_taking, one_file}
use Rattle.boardnet.proofs.Named.{Completes}
use Rattle.boardnet.proofs.Alike.{one_taking}
use Rattle.boardnet.proofs.Sound.{OneOutcome, Sound, HoldsHanded}
use Rattle.boardnet.specs.Outcome.{HandedOver, Held, OfFilesRead}
use Rattle.boardnet.specs.commands.Flatten.{FlattenRefuses, IsUnflat}
use Rattle.boardnet.specs.Words.{Asks, Command, Flatten, IsFlatten}
use Rattle.boardnet.specs.declared.answer.Unanswered.{Unanswered}
use Rattle.boardnet.specs.declared.answer.Unanswered.TheVariants.{Unflat}
use Rattle.gerber_layer.specs.MacroLayer.{IsReadWithMacros, IsRefusedWithMacros}
use Rattle.gerber_layer.specs.declared.macro_kind.FlattenKind.{FlattenKind}

both : OneOutcome → (kind : FlattenKind) (number byte : ℕ) (bytes other : List ℕ) (pieces : List PlainPiece) → other ≡ bytes → IsReadWithMacros other pieces → IsRefusedWithMacros bytes kind number byte → ⊥
both law kind number byte bytes other pieces same read stop = (law.flat bytes).not_both pieces kind number byte (subst (λ (z : List ℕ). IsReadWithMacros z pieces) same read) stop

same_unflat : (kind other : FlattenKind) (number n byte b : ℕ) → kind ≡ other → number ≡ n → byte ≡ b → Unflat kind number byte ≡ Unflat other n b
same_unflat kind other number n byte b p q r = rw (p, q, r) refl

one_unflat : OneOutcome → (f : Files) (file : List ℕ) (why other : Unanswered) → FlattenRefuses (Held f) file why → FlattenRefuses (Held f) file other → why ≡ other
one_unflat law f file (Unflat kind number byte) (Unflat k n b) x y =
    let same : x.bytes ≡ y.bytes = one_file f file x.bytes y.bytes x.file.held y.file.held in
    let fault = (law.flat x.bytes).one_fault kind k number n byte b x.refused (rw same y.refused) in
    same_unflat kind k number n byte b fault.0 fault.1 fault.2
one_unflat law f file (Unflat kind number byte) other x y = absurd y
one_unflat law f file why other x y = absurd x

stop_or_unflat : (f : Files) (file : List ℕ) (stop : Stop) (why : Unanswered) → StopsTaking f file stop → FlattenRefuses (Held f) file why → ⊥
stop_or_unflat f file stop (Unflat kind number byte) s m = no_stop_taking f file m.bytes stop m.file s
stop_or_unflat f file stop other s m = absurd m

no_flat_text : OneOutcome → (f : Files) (file : List ℕ) (why : Unanswered) → FlattenRefuses (Held f) file why → (bytes : List ℕ) → IsHeld f file bytes → (pieces : List PlainPiece) → IsReadWithMacros bytes pieces → ⊥
no_flat_text law f file (Unflat kind number byte) m bytes held pieces read = both law kind number byte m.bytes bytes pieces (one_file f file bytes m.bytes held.held m.file.held) read m.refused
no_flat_text law f file other m bytes held pieces read = absurd m

held_unflat : (f : Files) (a b : List Handed) (file : List ℕ) (kind : FlattenKind) (number byte : ℕ) → HoldsWhatWasHanded f a b file → IsUnflat (HandedOver a b) file kind number byte → IsUnflat (Held f) file kind number byte
held_unflat f a b file kind number byte h x = record { bytes = x.bytes; file = h.held x.bytes x.file; refused = x.refused }

held_refusal : (f : Files) (a b : List Handed) (file : List ℕ) → HoldsWhatWasHanded f a b file → (why : Unanswered) → FlattenRefuses (HandedOver a b) file why → FlattenRefuses (Held f) file why
held_refusal f a b file h (Unflat kind number byte) x = held_unflat f a b file kind number byte h x
held_refusal f a b file h other x = absurd x

agreed_flatten : HandedIsHeld → (file : List ℕ) (held : Option Files) (a b : List Handed) → IfSome held (λ f. AgreeWith f a b) → HoldsHanded (Flatten file) held a b
agreed_flatten law file None a b w = record { answers = λ text status line x. tt; stops = λ stop s. tt; comes = λ name s. tt; refuses = λ why x. tt }
agreed_flatten law file (Some f) a b w = let h = law.holds f a b file w in record {
  answers = λ text status line x. record { bytes = x.bytes; file = h.held x.bytes x.file; flattened = x.flattened; reads = x.reads; status_is = x.status_is; line_is = x.line_is };
  stops = λ stop s. h.untaken stop s;
  comes = λ name s. s.0;
  refuses = λ why x. held_refusal f a b file h why x;
}

pub sound_flatten : (file : List ℕ) → Sound (Flatten file)
sound_flatten file = record {
  spelled = λ words is. is.spelled;
  names = λ words is. is.text;
  asks = λ words e fits. record { spelled = e; text = fits };
  read = λ fits. refl;
  text_of = λ f text status line x. (x.bytes, x.file, x.flattened.pieces, x.flattened.image);
  no_text = λ law f stop s t. no_stop_taking f file t.0 stop t.1 s;
  no_refused_text = λ law f why m t. no_flat_text law f file why m t.0 t.1 t.2 t.3;
  one_answer = λ law f text said s t l k x y. (x.status_is ∙ sym y.status_is, x.line_is ∙ sym y.line_is);
  one_stop = λ law f stop other x y. one_taking f file stop other x y;
  one_reason = λ law f why other x y. one_unflat law f file why other x y;
  stop_or_reason = λ law f stop why s m. stop_or_unflat f file stop why s m;
  takes_what_comes = λ f name comes. tt;
  agrees = λ law held a b w. agreed_flatten law.listed file held a b w;
}

-- What `run` says of it, by its words.
pub of_flatten : (held : Option Files) (words : List (String Global)) (P : Files → Command → Type 0) → ((c : Command) → Asks words c → OfFilesRead c held (λ files. P files c))
    → IfSome held (λ files. (name : List ℕ) → IsFlatten words name → P files (Flatten name))
of_flatten None words P h = tt
of_flatten (Some files) words P h = λ name is. h (Flatten name) is

pub rewritten_named : (held : Option Files) (words : List (String Global)) (A B : Type 0) (status : ℕ) → Completes held words A B status
    → IfSome held (λ files. (name : List ℕ) → IsFlatten words name → (bytes : List ℕ) → IsHeld files name bytes → (pieces : List PlainPiece) → IsReadWithMacros bytes pieces → (A → ⊥) → (B → ⊥) → (status ≤ 1) ⊎ (status ≡ 6))
rewritten_named None words A B status h = tt
rewritten_named (Some files) words A B status h = λ name is bytes held pieces read calm quiet. h (Flatten name) is (bytes, held, pieces, read) (λ takes. calm) quiet
