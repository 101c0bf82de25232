-- The test of a text says whether it is one.
use Rattle.std.proofs.Common.{◌≡◌, ℕ, nat_le, Bool, true, false, ◌&&◌, List, length, All, IsTrue, ◌↔◌, refl, sym, ◌∙◌}
use Rattle.std.proofs.lemmas.Bool.{le-leb, leb-true}
use Rattle.std.proofs.lemmas.List.Elements.{All-weaker}
use Rattle.std.proofs.lemmas.List.Sums.{list_all-from_AllPass, AllPass-from_list_all}
use Rattle.std.specs.List.{list_all}
use Rattle.lengths.specs.Text.{IsText, IsPrintable, is_text}
use Rattle.lengths.specs.declared.TheConstants.{MOST_NAME_BYTES}

abbrev is_seen : ℕ → Bool
is_seen b = nat_le 32 b && nat_le b 126

both : (x y : Bool) → (x && y) ≡ true → (x ≡ true) × (y ≡ true)
both true y e = (refl, e)
both false y e = cc

seen : (b : ℕ) → IsPrintable b → is_seen b ≡ true
seen b p = rw (le-leb 32 b p.low, le-leb b 126 p.high) refl

printable : (b : ℕ) → is_seen b ≡ true → IsPrintable b
printable b e = let h = both (nat_le 32 b) (nat_le b 126) e in record { low = leb-true 32 b h.0; high = leb-true b 126 h.1 }

pub is_text-from_IsText : (t : List ℕ) → IsText t → is_text t ≡ true
is_text-from_IsText t h =
    let all : list_all is_seen t ≡ true = list_all-from_AllPass is_seen t (All-weaker IsPrintable (λ b. is_seen b ≡ true) seen t h.printable) in
    rw (le-leb 1 (length t) h.some, le-leb (length t) MOST_NAME_BYTES h.short, all) refl

pub IsText-from_is_text : (t : List ℕ) → is_text t ≡ true → IsText t
IsText-from_is_text t e =
    let a = both (nat_le 1 (length t)) (nat_le (length t) MOST_NAME_BYTES && list_all is_seen t) e in
    let b = both (nat_le (length t) MOST_NAME_BYTES) (list_all is_seen t) a.1 in
    let all : All IsPrintable t = All-weaker (λ b. is_seen b ≡ true) IsPrintable printable t (AllPass-from_list_all is_seen t b.1) in
    record { some = leb-true 1 (length t) a.0; short = leb-true (length t) MOST_NAME_BYTES b.0; printable = all }

-- an answer that the test gives
pub tells_text : (t : List ℕ) (b : Bool) → b ≡ is_text t → IsTrue b ↔ IsText t
tells_text t b e = (λ x. IsText-from_is_text t (sym e ∙ x), λ h. e ∙ is_text-from_IsText t h)
