-- Names of files.
use Rattle.std.proofs.Common.{◌≡◌, ℕ, Bool, true, false, List, Some, None, cond, refl, ap, ◌∙◌}
use Rattle.lengths.proofs.Texts.{is_text-from_IsText, IsText-from_is_text}
use Rattle.lengths.specs.Text.{IsText, is_text}
use Rattle.serde_json.specs.Data.{Data}
use Rattle.serde_json.specs.Find.{as_str}
use Rattle.board_package.specs.Manifest.{lawful_name, name_of}

is_text-false : (t : List ℕ) → (IsText t → ⊥) → is_text t ≡ false
is_text-false t other = by (is_text t) refl
  where
    by : (b : Bool) → is_text t ≡ b → is_text t ≡ false
    by false e = e
    by true e = absurd (other (IsText-from_is_text t e))

lawful : (t : List ℕ) → IsText t → lawful_name t ≡ Some t
lawful t h = ap (λ (b : Bool). cond b (Some t) None) (is_text-from_IsText t h)

unlawful : (t : List ℕ) → (IsText t → ⊥) → lawful_name t ≡ None
unlawful t h = ap (λ (b : Bool). cond b (Some t) None) (is_text-false t h)

-- a text that is lawful is the name that a value is
pub name_found : (value : Data) (text bytes name : List ℕ) → Some text ≡ as_str value → bytes ≡ text → name ≡ bytes → IsText name → name_of value ≡ Some name
name_found value text bytes name found a b h =
    let same : name ≡ text = b ∙ a in
    rw (← found, ← same) (lawful name h)

-- a text that is not lawful is no name
pub name_missed : (value : Data) (text bytes : List ℕ) → Some text ≡ as_str value → bytes ≡ text → (IsText bytes → ⊥) → name_of value ≡ None
name_missed value text bytes found a h = rw (← found, ← a) (unlawful bytes h)
