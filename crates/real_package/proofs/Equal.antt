-- What `==` of names and of test points says.
use Rattle.std.proofs.Common.{◌≡◌, ℕ, ◌==◌, ◌&&◌, Bool, IsTrue, List, refl, sym, ap, ◌∙◌}
use Rattle.std.specs.Bool.{Decides}
use Rattle.std.specs.Cmp.Lexicographic.{pointwise}
use Rattle.std.proofs.lemmas.Bool.Decides.{Decides-and, Decides-eqb, Decides-like}
use Rattle.std.proofs.lemmas.Slice.Eq.{slice_eq-Decides}
use Rattle.board_shapes.specs.declared.probe.Probe.{Probe}
use Rattle.planar.specs.Plane.{same_spot}
use Rattle.planar.specs.declared.Spot.{Spot}
use Rattle.planar.proofs.Spots.{spot_decides}

pub name_decides : (a b : List ℕ) → Decides (pointwise ◌==◌ a b) (a ≡ b)
name_decides a b = slice_eq-Decides Decides-eqb a b (pointwise ◌==◌ a b) refl

abbrev probe_from : ℕ → Spot → ℕ → ℕ → Probe
probe_from number at layer name = record { number = number; at = at; layer = layer; name = name }

pub probe_decides : (a b : Probe) → Decides ((a.number == b.number) && (same_spot a.at b.at && ((a.layer == b.layer) && (a.name == b.name)))) (a ≡ b)
probe_decides a b =
    Decides-like ((a.number == b.number) && (same_spot a.at b.at && ((a.layer == b.layer) && (a.name == b.name))))
    (λ e. ap (λ (n : ℕ). probe_from n a.at a.layer a.name) e.0 ∙ (ap (λ (s : Spot). probe_from b.number s a.layer a.name) e.1.0 ∙ (ap (λ (l : ℕ). probe_from b.number b.at l a.name) e.1.1.0 ∙ ap (λ (n : ℕ). probe_from b.number b.at b.layer n) e.1.1.1)))
    (λ e. (ap (λ (p : Probe). p.number) e, (ap (λ (p : Probe). p.at) e, (ap (λ (p : Probe). p.layer) e, ap (λ (p : Probe). p.name) e))))
    (Decides-and (a.number == b.number) _ (Decides-eqb a.number b.number) (Decides-and (same_spot a.at b.at) _ (spot_decides a.at b.at) (Decides-and (a.layer == b.layer) (a.name == b.name) (Decides-eqb a.layer b.layer) (Decides-eqb a.name b.name))))

pub decided : {A : Type 0} (r : Bool) (xs ys ps qs : List A) → xs ≡ ps → ys ≡ qs → Decides r (xs ≡ ys) → (IsTrue r → ps ≡ qs) × (ps ≡ qs → IsTrue r)
decided r xs ys ps qs p q d = (λ yes. sym p ∙ (d.0 yes ∙ q), λ e. d.1 (p ∙ (e ∙ sym q)))
