-- The loop that looks for an edge: what holds of some edge, as far as it has come.
use Rattle.std.proofs.Common.{ℕ, ◌+◌, ◌≤◌, ◌<◌, Bool, true, false, IsTrue, List, [], ◌∷◌, length, get_or, drop, ◌≡◌, ◌↔◌, ◌⊎◌, inl, inr, refl, sym, subst, add-one}
use Rattle.std.proofs.Math.Seq.{drop-cons}
use Rattle.std.proofs.lemmas.List.{drop_all}
use Rattle.planar.specs.declared.Spot.{Spot}
use Rattle.area_contact.specs.declared.Edge.{Edge}
use Rattle.area_contact.specs.Contour.{SomeEdge}
use Rattle.area_contact.specs.Bands.{edge_at, edges_at}

module _ (P : Edge → Type 0) (points : List Spot) (numbers : List ℕ) (i : ℕ) where
  split : i < length numbers → SomeEdge P (edges_at points (drop i numbers)) ↔ (P (edge_at points (get_or numbers i 0)) ⊎ SomeEdge P (edges_at points (drop (i + 1) numbers)))
  split h =
      let e : drop i numbers ≡ get_or numbers i 0 ∷ drop (i + 1) numbers = rw (add-one, drop-cons numbers i 0) in
      (λ k. subst (λ (l : List ℕ). SomeEdge P (edges_at points l)) e k, λ k. subst (λ (l : List ℕ). SomeEdge P (edges_at points l)) (sym e) k)

  pub found : {t : Bool} → i < length numbers → IsTrue t ↔ P (edge_at points (get_or numbers i 0)) → t ≡ true → SomeEdge P (edges_at points numbers) ↔ SomeEdge P (edges_at points (drop i numbers)) → IsTrue true ↔ SomeEdge P (edges_at points numbers)
  found {t} h f e w = (λ k. w.1 ((split h).1 (inl (f.0 e))), λ k. refl)

  pub past : {t : Bool} → i < length numbers → IsTrue t ↔ P (edge_at points (get_or numbers i 0)) → t ≡ false → SomeEdge P (edges_at points numbers) ↔ SomeEdge P (edges_at points (drop i numbers)) → SomeEdge P (edges_at points numbers) ↔ SomeEdge P (edges_at points (drop (i + 1) numbers))
  past {t} h f e w = (λ k. later ((split h).0 (w.0 k)), λ k. w.1 ((split h).1 (inr k)))
    where
      later : P (edge_at points (get_or numbers i 0)) ⊎ SomeEdge P (edges_at points (drop (i + 1) numbers)) → SomeEdge P (edges_at points (drop (i + 1) numbers))
      later (inl k) = let l : t ≡ true = f.1 k in cc
      later (inr k) = k

  pub nowhere : length numbers ≤ i → SomeEdge P (edges_at points numbers) ↔ SomeEdge P (edges_at points (drop i numbers)) → IsTrue false ↔ SomeEdge P (edges_at points numbers)
  nowhere h w =
      let e : drop i numbers ≡ [] = drop_all i numbers h in
      (λ k. absurd cc, λ k. absurd (subst (λ (l : List ℕ). SomeEdge P (edges_at points l)) e (w.0 k)))
