-- The edges of pieces.
use Rattle.std.proofs.Common.{◌≡◌, ℕ, ◌+◌, ◌-◌, ◌*◌, ◌≤◌, List, [], ◌∷◌, ◌++◌, length, take, drop, length-drop, sym, ap, ◌∙◌, arith}
use Rattle.std.proofs.Math.Nat.{mul-suc}
use Rattle.std.proofs.Math.Seq.{take-length}
use Rattle.std.proofs.lemmas.List.{drop-map, length-take-le, map-append}
use Rattle.std.specs.List.{take-map}
use Rattle.std.proofs.lemmas.List.Sums.{sum_by-append, sum_by-cons, sum_by-take-drop}
use Rattle.board_shapes.specs.Pieces.{PieceOf}
use Rattle.board_shapes.specs.declared.placed.Placed.{Placed}
use Rattle.step_repeat.specs.Copies.{edges_by, piece_by, pieces_by}
use Rattle.step_repeat.specs.Figures.{Handling}

-- fewer than 2^32 of each
pub edges_few : {F G : Type 0} (plain : F → G) (h : Handling G) → ((f : F) → h.edges (plain f) ≤ 4294967295) → (pieces : List (Placed F)) → edges_by h (pieces_by plain pieces) ≤ 4294967295 * length pieces
edges_few plain h few [] = omega arith
edges_few plain h few (p ∷ pieces) =
    let more : edges_by h (pieces_by plain pieces) ≤ 4294967295 * length pieces = edges_few plain h few pieces in
    let first : h.edges (plain p.shape) ≤ 4294967295 = few p.shape in
    let sum : edges_by h (pieces_by plain (p ∷ pieces)) ≡ h.edges (plain p.shape) + edges_by h (pieces_by plain pieces) = sum_by-cons (λ (q : PieceOf _). h.edges q.figure) (piece_by plain p) (pieces_by plain pieces) in
    omega (arith, mul-suc 4294967295 (length pieces))

-- fewer than 2^32 of each before a place
pub edges_before_few : {F G : Type 0} (plain : F → G) (h : Handling G) → ((f : F) → h.edges (plain f) ≤ 4294967295) → (pieces : List (Placed F)) (i : ℕ) → i ≤ length pieces → edges_by h (take i (pieces_by plain pieces)) ≤ 4294967295 * i
edges_before_few plain h few pieces i within =
    let most : edges_by h (pieces_by plain (take i pieces)) ≤ 4294967295 * length (take i pieces) = edges_few plain h few (take i pieces) in
    let size = length-take-le i pieces within in
    let same : edges_by h (take i (pieces_by plain pieces)) ≡ edges_by h (pieces_by plain (take i pieces)) = ap (edges_by h) (take-map (piece_by plain) i pieces) in
    omega (arith, most, size, same)

-- those of the pieces before a place, and of the others
pub edges_split : {G : Type 0} (h : Handling G) (pieces : List (PieceOf G)) (i : ℕ) → edges_by h (take i pieces) + edges_by h (drop i pieces) ≡ edges_by h pieces
edges_split h pieces i = sum_by-take-drop (λ (q : PieceOf _). h.edges q.figure) pieces i

rest_is : {F : Type 0} (pieces : List (Placed F)) (i : ℕ) → take (length pieces - i) (drop i pieces) ≡ drop i pieces
rest_is pieces i = ap (λ (n : ℕ). take n (drop i pieces)) (sym (length-drop i pieces)) ∙ take-length (drop i pieces)

-- the pieces from a place on, as a slice of them
pub plain_rest : {F G : Type 0} (plain : F → G) (pieces : List (Placed F)) (i : ℕ) → pieces_by plain (take (length pieces - i) (drop i pieces)) ≡ drop i (pieces_by plain pieces)
plain_rest plain pieces i = ap (pieces_by plain) (rest_is pieces i) ∙ sym (drop-map (piece_by plain) i pieces)

pub rest_few : {F : Type 0} (pieces : List (Placed F)) (i : ℕ) → length (take (length pieces - i) (drop i pieces)) ≤ length pieces
rest_few pieces i = rw (rest_is pieces i) (omega (arith, length-drop i pieces))

-- the pieces before a place, and others behind them
pub plain_after : {F G : Type 0} (plain : F → G) (pieces others : List (Placed F)) (i : ℕ) → pieces_by plain (take i pieces ++ others) ≡ take i (pieces_by plain pieces) ++ pieces_by plain others
plain_after plain pieces others i = map-append (piece_by plain) (take i pieces) others ∙ ap (λ (xs : List (PieceOf _)). xs ++ pieces_by plain others) (sym (take-map (piece_by plain) i pieces))

pub edges_after : {G : Type 0} (h : Handling G) (before after : List (PieceOf G)) → edges_by h (before ++ after) ≡ edges_by h before + edges_by h after
edges_after h before after = sum_by-append (λ (q : PieceOf _). h.edges q.figure) before after
