-- Lists put end to end, and what holds of each of their pieces.
use Rattle.std.proofs.Common.{◌≡◌, ℕ, ◌+◌, ◌*◌, ◌<◌, ◌≤◌, suc, zero, Bool, true, false, ◌&&◌, nat_lt, ◌⊎◌, inl, inr, cond, List, [], ◌∷◌, ◌++◌, length, map, Some, None, Ok, Err, length-append, refl, sym, ap, ◌∙◌, subst, pos, ◌*ℤ◌, arith, append_assoc, append-nil}
use Rattle.std.specs.List.{flat_map, range_with_len}
use Rattle.std.proofs.lemmas.List.{length-map}
use Rattle.std.proofs.lemmas.List.Folds.{list_all-append}
use Rattle.std.proofs.Math.Nat.{mul_assoc}
use Rattle.board_shapes.specs.Pieces.{PieceOf}
use Rattle.board_shapes.specs.declared.placed.Placed.{Placed}
use Rattle.board_shapes.specs.declared.placed.Room.{Room}
use Rattle.std.proofs.Math.Nat.{eq-or-lt_of_le}
use borrow.Author.Tests.{le-ltb, ltb-false}
use Rattle.step_repeat.specs.Copies.{are_placed, block_at, column_of, copies_by, copies_of, edges_by, piece_by, pieces_by, shifted_piece, placed_copies, room_fault, too_many_pieces, too_many_edges, out_of_range}
use Rattle.step_repeat.specs.Figures.{Handling}
use Rattle.step_repeat.specs.declared.repeat.Repeat.{Repeat}

-- one more list at the end
ranged : {A : Type 0} (f : ℕ → List A) (a n m : ℕ) → a + n ≡ m → flat_map f (range_with_len a (suc n)) ≡ flat_map f (range_with_len a n) ++ f m
ranged f a zero m e = (let same : a ≡ m = omega arith in rw same (append-nil (f m)))
ranged f a (suc n) m e =
    ap (λ xs. f a ++ xs) (ranged f (a + 1) n m (omega arith)) ∙ sym (append_assoc (f a) (flat_map f (range_with_len (a + 1) n)) (f m))

pub one_more : {A : Type 0} (f : ℕ → List A) (n : ℕ) → flat_map f (range_with_len 0 (n + 1)) ≡ flat_map f (range_with_len 0 n) ++ f n
one_more f n = ap (λ (k : ℕ). flat_map f (range_with_len 0 k)) (let e : n + 1 ≡ suc n = omega arith in e) ∙ ranged f 0 n n (omega arith)

pub listed_more : {A : Type 0} (f : ℕ → List A) (n : ℕ) (old before now : List A) → before ≡ old ++ flat_map f (range_with_len 0 n) → now ≡ before ++ f n → now ≡ old ++ flat_map f (range_with_len 0 (n + 1))
listed_more f n old before now h k = k ∙ ap (λ xs. xs ++ f n) h ∙ append_assoc old (flat_map f (range_with_len 0 n)) (f n) ∙ ap (λ xs. old ++ xs) (sym (one_more f n))

pub placed_more : {G : Type 0} (h0 : Handling G) (f : ℕ → List (PieceOf G)) (n : ℕ) → are_placed h0 (flat_map f (range_with_len 0 n)) ≡ true → are_placed h0 (f n) ≡ true → are_placed h0 (flat_map f (range_with_len 0 (n + 1))) ≡ true
placed_more h0 f n h k = ap (are_placed h0) (one_more f n) ∙ list_all-append _ (flat_map f (range_with_len 0 n)) (f n) ∙ rw (h, k) refl

false_first : (a b : Bool) → a ≡ false → (a && b) ≡ false
false_first a b h = rw h refl

false_second : (a b : Bool) → b ≡ false → (a && b) ≡ false
false_second true b h = h
false_second false b h = refl

pub leaves_list : {G : Type 0} (h0 : Handling G) (f : ℕ → List (PieceOf G)) (n m : ℕ) → n < m → are_placed h0 (f n) ≡ false → are_placed h0 (flat_map f (range_with_len 0 m)) ≡ false
leaves_list h0 f n zero below h = absurd (omega arith)
leaves_list h0 f n (suc m) below h =
    ap (are_placed h0) (ranged f 0 m m (omega arith)) ∙ list_all-append _ (flat_map f (range_with_len 0 m)) (f m) ∙ by (leaves_list h0 f n m) (eq-or-lt_of_le (let le : n ≤ m = omega arith in le))
  where
    by : (n < m → are_placed h0 (f n) ≡ false → are_placed h0 (flat_map f (range_with_len 0 m)) ≡ false) → (n ≡ m) ⊎ (n < m) → (are_placed h0 (flat_map f (range_with_len 0 m)) && are_placed h0 (f m)) ≡ false
    by before (inl e) = false_second _ _ (subst (λ (k : ℕ). are_placed h0 (f k) ≡ false) e h)
    by before (inr less) = false_first _ _ (before less h)

-- where nothing is put end to end
pub no_lists : {A : Type 0} (f : ℕ → List A) (a n : ℕ) → ((k : ℕ) → f k ≡ []) → flat_map f (range_with_len a n) ≡ []
no_lists f a zero h = refl
no_lists f a (suc n) h = rw (h a) (no_lists f (a + 1) n h)

map_none : {A B : Type 0} (f : A → B) (xs : List A) → length xs ≡ 0 → map f xs ≡ []
map_none f [] h = refl
map_none f (x ∷ xs) h = absurd (omega arith)

-- an empty block has no copies, and no fault
pub no_copies : {F G : Type 0} (plain : F → G) (h0 : Handling G) (r : Repeat) (room : Room) (block made : List (Placed F)) → length block ≡ 0 → length made ≡ 0 → copies_by h0 r room (pieces_by plain block) ≡ Ok (pieces_by plain made)
unfolding copies_by copies_of room_fault
no_copies plain h0 r room block made h k =
    let none : pieces_by plain block ≡ [] = map_none (piece_by plain) block h in
    let empty : pieces_by plain made ≡ [] = map_none (piece_by plain) made k in
    let column : (k : ℕ) → column_of h0 r [] k ≡ [] = λ k. no_lists (block_at h0 r [] k) 0 r.up (λ j. refl) in
    let all : flat_map (column_of h0 r []) (range_with_len 0 r.across) ≡ [] = no_lists (column_of h0 r []) 0 r.across column in
    let product : r.across * r.up * 0 ≡ 0 = omega arith in
    let pieces : nat_lt room.pieces 0 ≡ false = le-ltb _ _ (omega arith) in
    let edges : nat_lt room.edges 0 ≡ false = le-ltb _ _ (omega arith) in
    rw (none, empty, all, product, pieces, edges) refl

pub no_room_fault : {F G : Type 0} (plain : F → G) (h0 : Handling G) (r : Repeat) (room : Room) (block : List (Placed F)) → length block ≡ 0 → room_fault h0 r room (pieces_by plain block) ≡ None
unfolding room_fault
no_room_fault plain h0 r room block h =
    let none : pieces_by plain block ≡ [] = map_none (piece_by plain) block h in
    let product : r.across * r.up * 0 ≡ 0 = omega arith in
    let pieces : nat_lt room.pieces 0 ≡ false = le-ltb _ _ (omega arith) in
    let edges : nat_lt room.edges 0 ≡ false = le-ltb _ _ (omega arith) in
    rw (none, product, pieces, edges) refl

-- how long lists are that are put end to end
length_joined : {A : Type 0} (f : ℕ → List A) (a n size : ℕ) → ((k : ℕ) → length (f k) ≡ size) → length (flat_map f (range_with_len a n)) ≡ n * size
length_joined f a zero size h = omega arith
length_joined f a (suc n) size h =
    let first : length (f a) ≡ size = h a in
    let more : length (flat_map f (range_with_len (a + 1) n)) ≡ n * size = length_joined f (a + 1) n size h in
    let all : length (f a ++ flat_map f (range_with_len (a + 1) n)) ≡ length (f a) + length (flat_map f (range_with_len (a + 1) n)) = length-append (f a) (flat_map f (range_with_len (a + 1) n)) in
    all ∙ rw (first, more) (grind arith)

length_copies : {G : Type 0} (h0 : Handling G) (r : Repeat) (block : List (PieceOf G)) → length (copies_of h0 r block) ≡ r.across * r.up * length block
unfolding copies_of
length_copies h0 r block =
    let column : (k : ℕ) → length (column_of h0 r block k) ≡ r.up * length block = λ k. length_joined (block_at h0 r block k) 0 r.up (length block) (λ j. length-map block (shifted_piece h0 (pos k *ℤ r.dx) (pos j *ℤ r.dy) (k * r.up + j))) in
    length_joined (column_of h0 r block) 0 r.across (r.up * length block) column ∙ sym (mul_assoc r.across r.up (length block))

-- copies have room
pub few : {F G : Type 0} (plain : F → G) (h0 : Handling G) (r : Repeat) (room : Room) (block : List (PieceOf G)) (made : List (Placed F)) → copies_by h0 r room block ≡ Ok (pieces_by plain made) → length made ≤ room.pieces
unfolding copies_by room_fault
few plain h0 r room block made h = by (nat_lt room.pieces (r.across * r.up * length block)) (nat_lt room.edges (r.across * r.up * edges_by h0 block)) refl h
  where
    by : (p e : Bool) → nat_lt room.pieces (r.across * r.up * length block) ≡ p → placed_copies h0 (copies_of h0 r block) (cond p (Some too_many_pieces) (cond e (Some too_many_edges) None)) ≡ Ok (pieces_by plain made) → length made ≤ room.pieces
    by true e test h = cc
    by false true test h = cc
    by false false test h = kept (are_placed h0 (copies_of h0 r block)) h
      where
        kept : (b : Bool) → cond b (Ok (copies_of h0 r block)) (Err out_of_range) ≡ Ok (pieces_by plain made) → length made ≤ room.pieces
        kept false h = cc
        kept true h =
            let same : copies_of h0 r block ≡ pieces_by plain made = cc in
            let size : length made ≡ r.across * r.up * length block = sym (length-map made (piece_by plain)) ∙ ap length (sym same) ∙ length_copies h0 r block in
            let within : r.across * r.up * length block ≤ room.pieces = ltb-false _ _ test in
            omega arith
