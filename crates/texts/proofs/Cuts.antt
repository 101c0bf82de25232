-- Lines, one by one.
use Rattle.std.proofs.Common.{◌≡◌, ℕ, ◌+◌, ◌<◌, Bool, true, false, List, [], ◌∷◌, length, take, drop, refl, ap, ◌∙◌, arith}
use Rattle.std.specs.List.{position_or_len, slice_split}
use Rattle.std.proofs.lemmas.Grind.{common_steps}
use Rattle.std.proofs.lemmas.List.Splits.{length-slice_split, slice_split_first}
use Rattle.texts.specs.Lines.{Ahead, is_feed, last_line, lines_from, lines_in, without_return}

abbrev pub place : ℕ → ℕ → List ℕ → Ahead
place number at bytes = record { number = number; at = at; bytes = bytes }

-- where no element passes, there is one part
pub whole : (p : ℕ → Bool) (xs : List ℕ) → position_or_len p xs ≡ length xs → slice_split p xs ≡ xs ∷ []
whole p [] h = refl
whole p (x ∷ xs) h = by (p x) refl (whole p xs)
  where
    by : (b : Bool) → p x ≡ b → (position_or_len p xs ≡ length xs → slice_split p xs ≡ xs ∷ []) → slice_split p (x ∷ xs) ≡ (x ∷ xs) ∷ []
    by true e more = absurd (let k : position_or_len p (x ∷ xs) ≡ 0 = rw e refl in omega (arith, h, k))
    by false e more =
        let k : position_or_len p (x ∷ xs) ≡ 1 + position_or_len p xs = rw e (omega arith) in
        let r : slice_split p xs ≡ xs ∷ [] = more (omega (arith, h, k)) in
        rw (e, r) refl

-- nothing ahead
pub none_ahead : (number at : ℕ) (bytes : List ℕ) → length bytes ≡ 0 → lines_from (place number at bytes) ≡ []
unfolding lines_from
none_ahead number at [] h = refl
none_ahead number at (b ∷ bytes) h = absurd (omega (arith, h))

-- a last line without a line feed
pub last_ahead : (number at to : ℕ) (bytes : List ℕ) → position_or_len is_feed bytes ≡ length bytes → 0 < length bytes → lines_from (place number at bytes) ≡ record { number = number; at = at; text = bytes } ∷ lines_from (place (number + 1) to [])
unfolding lines_from
last_ahead number at to bytes h some = ap (lines_in number at) (whole is_feed bytes h) ∙ one bytes some
  where
    one : (bytes : List ℕ) → 0 < length bytes → last_line number at bytes ≡ record { number = number; at = at; text = bytes } ∷ []
    one [] some = absurd (omega (arith, some))
    one (b ∷ bytes) some = refl

-- a part that others follow
part_ahead : (number at : ℕ) (part : List ℕ) (parts : List (List ℕ)) → 0 < length parts → lines_in number at (part ∷ parts) ≡ record { number = number; at = at; text = without_return part } ∷ lines_in (number + 1) (at + length part + 1) parts
part_ahead number at part [] some = absurd (omega (arith, some))
part_ahead number at part (next ∷ parts) some = refl

-- a line that a line feed ends
pub ended_ahead : (number at len : ℕ) (bytes : List ℕ) → len ≡ position_or_len is_feed bytes → len < length bytes → lines_from (place number at bytes) ≡ record { number = number; at = at; text = without_return (take len bytes) } ∷ lines_from (place (number + 1) (at + len + 1) (drop (len + 1) bytes))
unfolding lines_from
ended_ahead number at len bytes e below =
    let split : slice_split is_feed bytes ≡ take len bytes ∷ slice_split is_feed (drop (len + 1) bytes) = rw e (slice_split_first is_feed bytes 0 (rw e at below)) in
    let size : length (take len bytes) ≡ len = grind (arith, common_steps, below) in
    let some : 0 < length (slice_split is_feed (drop (len + 1) bytes)) = omega (arith, length-slice_split is_feed (drop (len + 1) bytes)) in
    ap (lines_in number at) split ∙ part_ahead number at (take len bytes) (slice_split is_feed (drop (len + 1) bytes)) some ∙ ap (λ (n : ℕ). record { number = number; at = at; text = without_return (take len bytes) } ∷ lines_in (number + 1) (at + n + 1) (slice_split is_feed (drop (len + 1) bytes))) size
