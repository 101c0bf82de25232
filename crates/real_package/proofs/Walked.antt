-- The files of a package, one after another, of which none is left out.
use Rattle.std.proofs.Common.{◌≡◌, ℕ, ◌+◌, ◌<◌, Bool, true, List, [], ◌∷◌, length, take, get_or, inl, refl, sym, ap, subst}
use Rattle.std.specs.List.{filter}
use Rattle.board_package.specs.PackageBoard.{AtOneBy, WalksBy}
use Rattle.board_package.specs.declared.entry.Entry.{Entry}
use Rattle.board_package.proofs.Walking.{passing_at_one, passing_walk_more}

abbrev each : Entry → Bool
each e = true

all_of : (entries : List Entry) → filter each entries ≡ entries
all_of [] = refl
all_of (e ∷ rest) = ap (λ (xs : List Entry). e ∷ xs) (all_of rest)

-- one step more
pub walk_more : {S : Type 0} (Step : Entry → S → S → Type 0) (entries : List Entry) (i : ℕ) (e : Entry) (start mid end : S) → i < length entries → e ≡ get_or entries i e → WalksBy Step (take i entries) start mid → Step e mid end → WalksBy Step (take (i + 1) entries) start end
walk_more Step entries i e start mid end below here w v =
    subst (λ xs. WalksBy Step xs start end) (all_of (take (i + 1) entries))
    (passing_walk_more Step each entries i e start mid end below here (subst (λ xs. WalksBy Step xs start mid) (sym (all_of (take i entries))) w) (end, v, refl))

-- P holds at the file behind a walk
pub at_next : {S : Type 0} (Step : Entry → S → S → Type 0) (entries : List Entry) (i : ℕ) (e : Entry) (start mid : S) (P : Entry → S → Type 0) → i < length entries → e ≡ get_or entries i e → WalksBy Step (take i entries) start mid → P e mid → AtOneBy Step entries start P
at_next Step entries i e start mid P below here w h =
    subst (λ xs. AtOneBy Step xs start P) (all_of entries)
    (passing_at_one Step each entries i e start mid P below here (subst (λ xs. WalksBy Step xs start mid) (sym (all_of (take i entries))) w) (inl h))
