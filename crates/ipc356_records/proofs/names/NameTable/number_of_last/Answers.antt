use Rattle.std.proofs.Common.{◌≡◌, ◌++◌, ◌∷◌, ◌∙◌, ap, nat_eq, subst, sym, true, ℕ, [], List, Bor}
use Rattle.std.specs.Cmp.Lexicographic.{on_texts_equal, pointwise}
use Rattle.std.specs.List.{IsDistinct, position_or_len}
use Rattle.std.specs.Ordering.{on}
use Rattle.ipc356_records.proofs.NameLemmas.{index-map, last_index}
use Rattle.ipc356_records.specs.Names.{is_name}
use Rattle.ipc356_records.proofs.names.NameTable.number_of_last.Goals as goal

pub returns-then-is_word-clause-index : goal.returns-then-is_word-clause-index
returns-then-is_word-clause-index c =
    let keys : c.args.self.now.names.keys ≡ c.in_ok-last.before.now ++ c.in_ok-last.last.now ∷ [] = sym c.as_slice.ensures.keys ∙ c.in_ok-last.ensures.cases.0 in
    let same : is_name c.args.name.now c.in_ok-last.last.now.now ≡ true = sym c.is_word.ensures ∙ c.if-is_word.true in
    sym (last_index (on_texts_equal (λ (r : Bor (List ℕ)). r.now)) c.in_ok-last.before.now c.in_ok-last.last.now c.args.name (subst (λ (xs : List (Bor (List ℕ))). IsDistinct (on (λ (r : Bor (List ℕ)). r.now) (pointwise nat_eq)) xs) keys c.as_slice.ensures.unique) same)
    ∙ ap (λ xs. position_or_len (λ x. is_name c.args.name.now x.now) xs) (sym keys)
    ∙ index-map (λ r. r.now) c.args.name c.args.self.now.names.keys
