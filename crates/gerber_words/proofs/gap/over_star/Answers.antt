use Rattle.std.proofs.Common.{ℕ, not, cond, eqb, leb, ap, ◌∙◌, w8, arith}
use Rattle.std.proofs.lemmas.List.Sums.{prefix_len-le-length}
use Rattle.std.proofs.lemmas.Simd.{bitmask_splat, first_set_mask_l}
use lib.Count.{count_trailing_zeros}
use Rattle.gerber_words.proofs.gap.over_star.Goals as goal

pub returns-clause-value : goal.returns-clause-value
returns-clause-value c =
    let v = c.args.bytes.now in
    c.first_set.ensures
    ∙ ap (λ (m : ℕ). cond (eqb m 0) 16 (count_trailing_zeros 64 m)) (bitmask_splat w8 leb v 16 42 (omega arith) (omega arith))
    ∙ first_set_mask_l (λ (x : ℕ). leb x 42) v 16 (omega arith) (omega arith)

pub returns-clause-within : goal.returns-clause-within
returns-clause-within c = omega (arith, returns-clause-value c, prefix_len-le-length (λ (x : ℕ). not (leb x 42)) c.args.bytes.now)
