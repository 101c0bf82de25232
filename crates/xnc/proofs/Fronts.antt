-- A text is as long as what it begins with.
use Rattle.std.proofs.Common.{◌≡◌, ◌≤◌, ℕ, Bool, true, List, length, drop, refl, ap, arith, ◌∙◌, sym}
use Rattle.std.proofs.lemmas.Bool.Decides.{Decides-eqb}
use Rattle.std.proofs.lemmas.List.{length-append}
use Rattle.std.proofs.lemmas.Slice.Eq.{starts_is}
use Rattle.texts.specs.Words.{begins}

pub front_long : (t : Bool) (text front : List ℕ) → t ≡ begins text front → t ≡ true → length front ≤ length text
front_long t text front is holds =
    let parts = (starts_is Decides-eqb text front (begins text front) refl).0 (sym is ∙ holds) in
    let long = ap length parts in
    let both = length-append front (drop (length front) text) in
    omega (arith, long, both)
