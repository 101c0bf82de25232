use Rattle.std.proofs.Common.{◌≡◌, ◌++◌, ℕ, List, Result, Ok, Err, OnOk, append_assoc, subst, ◌∙◌}
use Rattle.std.specs.List.{flat_map}
use Rattle.macro_flatten.specs.FlatText as spec
use Rattle.macro_flatten.proofs.flat_text.push_head.Goals as goal

-- three pieces behind one another
behind : {A E : Type 0} (r : Result A E) (old one two all xs ys zs : List ℕ) → one ≡ old ++ xs → two ≡ one ++ ys → OnOk r (all ≡ two ++ zs) → OnOk r (all ≡ old ++ (xs ++ (ys ++ zs)))
behind (Ok a) old one two all xs ys zs p q h = h ∙ rw (q, p) (simp append_assoc)
behind (Err e) old one two all xs ys zs p q h = h

pub returns : goal.returns
returns c =
    behind c.push_circles.result c.args.out.now.items c.push_extended.new.out.items c.push_extended-2.new.out.items c.push_circles.new.out.items _ _ _ c.in_ok-push_extended.ensures c.in_ok-push_extended-2.ensures
    (subst (λ (ps : List ℕ). OnOk c.push_circles.result (c.push_circles.new.out.items ≡ c.push_extended-2.new.out.items ++ flat_map spec.spelled (spec.circles 10 ps))) c.as_slice.ensures c.push_circles.ensures)
