use Rattle.std.proofs.Common.{◌≡◌, ℕ, ◌+◌, ◌<◌, List, arith, sym, ap, ◌∙◌, subst}
use Rattle.tables.proofs.Listing.{IsListing, listing_all, listing_more, listing_skip}
use Rattle.cell_index.specs.Field.{IsNear}
use Rattle.flood.proofs.Linking.{IsLinked}
use Rattle.search_tests.proofs.nets.PairsField.neighbours.Goals.{then-linked+in_default, else-linked}
use Rattle.search_tests.proofs.nets.PairsField.neighbours.Goals as goal

pub loop-q-preserved-then-q-i : goal.loop-q-preserved-then-q-i
loop-q-preserved-then-q-i g c = listing_skip (IsNear c.args.self.now.count (IsLinked c.args.self.now.pairs.now) c.args.i) c.loop-q.q c.loop-q.into.items c.loop-q.invariant (λ n. n.other (sym c.if-q-i.true))

pub loop-q-preserved : goal.loop-q-preserved
loop-q-preserved g c =
    let near : ℕ → Type 0 = IsNear c.args.self.now.count (IsLinked c.args.self.now.pairs.now) c.args.i in
    let q : ℕ = c.loop-q.q in
    elim c.if-linked.branch [
      | then-linked+in_default w ↦ subst (λ (xs : List ℕ). IsListing near (q + 1) xs) (sym (ap (λ v. v.items) w.into-is ∙ w.in_default.ensures.items))
          (listing_more near q c.loop-q.into.items c.loop-q.invariant (record { first = c.requires; second = c.loop-q-test.true; other = λ e. c.if-q-i.false (sym e); touch = c.linked.ensures.0 w.if-linked.true }))
      | else-linked w ↦ subst (λ (xs : List ℕ). IsListing near (q + 1) xs) (sym (ap (λ v. v.items) w.into-is))
          (listing_skip near q c.loop-q.into.items c.loop-q.invariant (λ n. let h = c.linked.ensures.1 n.touch in let f = w.if-linked.false in cc))
    ]

pub returns-clause-near : goal.returns-clause-near
returns-clause-near g c = listing_all (IsNear c.args.self.now.count (IsLinked c.args.self.now.pairs.now) c.args.i) c.loop-q.q c.loop-q.into.items c.loop-q.invariant (λ x n. let below = n.second in omega arith)
