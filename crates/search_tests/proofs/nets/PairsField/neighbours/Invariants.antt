use Rattle.tables.proofs.Listing.{IsListing}
use Rattle.cell_index.specs.Field.{IsNear}
use Rattle.flood.proofs.Linking.{IsLinked}
use Rattle.search_tests.proofs.nets.PairsField.neighbours.Given as goal

abbrev pub invariant-loop-q : goal.invariant-loop-q
invariant-loop-q g l = IsListing (IsNear l.fn.self.count (IsLinked l.fn.self.pairs.now) l.i) l.q l.into.items
