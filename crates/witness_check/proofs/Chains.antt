-- Chains of touching pieces, and the nets that they lead through: the lemmas of `verdict`, under the name that crates above know.
pub use Rattle.verdict.proofs.Chains.{AreJoined-back, AreJoined-trans, from_first, stays}
