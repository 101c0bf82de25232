use Rattle.std.proofs.Common.{◌≡◌, w64, rules}
use Rattle.std.specs.Int.{int_min, int_max}
use Rattle.std.proofs.lemmas.Int.{to_z-of_z}
use mir.Val.{SFits}
use Rattle.contact.proofs.Bounds.joined_with.Goals as goal

pub returns : goal.returns
returns c =
    let a1 : SFits w64 c.args.self.now.left = search rules in
    let a2 : SFits w64 c.args.self.now.low = search rules in
    let a3 : SFits w64 c.args.self.now.right = search rules in
    let a4 : SFits w64 c.args.self.now.high = search rules in
    let b1 : SFits w64 c.args.other.now.left = search rules in
    let b2 : SFits w64 c.args.other.now.low = search rules in
    let b3 : SFits w64 c.args.other.now.right = search rules in
    let b4 : SFits w64 c.args.other.now.high = search rules in
    let r1 : SFits w64 c.min.result = search rules in
    let r2 : SFits w64 c.min-2.result = search rules in
    let r3 : SFits w64 c.max.result = search rules in
    let r4 : SFits w64 c.max-2.result = search rules in
    let left : c.min.result ≡ int_min c.args.self.now.left c.args.other.now.left = simp to_z-of_z at c.min.ensures.value in
    let low : c.min-2.result ≡ int_min c.args.self.now.low c.args.other.now.low = simp to_z-of_z at c.min-2.ensures.value in
    let right : c.max.result ≡ int_max c.args.self.now.right c.args.other.now.right = simp to_z-of_z at c.max.ensures.value in
    let high : c.max-2.result ≡ int_max c.args.self.now.high c.args.other.now.high = simp to_z-of_z at c.max-2.ensures.value in
    simp to_z-of_z (cc)
