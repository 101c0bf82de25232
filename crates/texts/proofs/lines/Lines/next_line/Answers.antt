use Rattle.std.proofs.Common.{◌≡◌, ◌+◌, ◌<◌, ◌-◌, length, take, drop, refl, arith}
use Rattle.std.proofs.lemmas.Grind.{common_steps}
use Rattle.std.specs.List.{position_or_len}
use Rattle.texts.specs.Lines.{is_feed}
use Rattle.texts.proofs.Cuts.{none_ahead, last_ahead, ended_ahead}
use Rattle.texts.proofs.lines.Lines.next_line.Goals as goal

pub returns-then-is_empty-clause-next : goal.returns-then-is_empty-clause-next
returns-then-is_empty-clause-next c =
    let none : length c.args.self.now.rest.now ≡ 0 = grind (arith, common_steps, c.is_empty.ensures, c.if-is_empty.true) in
    (none_ahead c.args.self.now.number c.args.self.now.at c.args.self.now.rest.now none, refl)

pub returns-then-len-rest-clause-next : goal.returns-then-len-rest-clause-next
returns-then-len-rest-clause-next c =
    let some : 0 < length c.args.self.now.rest.now = grind (arith, common_steps, c.is_empty.ensures, c.if-is_empty.false) in
    let whole : position_or_len is_feed c.args.self.now.rest.now ≡ length c.args.self.now.rest.now = (let h = c.far_place_of-len.ensures.value in let k = c.if-len-rest.true in cc) in
    (last_ahead c.args.self.now.number c.args.self.now.at (c.args.self.now.at + c.far_place_of-len.result) c.args.self.now.rest.now whole some, refl)

pub returns-clause-next : goal.returns-clause-next
returns-clause-next c =
    let below : c.far_place_of-len.result < length c.args.self.now.rest.now = omega (arith, c.far_place_of-len.ensures.within, c.if-len-rest.false) in
    let ended = ended_ahead c.args.self.now.number c.args.self.now.at c.far_place_of-len.result c.args.self.now.rest.now c.far_place_of-len.ensures.value below in
    let behind : take (length c.args.self.now.rest.now - (c.far_place_of-len.result + 1)) (drop (c.far_place_of-len.result + 1) c.args.self.now.rest.now) ≡ drop (c.far_place_of-len.result + 1) c.args.self.now.rest.now = grind (arith, common_steps, below) in
    (rw (c.without_return.ensures, behind) ended, refl)
