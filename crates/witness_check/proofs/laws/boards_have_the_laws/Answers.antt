use Rattle.witness_check.proofs.Boards.{numbers_join, opens_cover, shorts_have}
use Rattle.witness_check.proofs.Differences.{verdicts_differ_in_witnesses_only}
use Rattle.witness_check.proofs.laws.boards_have_the_laws.Goals as goal

pub returns-clause-joins : goal.returns-clause-joins
returns-clause-joins c = λ b v lawful right.
    let t = c.tables_are_unique.ensures.unique b lawful in
    numbers_join b v t.tables (c.tables_tell_joins.ensures.consistent b t.tables t.are) (c.tables_tell_joins.ensures.joins b t.tables t.are) (right t.tables t.are)

pub returns-clause-opens : goal.returns-clause-opens
returns-clause-opens c = λ b v lawful right.
    let t = c.tables_are_unique.ensures.unique b lawful in
    opens_cover b v t.tables t.are (c.tables_tell_joins.ensures.consistent b t.tables t.are) (right t.tables t.are)

pub returns-clause-shorts : goal.returns-clause-shorts
returns-clause-shorts c = λ b v lawful right.
    let t = c.tables_are_unique.ensures.unique b lawful in
    shorts_have b v t.tables t.are (c.tables_tell_joins.ensures.consistent b t.tables t.are) (c.tables_tell_joins.ensures.joins b t.tables t.are) (right t.tables t.are)

pub returns-clause-witnesses : goal.returns-clause-witnesses
returns-clause-witnesses c = λ b v w lawful one two.
    let t = c.tables_are_unique.ensures.unique b lawful in
    verdicts_differ_in_witnesses_only t.tables v w (c.tables_tell_joins.ensures.consistent b t.tables t.are) (one t.tables t.are) (two t.tables t.are)
