use Rattle.serde_json.specs.View.{view}
use Rattle.board_package.proofs.Listed.{list_found}
use Rattle.board_package.proofs.values.list_at.Goals as goal

pub returns-in-Some-as_array : goal.returns-in-Some-as_array
returns-in-Some-as_array c = list_found (view c.args.value.now) (view c.in-Some.found.now) c.args.key.now _ _ c.in-Some.ensures c.in-Some-as_array.ensures c.as_slice.ensures.value
