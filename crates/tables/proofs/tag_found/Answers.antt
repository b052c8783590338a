use Rattle.tables.proofs.Laws.{laws}
use Rattle.tables.proofs.tag_found.Goals as goal

pub overflow_add-at : goal.overflow_add-at
overflow_add-at c = search laws
