use borrow.Author.Rules.{rules}
use Rattle.beginning.proofs.Pieces.{laws, piece-table}
use Rattle.beginning.proofs.refusal_of.Goals as goal

pub returns-in_err-list_refusal : goal.returns-in_err-list_refusal
returns-in_err-list_refusal c = search (laws, c.in_err-list_refusal.was)

pub returns-in-Err : goal.returns-in-Err
returns-in-Err c =
    piece-table c.args.setup.now c.args.system.now c.args.notes c.args.room _ _ c.list_refusal.ensures c.in_ok-list_refusal.was _
    c.system_refusal.ensures _ _ c.in-Err.is (search rules)

pub returns-then-room-system : goal.returns-then-room-system
returns-then-room-system c = search (laws, c.in_ok-list_refusal.was, c.in-Ok.is)

pub returns : goal.returns
returns c = search (laws, c.in_ok-list_refusal.was, c.in-Ok.is)

pub returns-then-room-system-2 : goal.returns-then-room-system-2
returns-then-room-system-2 c = search (laws, c.in_ok-list_refusal.was, c.in-Ok.is)

pub returns-then-notes-lt4 : goal.returns-then-notes-lt4
returns-then-notes-lt4 c = search (laws, c.in_ok-list_refusal.was, c.in-Ok.is)
