-- What the functions of this crate leave to be shown, as laws about the definitions.
-- Assumes nothing.
use borrow.Author.Rules.{rules}
use borrow.Author.Tests.{not-true, not-false}
use Rattle.recorder.proofs.Closing.{closings}
use Rattle.recorder.proofs.Adding.{addings}
use Rattle.recorder.proofs.Beginning.{beginnings}

pub ruleset laws = (rules, not-true, not-false, closings, addings, beginnings)
