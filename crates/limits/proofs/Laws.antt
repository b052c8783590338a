-- What the functions of this crate leave to be shown, as laws about the definitions.
-- Assumes nothing.
use borrow.Author.Rules.{rules}
use borrow.Author.Tests.{not-true, not-false}
use Rattle.limits.proofs.Sound.{soundness}
use Rattle.limits.proofs.Adding.{addings}
use Rattle.limits.proofs.Closing.{closings}

pub ruleset laws = (rules, not-true, not-false, soundness, addings, closings)
