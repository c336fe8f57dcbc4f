use Rattle.std.proofs.Common.{inl}
use Rattle.claim_check.proofs.command.run_command.Goals as goal

pub returns-in-Ok : goal.returns-in-Ok
returns-in-Ok g c = record { commands = inl (c.in-Ok.asked, c.in-Ok.ensures.asks, c.run_asked.ensures.serves) }
