use Rattle.std.proofs.Common.{◌+◌, ◌∙◌, ap, unwrap_or}
use Rattle.radio_medium.specs.Medium.{lookahead}
use Rattle.radio_medium.proofs.Delays.{lookahead-above}
use Rattle.radio_medium.proofs.medium.Medium.lookahead.Goals as goal

pub returns-clause-value : goal.returns-clause-value
unfolding lookahead
returns-clause-value c = rw (← c.self.view_is) (c.unwrap_or.ensures ∙ ap (λ least. unwrap_or least (c.args.end + 1)) c.self.invariant.least)

pub returns-clause-above_zero : goal.returns-clause-above_zero
unfolding lookahead
returns-clause-above_zero c = rw (c.unwrap_or.ensures, c.self.invariant.least) (lookahead-above _ c.self.invariant.fault c.args.end)
