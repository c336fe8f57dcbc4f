use Rattle.radio_medium.proofs.Copies.{copies_later}
use Rattle.radio_medium.proofs.Delays.{lookahead-above}
use Rattle.radio_medium.proofs.laws.copies_come_later.Goals as goal

pub returns-clause-ahead : goal.returns-clause-ahead
returns-clause-ahead c = lookahead-above

pub returns-clause-later : goal.returns-clause-later
returns-clause-later c = copies_later
