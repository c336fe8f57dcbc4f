use Rattle.std.proofs.Common.{sym, ◌∙◌}
use Rattle.std.proofs.lemmas.List.{nil_from_length}
use Rattle.net_agenda.proofs.Sorted.{first_some}
use Rattle.net_agenda.proofs.Gathered.{zero_from}
use Rattle.net_agenda.proofs.Moments.{least_of, none_of}
use Rattle.net_agenda.proofs.agenda.Agenda.first.Goals as goal

pub returns-in-Some-first-clause-least : goal.returns-in-Some-first-clause-least
returns-in-Some-first-clause-least c = λ items holds.
    least_of c.args.self.now.buckets c.in-Some.moment.now c.in-Some-first.mote c.in-Some.bucket.now items holds c.in-Some.ensures.value (sym c.first.ensures.value ∙ c.in-Some-first.is) c.in-Some.ensures.least

pub returns-in-None-first-clause-least : goal.returns-in-None-first-clause-least
returns-in-None-first-clause-least c = λ items holds.
    absurd (first_some c.in-Some.bucket.now (holds.ready c.in-Some.moment.now c.in-Some.bucket.now c.in-Some.ensures.value) (sym c.first.ensures.value ∙ c.in-None-first.is))

pub returns-in-None-clause-least : goal.returns-in-None-clause-least
returns-in-None-clause-least c = λ items holds.
    none_of c.args.self.now.buckets items holds (nil_from_length c.args.self.now.buckets.entries (zero_from _ c.in-None.ensures.variant.1))
