use Rattle.std.proofs.Common.{◌∙◌, sym}
use Rattle.program_reader.proofs.PlaceLaws.{place_left, place_in_second, place_in_neither}
use Rattle.program_reader.proofs.scope.Scope.timer.Goals as goal

pub returns-in-Some-clause-place : goal.returns-in-Some-clause-place
returns-in-Some-clause-place c = sym (place_left _ _ _ _ (sym c.place_of.ensures.place ∙ c.in-Some.is))

pub returns-in_ok-place-in-None-clause-place : goal.returns-in_ok-place-in-None-clause-place
returns-in_ok-place-in-None-clause-place c = sym
    (place_in_second _ _ _ _ _ (sym c.place_of.ensures.place ∙ c.in-None.is) (sym c.place_of-in-None.ensures.place
    ∙ c.in_ok-place-in-None.was) c.len.ensures.length)

pub returns-in_err-place-in-None-clause-place : goal.returns-in_err-place-in-None-clause-place
returns-in_err-place-in-None-clause-place c =
    c.from_residual.ensures ∙ sym (place_in_neither _ _ _ (sym c.place_of.ensures.place ∙ c.in-None.is)
    (sym c.place_of-in-None.ensures.place ∙ c.in_err-place-in-None.was))
