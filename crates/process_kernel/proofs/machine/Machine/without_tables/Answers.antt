use Rattle.std.proofs.Common.{refl}
use Rattle.process_kernel.specs.KernelModel.{unbooted}
use Rattle.process_kernel.proofs.machine.Machine.without_tables.Goals as goal

pub returns : goal.returns
unfolding unbooted
returns c = record {
  state =
      let view = c.in_ok-first_view.ensures in
      rw (
        view.mote.0,
        view.mote.1,
        view.timers.1,
        view.states,
        view.semaphores,
        c.in_ok-new.ensures.empty,
        c.in_ok-new-2.ensures.empty,
        c.in_ok-new-3.ensures.empty,
        c.new-4.ensures.items,
        c.new-6.ensures.items,
        c.new-7.ensures.items,
        c.new-8.ensures.items,
        c.new-9.ensures.items,
        c.new-10.ensures.units,
        c.new-11.ensures.lines,
        c.new-11.ensures.sends,
      ) refl;
}
