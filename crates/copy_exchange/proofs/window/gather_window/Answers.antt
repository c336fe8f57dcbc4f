use Rattle.std.proofs.Common.{Vec}
use Rattle.std.proofs.lemmas.Result.{IfOk-weaker}
use Rattle.std.specs.List.{AllByRecursion as Each, AllZip}
use Rattle.std.specs.declared.alloc.Global.{Global}
use Rattle.copy_exchange.specs.Endpoints.{GathersDelivered}
use Rattle.copy_exchange.specs.Inboxes.{HasNoMarks, Settled}
use Rattle.copy_exchange.specs.Steps.{GathersBack}
use Rattle.copy_inbox.specs.Handles.{TakerView}
use Rattle.copy_exchange.proofs.AfterWindow.{workers, all_on_inboxes, settled, plain_after, gathers_delivered}
use Rattle.copy_exchange.proofs.window.gather_window.Goals as goal

pub gather_back-requires-clause-workers : goal.gather_back-requires-clause-workers
gather_back-requires-clause-workers g c = workers c.args.inboxes.now c.args.endpoints.items c.requires.all_return

pub gather_back-requires-clause-on_inboxes : goal.gather_back-requires-clause-on_inboxes
gather_back-requires-clause-on_inboxes g c = all_on_inboxes c.args.inboxes.now c.args.endpoints.items c.requires.all_return

pub returns-clause-settled : goal.returns-clause-settled
returns-clause-settled g c = IfOk-weaker c.gather_back.result
    (λ (ts : Vec TakerView Global). GathersBack c.args.endpoints.items ts.items)
    (λ (ts : Vec TakerView Global). Settled c.args.inboxes.now ts.items)
    (λ ts back. settled c.args.inboxes.now c.args.endpoints.items c.requires.all_return ts.items back)
    c.gather_back.ensures.gathers_back

pub returns-clause-plain : goal.returns-clause-plain
returns-clause-plain g c = IfOk-weaker c.gather_back.result
    (λ (ts : Vec TakerView Global). GathersBack c.args.endpoints.items ts.items)
    (λ (ts : Vec TakerView Global). Each HasNoMarks ts.items)
    (λ ts back. plain_after c.args.inboxes.now c.args.endpoints.items c.requires.all_return ts.items back)
    c.gather_back.ensures.gathers_back

pub returns-clause-gathers : goal.returns-clause-gathers
returns-clause-gathers g c = IfOk-weaker c.gather_back.result
    (λ (ts : Vec TakerView Global). GathersBack c.args.endpoints.items ts.items)
    (λ (ts : Vec TakerView Global). AllZip (GathersDelivered c.args.endpoints.items) c.args.endpoints.items ts.items)
    (λ ts back. gathers_delivered c.args.inboxes.now c.args.endpoints.items c.requires.all_return ts.items back)
    c.gather_back.ensures.gathers_back
