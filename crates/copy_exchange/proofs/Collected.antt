-- A drain of all known items.
use Rattle.std.proofs.Common.{◌≡◌, List, ◌++◌, Some, Result, Ok, Err, IfOk, OnOk, Vec, refl, sym, ap, ◌∙◌, subst, append_assoc}
use Rattle.std.specs.declared.alloc.Global.{Global}
use Rattle.copy_exchange.specs.Endpoints.{IsEndpoint, Collects}
use Rattle.copy_exchange.specs.Inboxes.{HasNoMarks}
use Rattle.copy_exchange.specs.Takers.{SameOfEach, taken_by, gathered_by, IsRest, IsOrderly}
use Rattle.copy_exchange.specs.declared.endpoint.Endpoint.{Endpoint}
use Rattle.copy_inbox.proofs.Parts.{packets_copies}
use Rattle.copy_inbox.specs.Gathered.{TookFronts, Whole, NoOthers}
use Rattle.copy_inbox.specs.Handles.{InboxId, TakerView, TakesCopies, after_taking}
use Rattle.copy_inbox.specs.Items.{copies_of, part}
use Rattle.copy_inbox.specs.Views.{make_taker_state}
use Rattle.copy_inbox.specs.declared.items.Item.{Item}
use Rattle.copy_inbox.specs.declared.rule.TakerState.{TakerState}
use Rattle.radio_packet.specs.declared.copy.RadioCopy.{RadioCopy}
use Rattle.copy_inbox.specs.declared.inbox.InboxError.{InboxError}
use Rattle.copy_exchange.proofs.Parts.{from, copies-append}

-- some items of the rest were taken
rest_of_rest : (d : TakerState) (items rest : List Item) → NoOthers d.gathered d.taken (d.taken ++ items) → IsRest (make_taker_state d.marked d.made (d.taken ++ items) d.gathered) rest → IsRest d (items ++ rest)
rest_of_rest d items rest none r =
    let e : (d.taken ++ items) ++ rest ≡ d.taken ++ (items ++ rest) = append_assoc d.taken items rest in
    (subst (λ (l : List Item). Whole d.gathered l) e r.0, λ s unseen. ap (part s) (sym e) ∙ (r.1 s unseen ∙ none s unseen))

orderly_taking : (d : TakerState) (items : List Item) → IsOrderly d → NoOthers d.gathered d.taken (d.taken ++ items) → TookFronts d.gathered (d.taken ++ items) → IsOrderly (make_taker_state d.marked d.made (d.taken ++ items) d.gathered)
orderly_taking d items h none begun = record {
  in_order = λ rest r s.
      ap (λ l. from s (copies_of l)) (append_assoc d.taken items rest) ∙ h.in_order (items ++ rest) (rest_of_rest d items rest none r) s;
  begun = begun;
  unseen = λ s unseen. none s unseen ∙ h.unseen s unseen;
  apart = h.apart;
  later = h.later;
  numbers = h.numbers;
}

pub orderly_on : (old new : TakerView) (copies : List RadioCopy) → IsOrderly old.state → TakesCopies old new copies → NoOthers old.state.gathered old.state.taken new.state.taken → TookFronts new.state.gathered new.state.taken → IsOrderly new.state
orderly_on old new copies h takes none begun =
    let items : List Item = takes.0 in
    let e : new ≡ after_taking old items = takes.2 in
    let none' : NoOthers old.state.gathered old.state.taken (old.state.taken ++ items) = subst (λ (t : TakerView). NoOthers old.state.gathered old.state.taken t.state.taken) e none in
    let begun' : TookFronts old.state.gathered (old.state.taken ++ items) = subst (λ (t : TakerView). TookFronts t.state.gathered t.state.taken) e begun in
    subst (λ (t : TakerView). IsOrderly t.state) (sym e) (orderly_taking old.state items h none' begun')

pub adds : (old new : TakerView) (copies : List RadioCopy) → TakesCopies old new copies → taken_by new ≡ taken_by old ++ copies
adds old new copies takes = ap taken_by takes.2 ∙ (copies-append old.state.taken takes.0 ∙ ap (λ l. taken_by old ++ l) (packets_copies takes.0 copies takes.1))

pub now_in_order : (old new : TakerView) (copies : List RadioCopy) → IsOrderly old.state → TakesCopies old new copies → NoOthers old.state.gathered old.state.taken new.state.taken → Whole new.state.gathered new.state.taken
    → SameOfEach (taken_by new) (gathered_by old)
now_in_order old new copies h takes none whole s =
    let items : List Item = takes.0 in
    let e : new ≡ after_taking old items = takes.2 in
    let none' : NoOthers old.state.gathered old.state.taken (old.state.taken ++ items) = subst (λ (t : TakerView). NoOthers old.state.gathered old.state.taken t.state.taken) e none in
    let whole' : Whole old.state.gathered (old.state.taken ++ items) = subst (λ (t : TakerView). Whole t.state.gathered t.state.taken) e whole in
    ap (λ (t : TakerView). from s (taken_by t)) e ∙ h.in_order items (whole', none') s

-- ---- the endpoint after the drain
abbrev pub with_taker : Endpoint → TakerView → Endpoint
with_taker c t = record { worker = c.worker; taker = t; senders = c.senders }

module _ (inboxes : List InboxId) (c : Endpoint) (t : TakerView) (r : Result (Vec RadioCopy Global) InboxError)
    (endpoint : IsEndpoint inboxes c)
    (takes : IfOk r (λ copies. TakesCopies c.taker t copies.items))
    (begun : OnOk r (TookFronts t.state.gathered t.state.taken))
    (others : OnOk r (NoOthers c.taker.state.gathered c.taker.state.taken t.state.taken)) where
  pub endpoint_on : OnOk r (IsEndpoint inboxes (with_taker c t))
  endpoint_on = cases r takes begun others
    where
      cases : (q : Result (Vec RadioCopy Global) InboxError) → IfOk q (λ copies. TakesCopies c.taker t copies.items) → OnOk q (TookFronts t.state.gathered t.state.taken)
          → OnOk q (NoOthers c.taker.state.gathered c.taker.state.taken t.state.taken) → OnOk q (IsEndpoint inboxes (with_taker c t))
      cases (Ok copies) takes begun others = record {
        on_inboxes = record {
          taker = endpoint.on_inboxes.taker ∙ ap (λ (u : TakerView). Some u.inbox) (sym takes.2);
          count = endpoint.on_inboxes.count;
          each = endpoint.on_inboxes.each;
        };
        orderly = orderly_on c.taker t copies.items endpoint.orderly takes others begun;
      }
      cases (Err e) takes begun others = tt

  pub collects : HasNoMarks c.taker → OnOk r (Whole t.state.gathered t.state.taken) → IfOk r (λ copies. Collects c (with_taker c t) copies.items)
  collects plain whole = cases r takes others whole
    where
      cases : (q : Result (Vec RadioCopy Global) InboxError) → IfOk q (λ copies. TakesCopies c.taker t copies.items)
          → OnOk q (NoOthers c.taker.state.gathered c.taker.state.taken t.state.taken) → OnOk q (Whole t.state.gathered t.state.taken) → IfOk q (λ copies. Collects c (with_taker c t) copies.items)
      cases (Ok copies) takes others whole = record {
        stays = record {
          worker = refl;
          inbox = ap (λ (u : TakerView). u.inbox) takes.2;
          marked = ap (λ (u : TakerView). u.state.marked) takes.2;
          made = ap (λ (u : TakerView). u.state.made) takes.2;
          gathered = ap (λ (u : TakerView). u.state.gathered) takes.2;
          identities = refl;
        };
        plain = ap (λ (u : TakerView). u.state.marked) takes.2 ∙ plain;
        adds = adds c.taker t copies.items takes;
        in_order = now_in_order c.taker t copies.items endpoint.orderly takes others whole;
        all = whole;
        delivers_none = λ v. refl;
      }
      cases (Err e) takes others whole = tt
