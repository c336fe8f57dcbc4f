-- A worker's senders for one window: they are made before the window, and gathered after it.
use Rattle.std.specs.Prelude.{◌≡◌, ◌≢◌, ℕ, ◌<◌, ◌==◌, Bool, false, cond, List, [], ◌∷◌, ◌++◌, length, slice_get}
use Rattle.std.specs.Prelude.{slice_index_or, Option, Some, None}
use Rattle.std.specs.List.{AllByRecursion as Each}
use Rattle.copy_inbox.specs.declared.items.Carried.{Carried}
use Rattle.copy_inbox.specs.declared.items.Carried.TheVariants.{Mark}
use Rattle.copy_inbox.specs.declared.rule.TakerState.{TakerState}
use Rattle.copy_inbox.specs.declared.rule.SenderState.{SenderState}
use Rattle.copy_inbox.specs.Items.{Packets, HasPrefix, part}
use Rattle.copy_inbox.specs.Views.{make_sender_state}
use Rattle.copy_inbox.specs.Handles.{InboxId, TakerView, SenderView, after_sender, after_gather}
use Rattle.copy_exchange.specs.declared.endpoint.Endpoint.{Endpoint}
use Rattle.copy_exchange.specs.Endpoints.{Stays, sender_to, senders_to, pushed_to}

-- each taker is the taker of the inbox at its place
pub record AreTakersOf (inboxes : List InboxId) (takers : List TakerView) : Type 0 where
  pub count : length takers ≡ length inboxes
  pub its : (v : ℕ) (id : InboxId) (t : TakerView) → v < length inboxes
      → (slice_index_or takers v t).inbox ≡ slice_index_or inboxes v id

abbrev pub at_place : List (Option SenderView) → (v : ℕ) → Option SenderView
at_place senders v = slice_index_or senders v None

-- ---- a worker's new senders
abbrev pub opened_taker : (own : Bool) → TakerView → TakerView
opened_taker own t = cond own t (after_sender t)

abbrev pub opened_sender : (own : Bool) → TakerView → Option SenderView
opened_sender own t =
    cond own None (Some (record { inbox = t.inbox; state = make_sender_state t.state.marked t.state.made [] }))

-- the worker has one more sender on each inbox except its own
pub record Opens (worker : ℕ) (old new : List TakerView) (senders : List (Option SenderView)) : Type 0 where
  pub takers : length new ≡ length old
  pub count : length senders ≡ length old
  pub taker : (v : ℕ) (t : TakerView) → v < length old
      → slice_index_or new v t ≡ opened_taker (v == worker) (slice_index_or old v t)
  pub sender : (v : ℕ) (t : TakerView) → v < length old
      → at_place senders v ≡ opened_sender (v == worker) (slice_index_or old v t)

-- ---- a worker's senders are gathered
abbrev pub gather_into : TakerView → Option SenderView → TakerView
gather_into t None = t
gather_into t (Some s) = after_gather t s.state

-- each sender is on the inbox at its place
pub record AreSendersOn (inboxes : List InboxId) (senders : List (Option SenderView)) : Type 0 where
  pub count : length senders ≡ length inboxes
  pub its : (v : ℕ) (id : InboxId) (s : SenderView) → v < length inboxes → at_place senders v ≡ Some s
      → s.inbox ≡ slice_index_or inboxes v id

-- the facts that a taker learns about a sender that it gathers: the items that it took from the sender are a prefix of
-- those that the sender pushed; if there are no marks, all items pushed are packets
pub record AgreesWithSender (d : TakerState) (p : SenderState) : Type 0 where
  pub begun : HasPrefix p.pushed (part p.number d.taken)
  pub plain : d.marked ≡ false → Packets p.pushed

-- the taker of each inbox gathered the worker's sender on it, if there is one
pub record GathersRow (old new : List TakerView) (senders : List (Option SenderView)) : Type 0 where
  pub takers : length new ≡ length old
  pub taker : (v : ℕ) (t : TakerView) → v < length old
      → slice_index_or new v t ≡ gather_into (slice_index_or old v t) (at_place senders v)
  pub matches : (v : ℕ) (t : TakerView) (s : SenderView) → v < length old → at_place senders v ≡ Some s
      → AgreesWithSender (slice_index_or old v t).state s.state

-- the taker after it has gathered these senders, one after another
abbrev pub gather_senders : TakerView → List SenderView → TakerView
gather_senders t [] = t
gather_senders t (s ∷ senders) = gather_senders (after_gather t s.state) senders

-- the taker of each endpoint has gathered all senders on its inbox, in the order of their endpoints
pub record GathersBack (endpoints : List Endpoint) (takers : List TakerView) : Type 0 where
  pub count : length takers ≡ length endpoints
  pub taker : (v : ℕ) (e : Endpoint) (t : TakerView) → slice_get endpoints v ≡ Some e → slice_get takers v ≡ Some t
      → t ≡ gather_senders e.taker (senders_to endpoints v)
  pub matches : (v : ℕ) (e : Endpoint) → slice_get endpoints v ≡ Some e
      → Each (λ (s : SenderView). AgreesWithSender e.taker.state s.state) (senders_to endpoints v)

-- ---- a mark goes through one sender
abbrev pub pushed_with_mark : Option SenderView → (window : ℕ) → List Carried
pushed_with_mark None window = []
pushed_with_mark (Some s) window = s.state.pushed ++ Mark window ∷ []

-- the sender at this place, if there is one, pushed the mark; everything else is unchanged
pub record MarksOne (to window : ℕ) (old new : Endpoint) : Type 0 where
  pub stays : Stays old new
  pub taker : new.taker ≡ old.taker
  pub here : pushed_to new to ≡ pushed_with_mark (sender_to old to) window
  pub others : (v : ℕ) → v ≢ to → sender_to new v ≡ sender_to old v
