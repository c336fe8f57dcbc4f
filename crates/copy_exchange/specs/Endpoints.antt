-- The items that workers take and deliver through their endpoints.
use Rattle.std.specs.Prelude.{◌≡◌, ℕ, ◌+◌, ◌<◌, ◌≤◌, ◌==◌, Bool, true, false, List, [], ◌∷◌, ◌++◌, length, map, filter}
use Rattle.std.specs.Prelude.{slice_get, slice_index, slice_index_or, Option, Some, None}
use Rattle.std.specs.List.{AllByRecursion as Each, AllZip, filter_map, flat_map, range_with_len}
use Rattle.std.specs.Option.{IsSomeAnd}
use Rattle.radio_packet.specs.declared.copy.RadioCopy.{RadioCopy}
use Rattle.copy_exchange.specs.Crossed.{is_to}
use Rattle.copy_inbox.specs.declared.items.Carried.{Carried}
use Rattle.copy_inbox.specs.declared.items.Carried.TheVariants.{Packet, Mark}
use Rattle.copy_inbox.specs.declared.rule.TakerState.{TakerState}
use Rattle.copy_inbox.specs.Gathered.{is_gathered, Whole}
use Rattle.copy_inbox.specs.Handles.{InboxId, TakerView, SenderView}
use Rattle.copy_exchange.specs.declared.endpoint.Endpoint.{Endpoint}
use Rattle.window_laws.specs.Windows.{is_from_sender}
use Rattle.copy_exchange.specs.Takers.{SameOfEach, copies_in, taken_by, gathered_by, IsOrderly}
use Rattle.copy_exchange.specs.Inboxes.{HasNoMarks}

-- the endpoint's sender on the inbox of worker v
abbrev pub sender_to : Endpoint → (v : ℕ) → Option SenderView
sender_to e v = slice_index_or e.senders.items v None

abbrev pub pushed_by : Option SenderView → List RadioCopy
pushed_by None = []
pushed_by (Some s) = copies_in s.state.pushed

-- the copies that the endpoint delivered to worker v
abbrev pub delivered : Endpoint → (v : ℕ) → List RadioCopy
delivered e v = pushed_by (sender_to e v)

-- all copies that the endpoints delivered to worker v
abbrev pub delivered_to : List Endpoint → (v : ℕ) → List RadioCopy
delivered_to endpoints v = flat_map (λ e. delivered e v) endpoints

-- a worker has no sender on its own inbox, and one sender on each other inbox
abbrev pub IsSenderOn : InboxId → (own : Bool) → Option SenderView → Type 0
IsSenderOn id true s = s ≡ None
IsSenderOn id false s = IsSomeAnd s (λ sender. sender.inbox ≡ id)

-- all items that a sender pushed, marks and copies
abbrev pub pushed_list : Option SenderView → List Carried
pushed_list None = []
pushed_list (Some s) = s.state.pushed

-- the items that the endpoint's sender on the inbox of worker v pushed
abbrev pub pushed_to : Endpoint → (v : ℕ) → List Carried
pushed_to e v = pushed_list (sender_to e v)

-- the endpoint's senders are on inboxes with marks
abbrev pub HasMarks : Endpoint → Type 0
HasMarks e = (v : ℕ) (s : SenderView) → sender_to e v ≡ Some s → s.state.marked ≡ true

-- the endpoint's senders haven't pushed anything yet
abbrev pub HasPushedNothing : Endpoint → Type 0
HasPushedNothing e = (v : ℕ) → pushed_to e v ≡ []

-- the endpoint's taker is the taker of its own worker's inbox; it has a sender on each other inbox, and none on its
-- own
pub record IsOnInboxes (inboxes : List InboxId) (e : Endpoint) : Type 0 where
  pub taker : slice_get inboxes e.worker ≡ Some e.taker.inbox
  pub count : length e.senders.items ≡ length inboxes
  pub each : (v : ℕ) (id : InboxId) → slice_get inboxes v ≡ Some id → IsSenderOn id (v == e.worker) (sender_to e v)

-- an endpoint in a window of fork-join: it is on these inboxes, and its taker took the items of each mote in order
pub record IsEndpoint (inboxes : List InboxId) (e : Endpoint) : Type 0 where
  pub on_inboxes : IsOnInboxes inboxes e
  pub orderly : IsOrderly e.taker.state

-- all items that were gathered before this window are taken
abbrev pub IsCollected : Endpoint → Type 0
IsCollected e = Whole e.taker.state.gathered e.taker.state.taken

-- the endpoint delivered no copies from motes of other workers
abbrev pub DeliversOwn : (worker_of : ℕ → ℕ) → Endpoint → Type 0
DeliversOwn worker_of e = (s v : ℕ) → (worker_of s == e.worker) ≡ false → filter (is_from_sender s) (delivered e v) ≡
    []

-- ---- from the start of a window to its end
-- the inbox and the number of the sender, and whether the inbox has marks
abbrev pub identity_of : Option SenderView → Option (InboxId × ℕ × Bool)
identity_of None = None
identity_of (Some s) = Some (s.inbox, s.state.number, s.state.marked)

-- the endpoint is the same, except for the items that it took and delivered
pub record Stays (old new : Endpoint) : Type 0 where
  pub worker : new.worker ≡ old.worker
  pub inbox : new.taker.inbox ≡ old.taker.inbox
  pub marked : new.taker.state.marked ≡ old.taker.state.marked
  pub made : new.taker.state.made ≡ old.taker.state.made
  pub gathered : new.taker.state.gathered ≡ old.taker.state.gathered
  pub identities : map identity_of new.senders.items ≡ map identity_of old.senders.items

-- the endpoint took these copies from an inbox without marks; they are all copies that were gathered and not yet taken
pub record Collects (old new : Endpoint) (copies : List RadioCopy) : Type 0 where
  pub stays : Stays old new
  pub plain : HasNoMarks new.taker
  pub adds : taken_by new.taker ≡ taken_by old.taker ++ copies
  pub in_order : SameOfEach (taken_by new.taker) (gathered_by old.taker)
  pub all : IsCollected new
  pub delivers_none : (v : ℕ) → delivered new v ≡ delivered old v

-- the copy is for a mote of another of these workers
pub record Leaves (owners : List ℕ) (workers worker : ℕ) (copy : RadioCopy) : Type 0 where
  pub there : copy.to < length owners
  pub its_worker : slice_index owners copy.to < workers
  pub other : is_to owners worker copy ≡ false

-- the endpoint delivered these copies, each to the worker of its receiver, in order
pub record Delivers (owners : List ℕ) (old new : Endpoint) (copies : List RadioCopy) : Type 0 where
  pub stays : Stays old new
  pub taker : new.taker ≡ old.taker
  pub adds : (v : ℕ) → delivered new v ≡ delivered old v ++ filter (is_to owners v) copies
  pub pushes : (v : ℕ) → pushed_to new v ≡ pushed_to old v ++ map Packet (filter (is_to owners v) copies)

-- the endpoint pushed the mark of this window to each other worker, and nothing else
pub record PushesMarks (workers window : ℕ) (old new : Endpoint) : Type 0 where
  pub stays : Stays old new
  pub taker : new.taker ≡ old.taker
  pub pushes : (v : ℕ) → v < workers → (v == old.worker) ≡ false → pushed_to new v ≡ pushed_to old v
      ++ Mark window ∷ []

-- ---- the endpoints of one window
-- the endpoint with this taker at the start of a window
pub record StartsAs (t : TakerView) (e : Endpoint) : Type 0 where
  pub same_marked : e.taker.state.marked ≡ t.state.marked
  pub same_taken : e.taker.state.taken ≡ t.state.taken
  pub same_gathered : e.taker.state.gathered ≡ t.state.gathered
  pub nothing : (v : ℕ) → delivered e v ≡ []

-- the senders of all workers on the inbox of worker v
abbrev pub senders_to : List Endpoint → (v : ℕ) → List SenderView
senders_to endpoints v = filter_map (λ e. sender_to e v) endpoints

-- these are exactly the senders of an inbox that aren't gathered
pub record AreOpen (senders : List SenderView) (d : TakerState) : Type 0 where
  pub first : ℕ
  pub numbered : map (λ (s : SenderView). s.state.number) senders ≡ range_with_len first (length senders)
  pub made : d.made ≡ first + length senders
  pub older : (i : ℕ) → i < first → is_gathered d.gathered i ≡ true
  pub newer : (i : ℕ) → first ≤ i → is_gathered d.gathered i ≡ false

-- there is an endpoint for each worker, and together the endpoints have all senders that aren't gathered
pub record Together (inboxes : List InboxId) (endpoints : List Endpoint) : Type 0 where
  pub workers : map (λ (e : Endpoint). e.worker) endpoints ≡ range_with_len 0 (length inboxes)
  pub each : Each (IsEndpoint inboxes) endpoints
  pub are_open : Each (λ (e : Endpoint). AreOpen (senders_to endpoints e.worker) e.taker.state) endpoints

-- an endpoint at the end of the window
pub record Returns (inboxes : List InboxId) (worker_of : ℕ → ℕ) (old new : Endpoint) : Type 0 where
  pub stays : Stays old new
  pub endpoint : IsEndpoint inboxes new
  pub plain : HasNoMarks new.taker
  pub collected : IsCollected new
  pub own : DeliversOwn worker_of new

-- the endpoints that were made together, at the end of the window
pub record AllReturn (inboxes : List InboxId) (endpoints : List Endpoint) : Type 0 where
  pub before : List Endpoint
  pub together : Together inboxes before
  pub worker_of : ℕ → ℕ
  pub each : AllZip (Returns inboxes worker_of) before endpoints

-- the taker of an endpoint after the window: it has gathered all items that the endpoints delivered to its worker
pub record GathersDelivered (endpoints : List Endpoint) (e : Endpoint) (t : TakerView) : Type 0 where
  pub same_marked : t.state.marked ≡ e.taker.state.marked
  pub same_taken : t.state.taken ≡ e.taker.state.taken
  pub adds : gathered_by t ≡ gathered_by e.taker ++ delivered_to endpoints e.worker
