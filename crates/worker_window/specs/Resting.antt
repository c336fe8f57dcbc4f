-- A mote comes to rest after its window: its packets are sent, and its next wake is put into the agenda.
use Rattle.std.specs.Prelude.{ℕ, ◌≡◌, ◌<◌, ◌≤◌, ◌^◌, List, ◌++◌, map, Some, slice_set}
use Rattle.std.specs.List.{filter, flat_map, AllByRecursion}
use Rattle.radio_packet.specs.declared.copy.RadioCopy.{RadioCopy}
use Rattle.radio_medium.specs.Medium.{Radio, copies}
use Rattle.window_laws.specs.Agenda.{Item, Packet, is_wake_of, wake_items}
use Rattle.net_agenda.specs.Buckets.{HoldsItems}
use Rattle.net_agenda.specs.Changes.{without_wakes}
use Rattle.worker_window.specs.declared.own.OwnWindow.{OwnWindow}
use Rattle.worker_window.specs.declared.share.Share.{Share}
use Rattle.worker_window.specs.Log.{packets_in, HaveFates}
use Rattle.copy_exchange.specs.Crossed.{is_own, is_for_others}
use Rattle.worker_window.specs.Own.{Rests}
use Rattle.worker_window.specs.Share.{wake_from}

-- the packets in the window are from motes of the net, at moments in bounds
abbrev pub HasSent : (motes : ℕ) → OwnWindow → Type 0
HasSent motes own = AllByRecursion (λ sent. (sent.sender < motes) × (sent.at ≤ 2 ^ 40)) own.sends.items

-- a mote of the share comes to rest after its window up to `until`
pub record ComesToRest (radio : Radio) (owners : List ℕ) (until number : ℕ) (own : OwnWindow) (old new : Share)
    (before after : List RadioCopy) : Type 0 where
  pub rested : OwnWindow
  pub is_rested : Rests own rested
  pub worker : new.worker ≡ old.worker
  pub motes : new.motes.items ≡ slice_set old.motes.items number (Some rested)
  pub log : packets_in new.log.items ≡ packets_in old.log.items ++ own.sends.items
  pub fates : HaveFates radio old.log.items → HaveFates radio new.log.items
  pub agenda : (items : List Item) → HoldsItems old.agenda.buckets items → filter (is_wake_of number) items
      ≡ wake_items number (wake_from until own.pending)
      → HoldsItems new.agenda.buckets ((without_wakes number items ++ wake_items number own.wake)
      ++ map Packet (filter (λ copy. is_own owners old.worker copy.to) (flat_map (copies radio) own.sends.items)))
  pub outgoing : after ≡ before
      ++ filter (is_for_others (is_own owners old.worker)) (flat_map (copies radio) own.sends.items)
