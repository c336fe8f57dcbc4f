-- The workers before the first window.
use Rattle.std.proofs.Common.{◌≡◌, Bool, ℕ, zero, suc, ◌<◌, ltb, List, [], ◌∷◌, length, get_or, refl, sym, ap, subst, arith, inl, inr, None}
use Rattle.std.proofs.lemmas.Bool.{cases_Bool}
use Rattle.std.specs.List.{filter, AllZip}
use Rattle.copy_exchange.proofs.Windows.{settled_fresh}
use Rattle.copy_exchange.specs.Crossed.{is_own, is_to, crossed}
use Rattle.copy_exchange.specs.Inboxes.{IsFresh, Settled}
use Rattle.copy_inbox.specs.Handles.{InboxId, TakerView}
use Rattle.copy_inbox.specs.Items.{copies_of}
use Rattle.copy_inbox.specs.Views.{make_taker_state}
use Rattle.mote_net.specs.Net.{NetModel}
use Rattle.net_agenda.specs.NetSystem.{system_of}
use Rattle.window_laws.specs.System.{System}
use Rattle.window_laws.specs.Windows.{first_mote, copies_by, Last}
use Rattle.window_workers.specs.Start.{AreFirst}
use Rattle.window_workers.specs.WorkerGroup.{WorkersAreAt, IsWorkerAt, IsCut}
use Rattle.window_workers.specs.declared.group.WorkerGroup.{WorkerGroup}
use Rattle.worker_window.specs.Share.{IsWholeShare}
use Rattle.worker_window.specs.declared.share.Share.{Share}

pub all_settled : (inboxes : List InboxId) (takers : List TakerView) → AllZip IsFresh inboxes takers → Settled inboxes takers
all_settled [] [] h = tt
all_settled [] (t ∷ ts) h = h
all_settled (i ∷ is) [] h = h
all_settled (i ∷ is) (t ∷ ts) h = (settled_fresh i t h.0, all_settled is ts h.1)

pub fresh_at : (inboxes : List InboxId) (takers : List TakerView) → AllZip IsFresh inboxes takers → (v : ℕ) (d : TakerView) → v < length inboxes
    → (get_or takers v d).state ≡ make_taker_state (get_or takers v d).state.marked 0 [] []
fresh_at [] ts h v d low = absurd (omega arith)
fresh_at (i ∷ is) [] h v d low = absurd h
fresh_at (i ∷ is) (t ∷ ts) h zero d low = h.0.1
fresh_at (i ∷ is) (t ∷ ts) h (suc v) d low = fresh_at is ts h.1 v d (omega arith)

none_sent : {S L : Type 0} (system : System S L) (s : ℕ) → copies_by system (first_mote system) s ≡ []
none_sent system s = elim (cases_Bool (ltb s system.motes)) [ inl e ↦ rw e refl | inr e ↦ rw e refl ]

pub none_crossed : {S L : Type 0} (system : System S L) (owners : List ℕ) (v s : ℕ) → crossed system owners (first_mote system) v s ≡ []
none_crossed system owners v s =
    elim (cases_Bool (is_own owners v s)) [ inl e ↦ rw e refl | inr e ↦ rw e (ap (filter (is_to owners v)) (none_sent system s)) ]

first_worker : (n : NetModel) (owners : List ℕ) (v : ℕ) (share : Share) (taker : TakerView) (marked : Bool) → IsWholeShare n owners v 0 (first_mote (system_of n)) [] share
    → taker.state ≡ make_taker_state marked 0 [] []
    → IsWorkerAt n owners 0 (first_mote (system_of n)) None v share taker
first_worker n owners v share taker marked keeps fresh = record {
  keeps = subst (λ d. IsWholeShare n owners v 0 (first_mote (system_of n)) (copies_of d.taken) share) (sym fresh) keeps;
  gathered = λ s. let e = none_crossed (system_of n) owners v s in rw fresh (sym e);
  waits = λ s. record { rest = []; all = rw fresh refl; later = tt };
}

pub starts : (n : NetModel) (owners : List ℕ) (group : WorkerGroup) → IsCut (length n.motes) (length group.inboxes.items) owners → AllZip IsFresh group.inboxes.items group.takers.items
    → AreFirst n owners (length group.inboxes.items) group.shares.items → group.first_out ≡ None → WorkersAreAt n owners 0 group
starts n owners group cut fresh shares none = record {
  motes = first_mote (system_of n);
  led = Last;
  cut = cut;
  shares = shares.count;
  settled = all_settled group.inboxes.items group.takers.items fresh;
  first = rw none tt;
  each = λ v low share taker.
      subst (λ o. IsWorkerAt n owners 0 (first_mote (system_of n)) o v (get_or group.shares.items v share) (get_or group.takers.items v taker)) (sym none)
      (first_worker n owners v _ _ _ (shares.each v share low) (fresh_at group.inboxes.items group.takers.items fresh v taker low));
}
