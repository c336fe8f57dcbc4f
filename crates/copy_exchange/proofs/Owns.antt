-- Each mote's copies come from the endpoint of its own worker.
use Rattle.std.proofs.Common.{[], ◌≡◌, ◌≢◌, ◌⊎◌, ℕ, ◌+◌, ◌<◌, ◌==◌, Bool, true, false, List, ◌∷◌, ◌++◌, length, map, Option, Some, None, refl, sym, ap, ◌∙◌, inl, inr, arith, ne_eqb, eqb, ⊎_elim}
use Rattle.std.proofs.lemmas.Bool.{true≢false}
use Rattle.std.proofs.lemmas.Bool.Decides.{eqb_tells}
use Rattle.std.proofs.lemmas.List.Concat.{flat_map-cons}
use Rattle.std.specs.List.{AllByRecursion as Each, cons_option, flat_map, range_with_len}
use Rattle.copy_exchange.specs.Endpoints.{DeliversOwn, sender_to, senders_to, delivered, delivered_to, pushed_by}
use Rattle.copy_exchange.specs.declared.endpoint.Endpoint.{Endpoint}
use Rattle.copy_inbox.specs.Handles.{SenderView}
use Rattle.copy_exchange.proofs.Parts.{from}
use Rattle.copy_exchange.proofs.Gathers.{OneOf, copies_by}
use Rattle.copy_exchange.proofs.Lists.{heads}

-- ---- the items delivered are those that the senders pushed
by_option : (o : Option SenderView) (ss : List SenderView) → flat_map copies_by (cons_option o ss) ≡ pushed_by o ++ flat_map copies_by ss
by_option None ss = refl
by_option (Some a) ss = flat_map-cons copies_by a ss

pub delivered_is : (endpoints : List Endpoint) (v : ℕ) → delivered_to endpoints v ≡ flat_map copies_by (senders_to endpoints v)
delivered_is [] v = refl
delivered_is (c ∷ cs) v =
    flat_map-cons (λ (k : Endpoint). delivered k v) c cs ∙ (ap (λ l. delivered c v ++ l) (delivered_is cs v) ∙ sym (by_option (sender_to c v) (senders_to cs v)))

-- ---- a mote has one endpoint
abbrev pub workers_of : List Endpoint → List ℕ
workers_of cs = map (λ (c : Endpoint). c.worker) cs

module _ (worker_of : ℕ → ℕ) (s v : ℕ) where
  abbrev None' : Endpoint → Type 0
  None' c = from s (delivered c v) ≡ []

  -- no endpoint from here on belongs to the mote's worker
  pub none_of_them : (first : ℕ) (cs : List Endpoint) → workers_of cs ≡ range_with_len first (length cs) → worker_of s < first → Each (DeliversOwn worker_of) cs → Each None' cs
  none_of_them first [] e lt own = tt
  none_of_them first (c ∷ cs) e lt own =
      let n = heads c.worker first (workers_of cs) (range_with_len (first + 1) (length cs)) e in
      let is = n.0 in
      let other : worker_of s ≢ c.worker = λ same. absurd (omega arith) in
      (own.0 s v (ne_eqb (worker_of s) c.worker other), none_of_them (first + 1) cs n.1 (omega arith) own.1)

  with_none : (j : ℕ) (o : Option SenderView) (ss : List SenderView) → from s (pushed_by o) ≡ [] → Each (λ (a : SenderView). (a.state.number ≡ j) ⊎ (from s (copies_by a) ≡ [])) ss
      → Each (λ (a : SenderView). (a.state.number ≡ j) ⊎ (from s (copies_by a) ≡ [])) (cons_option o ss)
  with_none j None ss e h = h
  with_none j (Some a) ss e h = (inr e, h)

  none_each : (j : ℕ) (cs : List Endpoint) → Each None' cs → Each (λ (a : SenderView). (a.state.number ≡ j) ⊎ (from s (copies_by a) ≡ [])) (senders_to cs v)
  none_each j [] h = tt
  none_each j (c ∷ cs) h = with_none j (sender_to c v) (senders_to cs v) h.0 (none_each j cs h.1)

  with_one : (o : Option SenderView) (cs : List Endpoint) → Each None' cs → OneOf s (cons_option o (senders_to cs v))
  with_one None cs h = record { number = 0; each = none_each 0 cs h }
  with_one (Some a) cs h = record { number = a.state.number; each = (inl refl, none_each a.state.number cs h) }

  one_more : (b : Bool) (c : Endpoint) (first : ℕ) (cs : List Endpoint) → (worker_of s == c.worker) ≡ b → c.worker ≡ first → workers_of cs ≡ range_with_len (first + 1) (length cs) → DeliversOwn worker_of c → Each (DeliversOwn worker_of) cs
      → OneOf s (senders_to cs v) → OneOf s (senders_to (c ∷ cs) v)
  one_more true c first cs t is e own owns one =
      let same : worker_of s ≡ c.worker = ⊎_elim
      (λ (q : (eqb (worker_of s) c.worker ≡ true) × (worker_of s ≡ c.worker)). q.1)
      (λ (q : (eqb (worker_of s) c.worker ≡ false) × (worker_of s ≢ c.worker)). absurd (true≢false (sym t ∙ q.0)))
      (eqb_tells (worker_of s) c.worker) in
      with_one (sender_to c v) cs (none_of_them (first + 1) cs e (omega arith) owns)
  one_more false c first cs t is e own owns one = record { number = one.number; each = with_none one.number (sender_to c v) (senders_to cs v) (own s v t) one.each }

  pub one_of : (first : ℕ) (cs : List Endpoint) → workers_of cs ≡ range_with_len first (length cs) → Each (DeliversOwn worker_of) cs → OneOf s (senders_to cs v)
  one_of first [] e own = record { number = 0; each = tt }
  one_of first (c ∷ cs) e own =
      let n = heads c.worker first (workers_of cs) (range_with_len (first + 1) (length cs)) e in
      one_more (worker_of s == c.worker) c first cs refl n.0 n.1 own.0 own.1 (one_of (first + 1) cs n.1 own.1)
