-- A whole program.
use Rattle.std.proofs.Common.{◌≡◌, ℕ, ◌+◌, ◌<◌, ◌≤◌, List, [], ◌∷◌, ◌++◌, length, map, refl, sym, ap, subst, ◌∙◌}
use Rattle.std.proofs.Common.{arith, append_assoc, true, false, Option, option_map, IfSome}
use Rattle.std.proofs.lemmas.List.{map-id, length-map, append-nil}
use Rattle.std.proofs.lemmas.List.Elements.{All-nil, All-cons, All-append}
use Rattle.std.specs.List.{All}
use Rattle.program_tree.specs.Code.{Code, Tree}
use Rattle.program_reader.specs.Codes.{HasCodes, ReadsHead, all_timers}
use Rattle.program_tree.specs.Faults.{Scope, nothing_yet, IsProgram}
use Rattle.program_tree.specs.Grammar.{Mark, tokens, key, named, event_marks, semaphore_marks, process_marks}
use Rattle.program_tree.specs.Grammar.{autostart_marks, receiver_marks, codes_marks}
use Rattle.program_reader.specs.Head.{with_all, line_marks, itself}
use Rattle.program_tree.specs.InScope.{NamesInScope, no_names, with_new, number_in, name_in}
use Rattle.program_reader.specs.Machine.{whole, tell, from_events, codes_form}
use Rattle.program_tree.specs.Numbers.{named_of, values_of, codes_in, timers_from, timer_of, program_names}
use Rattle.program_tree.specs.Numbers.{tree_of_shape}
use Rattle.program_tree.specs.Made.{AreLexed, WasRead, IsProgramTree}
use Rattle.program_tree.specs.Reading.{IsTreeOfTokens}
use Rattle.program_tree.specs.ShapeOf.{code_shape, shape_of}
use Rattle.program_tree.specs.Shapes.{Name, CodeShape, ProgramShape}
use Rattle.program_tree.specs.Tokens.{Token}
use Rattle.program_tree.specs.Tree.{an_event, a_semaphore, a_process}
use Rattle.program_tree.specs.declared.timer.Timer.{Timer}
use Rattle.program_tree.specs.Grammar as role
use Rattle.program_tree.specs.Tokens as token
use Rattle.program_tree.specs.declared.keyword.Keyword.TheVariants as word
use Rattle.program_reader.proofs.CodesLaws.{behind_first_timer, timers_of_all, behind_kept}
use Rattle.program_tree.proofs.CountLaws.{length-codes_in}
use Rattle.program_reader.proofs.MadeLaws.{zipped}
use Rattle.program_reader.proofs.OnRecord.{Judged, judged}

-- The names that the head declares.

all_events : (n : NamesInScope) (xs : List Name) → with_all n an_event xs ≡ record n { events = n.events ++ xs }
all_events n [] = ap (λ z. record n { events = z }) (sym (append-nil n.events))
all_events n (x ∷ xs) = all_events (with_new n an_event x) xs ∙ ap (λ z. record n { events = z })
    (append_assoc n.events (x ∷ []) xs)

all_semaphores : (n : NamesInScope) (xs : List Name) → with_all n a_semaphore xs ≡ record n { semaphores = n.semaphores ++ xs }
all_semaphores n [] = ap (λ z. record n { semaphores = z }) (sym (append-nil n.semaphores))
all_semaphores n (x ∷ xs) = all_semaphores (with_new n a_semaphore x) xs ∙ ap (λ z. record n { semaphores = z })
    (append_assoc n.semaphores (x ∷ []) xs)

all_processes : (n : NamesInScope) (xs : List Name) → with_all n a_process xs ≡ record n { processes = n.processes ++ xs }
all_processes n [] = ap (λ z. record n { processes = z }) (sym (append-nil n.processes))
all_processes n (x ∷ xs) = all_processes (with_new n a_process x) xs ∙ ap (λ z. record n { processes = z })
    (append_assoc n.processes (x ∷ []) xs)

-- the names after the head
abbrev pub head_names : (events semaphores processes : List Name) → NamesInScope
head_names events semaphores processes = record no_names {
  events = events;
  semaphores = semaphores;
  processes = processes;
}

-- the head is read, beginning at the start of the text
pub record HeadIsRead (text m5 : List Token) (s4 : Scope) (counts autostart : List ℕ) (receiver : Option ℕ) : Type 0
  where
    pub s0 : Scope
    pub begins : s0 ≡ nothing_yet
    pub read : ReadsHead counts autostart receiver s0 s4 text m5

pub head_read : (text m5 : List Token) (s0 s4 : Scope) (counts autostart : List ℕ) (receiver : Option ℕ)
    → s0 ≡ nothing_yet → ReadsHead counts autostart receiver s0 s4 text m5
    → HeadIsRead text m5 s4 counts autostart receiver
head_read text m5 s0 s4 counts autostart receiver e r = record { s0 = s0; begins = e; read = r }

module _ (text m5 : List Token) (s4 : Scope) (counts autostart : List ℕ) (receiver : Option ℕ)
    (h : HeadIsRead text m5 s4 counts autostart receiver) where
  pub names_read : s4.names ≡ head_names h.read.events.0 (named_of h.read.semaphores.0)
      (h.read.processes.first ∷ h.read.processes.others)
  names_read =
      ap (λ (s : Scope). s.names) h.read.starting.added ∙ ap (λ (s : Scope). s.names) h.read.processes.added
      ∙ all_processes h.read.s2.names (h.read.processes.first ∷ h.read.processes.others)
      ∙ ap (λ (n : NamesInScope). record n { processes = n.processes ++ (h.read.processes.first ∷ h.read.processes.others) })
      (h.read.semaphores.2.added ∙ all_semaphores h.read.s1.names (named_of h.read.semaphores.0)
      ∙ ap (λ (n : NamesInScope). record n { semaphores = n.semaphores ++ named_of h.read.semaphores.0 })
      (h.read.events.1.added ∙ all_events h.s0.names (map itself h.read.events.0)
      ∙ ap (λ (n : NamesInScope). record n { events = n.events ++ map itself h.read.events.0 })
      (ap (λ (s : Scope). s.names) h.begins)
      ∙ ap (λ (xs : List Name). record no_names { events = xs }) (map-id h.read.events.0)))

  pub head_goes : tell nothing_yet (from_events ∷ []) text ≡ tell s4 (codes_form s4.names.processes []) m5
  head_goes =
      ap (λ s. tell s (from_events ∷ []) text) (sym h.begins)
      ∙ h.read.events.1.goes_on [] ∙ h.read.semaphores.2.goes_on [] ∙ h.read.processes.goes_on []
      ∙ h.read.starting.goes_on h.read.processes.first h.read.processes.others []
      ∙ h.read.receiving.goes_on h.read.processes.first h.read.processes.others []
      ∙ ap (λ n. tell s4 (codes_form n.processes []) m5) (sym names_read)

line_processes : (ps : List (Name × CodeShape)) (ms : List Mark) → line_marks (named_of ps) ms ≡ process_marks ps ms
line_processes [] ms = refl
line_processes (p ∷ ps) ms = ap (λ zs. role.sign token.Comma ∷ named p.0 (role.new a_process p.0) ∷ zs)
    (line_processes ps ms)

-- the shape of a program that was read
abbrev shape_with : List Name → List (Name × ℕ) → Name × CodeShape → List (Name × CodeShape) → List Name → Option Name
    → ProgramShape
shape_with es ss p ps st r = record {
  events = es;
  semaphores = ss;
  first = p;
  others = ps;
  autostart = st;
  receiver = r;
}

abbrev tree_with : List Name → List Name → List ℕ → List Name → List ℕ → Option ℕ → List Code → List Timer → Tree
tree_with e s c ps a r k t = record {
  events = e;
  semaphores = s;
  counts = c;
  processes = ps;
  autostart = a;
  receiver = r;
  codes = k;
  timers = t;
}

tree_same : {e e' s s' ps ps' : List Name} {c c' a a' : List ℕ} {r r' : Option ℕ} {k k' : List Code}
    {t t' : List Timer} → e' ≡ e → s' ≡ s → c' ≡ c → ps' ≡ ps → a' ≡ a → r' ≡ r → k' ≡ k → t' ≡ t →
    tree_with e' s' c' ps' a' r' k' t' ≡ tree_with e s c ps a r k t
tree_same h1 h2 h3 h4 h5 h6 h7 h8 = cc

-- the shape of a tree that has the names of this shape
shape_put_back : (es : List Name) (ss : List (Name × ℕ)) (p : Name × CodeShape) (ps : List (Name × CodeShape))
    (st : List Name) (r : Option Name) (e s qs : List Name) (c a : List ℕ) (rc : Option ℕ) (k : List Code)
    (t : List Timer) → e ≡ es → s ≡ named_of ss → c ≡ values_of ss → qs ≡ p.0 ∷ named_of ps
    → st ≡ map (name_in (head_names es (named_of ss) (p.0 ∷ named_of ps)) a_process) a
    → r ≡ option_map (name_in (head_names es (named_of ss) (p.0 ∷ named_of ps)) a_process) rc
    → p.1 ∷ values_of ps ≡ map (code_shape (head_names es (named_of ss) (p.0 ∷ named_of ps))) k
    → shape_with es ss p ps st r ≡ shape_of (tree_with e s c qs a rc k t)
shape_put_back es ss p ps st r e s qs c a rc k t h1 h2 h3 h4 h5 h6 h7 =
    rw (h1, h2, h3, h4, h5, h6, ← h7, zipped ss, zipped ps) refl

-- a tree that was read from the tokens of a text
was_read : (tokens : List Token) (tree : Tree) → AreLexed tokens → (q : IsTreeOfTokens tokens tree)
    → q.shape ≡ shape_of tree → WasRead tree
was_read tokens tree lexed q e = ∣ record {
  tokens = tokens;
  lexed = lexed;
  program = subst (λ s. IsProgram s tokens) e q.program;
  numbered = q.numbered ∙ ap tree_of_shape e;
} ∣₁

same_first : {A : Type 0} (x y : A) (xs ys : List A) → x ∷ xs ≡ y ∷ ys → x ≡ y
same_first x y xs ys e = cc e

same_others : {A : Type 0} (x y : A) (xs ys : List A) → x ∷ xs ≡ y ∷ ys → xs ≡ ys
same_others x y xs ys e = cc e

not_empty : {A : Type 0} (x : A) (xs : List A) → x ∷ xs ≡ [] → ⊥
not_empty x xs e = absurd (cc e)

all_same : {A : Type 0} (P : Timer → Type 0) (t : Timer) → P t → (xs : List A) → All P (map (λ x. t) xs)
all_same P t h [] = All-nil P
all_same P t h (x ∷ xs) = All-cons P t (map (λ y. t) xs) h (all_same P t h xs)

all_owned : (k n : ℕ) (cs : List CodeShape) → k + length cs ≤ n → All (λ t. t.process < n) (timers_from k cs)
all_owned k n [] h = All-nil (λ t. t.process < n)
all_owned k n (c ∷ cs) h =
    let P : Timer → Type 0 = λ t. t.process < n in
    let low : k < n = omega arith in
    All-append P (map (λ x. timer_of k false) c.etimers) (map (λ t. timer_of k true) c.ctimers
    ++ timers_from (k + 1) cs) (all_same P (timer_of k false) low c.etimers)
    (All-append P (map (λ t. timer_of k true) c.ctimers) (timers_from (k + 1) cs)
    (all_same P (timer_of k true) low c.ctimers) (all_owned (k + 1) n cs (omega arith)))

-- the head and the codes are read, and the text ends after them
module _ (text m5 : List Token) (s4 s5 : Scope) (counts autostart : List ℕ) (receiver : Option ℕ) (trees : List Code)
    (h : HeadIsRead text m5 s4 counts autostart receiver) (r : HasCodes trees [] s4 s5 m5 [])
    (timers : List Timer) (timed : timers ≡ all_timers trees) where
  abbrev tree : Tree
  tree = tree_with s5.names.events s5.names.semaphores counts s5.names.processes autostart receiver trees timers

  passes : tell nothing_yet (from_events ∷ []) text ≡ whole
  passes = head_goes text m5 s4 counts autostart receiver h ∙ r.goes_on []

  sound : (p : ProgramShape) × IsProgram p text
  sound = subst (λ v. Judged v text) passes (judged text)

  line_is : h.read.processes.first ∷ h.read.processes.others ≡ named_of r.shapes
  line_is = ap (λ n. n.processes) (sym (names_read text m5 s4 counts autostart receiver h)) ∙ r.named
      ∙ append-nil (named_of r.shapes)

  abbrev behind_line : List Mark
  behind_line = autostart_marks h.read.starting.names (receiver_marks h.read.receiving.name (codes_marks r.shapes []))

  spelled_line : h.read.m2 ≡ token.Keyword word.Process ∷ token.Name h.read.processes.first
      ∷ tokens (line_marks h.read.processes.others behind_line)
  spelled_line =
      let c6 = r.spelled [] refl in
      let c5 = h.read.receiving.spelled (codes_marks r.shapes []) (sym c6) in
      let c4 = h.read.starting.spelled (receiver_marks h.read.receiving.name (codes_marks r.shapes [])) (sym c5) in
      h.read.processes.spelled behind_line (sym c4)

  spelled_text : text ≡ tokens (event_marks h.read.events.0
      (semaphore_marks h.read.semaphores.0 (key word.Process ∷ named h.read.processes.first
      (role.new a_process h.read.processes.first) ∷ line_marks h.read.processes.others behind_line)))
  spelled_text =
      let marks = key word.Process ∷ named h.read.processes.first (role.new a_process h.read.processes.first)
      ∷ line_marks h.read.processes.others behind_line in
      h.read.events.1.spelled (semaphore_marks h.read.semaphores.0 marks)
      (sym (h.read.semaphores.2.spelled marks (sym spelled_line)))

  tree_read : (p : Name × CodeShape) (ps : List (Name × CodeShape)) → r.shapes ≡ p ∷ ps
      → (q : IsTreeOfTokens text tree) × (q.shape ≡ shape_of tree)
  tree_read p ps is =
      let shape = shape_with h.read.events.0 h.read.semaphores.0 p ps h.read.starting.names h.read.receiving.name in
      let line : h.read.processes.first ∷ h.read.processes.others ≡ p.0 ∷ named_of ps = line_is ∙ ap named_of is in
      let first = same_first h.read.processes.first p.0 h.read.processes.others (named_of ps) line in
      let others = same_others h.read.processes.first p.0 h.read.processes.others (named_of ps) line in
      let names : s4.names ≡ program_names shape = names_read text m5 s4 counts autostart receiver h
      ∙ ap (λ xs. head_names h.read.events.0 (named_of h.read.semaphores.0) xs) line in
      let before : h.read.s3.names ≡ program_names shape = ap (λ (s : Scope). s.names) (sym h.read.starting.added)
      ∙ names in
      let after = r.names in
      let events : s5.names.events ≡ h.read.events.0 =
      ap (λ n. n.events) after ∙ (behind_kept s4.names (values_of r.shapes)).0 ∙ ap (λ n. n.events) names in
      let semaphores : s5.names.semaphores ≡ named_of h.read.semaphores.0 =
      ap (λ n. n.semaphores) after ∙ (behind_kept s4.names (values_of r.shapes)).1
      ∙ ap (λ n. n.semaphores) names in
      let processes : s5.names.processes ≡ p.0 ∷ named_of ps =
      ap (λ n. n.processes) after ∙ (behind_kept s4.names (values_of r.shapes)).2 ∙ ap (λ n. n.processes) names in (
        record {
          shape = shape;
          program = record {
            spelled =
                sym (spelled_text
                ∙ ap (λ x. tokens (event_marks h.read.events.0
                (semaphore_marks h.read.semaphores.0 (key word.Process ∷ named x (role.new a_process x)
                ∷ line_marks h.read.processes.others behind_line)))) first
                ∙ ap (λ xs. tokens (event_marks h.read.events.0
                (semaphore_marks h.read.semaphores.0 (key word.Process ∷ named p.0 (role.new a_process p.0)
                ∷ line_marks xs behind_line)))) others
                ∙ ap (λ ms. tokens (event_marks h.read.events.0
                (semaphore_marks h.read.semaphores.0 (key word.Process ∷ named p.0 (role.new a_process p.0)
                ∷ ms)))) (line_processes ps behind_line)
                ∙ ap (λ zs. tokens (event_marks h.read.events.0
                (semaphore_marks h.read.semaphores.0 (key word.Process ∷ named p.0 (role.new a_process p.0)
                ∷ process_marks ps (autostart_marks h.read.starting.names
                (receiver_marks h.read.receiving.name (codes_marks zs []))))))) is);
            sound = sound.1.sound;
          };
          numbered = tree_same
              events
              semaphores
              h.read.semaphores.1
              processes
              (h.read.starting.numbered ∙ ap (λ n. map (number_in n a_process) h.read.starting.names) before)
              (h.read.receiving.numbered ∙ ap (λ n. option_map (number_in n a_process) h.read.receiving.name) names)
              (r.numbered ∙ ap (λ n. codes_in 0 n (values_of r.shapes)) names
              ∙ ap (λ zs. codes_in 0 (program_names shape) (values_of zs)) is)
              (timed ∙ ap all_timers r.numbered ∙ timers_of_all 0 s4.names (values_of r.shapes)
              ∙ ap (λ zs. timers_from 0 (values_of zs)) is);
        },
        shape_put_back h.read.events.0 h.read.semaphores.0 p ps h.read.starting.names h.read.receiving.name
            s5.names.events s5.names.semaphores s5.names.processes counts autostart receiver trees timers
            events semaphores h.read.semaphores.1 processes
            (h.read.starting.named ∙ ap (λ n. map (name_in n a_process) autostart) before)
            (h.read.receiving.named ∙ ap (λ n. option_map (name_in n a_process) receiver) names)
            (ap values_of (sym is) ∙ r.put_back ∙ ap (λ n. map (code_shape n) trees) names),
      )

  tree_and_shape : (q : IsTreeOfTokens text tree) × (q.shape ≡ shape_of tree)
  tree_and_shape = go r.shapes refl
    where
      go : (shapes : List (Name × CodeShape)) → r.shapes ≡ shapes
          → (q : IsTreeOfTokens text tree) × (q.shape ≡ shape_of tree)
      go [] e = absurd (not_empty h.read.processes.first h.read.processes.others (line_is ∙ ap named_of e))
      go (p ∷ ps) e = tree_read p ps e

  pub is_tree : IsTreeOfTokens text tree
  is_tree = tree_and_shape.0

  processes_kept : s5.names.processes ≡ s4.names.processes
  processes_kept = ap (λ (n : NamesInScope). n.processes) r.names ∙ (behind_kept s4.names (values_of r.shapes)).2

  each_count : length counts ≡ length s5.names.semaphores
  each_count =
      ap length h.read.semaphores.1 ∙ length-map h.read.semaphores.0 (λ p. p.1)
      ∙ sym (length-map h.read.semaphores.0 (λ p. p.0))
      ∙ ap (λ (n : NamesInScope). length n.semaphores) (sym (names_read text m5 s4 counts autostart receiver h))
      ∙ ap length (sym (behind_kept s4.names (values_of r.shapes)).1) ∙ ap (λ (n : NamesInScope). length n.semaphores)
      (sym r.names)

  started : All (λ i. i < length s5.names.processes) autostart
  started = subst (λ xs. All (λ i. i < length xs) autostart)
      (ap (λ (s : Scope). s.names.processes) (sym h.read.starting.added) ∙ sym processes_kept) h.read.starting.within

  received : IfSome receiver (λ i. i < length s5.names.processes)
  received = subst (λ xs. IfSome receiver (λ i. i < length xs)) (sym processes_kept) h.read.receiving.within

  each_tree : length trees ≡ length r.shapes
  each_tree = ap length r.numbered ∙ length-codes_in 0 s4.names (values_of r.shapes) ∙ length-map r.shapes (λ p. p.1)

  each_process : length s5.names.processes ≡ length r.shapes
  each_process = ap length (processes_kept ∙ r.named ∙ append-nil (named_of r.shapes)) ∙ length-map r.shapes (λ p. p.0)

  each_code : length trees ≡ length s5.names.processes
  each_code = each_tree ∙ sym each_process

  timers_are : timers ≡ timers_from 0 (values_of r.shapes)
  timers_are = timed ∙ ap all_timers r.numbered ∙ timers_of_all 0 s4.names (values_of r.shapes)

  few_timers : s5.names.first_timer ≤ 64 → length timers ≤ 64
  few_timers low =
      omega (
        arith,
        ap length timers_are,
        behind_first_timer 0 s4.names (values_of r.shapes),
        ap (λ (n : NamesInScope). n.first_timer) r.names,
        ap (λ (n : NamesInScope). n.first_timer) (names_read text m5 s4 counts autostart receiver h),
        low,
      )

  owned : All (λ t. t.process < length s5.names.processes) timers
  owned =
      subst (λ ts. All (λ t. t.process < length s5.names.processes) ts) (sym timers_are)
      (all_owned 0 (length s5.names.processes) (values_of r.shapes)
      (omega (arith, each_process, length-map r.shapes (λ p. p.1))))

  pub is_made : AreLexed text → length s5.names.events ≤ 117 → length s5.names.semaphores ≤ 64
      → length s5.names.processes ≤ 64 → s5.names.first_timer ≤ 64 → IsProgramTree tree
  is_made lexed few_events few_semaphores few_processes low = record {
    few_events = few_events;
    few_semaphores = few_semaphores;
    each_count = each_count;
    few_processes = few_processes;
    started = started;
    received = λ x is. subst (λ o. IfSome o (λ i. i < length s5.names.processes)) is received;
    each_code = each_code;
    few_timers = few_timers low;
    owned = owned;
    was_read = was_read text tree lexed tree_and_shape.0 tree_and_shape.1;
  }

-- no names of a code are in scope after the head
pub no_own_names : (text m5 : List Token) (s4 : Scope) (counts autostart : List ℕ) (receiver : Option ℕ)
    → HeadIsRead text m5 s4 counts autostart receiver → (s4.names.variables ≡ []) × (s4.names.timers ≡ [])
    × (s4.names.threads ≡ [])
no_own_names text m5 s4 counts autostart receiver h =
    let is = names_read text m5 s4 counts autostart receiver h in
    (ap (λ (n : NamesInScope). n.variables) is, ap (λ (n : NamesInScope). n.timers) is, ap (λ (n : NamesInScope). n.threads) is)
