-- 02, 1/12, A PLAIN ENGINE FOR THE CLASSROOM, as theorems about the public functions. Assumes nothing.
--
-- `plain-X-gives head c r i x ..` says that X of the plain engine may give this, by its own contract, for a graph with this head whose lists of
-- conditions, responses, includes and excludes are c, r, i, x. `X-gives` is the same of the engine on sets (Contracts).
--
-- 1. `same-..`: any graph value, accepted or not, and any four lists of at most 16,384 pairs that hold just its pairs: enabled, step, execute,
--    accepting and replay of both engines give the same answer, marking, place and verdict, for every marking, every activity from 0 to 255 and
--    every trace.
-- 2. `order-..`: two times four lists with the same members, in any order and however often: the same.
-- 3. `fill_holds`: what fill puts down of a graph's relations are such lists; it answers 7 and changes nothing where the memory is too small,
--    and 16,384 numbers are always enough.
use mathlib.Core.Path.{◌≡◌, sym, ap, subst, ◌∙◌}
use mathlib.Core.Bool.{true, false}
use mathlib.Core.List.{List}
use Prim.Native.Nat.{ℕ, ◌≤◌, ◌<◌}
use native.Mathlib.Omega.{arith}
use borrow.Author.Tests.{le-ltb}
use denote.Ref.{Bor}
use lib.Dec.{T, ltb}
use lib.ListN.{length, get_or, take, drop}
use lib.Seq.{take-append_seam}
use Rattle.sets.specs.Answers.{is_done}
use Rattle.sets.specs.declared.answer.Answer.{Answer}
use Rattle.sets.specs.declared.answer.Answer.TheVariants.{Done, BufferTooSmall}
use Rattle.sets.proofs.Tests.{T→true, F→false, split, either}
use Rattle.engine.specs.declared.marking.Marking.{Marking}
use Rattle.engine.specs.declared.graph.Head.{Head}
use Rattle.engine.specs.declared.graph.Graph.{Graph}
use Rattle.engine.specs.declared.step.Stepped.{Stepped}
use Rattle.engine.specs.declared.step.Verdict.{Verdict}
use Rattle.engine.specs.declared.replay.Replayed.{Replayed}
use Rattle.plain.specs.declared.fill.Filled.{Filled}
use Rattle.plain.specs.Pairs.{most_pairs}
use Rattle.plain.specs.declared.graph.Graph as listed
use Rattle.plain.specs.Graphs.{PlainGraph, plain_of, plain_held}
use Rattle.plain.specs.Results.{plain_enabled_of, plain_stepped_of, plain_accepting_of, plain_replay_of}
use Rattle.plain.specs.Filling.{relation_at, pairs_of, put_down, filled_of, memory_after}
use Rattle.plain.specs.Same.{InLists, SameLists}
use Rattle.plain.proofs.Putting.{pairs-fit}
use Rattle.plain.proofs.SameGraphs.{lists-enabled, lists-stepped, lists-accepting, lists-replay, filled-hold}
use Rattle.plain.proofs.SameGraphs.{alike-enabled, alike-stepped, alike-accepting, alike-replay}
use Rattle.plain.proofs.step.enabled.Reads as enabled
use Rattle.plain.proofs.step.step.Reads as step
use Rattle.plain.proofs.step.accepting.Reads as accepting
use Rattle.plain.proofs.replay.replay.Reads as replay
use Rattle.plain.proofs.fill.fill.Reads as fill
use Rattle.plain.proofs.execute.execute.Reads as plain-execute
use Rattle.promises.proofs.Contracts.{Gives, Leaves, Holding, Lending, EnabledGives, enabled-said, StepGives, step-said}
use Rattle.promises.proofs.Contracts.{ExecuteGives, execute-said, AcceptingGives, accepting-said, ReplayGives, replay-said}

-- ================ WHAT THE FUNCTIONS MAY GIVE

module _ (head : Head) (c r i x : List ℕ) where
  -- memory that holds the four lists, and the graph that they make with this head
  abbrev Lent : (Bor listed.Graph → Type 0) → Type 0
  Lent P =
      Holding c (λ c'. Holding r (λ r'. Holding i (λ i'. Holding x (λ x'.
      Holding (record { head = head; conditions = c'; responses = r'; includes = i'; excludes = x' }) P))))

  lent-is : (P : Bor listed.Graph → Type 0) (h : Lent P) → plain_held (h.2.2.2.2.0).now ≡ plain_of head c r i x
  lent-is P h = ap plain_held h.2.2.2.2.1 ∙ (λ j. plain_of head (h.1 j) (h.2.1 j) (h.2.2.1 j) (h.2.2.2.1 j))

  module _ (m : Marking) where
    abbrev pub PlainEnabledGives : ℕ → Answer → Type 0
    PlainEnabledGives e a = Lent (λ g. Gives enabled.Post (λ κ. (g, (m, (record { 0 = e }, tt)))) (λ κ. a))

    pub plain-enabled-said : (e : ℕ) (a : Answer) → PlainEnabledGives e a → a ≡ plain_enabled_of (plain_of head c r i x) m e
    plain-enabled-said e a h = h.2.2.2.2.2.2 ∙ ap (λ (g : PlainGraph). plain_enabled_of g m e) (lent-is _ h)

    abbrev pub PlainStepGives : ℕ → Stepped → Type 0
    PlainStepGives e s = Lent (λ g. Gives step.Post (λ κ. (g, (m, (record { 0 = e }, tt)))) (λ κ. s))

    pub plain-step-said : (e : ℕ) (s : Stepped) → PlainStepGives e s → s ≡ plain_stepped_of (plain_of head c r i x) m e
    plain-step-said e s h = h.2.2.2.2.2.2 ∙ ap (λ (g : PlainGraph). plain_stepped_of g m e) (lent-is _ h)

    -- the marking is lent, and is n afterwards
    abbrev pub PlainExecuteGives : ℕ → Answer → Marking → Type 0
    PlainExecuteGives e a n =
        Lent (λ g. Lending m (λ lent. Leaves plain-execute.Post (λ κ s. s.1.0.now)
        (λ κ. (g, (lent, (record { 0 = e }, tt)))) (λ κ. a) n))

    pub plain-execute-said : (e : ℕ) (a : Answer) (n : Marking) → PlainExecuteGives e a n
        → ◌≡◌ {A = Stepped} (record { answer = a; marking = n }) (plain_stepped_of (plain_of head c r i x) m e)
    plain-execute-said e a n h =
        let l = h.2.2.2.2.2 in
        let d = l.2 in
        (λ j. record { answer = d.3.0 j; marking = (sym d.2 ∙ d.3.1) j }) ∙ (λ j. plain_stepped_of (lent-is _ h j) (l.1 j) e)

    abbrev pub PlainAcceptingGives : Verdict → Type 0
    PlainAcceptingGives v = Lent (λ g. Gives accepting.Post (λ κ. (g, (m, tt))) (λ κ. v))

    pub plain-accepting-said : (v : Verdict) → PlainAcceptingGives v → v ≡ plain_accepting_of (plain_of head c r i x) m
    plain-accepting-said v h = h.2.2.2.2.2.2 ∙ ap (λ (g : PlainGraph). plain_accepting_of g m) (lent-is _ h)

  abbrev pub PlainReplayGives : List ℕ → Replayed → Type 0
  PlainReplayGives σ e = Lent (λ g. Holding σ (λ trace. Gives replay.Post (λ κ. (g, (trace, tt))) (λ κ. e)))

  pub plain-replay-said : (σ : List ℕ) (e : Replayed) → PlainReplayGives σ e → e ≡ plain_replay_of (plain_of head c r i x) σ
  plain-replay-said σ e h = let l = h.2.2.2.2.2 in l.2.2 ∙ (λ j. plain_replay_of (lent-is _ h j) (l.1 j))

-- fill, of relation k of a graph's tables, into memory
abbrev pub FillGives : List ℕ → ℕ → List ℕ → Filled → List ℕ → Type 0
FillGives tables k before f after =
    Holding tables (λ rows. Lending before (λ memory. Leaves fill.Post (λ κ s. s.1.1.0.now) (λ κ. (rows, (k, (memory, tt)))) (λ κ. f) after))

pub fill-said : (tables : List ℕ) (k : ℕ) (before : List ℕ) (f : Filled) (after : List ℕ) → FillGives tables k before f after
    → (f ≡ filled_of (relation_at tables k) before) × (after ≡ memory_after (relation_at tables k) before)
fill-said tables k before f after h =
    let d = h.2.2 in (
      d.3.0 ∙ (λ j. filled_of (relation_at (h.1 j) k) (h.2.1 j)),
      sym d.2 ∙ d.3.1 ∙ (λ j. memory_after (relation_at (h.1 j) k) (h.2.1 j)),
    )

-- ================ 1. THE SAME AS THE ENGINE ON SETS

module _ (g : Graph) (c r i x : List ℕ) (same : InLists g.relations c r i x) where
  module _ (m : Marking) where
    pub same-enabled : (e : ℕ) → e < 256 → (a b : Answer) → EnabledGives g m e a → PlainEnabledGives g.head c r i x m e b → a ≡ b
    same-enabled e l a b h k =
        enabled-said g m e a h ∙ lists-enabled g.head g.relations c r i x same m e l ∙ sym (plain-enabled-said g.head c r i x m e b k)

    pub same_step : (e : ℕ) → e < 256 → (a b : Stepped) → StepGives g m e a → PlainStepGives g.head c r i x m e b → a ≡ b
    same_step e l a b h k =
        step-said g m e a h ∙ lists-stepped g.head g.relations c r i x same m e l ∙ sym (plain-step-said g.head c r i x m e b k)

    pub same-execute : (e : ℕ) → e < 256 → (a b : Answer) (n n' : Marking) → ExecuteGives g m e a n
        → PlainExecuteGives g.head c r i x m e b n' → (a ≡ b) × (n ≡ n')
    same-execute e l a b n n' h k =
        let both : ◌≡◌ {A = Stepped} (record { answer = a; marking = n }) (record { answer = b; marking = n' }) =
        execute-said g m e a n h
        ∙ lists-stepped g.head g.relations c r i x same m e l
        ∙ sym (plain-execute-said g.head c r i x m e b n' k) in
        (ap (λ (s : Stepped). s.answer) both, ap (λ (s : Stepped). s.marking) both)

    pub same-accepting : (a b : Verdict) → AcceptingGives g m a → PlainAcceptingGives g.head c r i x m b → a ≡ b
    same-accepting a b h k =
        accepting-said g m a h ∙ lists-accepting g.head g.relations c r i x same m ∙ sym (plain-accepting-said g.head c r i x m b k)

  pub same-replay : (σ : List ℕ) → ((k : ℕ) → get_or σ k 0 < 256) → (a b : Replayed) → ReplayGives g σ a
      → PlainReplayGives g.head c r i x σ b → a ≡ b
  same-replay σ bytes a b h k =
      replay-said g σ a h ∙ lists-replay g.head g.relations c r i x same σ bytes ∙ sym (plain-replay-said g.head c r i x σ b k)

-- ================ 2. ORDER AND REPETITION

module _ (head : Head) (c r i x c' r' i' x' : List ℕ) (same : SameLists c r i x c' r' i' x') where
  module _ (m : Marking) where
    pub order-enabled : (e : ℕ) → e < 256 → (a b : Answer) → PlainEnabledGives head c r i x m e a
        → PlainEnabledGives head c' r' i' x' m e b → a ≡ b
    order-enabled e l a b h k =
        plain-enabled-said head c r i x m e a h
        ∙ alike-enabled head c r i x c' r' i' x' same m e l
        ∙ sym (plain-enabled-said head c' r' i' x' m e b k)

    pub order-step : (e : ℕ) → e < 256 → (a b : Stepped) → PlainStepGives head c r i x m e a
        → PlainStepGives head c' r' i' x' m e b → a ≡ b
    order-step e l a b h k =
        plain-step-said head c r i x m e a h
        ∙ alike-stepped head c r i x c' r' i' x' same m e l
        ∙ sym (plain-step-said head c' r' i' x' m e b k)

    pub order-execute : (e : ℕ) → e < 256 → (a b : Answer) (n n' : Marking) → PlainExecuteGives head c r i x m e a n
        → PlainExecuteGives head c' r' i' x' m e b n' → (a ≡ b) × (n ≡ n')
    order-execute e l a b n n' h k =
        let both : ◌≡◌ {A = Stepped} (record { answer = a; marking = n }) (record { answer = b; marking = n' }) =
        plain-execute-said head c r i x m e a n h
        ∙ alike-stepped head c r i x c' r' i' x' same m e l
        ∙ sym (plain-execute-said head c' r' i' x' m e b n' k) in
        (ap (λ (s : Stepped). s.answer) both, ap (λ (s : Stepped). s.marking) both)

    pub order-accepting : (a b : Verdict) → PlainAcceptingGives head c r i x m a → PlainAcceptingGives head c' r' i' x' m b → a ≡ b
    order-accepting a b h k =
        plain-accepting-said head c r i x m a h
        ∙ alike-accepting head c r i x c' r' i' x' same m
        ∙ sym (plain-accepting-said head c' r' i' x' m b k)

  pub order-replay : (σ : List ℕ) → ((k : ℕ) → get_or σ k 0 < 256) → (a b : Replayed) → PlainReplayGives head c r i x σ a
      → PlainReplayGives head c' r' i' x' σ b → a ≡ b
  order-replay σ bytes a b h k =
      plain-replay-said head c r i x σ a h
      ∙ alike-replay head c r i x c' r' i' x' same σ bytes
      ∙ sym (plain-replay-said head c' r' i' x' σ b k)

-- ================ 3. FILL

module _ (tables : List ℕ) (k : ℕ) (before : List ℕ) (f : Filled) (after : List ℕ) (given : FillGives tables k before f after) where
  abbrev pairs : List ℕ
  pairs = pairs_of (relation_at tables k)

  said : (f ≡ filled_of (relation_at tables k) before) × (after ≡ memory_after (relation_at tables k) before)
  said = fill-said tables k before f after given

  small : ltb (length before) (length pairs) ≡ true → (f.answer ≡ BufferTooSmall) × (after ≡ before)
  unfolding filled_of memory_after
  small t = (
    ap (λ (y : Filled). y.answer) said.0 ∙ (rw t),
    said.1 ∙ (rw t),
  )

  enough : ltb (length before) (length pairs) ≡ false → (f ≡ record { answer = Done; pairs = length pairs }) × (after ≡ put_down pairs before)
  unfolding filled_of memory_after
  enough t = (said.0 ∙ (rw t), said.1 ∙ (rw t))

  -- 7 leaves the memory as it was
  pub fill-refused : (f.answer ≡ Done → ⊥) → (f.answer ≡ BufferTooSmall) × (after ≡ before)
  fill-refused n =
      either (split (ltb (length before) (length pairs))) (λ t. small (T→true _ t))
      (λ t. absurd (n (ap (λ (y : Filled). y.answer) (enough (F→false _ t)).0)))

  -- else the first numbers are the relation's pairs, rising by source, then target
  pub fill_done : f.answer ≡ Done → take f.pairs after ≡ pairs
  fill_done d =
      either (split (ltb (length before) (length pairs)))
      (λ t. absurd (subst (λ (a : Answer). T (is_done a)) (sym d ∙ (small (T→true _ t)).0) tt))
      (λ t.
      let e = enough (F→false _ t) in
      (λ j. take (e.0 j).pairs (e.1 j)) ∙ take-append_seam pairs (drop (length pairs) before))

  -- 16,384 numbers are always enough
  pub fill-fits : most_pairs ≤ length before → f.answer ≡ Done
  fill-fits l =
      let many = pairs-fit (relation_at tables k) in
      ap (λ (y : Filled). y.answer) (enough (le-ltb (length before) (length pairs) (omega arith))).0

-- the four lists of a graph hold its relations, so that 1 is said of them
pub fill_holds : (tables b₀ b₁ b₂ b₃ a₀ a₁ a₂ a₃ : List ℕ) (f₀ f₁ f₂ f₃ : Filled)
    → FillGives tables 0 b₀ f₀ a₀ → f₀.answer ≡ Done → FillGives tables 1 b₁ f₁ a₁ → f₁.answer ≡ Done
    → FillGives tables 2 b₂ f₂ a₂ → f₂.answer ≡ Done → FillGives tables 3 b₃ f₃ a₃ → f₃.answer ≡ Done
    → InLists tables (take f₀.pairs a₀) (take f₁.pairs a₁) (take f₂.pairs a₂) (take f₃.pairs a₃)
fill_holds tables b₀ b₁ b₂ b₃ a₀ a₁ a₂ a₃ f₀ f₁ f₂ f₃ g₀ d₀ g₁ d₁ g₂ d₂ g₃ d₃ =
    let e₀ = fill_done tables 0 b₀ f₀ a₀ g₀ d₀ in
    let e₁ = fill_done tables 1 b₁ f₁ a₁ g₁ d₁ in
    let e₂ = fill_done tables 2 b₂ f₂ a₂ g₂ d₂ in
    let e₃ = fill_done tables 3 b₃ f₃ a₃ g₃ d₃ in
    subst (λ (l : List ℕ). InLists tables (take f₀.pairs a₀) (take f₁.pairs a₁) (take f₂.pairs a₂) l) (sym e₃)
    (subst (λ (l : List ℕ). InLists tables (take f₀.pairs a₀) (take f₁.pairs a₁) l (pairs_of (relation_at tables 3))) (sym e₂)
    (subst (λ (l : List ℕ). InLists tables (take f₀.pairs a₀) l (pairs_of (relation_at tables 2)) (pairs_of (relation_at tables 3))) (sym e₁)
    (subst (λ (l : List ℕ). InLists tables l (pairs_of (relation_at tables 1)) (pairs_of (relation_at tables 2)) (pairs_of (relation_at tables 3)))
    (sym e₀) (filled-hold tables))))
