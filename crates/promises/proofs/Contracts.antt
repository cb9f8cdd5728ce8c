-- What the public functions may give, by their own contracts: the one place where the demands meet the code. `X-gives` says that some call of X, on
-- memory that holds what is named, keeps the contract of X with this result (and leaves this). `X-said` is what the contract then says. The
-- promises start from `X-gives`, so they fail where a contract says less. Assumes nothing.
use mathlib.Core.Path.{◌≡◌, sym, ap, subst, ◌∙◌}
use mathlib.Core.Bool.{true}
use mathlib.Core.List.{List}
use Prim.Native.Nat.{ℕ}
use denote.Ref.{Bor, MutBor}
use lib.ListN.{length}
use Rattle.sets.specs.Answers.{number_of, blocker_of}
use Rattle.sets.specs.declared.answer.Answer.{Answer}
use Rattle.sets.specs.declared.answer.Answer.TheVariants.{Done}
use Rattle.engine.specs.Relations.{in_tables, relations_of}
use Rattle.engine.specs.Replay.{enabled_of, stepped_of, stepped_on, accepting_of, ending, replay_of}
use Rattle.engine.specs.declared.marking.Marking.{Marking}
use Rattle.engine.specs.declared.graph.Graph.{Graph}
use Rattle.engine.specs.declared.step.Stepped.{Stepped}
use Rattle.engine.specs.declared.step.Verdict.{Verdict}
use Rattle.engine.specs.declared.replay.Replayed.{Replayed}
use Rattle.calllog.specs.Logs.{judged_of, found_of, asked_of}
use Rattle.calllog.specs.declared.judge.Judged.{Judged}
use Rattle.calllog.specs.declared.trace.Found.{Found}
use Rattle.calllog.specs.declared.trace.Asked.{Asked}
use Rattle.graphfile.specs.Held.{read_of}
use Rattle.graphfile.specs.Writing.{written_of, file_after}
use Rattle.graphfile.specs.declared.reader.Reading.{Reading}
use Rattle.graphfile.specs.declared.writer.Written.{Written}
use Rattle.rules.specs.declared.Profile.{Profile}
use Rattle.miner.specs.Mine.{mined_of}
use Rattle.miner.specs.declared.mining.Mined.{Mined}
use Rattle.report.specs.Listing.{listed_of, listing_after}
use Rattle.report.specs.Summary.{summary_answer, summary_after}
use Rattle.report.specs.Choice.{choice_of}
use Rattle.report.specs.declared.choice.Choice.{Choice}
use Rattle.report.specs.declared.writer.Listed.{Listed}
use Rattle.port.specs.Port.{in_profile, in_profile_buffer, mine_number, mine_buffer, listing_number, summary_number}
use Rattle.sets.proofs.answer.Answer.number.Reads as number
use Rattle.sets.proofs.answer.Answer.blocker.Reads as blocker
use Rattle.engine.proofs.step.enabled.Reads as enabled
use Rattle.engine.proofs.step.step.Reads as step
use Rattle.engine.proofs.step.step_on.Reads as step-on
use Rattle.engine.proofs.step.accepting.Reads as accepting
use Rattle.engine.proofs.replay.replay.Reads as replay
use Rattle.calllog.proofs.judge.judge_log.Reads as judge-log
use Rattle.calllog.proofs.trace.find_trace.Reads as find-trace
use Rattle.calllog.proofs.trace.ask.Reads as ask
use Rattle.graphfile.proofs.reader.read.Reads as read
use Rattle.graphfile.proofs.writer.write.Reads as write
use Rattle.miner.proofs.mining.mine.Reads as mine
use Rattle.report.proofs.choice.choose.Reads as choose
use Rattle.report.proofs.summary.write_summary.Reads as write-summary
use Rattle.report.proofs.writer.write_listing.Reads as write-listing
use Rattle.port.proofs.skelfora_mine.Reads as skelfora-mine
use Rattle.port.proofs.skelfora_listing.Reads as skelfora-listing
use Rattle.port.proofs.skelfora_summary.Reads as skelfora-summary
use Rattle.promises.specs.Promised.{OwnReplayed, graph_back, file_back, file_copied}
use Rattle.promises.proofs.replayed.replay_own.Reads as replay-own
use Rattle.promises.proofs.replayed.replay_none.Reads as replay-none
use Rattle.promises.proofs.returned.graph_back.Reads as graph-back_lem
use Rattle.promises.proofs.returned.file_back.Reads as file-back_lem
use Rattle.engine.proofs.execute.execute.Reads as execute

module _ {K : Type 0} {A : K → Type 0} {R : K → Type 0} {E : K → Type 0} (Post : (κ : K) → A κ → R κ → E κ → Type 0) where
  -- some call with these arguments keeps the contract and gives r
  abbrev pub Gives : ((κ : K) → A κ) → ((κ : K) → R κ) → Type 0
  Gives a r = (κ : K) × (s : E κ) × Post κ (a κ) (r κ) s

  -- and leaves x in what was lent
  abbrev pub Leaves : {X : Type 0} → ((κ : K) → E κ → X) → ((κ : K) → A κ) → ((κ : K) → R κ) → X → Type 0
  Leaves left a r x = (κ : K) × (s : E κ) × (left κ s ≡ x) × Post κ (a κ) (r κ) s

-- memory that holds x
abbrev pub Holding : {X : Type 0} → X → (Bor X → Type 0) → Type 0
Holding {X} x P = (m : Bor X) × (m.now ≡ x) × P m

-- memory that holds x, and is lent to be written
abbrev pub Lending : {X : Type 0} → X → (MutBor X → Type 0) → Type 0
Lending {X} x P = (m : MutBor X) × (m.now ≡ x) × P m

-- ---- answers

abbrev pub NumberGives : Answer → ℕ → Type 0
NumberGives a n = Gives number.Post (λ κ. (a, tt)) (λ κ. n)

pub number-said : (a : Answer) (n : ℕ) → NumberGives a n → n ≡ number_of a
number-said a n c = c.2

abbrev pub BlockerGives : Answer → ℕ → Type 0
BlockerGives a n = Gives blocker.Post (λ κ. (a, tt)) (λ κ. n)

pub blocker-said : (a : Answer) (n : ℕ) → BlockerGives a n → n ≡ blocker_of a
blocker-said a n c = c.2

-- ---- logs

module _ (bytes : List ℕ) where
  abbrev pub JudgeLogGives : Judged → Type 0
  JudgeLogGives r = Holding bytes (λ log. Gives judge-log.Post (λ κ. (log, tt)) (λ κ. r))

  pub judge-log-said : (r : Judged) → JudgeLogGives r → r ≡ judged_of bytes
  judge-log-said r c = c.2.2 ∙ ap judged_of c.1

  abbrev pub MineGives : Profile → Mined → Type 0
  MineGives p r = Holding bytes (λ log. Gives mine.Post (λ κ. (log, (p, tt))) (λ κ. r))

  pub mine-said : (p : Profile) (r : Mined) → MineGives p r → r ≡ mined_of bytes p
  mine-said p r c = c.2.2 ∙ ap (λ (b : List ℕ). mined_of b p) c.1

  module _ (k : ℕ) where
    abbrev pub FindTraceGives : Found → Type 0
    FindTraceGives r = Holding bytes (λ log. Gives find-trace.Post (λ κ. (log, (k, tt))) (λ κ. r))

    pub find-trace-said : (r : Found) → FindTraceGives r → r ≡ found_of bytes k
    find-trace-said r c = c.2.2 ∙ ap (λ (b : List ℕ). found_of b k) c.1

    -- asked by a reader that remembers `next`
    abbrev pub AskGives : ℕ → Asked → Type 0
    AskGives next r = Holding bytes (λ log. Gives ask.Post (λ κ. (log, (next, (k, tt)))) (λ κ. r))

    pub ask-said : (next : ℕ) (r : Asked) → AskGives next r → r ≡ asked_of bytes next k
    ask-said next r c = c.2.2 ∙ ap (λ (b : List ℕ). asked_of b next k) c.1

  -- trace k, and the empty trace, replayed on the graph that is mined of these bytes
  abbrev pub ReplayOwnGives : Profile → ℕ → Replayed → Type 0
  ReplayOwnGives p k r = Holding bytes (λ log. Gives replay-own.Post (λ κ. (log, (p, (k, tt)))) (λ κ. r))

  pub replay-own-said : (p : Profile) (k : ℕ) (r : Replayed) → ReplayOwnGives p k r → OwnReplayed bytes p k r
  replay-own-said p k r c = subst (λ (b : List ℕ). OwnReplayed b p k r) c.1 c.2.2

  abbrev pub ReplayNoneGives : Profile → Replayed → Type 0
  ReplayNoneGives p r = Holding bytes (λ log. Gives replay-none.Post (λ κ. (log, (p, tt))) (λ κ. r))

  pub replay-none-said : (p : Profile) (r : Replayed) → ReplayNoneGives p r
      → r ≡ ending Done 0 (mined_of bytes p).graph.head.opening true
  replay-none-said p r c = c.2.2 ∙ ap (λ (b : List ℕ). ending Done 0 (mined_of b p).graph.head.opening true) c.1

  -- the listing, into a buffer
  abbrev pub WriteListingGives : Profile → List ℕ → Listed → List ℕ → Type 0
  WriteListingGives p before r after =
      Holding bytes (λ log. Lending before (λ out. Leaves write-listing.Post (λ κ s. s.1.1.0.now) (λ κ. (log, (p, (out, tt)))) (λ κ. r) after))

  pub write-listing-said : (p : Profile) (before : List ℕ) (r : Listed) (after : List ℕ) → WriteListingGives p before r after
      → (r ≡ listed_of bytes p (length before)) × (after ≡ listing_after bytes p before)
  write-listing-said p before r after c =
      let d = c.2.2 in (
        d.3.0 ∙ (λ i. listed_of (c.1 i) p (length (c.2.1 i))),
        sym d.2 ∙ d.3.1 ∙ (λ i. listing_after (c.1 i) p (c.2.1 i)),
      )

  -- the summary, into a buffer
  abbrev pub WriteSummaryGives : Profile → List ℕ → Answer → List ℕ → Type 0
  WriteSummaryGives p before r after =
      Holding bytes (λ log. Lending before (λ out. Leaves write-summary.Post (λ κ s. s.1.1.0.now) (λ κ. (log, (p, (out, tt)))) (λ κ. r) after))

  pub write-summary-said : (p : Profile) (before : List ℕ) (r : Answer) (after : List ℕ) → WriteSummaryGives p before r after
      → (r ≡ summary_answer bytes (length before)) × (after ≡ summary_after bytes p before)
  write-summary-said p before r after c =
      let d = c.2.2 in (
        d.3.0 ∙ (λ i. summary_answer (c.1 i) (length (c.2.1 i))),
        sym d.2 ∙ d.3.1 ∙ (λ i. summary_after (c.1 i) p (c.2.1 i)),
      )

  -- the same through the port, with the profile by its number
  module _ (n : ℕ) (before : List ℕ) (r : ℕ) (after : List ℕ) where
    abbrev pub SkelforaMineGives : Type 0
    SkelforaMineGives =
        Holding bytes (λ log. Lending before (λ out. Leaves skelfora-mine.Post (λ κ s. s.1.1.0.now) (λ κ. (log, (n, (out, tt)))) (λ κ. r) after))

    pub skelfora-mine-said : SkelforaMineGives
        → (r ≡ in_profile n (mine_number bytes (length before))) × (after ≡ in_profile_buffer n (mine_buffer bytes) before)
    skelfora-mine-said c =
        let d = c.2.2 in (
          d.3.0 ∙ (λ i. in_profile n (mine_number (c.1 i) (length (c.2.1 i)))),
          sym d.2 ∙ d.3.1 ∙ (λ i. in_profile_buffer n (mine_buffer (c.1 i)) (c.2.1 i)),
        )

    abbrev pub SkelforaListingGives : Type 0
    SkelforaListingGives =
        Holding bytes (λ log. Lending before (λ out. Leaves skelfora-listing.Post (λ κ s. s.1.1.0.now) (λ κ. (log, (n, (out, tt)))) (λ κ. r) after))

    pub skelfora-listing-said : SkelforaListingGives
        → (r ≡ in_profile n (listing_number bytes (length before))) × (after ≡ in_profile_buffer n (listing_after bytes) before)
    skelfora-listing-said c =
        let d = c.2.2 in (
          d.3.0 ∙ (λ i. in_profile n (listing_number (c.1 i) (length (c.2.1 i)))),
          sym d.2 ∙ d.3.1 ∙ (λ i. in_profile_buffer n (listing_after (c.1 i)) (c.2.1 i)),
        )

    abbrev pub SkelforaSummaryGives : Type 0
    SkelforaSummaryGives =
        Holding bytes (λ log. Lending before (λ out. Leaves skelfora-summary.Post (λ κ s. s.1.1.0.now) (λ κ. (log, (n, (out, tt)))) (λ κ. r) after))

    pub skelfora-summary-said : SkelforaSummaryGives
        → (r ≡ in_profile n (λ p. summary_number bytes (length before))) × (after ≡ in_profile_buffer n (summary_after bytes) before)
    skelfora-summary-said c =
        let d = c.2.2 in (
          d.3.0 ∙ (λ i. in_profile n (λ p. summary_number (c.1 i) (length (c.2.1 i)))),
          sym d.2 ∙ d.3.1 ∙ (λ i. in_profile_buffer n (summary_after (c.1 i)) (c.2.1 i)),
        )

  -- what so many arguments ask for, of which the first has these bytes
  abbrev pub ChooseGives : ℕ → Choice → Type 0
  ChooseGives count r = Holding bytes (λ argument. Gives choose.Post (λ κ. (count, (argument, tt))) (λ κ. r))

  pub choose-said : (count : ℕ) (r : Choice) → ChooseGives count r → r ≡ choice_of count bytes
  choose-said count r c = c.2.2 ∙ ap (choice_of count) c.1

-- ---- graphs and markings

module _ (g : Graph) where
  module _ (m : Marking) where
    abbrev pub EnabledGives : ℕ → Answer → Type 0
    EnabledGives e a = Gives enabled.Post (λ κ. (g, (m, (record { 0 = e }, tt)))) (λ κ. a)

    pub enabled-said : (e : ℕ) (a : Answer) → EnabledGives e a → a ≡ enabled_of g m e
    enabled-said e a c = c.2

    abbrev pub StepGives : ℕ → Stepped → Type 0
    StepGives e r = Gives step.Post (λ κ. (g, (m, (record { 0 = e }, tt)))) (λ κ. r)

    pub step-said : (e : ℕ) (r : Stepped) → StepGives e r → r ≡ stepped_of g m e
    step-said e r c = c.2

    -- the same on lent relations, of a graph that was judged before
    abbrev pub StepOnGives : ℕ → Stepped → Type 0
    StepOnGives e r =
        Holding g.relations (λ lent. Gives step-on.Post (λ κ. (g.head.events, (lent, (m, (record { 0 = e }, tt))))) (λ κ. r))

    pub step-on-said : (e : ℕ) (r : Stepped) → StepOnGives e r → r ≡ stepped_on g.head.events (relations_of g) m e
    step-on-said e r c = c.2.2 ∙ ap (λ (x : List ℕ). stepped_on g.head.events (in_tables x) m e) c.1

    -- the marking is lent, and is n afterwards
    abbrev pub ExecuteGives : ℕ → Answer → Marking → Type 0
    ExecuteGives e a n = Lending m (λ lent. Leaves execute.Post (λ κ s. s.1.0.now) (λ κ. (g, (lent, (record { 0 = e }, tt)))) (λ κ. a) n)

    pub execute-said : (e : ℕ) (a : Answer) (n : Marking) → ExecuteGives e a n → ◌≡◌ {A = Stepped} (record { answer = a; marking = n }) (stepped_of g m e)
    execute-said e a n c =
        let d = c.2 in
        (λ i. record { answer = d.3.0 i; marking = (sym d.2 ∙ d.3.1) i }) ∙ ap (λ (x : Marking). stepped_of g x e) c.1

    abbrev pub AcceptingGives : Verdict → Type 0
    AcceptingGives r = Gives accepting.Post (λ κ. (g, (m, tt))) (λ κ. r)

    pub accepting-said : (r : Verdict) → AcceptingGives r → r ≡ accepting_of g m
    accepting-said r c = c.2

  abbrev pub ReplayGives : List ℕ → Replayed → Type 0
  ReplayGives σ r = Holding σ (λ trace. Gives replay.Post (λ κ. (g, (trace, tt))) (λ κ. r))

  pub replay-said : (σ : List ℕ) (r : Replayed) → ReplayGives σ r → r ≡ replay_of g σ
  replay-said σ r c = c.2.2 ∙ ap (replay_of g) c.1

  -- into a buffer
  abbrev pub WriteGives : List ℕ → Written → List ℕ → Type 0
  WriteGives before w after = Lending before (λ out. Leaves write.Post (λ κ s. s.1.0.now) (λ κ. (g, (out, tt))) (λ κ. w) after)

  pub write-said : (before : List ℕ) (w : Written) (after : List ℕ) → WriteGives before w after
      → (w ≡ written_of g (length before)) × (after ≡ file_after g before)
  write-said before w after c =
      let d = c.2 in
      (d.3.0 ∙ ap (λ (b : List ℕ). written_of g (length b)) c.1, sym d.2 ∙ d.3.1 ∙ ap (file_after g) c.1)

  -- written and read again
  abbrev pub GraphBackGives : List ℕ → Reading → List ℕ → Type 0
  GraphBackGives before r after = Lending before (λ out. Leaves graph-back_lem.Post (λ κ s. s.1.0.now) (λ κ. (g, (out, tt))) (λ κ. r) after)

  pub graph-back-said : (before : List ℕ) (r : Reading) (after : List ℕ) → GraphBackGives before r after
      → (r ≡ graph_back g (length before)) × (after ≡ file_after g before)
  graph-back-said before r after c =
      let d = c.2 in
      (d.3.0 ∙ ap (λ (b : List ℕ). graph_back g (length b)) c.1, sym d.2 ∙ d.3.1 ∙ ap (file_after g) c.1)

-- ---- graph files

module _ (file : List ℕ) where
  abbrev pub ReadGives : Reading → Type 0
  ReadGives r = Holding file (λ bytes. Gives read.Post (λ κ. (bytes, tt)) (λ κ. r))

  pub read-said : (r : Reading) → ReadGives r → r ≡ read_of file
  read-said r c = c.2.2 ∙ ap read_of c.1

  -- read and written again
  abbrev pub FileBackGives : List ℕ → Written → List ℕ → Type 0
  FileBackGives before w after =
      Holding file (λ bytes. Lending before (λ out. Leaves file-back_lem.Post (λ κ s. s.1.0.now) (λ κ. (bytes, (out, tt))) (λ κ. w) after))

  pub file-back-said : (before : List ℕ) (w : Written) (after : List ℕ) → FileBackGives before w after
      → (w ≡ file_back file (length before)) × (after ≡ file_copied file before)
  file-back-said before w after c =
      let d = c.2.2 in (
        d.3.0 ∙ (λ i. file_back (c.1 i) (length (c.2.1 i))),
        sym d.2 ∙ d.3.1 ∙ (λ i. file_copied (c.1 i) (c.2.1 i)),
      )
