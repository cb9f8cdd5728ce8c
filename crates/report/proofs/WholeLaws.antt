-- The whole listing: its parts are put one after another, and they are the definition's. Assumes nothing.
use mathlib.Core.Path.{◌≡◌, refl, sym, ap, ap₂, subst, ◌∙◌}
use mathlib.Core.Bool.{Bool, true, false}
use mathlib.Core.List.{List, [], ◌∷◌, ◌++◌, append_assoc, Memᴰ}
use Prim.Native.Nat.{ℕ, suc, ◌+◌, ◌≤◌}
use native.Mathlib.Omega.{arith}
use lib.ListN.{length}
use Rattle.sets.specs.Tests.{when◌then◌else◌}
use Rattle.sets.specs.Members.{width, mem, count_below}
use Rattle.sets.specs.Rows.{no_rows, in_row, rows_of}
use Rattle.sets.specs.Tables.{table_at, with_table}
use Rattle.sets.specs.Answers.{number_of, is_done}
use Rattle.sets.specs.Sizes.{longest_trace}
use Rattle.sets.specs.declared.set.Set.{Set}
use Rattle.sets.specs.declared.answer.Answer.{Answer}
use Rattle.sets.specs.declared.answer.Answer.TheVariants.{Done}
use Rattle.sets.proofs.RowLaws.{in-rows_of}
use Rattle.sets.proofs.TableLaws.{table-rows_of, row-taken}
use Rattle.engine.specs.declared.graph.Head.{Head}
use Rattle.engine.specs.declared.graph.Graph.{Graph}
use Rattle.engine.specs.Relations.{in_tables, graph_of, relations_of}
use Rattle.engine.specs.Judged.{judged}
use Rattle.engine.specs.Replay.{replay_from, replay_of}
use Rattle.engine.proofs.Acceptable.{replay-judged}
use Rattle.calllog.specs.Layout.{traces_in}
use Rattle.calllog.specs.Logs.{log_of}
use Rattle.calllog.proofs.Given.{log-answer}
use Rattle.calllog.proofs.Traces.{traces-number}
use Rattle.sets.proofs.Asking.{done-is}
use Rattle.rules.specs.Traces.{Traces}
use Rattle.rules.specs.declared.Profile.{Profile}
use Rattle.rules.specs.Mined.{mined_graph}
use Rattle.rules.proofs.Acceptable.{acceptable}
use Rattle.rules.proofs.FromFile.{file-accepted}
use Rattle.tally.specs.Passes.{walked}
use Rattle.sets.specs.Rows.{turned}
use Rattle.miner.proofs.FromLog.{walk-all}
use Rattle.report.specs.Lines.{line_end, line, refused_word, C, R, I, E}
use Rattle.report.specs.Pairs.{Pair, pairs_of, pair_count}
use Rattle.report.specs.Listing.{first_line, pair_lines, trace_line, trace_lines, relation_lines, lines_of, refused_line, listing_of}
use Rattle.report.specs.declared.text.Page.{Page}
use Rattle.report.specs.Puts.{Put, Room, Wrote, named, three, four, counts_text, pair_counts, heading_text, relations_text, by_source, lines_text}
use Rattle.report.specs.Puts.{graph_text}
use Rattle.report.proofs.PutLaws.{put_as, new-room, new-put, of-three-1, of-three-2, of-three-3, put_three}
use Rattle.report.proofs.PairLaws.{pairs-ext}

-- ---- the line of a refusal

module _ (o : List ℕ) (x : Answer) (n : ℕ) (h : n ≡ number_of x) (p : Page) (e : p.out.now ≡ o) (z : p.at ≡ 0) where
  refused-text : refused_line x ≡ named refused_word n line_end
  unfolding refused_line line named
  refused-text = ap (λ (k : ℕ). named refused_word k line_end) (sym h)

  pub refused-room : 0 + length (refused_line x) ≤ length o → Room p (named refused_word n line_end)
  refused-room room = subst (Room p) refused-text (new-room o _ p e z room)

  pub refused-put : (q : Page) (o' : List ℕ) → Wrote p (named refused_word n line_end) q → o' ≡ q.out.now → Put o 0 (refused_line x) o' q.at
  refused-put q o' f g = new-put o _ p q o' e z (put_as (sym refused-text) f) g

-- ---- the three parts, with the conditions turned round first

module _ (head : Head) (tables c listed log : List ℕ) (n : ℕ) (p : Page)
    (hc : c ≡ with_table no_rows 0 (table_at tables 0)) (hl : listed ≡ rows_of (turned c)) where
  abbrev heading : List ℕ
  heading = heading_text (count_below width (mem head.events)) (pair_counts listed tables) n

  abbrev pairs : List ℕ
  pairs = relations_text listed tables

  abbrev replays : List ℕ
  replays = trace_lines (replay_from head.events (in_tables tables) head.opening.state 0) 0 (walked log n 0)

  by-source_lem : three heading pairs replays ≡ lines_text head tables log n
  by-source_lem =
      ap (λ (x : List ℕ).
      three (heading_text (count_below width (mem head.events)) (pair_counts x tables) n) (relations_text x tables) replays)
      (hl ∙ ap (λ (x : List ℕ). rows_of (turned x)) hc)

  module _ (room : Room p (lines_text head tables log n)) where
    room-all : Room p (three heading pairs replays)
    room-all = subst (Room p) (sym by-source_lem) room

    pub lines-1 : Room p heading
    lines-1 = of-three-1 heading pairs replays p room-all

    pub lines-2 : (q : Page) → Wrote p heading q → Room q pairs
    lines-2 q f = of-three-2 heading pairs replays p room-all q f

    pub lines-3 : (q r : Page) → Wrote p heading q → Wrote q pairs r → Room r replays
    lines-3 q r f g = of-three-3 heading pairs replays p room-all q r f g

  pub lines-put : (q r s : Page) → Wrote p heading q → Wrote q pairs r → Wrote r replays s → Wrote p (lines_text head tables log n) s
  lines-put q r s f g h = put_as by-source_lem (put_three heading pairs replays p q r s f g h)

-- ---- all traces of a log

module _ (head : Head) (tables log o : List ℕ) (n : ℕ) (h : n ≡ traces_in log) (p : Page) (e : p.out.now ≡ o) (z : p.at ≡ 0) where
  all-traces : graph_text (graph_of head tables) log ≡ lines_text head tables log n
  all-traces = ap (lines_text head tables log) (sym h)

  pub graph-room : 0 + length (graph_text (graph_of head tables) log) ≤ length o → Room p (lines_text head tables log n)
  graph-room room = subst (Room p) all-traces (new-room o _ p e z room)

  pub graph-put : (q : Page) (o' : List ℕ) → Wrote p (lines_text head tables log n) q → o' ≡ q.out.now
      → Put o 0 (graph_text (graph_of head tables) log) o' q.at
  graph-put q o' f g = new-put o _ p q o' e z (put_as (sym all-traces) f) g

-- ---- the parts are the definition's

module _ (g : Graph) where
  -- the conditions by source, from their rows by target
  turned-pairs : pairs_of (in_row (table_at (by_source g.relations) 0)) ≡ pairs_of (relations_of g).conditions
  unfolding turned in_row
  turned-pairs =
      let taken = with_table no_rows 0 (table_at g.relations 0) in
      ap (λ (rows : List ℕ). pairs_of (in_row rows)) (table-rows_of (turned taken))
      ∙ pairs-ext (in_row (rows_of (turned taken))) (relations_of g).conditions width 0 (omega arith)
      (λ s t hs ht. in-rows_of (turned taken) s t hs ht ∙ ap (λ (r : Set). mem r s) (row-taken (table_at g.relations 0) t ht))

  heading-is : (n : ℕ)
      → heading_text (count_below width (mem g.head.events)) (pair_counts (by_source g.relations) g.relations) n ≡ first_line g n
  unfolding first_line line named three four
  heading-is n =
      ap (λ (k : ℕ).
      heading_text (count_below width (mem g.head.events))
      (counts_text k (pair_count (relations_of g).responses) (pair_count (relations_of g).includes) (pair_count (relations_of g).excludes)) n)
      (ap length turned-pairs)
      ∙ simp append_assoc

  relations-are : relations_text (by_source g.relations) g.relations ≡ relation_lines g
  unfolding relation_lines four
  relations-are =
      ap (λ (ps : List Pair).
      pair_lines C ps ++ pair_lines R (pairs_of (relations_of g).responses) ++ pair_lines I (pairs_of (relations_of g).includes)
      ++ pair_lines E (pairs_of (relations_of g).excludes))
      turned-pairs

  -- a graph that was judged need not be judged at each replay
  pub replays-are : judged g ≡ Done → (k : ℕ) (L : Traces) → ((σ : List ℕ) → Memᴰ σ L → length σ ≤ longest_trace)
      → trace_lines (replay_from g.head.events (relations_of g) g.head.opening.state 0) k L ≡ trace_lines (replay_of g) k L
  unfolding trace_lines
  replays-are d k [] h = refl
  replays-are d k (σ ∷ L) h =
      ap₂ ◌++◌ (ap (trace_line k (length σ)) (sym (replay-judged g d σ (h σ (Memᴰ.head refl)))))
      (replays-are d (suc k) L (λ τ m. h τ (Memᴰ.tail m)))

module _ (log : List ℕ) (p : Profile) where
  abbrev A : ℕ
  A = (log_of log).activities

  abbrev L : Traces
  L = (log_of log).traces

  graph-lines : is_done (log_of log).answer ≡ true → graph_text (mined_graph A L p) log ≡ lines_of (mined_graph A L p) L
  unfolding lines_of three
  graph-lines d =
      let g = mined_graph A L p in
      let ok = file-accepted log in
      ap (lines_text g.head g.relations log) (sym (traces-number log (sym (log-answer log) ∙ done-is (log_of log).answer d)))
      ∙ ap₂ ◌++◌ (ap₂ ◌++◌ (heading-is g (length L)) (relations-are g))
      (ap (trace_lines (replay_from g.head.events (relations_of g) g.head.opening.state 0) 0) (walk-all log)
      ∙ replays-are g (acceptable A L ok p) 0 L ok.lengths)

  -- the two ways of the definition
  pub listing-done : (g : Graph) → is_done (log_of log).answer ≡ true → g ≡ mined_graph A L p → graph_text g log ≡ listing_of log p
  unfolding listing_of
  listing-done g d e =
      ap (λ (x : Graph). graph_text x log) e
      ∙ graph-lines d
      ∙ sym (ap (λ (b : Bool). when b then lines_of (mined_graph A L p) L else refused_line (log_of log).answer) d)

  pub listing-refused : (x : Answer) → is_done (log_of log).answer ≡ false → x ≡ (log_of log).answer → refused_line x ≡ listing_of log p
  unfolding listing_of
  listing-refused x d e =
      ap refused_line e ∙ sym (ap (λ (b : Bool). when b then lines_of (mined_graph A L p) L else refused_line (log_of log).answer) d)
