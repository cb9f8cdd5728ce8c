-- The counts of a summary one by one, and the three ways out of `write_summary`. Assumes nothing.
use mathlib.Core.Path.{◌≡◌, refl, sym, ap, ap₂, subst, ◌∙◌}
use mathlib.Core.Bool.{Bool, true, false}
use mathlib.Core.List.{List, [], ◌∷◌, ◌++◌}
use Prim.Native.Nat.{ℕ, zero, suc, ◌+◌, ◌*◌, ◌-◌, ◌≤◌, ◌<◌}
use native.Mathlib.Nat.{zero-add, add-suc, suc-add}
use native.Mathlib.Numerals.{add-one}
use native.Mathlib.Omega.{arith}
use borrow.Author.Tests.{lt-ltb, le-ltb}
use lib.Dec.{eqb, ltb, lit≤}
use lib.ListN.{length, drop, length-append}
use lib.Seq.{sets-eq}
use Rattle.sets.specs.Tests.{◌and◌, non, when◌then◌else◌}
use Rattle.sets.specs.Members.{width, mem, those, count_below}
use Rattle.sets.specs.Rows.{Relation, no_rows, row_at, in_row, list_from, rows_of, turned}
use Rattle.sets.specs.Tables.{table_at, with_table}
use Rattle.sets.specs.Answers.{is_done}
use Rattle.sets.specs.declared.set.Set.{Set}
use Rattle.sets.specs.declared.answer.Answer.TheVariants.{Done, BufferTooSmall}
use Rattle.sets.proofs.Asking.{done-is, ask-on, ask-stop}
use Rattle.sets.proofs.Below.{count-ext}
use Rattle.sets.proofs.Members.{mem-those}
use Rattle.sets.proofs.RowLaws.{in-rows_of, length-list_from}
use Rattle.sets.proofs.TableLaws.{table-rows_of, row-taken, in-tables_of}
use Rattle.engine.specs.Relations.{relation_count, kept, empty_graph, graph_of}
use Rattle.engine.specs.declared.graph.Graph.{Graph}
use Rattle.calllog.specs.Logs.{log_of}
use Rattle.rules.specs.declared.Profile.{Profile}
use Rattle.rules.specs.Traces.{Traces}
use Rattle.rules.specs.Mining.{mined}
use Rattle.rules.specs.Mined.{graph_from, mined_graph}
use Rattle.miner.specs.Mine.{headed_of, mined_of}
use Rattle.miner.specs.declared.mining.Headed.{Headed}
use Rattle.miner.proofs.FromLog.{whole_by}
use Rattle.miner.specs.declared.mining.Mined.{Mined}
use Rattle.report.specs.Lent.{most_in}
use Rattle.report.specs.declared.text.Page.{Page}
use Rattle.report.specs.Puts.{Put, Room, Wrote, by_source, row_counts, summary_text}
use Rattle.report.specs.Summary.{others_of, counts_of, summary_of, summary_length, summary_answer, summary_after}
use Rattle.report.proofs.Lending.{most-few}
use Rattle.report.proofs.PutLaws.{Left, left-all, left-none, left-room, left-next, put_as, put_then, room-first, room-second, new-room, new-put}

-- ---- one row

pub others_by : (row one rest : Set) (tables : List ℕ) (table a n : ℕ) → row ≡ row_at (table_at tables table) a → one ≡ those (λ b. eqb b a)
    → rest ≡ those (λ b. mem row b and non (mem one b)) → n ≡ count_below width (mem rest) → n ≡ others_of (in_row (table_at tables table)) a
unfolding in_row
others_by row one rest tables table a n hr h1 hd hn =
    hn
    ∙ count-ext width (mem rest) (λ t. mem (row_at (table_at tables table) a) t and non (eqb t a))
    (λ t l.
    ap (λ (s : Set). mem s t) hd
    ∙ mem-those _ t l
    ∙ ap₂ (λ (x y : Bool). x and non y) (ap (λ (s : Set). mem s t) hr) (ap (λ (s : Set). mem s t) h1 ∙ mem-those (λ b. eqb b a) t l))

-- ---- one after another

abbrev pub counts_from : ℕ → Relation → ℕ → List ℕ
counts_from most r x = list_from (most - x) x (others_of r)

module _ (p : Page) (most : ℕ) (tables : List ℕ) (table : ℕ) (q : Page) (x : ℕ)
    (l : Left p (row_counts most tables table) q (counts_from most (in_row (table_at tables table)) x)) where
  module _ (n : ℕ) (h : x < most) (e : n ≡ others_of (in_row (table_at tables table)) x) where
    counts-text_lem : counts_from most (in_row (table_at tables table)) x ≡ (n ∷ []) ++ counts_from most (in_row (table_at tables table)) (x + 1)
    unfolding list_from
    counts-text_lem =
        let f = others_of (in_row (table_at tables table)) in
        let one : most - x ≡ suc (most - (x + 1)) = omega arith in
        ap (λ (k : ℕ). list_from k x f) one
        ∙ ap₂ (λ (m k : ℕ). m ∷ list_from (most - (x + 1)) k f) (sym e) (sym (add-one x))

    pub counts-room : Room p (row_counts most tables table) → Room q (n ∷ [])
    counts-room room = left-room l (n ∷ []) _ counts-text_lem room

    pub counts-turn : (r : Page) → Wrote q (n ∷ []) r
        → Left p (row_counts most tables table) r (counts_from most (in_row (table_at tables table)) (x + 1))
    counts-turn r f = left-next l (counts_from most (in_row (table_at tables table)) (x + 1)) counts-text_lem f

  pub counts_end : most ≤ x → Wrote p (row_counts most tables table) q
  unfolding list_from
  counts_end h = let none : most - x ≡ 0 = omega arith in left-none l (ap (λ (k : ℕ). list_from k x (others_of (in_row (table_at tables table)))) none)

pub counts_start : (p : Page) (most : ℕ) (tables : List ℕ) (table : ℕ)
    → Left p (row_counts most tables table) p (counts_from most (in_row (table_at tables table)) 0)
unfolding counts_of
counts_start p most tables table =
    let text = row_counts most tables table in
    let all : most ≡ most - 0 = omega arith in
    subst (λ (n : ℕ). Left p text p (list_from n 0 (others_of (in_row (table_at tables table))))) all (left-all p text)

pub ruleset count-by-count = (counts_start, counts-room, counts-turn, counts_end)

-- ---- both relations

module _ (most : ℕ) (tables c listed o : List ℕ) (hc : c ≡ with_table no_rows 0 (table_at tables 0)) (hl : listed ≡ rows_of (turned c)) where
  both-text : row_counts most listed 0 ++ row_counts most tables 3 ≡ summary_text most tables
  both-text = ap (λ (x : List ℕ). row_counts most x 0 ++ row_counts most tables 3) (hl ∙ ap (λ (x : List ℕ). rows_of (turned x)) hc)

  module _ (p : Page) (e : p.out.now ≡ o) (z : p.at ≡ 0) where
    module _ (room : 0 + length (summary_text most tables) ≤ length o) where
      room-both : Room p (row_counts most listed 0 ++ row_counts most tables 3)
      room-both = subst (Room p) (sym both-text) (new-room o _ p e z room)

      pub summary-1 : Room p (row_counts most listed 0)
      summary-1 = room-first p (row_counts most listed 0) (row_counts most tables 3) room-both

      pub summary-2 : (q : Page) → Wrote p (row_counts most listed 0) q → Room q (row_counts most tables 3)
      summary-2 q f = room-second (row_counts most tables 3) f room-both

    pub summary-put : (q r : Page) (o' : List ℕ) → Wrote p (row_counts most listed 0) q → Wrote q (row_counts most tables 3) r → o' ≡ r.out.now
        → Put o 0 (summary_text most tables) o' r.at
    summary-put q r o' f g h = new-put o _ p r o' e z (put_as both-text (put_then f g)) h

-- ---- they are the rules'

counts-ext : (most : ℕ) → most ≤ width → (r q : Relation) → ((s t : ℕ) → s < width → t < width → r s t ≡ q s t) → counts_of most r ≡ counts_of most q
unfolding counts_of list_from
counts-ext most few r q e = from most 0 (omega arith)
  where
    from : (n i : ℕ) → i + n ≤ width → list_from n i (others_of r) ≡ list_from n i (others_of q)
    from zero i l = refl
    from (suc n) i l =
        ap₂ ◌∷◌ (count-ext width _ _ (λ t lt. ap (λ (b : Bool). b and non (eqb t i)) (e i t (omega (arith, add-suc i n)) lt)))
        (from n (suc i) (omega (arith, add-suc i n, suc-add i n)))

module _ (most : ℕ) (few : most ≤ width) (A : ℕ) (L : Traces) (p : Profile) where
  pub text-is : summary_text most (mined_graph A L p).relations ≡ counts_of most (mined L p).conditions ++ counts_of most (mined L p).excludes
  unfolding mined_graph graph_from turned in_row
  text-is =
      let tables = (mined_graph A L p).relations in
      let taken = with_table no_rows 0 (table_at tables 0) in
      ap₂ ◌++◌
      (ap (λ (rows : List ℕ). counts_of most (in_row rows)) (table-rows_of (turned taken))
      ∙ counts-ext most few (in_row (rows_of (turned taken))) (mined L p).conditions
      (λ s t ls lt.
      in-rows_of (turned taken) s t ls lt
      ∙ ap (λ (r : Set). mem r s) (row-taken (table_at tables 0) t lt)
      ∙ in-tables_of relation_count (kept (mined L p)) 0 t s (lit≤ tt) lt ls))
      (counts-ext most few (in_row (table_at tables 3)) (mined L p).excludes
      (λ s t ls lt. in-tables_of relation_count (kept (mined L p)) 3 s t (lit≤ tt) ls lt))

pub length-counts : (most : ℕ) (r : Relation) → length (counts_of most r) ≡ most
unfolding counts_of
length-counts most r = length-list_from most 0 (others_of r)

pub length-text : (most : ℕ) (tables : List ℕ) → length (summary_text most tables) ≡ 2 * most
length-text most tables =
    let c = in_row (table_at (by_source tables) 0) in
    let x = in_row (table_at tables 3) in
    omega (arith, length-append (counts_of most c) (counts_of most x), length-counts most c, length-counts most x)

-- ---- the three ways out

module _ (log : List ℕ) (p : Profile) (out : List ℕ) (given : Headed) (tables : List ℕ) (r : Bool) (hg : given ≡ headed_of log p)
    (ht : tables ≡ (mined_of log p).graph.relations) (hr : r ≡ is_done given.answer) where
  abbrev whole : Mined
  whole = record { answer = given.answer; graph = graph_of given.head tables }

  hm : whole ≡ mined_of log p
  hm = whole_by log p given tables hg ht

  answer-is : whole.answer ≡ (log_of log).answer
  unfolding mined_of
  answer-is = ap (λ (x : Mined). x.answer) hm

  ended : (b : Bool) → r ≡ b → is_done (log_of log).answer ≡ b
  ended b e = ap is_done (sym answer-is) ∙ sym hr ∙ e

  kept_by : (b : Bool) → is_done (summary_answer log (length out)) ≡ b
      → summary_after log p out ≡ when b then summary_of log p ++ drop (summary_length log) out else out
  unfolding summary_after
  kept_by b e = ap (λ (t : Bool). when t then summary_of log p ++ drop (summary_length log) out else out) e

  module _ (t : r ≡ false) where
    pub refused-answer : whole.answer ≡ summary_answer log (length out)
    unfolding summary_answer
    refused-answer = answer-is ∙ sym (ask-stop (log_of log).answer _ (ended false (t)))

    pub refused-kept : out ≡ summary_after log p out
    refused-kept = sym (kept_by false (ap is_done (sym refused-answer) ∙ sym hr ∙ t))

  module _ (t : r ≡ true) where
    asked-room : (b : Bool) → ltb (length out) (summary_length log) ≡ b → summary_answer log (length out) ≡ when b then BufferTooSmall else Done
    unfolding summary_answer
    asked-room b e =
        ask-on (log_of log).answer _ (done-is _ (ended true (t))) ∙ ap (λ (x : Bool). when x then BufferTooSmall else Done) e

    module _ (most : ℕ) (said : most ≡ most_in log) where
      module _ (small : length out < 2 * most) where
        pub small-answer : BufferTooSmall ≡ summary_answer log (length out)
        small-answer = sym (asked-room true (lt-ltb (length out) (summary_length log) (omega (arith, said))))

        pub small-kept : out ≡ summary_after log p out
        small-kept = sym (kept_by false (ap is_done (sym small-answer)))

      module _ (big : 2 * most ≤ length out) where
        big-answer : summary_answer log (length out) ≡ Done
        big-answer = asked-room false (le-ltb (length out) (summary_length log) (omega (arith, said)))

        pub summary-fits : 0 + length (summary_text most whole.graph.relations) ≤ length out
        summary-fits = omega (arith, length-text most whole.graph.relations)

        pub summary-answer_lem : whole.answer ≡ summary_answer log (length out)
        summary-answer_lem = done-is _ (sym hr ∙ t) ∙ sym big-answer

        summary-is : summary_text most whole.graph.relations ≡ summary_of log p
        unfolding mined_of summary_of
        summary-is =
            ap₂ (λ (n : ℕ) (g : Graph). summary_text n g.relations) said
            (ap (λ (x : Mined). x.graph) hm
            ∙ ap (λ (b : Bool). when b then mined_graph (log_of log).activities (log_of log).traces p else empty_graph) (ended true (t)))
            ∙ text-is (most_in log) (most-few log) (log_of log).activities (log_of log).traces p

        pub summary-held : (out' : List ℕ) (n : ℕ) → Put out 0 (summary_text most whole.graph.relations) out' n → out' ≡ summary_after log p out
        summary-held out' n put =
            let text = summary_text most whole.graph.relations in
            put.bytes
            ∙ sets-eq text out 0 summary-fits
            ∙ ap₂ (λ (x : List ℕ) (k : ℕ). x ++ drop k out) summary-is
            (zero-add (length text) ∙ length-text most whole.graph.relations ∙ ap (λ (k : ℕ). 2 * k) said)
            ∙ sym (kept_by true (ap is_done big-answer))

pub ruleset summarizing = (refused-answer, refused-kept, small-answer, small-kept, summary-fits, summary-answer_lem, summary-held)
