-- No listing is longer than the longest: 50 bytes for the first line, 8 for a pair, 16 for a trace, where the log is of edition 1; 55, 10 and 16
-- in any case. Assumes nothing.
use mathlib.Core.Path.{◌≡◌, refl, sym, ap, ◌∙◌}
use mathlib.Core.Bool.{Bool, true, false}
use mathlib.Core.List.{List, [], ◌∷◌, ◌++◌, Memᴰ}
use Prim.Native.Nat.{ℕ, zero, suc, ◌+◌, ◌*◌, ◌-◌, ◌≤◌, ◌<◌}
use native.Mathlib.Nat.{add-suc, suc-add, mul-zero, mul-suc}
use native.Mathlib.Omega.{arith}
use borrow.Author.Tests.{ltb-true, ltb-false, eq-eqb}
use lib.Dec.{T, ltb, lit≤}
use lib.ListN.{length, length-append}
use Rattle.sets.specs.Tests.{when◌then◌else◌}
use Rattle.sets.specs.Members.{width, word, digit, mem, count_below}
use Rattle.sets.specs.Rows.{Relation}
use Rattle.sets.specs.Sizes.{most_traces}
use Rattle.sets.specs.Answers.{number_of, is_done}
use Rattle.sets.specs.declared.answer.Answer.{Answer}
use Rattle.sets.specs.declared.answer.Answer.TheVariants.{Done, TooShort, WrongLetters, AboveLimit, WrongOffset, Outside, BadRow}
use Rattle.sets.specs.declared.answer.Answer.TheVariants.{BufferTooSmall, NoEvent, NotIncluded, Waiting, NoTrace, WrongArgument}
use Rattle.sets.specs.declared.answer.Answer.TheVariants.{NoPlaceFree, NotOpen, NotAccepting, FalseEnabled, NoWayOut}
use Rattle.sets.specs.declared.answer.Answer.TheVariants.{LabelsNotAsMany, LabelAboveOne}
use Rattle.sets.proofs.Tests.{true→T, false→F}
use Rattle.sets.proofs.Below.{count-le}
use Rattle.sets.proofs.Asking.{done-is}
use Rattle.engine.specs.Relations.{relations_of}
use Rattle.engine.specs.Judged.{graph_within}
use Rattle.engine.specs.Replay.{replay_of}
use Rattle.engine.specs.declared.graph.Graph.{Graph}
use Rattle.engine.specs.declared.replay.Replayed.{Replayed}
use Rattle.engine.proofs.Acceptable.{judged-within}
use Rattle.octets.specs.Editions.{narrow_edition, wide_edition, edition_for, edition_in}
use Rattle.calllog.specs.Layout.{activities_in}
use Rattle.calllog.specs.Logs.{Log, log_of}
use Rattle.calllog.proofs.Accepted.{accepted}
use Rattle.calllog.proofs.Given.{log-answer, log-accepted}
use Rattle.calllog.proofs.Traces.{read-within}
use Rattle.rules.specs.Traces.{Traces}
use Rattle.rules.specs.declared.Profile.{Profile}
use Rattle.rules.specs.Mined.{graph_from, mined_graph}
use Rattle.rules.proofs.Acceptable.{acceptable}
use Rattle.rules.proofs.FromFile.{file-accepted}
use Rattle.octets.specs.Editions.{wide_in}
use Rattle.report.specs.Lines.{decimal, line, C, R, I, E}
use Rattle.report.specs.Pairs.{Pair, passing, with_each, pairs_from, pairs_of, pair_count}
use Rattle.report.specs.Listing.{first_line, pair_line, pair_lines, trace_line, trace_lines, relation_lines, lines_of, refused_line}
use Rattle.report.specs.Listing.{listing_of, longest_narrow, longest_wide, longest_listing, longest_refused}
use Rattle.report.proofs.Figures.{one-figure, two-figures, three-figures, four-figures, at_most}
use Rattle.report.proofs.Inside.{event-below, pair-below, count-narrow}

-- the pairs of the relation are below m
abbrev Below : ℕ → Relation → Type 0
Below m r = (s t : ℕ) → s < width → t < width → T (r s t) → (s < m) × (t < m)

-- ---- pairs, each of some weight: 1, or the bytes of its line

total : (Pair → ℕ) → List Pair → ℕ
total w [] = 0
total w (p ∷ ps) = w p + total w ps

total-append : (w : Pair → ℕ) (ps qs : List Pair) → total w (ps ++ qs) ≡ total w ps + total w qs
unfolding total
total-append w [] qs = omega arith
total-append w (p ∷ ps) qs = omega (arith, total-append w ps qs)

total-ones : (ps : List Pair) → length ps ≡ total (λ p. 1) ps
unfolding total
total-ones [] = refl
total-ones (p ∷ ps) = omega (arith, total-ones ps)

total-lines : (letter : List ℕ) (ps : List Pair) → length (pair_lines letter ps) ≡ total (λ p. length (pair_line letter p)) ps
unfolding total pair_lines
total-lines letter [] = refl
total-lines letter (p ∷ ps) = length-append (pair_line letter p) (pair_lines letter ps) ∙ ap (λ (n : ℕ). length (pair_line letter p) + n) (total-lines letter ps)

-- so many of the same weight
times : ℕ → ℕ → ℕ
times b n = b * n

times-step : (b m a : ℕ) → a < m → times b (m - a) ≡ times b (m - suc a) + b
unfolding times
times-step b m a l = let one : m - a ≡ suc (m - suc a) = omega arith in ap (λ (n : ℕ). b * n) one ∙ mul-suc b (m - suc a)

times-less : (b m a : ℕ) → times b (m - suc a) ≤ times b (m - a)
times-less b m a = by (ltb a m) refl
  where
    by : (t : Bool) → ltb a m ≡ t → times b (m - suc a) ≤ times b (m - a)
    by true e = omega (arith, times-step b m a (ltb-true a m e))
    by false e = let none : m - suc a ≡ m - a = omega (arith, ltb-false a m e) in omega (arith, ap (times b) none)

times_none : (b : ℕ) → times b 0 ≡ 0
unfolding times
times_none b = mul-zero b

minus-none : (m : ℕ) → m - 0 ≡ m
minus-none m = omega arith

-- of a row whose targets are below m: no more than m of the greatest weight
module _ (w : Pair → ℕ) (b m s : ℕ) (each : (t : ℕ) → t < m → w (record { source = s; target = t }) ≤ b)
    (p : ℕ → Bool) (below : (t : ℕ) → t < width → T (p t) → t < m) where
  rest-most : (n a : ℕ) → a + n ≤ width → total w (with_each s (passing p n a)) ≤ times b (m - a)
  unfolding total passing
  rest-most zero a l = omega arith
  rest-most (suc n) a l = by (p a) refl (rest-most n (suc a) (omega (arith, add-suc a n, suc-add a n)))
    where
      by : (t : Bool) → p a ≡ t → total w (with_each s (passing p n (suc a))) ≤ times b (m - suc a)
          → total w (with_each s (when t then a ∷ passing p n (suc a) else passing p n (suc a))) ≤ times b (m - a)
      by true e k =
          let h = below a (omega (arith, add-suc a n)) (true→T e) in
          omega (arith, each a h, times-step b m a h)
      by false e k = omega (arith, times-less b m a)

  row-most : total w (with_each s (passing p width 0)) ≤ times b m
  row-most = omega (arith, rest-most width 0 (omega arith), ap (times b) (minus-none m))

-- of a relation whose pairs are below m: no more than m rows
module _ (w : Pair → ℕ) (b m : ℕ) (each : (s t : ℕ) → s < m → t < m → w (record { source = s; target = t }) ≤ b)
    (r : Relation) (below : Below m r) where
  rows-most : (n s : ℕ) → s + n ≤ width → total w (pairs_from r n s) ≤ times (times b m) (m - s)
  unfolding total pairs_from
  rows-most zero s l = omega arith
  rows-most (suc n) s l =
      by (ltb s m) refl (rows-most n (suc s) (omega (arith, add-suc s n, suc-add s n)))
    where
      here : s < width
      here = omega (arith, add-suc s n)

      both : total w (with_each s (passing (r s) width 0) ++ pairs_from r n (suc s)) ≡ total w (with_each s (passing (r s) width 0)) + total w (pairs_from r n (suc s))
      both = total-append w (with_each s (passing (r s) width 0)) (pairs_from r n (suc s))

      by : (t : Bool) → ltb s m ≡ t → total w (pairs_from r n (suc s)) ≤ times (times b m) (m - suc s)
          → total w (with_each s (passing (r s) width 0) ++ pairs_from r n (suc s)) ≤ times (times b m) (m - s)
      by true e k =
          let h = ltb-true s m e in
          omega (
            arith,
            both,
            row-most w b m s (λ t lt. each s t h lt) (r s) (λ t lt q. (below s t here lt q).1),
            times-step (times b m) m s h,
          )
      by false e k =
          let h = ltb-false s m e in
          omega (
            arith,
            both,
            row-most w b 0 s (λ t lt. omega arith) (r s) (λ t lt q. omega (arith, (below s t here lt q).0)),
            times_none b,
            times-less (times b m) m s,
          )

  pairs-most : total w (pairs_of r) ≤ times (times b m) m
  pairs-most = omega (arith, rows-most width 0 (omega arith), ap (times (times b m)) (minus-none m))

-- ---- the pairs of a graph, all below m

pub record AllBelow (m : ℕ) (g : Graph) : Type 0 where
  pub conditions : Below m (relations_of g).conditions
  pub responses : Below m (relations_of g).responses
  pub includes : Below m (relations_of g).includes
  pub excludes : Below m (relations_of g).excludes

count_most : (m : ℕ) (r : Relation) → Below m r → pair_count r ≤ times (times 1 m) m
count_most m r below = omega (arith, total-ones (pairs_of r), pairs-most (λ p. 1) 1 m (λ s t hs ht. omega arith) r below)

module _ (m b : ℕ) (short : (letter : List ℕ) → length letter ≡ 1 → (s t : ℕ) → s < m → t < m → length (pair_line letter (record { source = s; target = t })) ≤ b) where
  relation-most : (letter : List ℕ) → length letter ≡ 1 → (r : Relation) → Below m r → length (pair_lines letter (pairs_of r)) ≤ times (times b m) m
  relation-most letter one r below =
      omega (arith, total-lines letter (pairs_of r), pairs-most (λ p. length (pair_line letter p)) b m (short letter one) r below)

  relations-most : (g : Graph) → AllBelow m g → length (relation_lines g) ≤ 4 * times (times b m) m
  unfolding relation_lines
  relations-most g below =
      let q = relations_of g in
      simp length-append
      (omega (
        arith,
        relation-most C refl q.conditions below.conditions,
        relation-most R refl q.responses below.responses,
        relation-most I refl q.includes below.includes,
        relation-most E refl q.excludes below.excludes,
      ))

-- a letter and two numbers below 64, or below 128
module _ (letter : List ℕ) (one : length letter ≡ 1) (s t : ℕ) where
  short-narrow : s < word → t < word → length (pair_line letter (record { source = s; target = t })) ≤ 8
  unfolding pair_line line
  short-narrow hs ht = simp length-append (omega (arith, two-figures s (omega arith), two-figures t (omega arith)))

  short-wide : s < width → t < width → length (pair_line letter (record { source = s; target = t })) ≤ 10
  unfolding pair_line line
  short-wide hs ht = simp length-append (omega (arith, three-figures s (omega arith), three-figures t (omega arith)))

any_below : (g : Graph) → AllBelow width g
any_below g =
    record {
      conditions = λ s t hs ht q. (hs, ht);
      responses = λ s t hs ht q. (hs, ht);
      includes = λ s t hs ht q. (hs, ht);
      excludes = λ s t hs ht q. (hs, ht);
    }

relations-narrow : (g : Graph) → AllBelow word g → length (relation_lines g) ≤ 131072
unfolding times
relations-narrow g below = relations-most word 8 short-narrow g below

relations-wide : (g : Graph) → length (relation_lines g) ≤ 655360
unfolding times
relations-wide g = relations-most width 10 short-wide g (any_below g)

-- ---- traces: a letter, a number below 10,000, one below 1,000, an answer's number, and 1 or 0

number_small : (a : Answer) → number_of a < 100
number_small Done = omega arith
number_small TooShort = omega arith
number_small WrongLetters = omega arith
number_small AboveLimit = omega arith
number_small WrongOffset = omega arith
number_small Outside = omega arith
number_small BadRow = omega arith
number_small BufferTooSmall = omega arith
number_small NoEvent = omega arith
number_small NotIncluded = omega arith
number_small (Waiting b) = omega arith
number_small NoTrace = omega arith
number_small WrongArgument = omega arith
number_small NoPlaceFree = omega arith
number_small NotOpen = omega arith
number_small NotAccepting = omega arith
number_small FalseEnabled = omega arith
number_small NoWayOut = omega arith
number_small LabelsNotAsMany = omega arith
number_small LabelAboveOne = omega arith

digit-small : (b : Bool) → digit b < 10
digit-small true = omega arith
digit-small false = omega arith

trace-most : (k n : ℕ) (r : Replayed) → k < 10000 → n < 1000 → length (trace_line k n r) ≤ 16
unfolding trace_line line
trace-most k n r hk hn =
    simp length-append
    (omega (
      arith,
      four-figures k hk,
      three-figures n hn,
      two-figures (number_of r.answer) (number_small r.answer),
      one-figure (digit r.accepting) (digit-small r.accepting),
    ))

traces-most : (f : List ℕ → Replayed) (k : ℕ) (L : Traces) → k + length L ≤ 10000 → ((σ : List ℕ) → Memᴰ σ L → length σ < 1000)
    → length (trace_lines f k L) ≤ 16 * length L
unfolding trace_lines
traces-most f k [] l h = omega arith
traces-most f k (σ ∷ L) l h =
    omega (
      arith,
      length-append (trace_line k (length σ) (f σ)) (trace_lines f (suc k) L),
      trace-most k (length σ) (f σ) (omega (arith, add-suc k (length L))) (h σ (Memᴰ.head refl)),
      traces-most f (suc k) L (omega (arith, add-suc k (length L), suc-add k (length L))) (λ τ m. h τ (Memᴰ.tail m)),
    )

-- ---- the first line

module _ (g : Graph) (n : ℕ) (few : n ≤ most_traces) where
  first-wide : length (first_line g n) ≤ 55
  unfolding first_line line
  first-wide =
      let q = relations_of g in
      simp length-append
      (omega (
        arith,
        three-figures (count_below width (mem g.head.events)) (omega (arith, count-le width (mem g.head.events))),
        at_most 5 (pair_count q.conditions),
        at_most 5 (pair_count q.responses),
        at_most 5 (pair_count q.includes),
        at_most 5 (pair_count q.excludes),
        four-figures n (omega arith),
      ))

  module _ (below : AllBelow word g) (events : count_below width (mem g.head.events) ≤ word) where
    pairs-narrow : (r : Relation) → Below word r → length (decimal (pair_count r)) ≤ 4
    unfolding times
    pairs-narrow r b = four-figures (pair_count r) (omega (arith, count_most word r b))

    first-narrow : length (first_line g n) ≤ 50
    unfolding first_line line
    first-narrow =
        let q = relations_of g in
        simp length-append
        (omega (
          arith,
          two-figures (count_below width (mem g.head.events)) (omega arith),
          pairs-narrow q.conditions below.conditions,
          pairs-narrow q.responses below.responses,
          pairs-narrow q.includes below.includes,
          pairs-narrow q.excludes below.excludes,
          four-figures n (omega arith),
        ))

-- a graph with A up to 64 that is not refused
module _ (g : Graph) (w : T (graph_within g)) (small : g.head.activities ≤ word) where
  all-below_lem : AllBelow word g
  all-below_lem =
      record {
        conditions = λ s t hs ht q. let h = pair-below g w 0 (lit≤ tt) t s ht hs q in (omega arith, omega arith);
        responses = λ s t hs ht q. let h = pair-below g w 1 (lit≤ tt) s t hs ht q in (omega arith, omega arith);
        includes = λ s t hs ht q. let h = pair-below g w 2 (lit≤ tt) s t hs ht q in (omega arith, omega arith);
        excludes = λ s t hs ht q. let h = pair-below g w 3 (lit≤ tt) s t hs ht q in (omega arith, omega arith);
      }

  events-few : count_below width (mem g.head.events) ≤ word
  events-few = count-narrow (mem g.head.events) (λ a l t. let h = event-below g w a l t in omega arith)

-- ---- the whole

-- the line of a refusal: refused 12
pub refused-most : (a : Answer) → length (refused_line a) ≤ longest_refused
unfolding refused_line line
refused-most a = simp length-append (omega (arith, two-figures (number_of a) (number_small a)))

module _ (bytes : List ℕ) where
  abbrev A : ℕ
  A = (log_of bytes).activities

  abbrev L : Traces
  L = (log_of bytes).traces

  few : length L ≤ most_traces
  few = (read-within bytes).number

  replays-most : (g : Graph) → length (trace_lines (replay_of g) 0 L) ≤ 16384
  replays-most g =
      let n = few in
      omega (arith, traces-most (replay_of g) 0 L (omega arith) (λ σ m. omega (arith, (file-accepted bytes).lengths σ m)))

  lines-wide : (g : Graph) → length (lines_of g L) ≤ longest_wide
  unfolding lines_of
  lines-wide g = simp length-append (omega (arith, first-wide g (length L) few, relations-wide g, replays-most g))

  lines-narrow : (g : Graph) → T (graph_within g) → g.head.activities ≤ word → length (lines_of g L) ≤ longest_narrow
  unfolding lines_of
  lines-narrow g w small =
      let below = all-below_lem g w small in
      simp length-append
      (omega (arith, first-narrow g (length L) few below (events-few g w small), relations-narrow g below, replays-most g))

  -- an accepted log that is not of edition 2 has up to 64 activities
  narrow-small : is_done (log_of bytes).answer ≡ true → wide_in bytes ≡ false → A ≤ word
  unfolding edition_for
  narrow-small d e =
      let done = sym (log-answer bytes) ∙ done-is (log_of bytes).answer d in
      let ok = accepted bytes done in
      let same : A ≡ activities_in bytes = ap (λ (x : Log). x.activities) (log-accepted bytes done) in
      by (ltb word (activities_in bytes)) refl ok.edition same
    where
      by : (t : Bool) → ltb word (activities_in bytes) ≡ t → edition_in bytes ≡ when t then wide_edition else narrow_edition → A ≡ activities_in bytes → A ≤ word
      by true q n same = absurd (false→F e (true→T (eq-eqb (edition_in bytes) wide_edition n)))
      by false q n same = omega (arith, ltb-false word (activities_in bytes) q)

  -- THE THEOREM
  pub longest : (p : Profile) → length (listing_of bytes p) ≤ longest_listing bytes
  unfolding listing_of longest_listing mined_graph graph_from
  longest p = by (is_done (log_of bytes).answer) refl (wide_in bytes) refl
    where
      by : (b : Bool) → is_done (log_of bytes).answer ≡ b → (w : Bool) → wide_in bytes ≡ w
          → length (when b then lines_of (mined_graph A L p) L else refused_line (log_of bytes).answer) ≤ (when w then longest_wide else longest_narrow)
      by true d true e = lines-wide (mined_graph A L p)
      by true d false e =
          lines-narrow (mined_graph A L p) (judged-within (mined_graph A L p) 0 (acceptable A L (file-accepted bytes) p)) (narrow-small d e)
      by false d true e = omega (arith, refused-most (log_of bytes).answer)
      by false d false e = omega (arith, refused-most (log_of bytes).answer)
