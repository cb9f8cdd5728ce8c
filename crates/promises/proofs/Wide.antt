-- 02, 10/12, UP TO 128 ACTIVITIES: which edition goes with which A, in logs and in graph files; that a graph has one file; that files of edition 1 are
-- read as before; the refusals that are new. The demands themselves speak of both sizes: their theorems (Demands) ask nothing of A. Assumes nothing.
use mathlib.Core.Path.{◌≡◌, refl, sym, ap, ◌∙◌}
use mathlib.Core.Bool.{Bool, true, false}
use mathlib.Core.List.{List, [], ◌∷◌}
use Prim.Native.Nat.{ℕ, ◌*◌, ◌≤◌, ◌<◌}
use native.Mathlib.Omega.{arith}
use borrow.Author.Tests.{lt-ltb, le-ltb, ne_eqb, ltb-true, ltb-false}
use lib.Dec.{eqb, ltb}
use lib.ListN.{length}
use Rattle.sets.specs.Tests.{◌and◌, ◌or◌, non, when◌then◌else◌}
use Rattle.sets.specs.Members.{word}
use Rattle.sets.specs.Sizes.{most_activities}
use Rattle.sets.specs.Answers.{number_of, is_done}
use Rattle.sets.specs.declared.answer.Answer.{Answer}
use Rattle.sets.specs.declared.answer.Answer.TheVariants.{Done, TooShort, AboveLimit}
use Rattle.sets.proofs.Asking.{done-is}
use Rattle.sets.proofs.Tests.{or-true}
use Rattle.sets.proofs.Tautologies.{by2, by3}
use Rattle.engine.specs.Relations.{empty_graph}
use Rattle.engine.specs.declared.graph.Graph.{Graph}
use Rattle.octets.specs.Opens.{opens_with}
use Rattle.octets.specs.Sets.{set_length}
use Rattle.octets.specs.Editions.{edition_for, edition_in, opens_file, beyond}
use Rattle.octets.proofs.Codec.{Bytes}
use Rattle.octets.proofs.Editions.{within-limit}
use Rattle.calllog.specs.Layout.{head_size, letters as log_letters, activities_in as log_activities}
use Rattle.calllog.specs.Judged.{judged_log, judged_head as log_head}
use Rattle.calllog.specs.Written.{log_bytes, WithinLimits}
use Rattle.calllog.specs.declared.judge.Judged.{Judged}
use Rattle.calllog.proofs.Accepted.{accepted as log-accepted}
use Rattle.calllog.proofs.Given.{log-answer, judged-accepted}
use Rattle.calllog.proofs.Writing.{written-accepted}
use Rattle.graphfile.specs.Layout.{letters, activities_in, head_length, row_length, rows_length}
use Rattle.octets.specs.Editions.{wide_in}
use Rattle.graphfile.specs.Refusals.{most_rows, judged_head, judged_before_rows, judged_file}
use Rattle.graphfile.specs.Held.{graph_in, read_of}
use Rattle.graphfile.specs.Writing.{bytes_of}
use Rattle.graphfile.specs.declared.reader.Reading.{Reading}
use Rattle.graphfile.proofs.Accepted.{accepted, head_done}
use Rattle.graphfile.proofs.RoundTrips.{file-round}
use Rattle.plain.specs.Pairs.{most_pairs}
use Rattle.promises.specs.Wide.{Edition}
use Rattle.promises.specs.Wide.Edition.{first, second}
use Rattle.promises.proofs.Contracts.{JudgeLogGives, judge-log-said, ReadGives, read-said}

-- ---- sizes

-- in edition 1, and in edition 2: the bytes of a set, of a head, of a row, and how many rows a relation may have
pub sizes-1 : (set_length false ≡ 8) × (head_length false ≡ 52) × (row_length false ≡ 9) × (most_rows false ≡ 64)
sizes-1 = (refl, refl, refl, refl)

pub sizes-2 : (set_length true ≡ 16) × (head_length true ≡ 84) × (row_length true ≡ 17) × (most_rows true ≡ 128)
sizes-2 = (refl, refl, refl, refl)

-- so many rows, in bytes: what offsets count
pub offsets : (wide : Bool) (rows : ℕ) → rows_length wide rows ≡ row_length wide * rows
unfolding rows_length
offsets wide rows = refl

-- A, and the pairs of a relation in the plain engine
pub limits : (most_activities ≡ 128) × (most_pairs ≡ 16384)
limits = (refl, refl)

-- ---- the edition that goes with A

edition-of : (e A : ℕ) → A ≤ most_activities → e ≡ edition_for A → Edition e A
unfolding edition_for
edition-of e A l q = by (ltb word A) refl
  where
    by : (t : Bool) → ltb word A ≡ t → Edition e A
    by true h = second (q ∙ ap (λ (t : Bool). when t then 2 else 1) h) (ltb-true 64 A h) l
    by false h = first (q ∙ ap (λ (t : Bool). when t then 2 else 1) h) (ltb-false 64 A h)

edition-off : (e A : ℕ) → (Edition e A → ⊥) → beyond e A ≡ true
edition-off e A n = by (beyond e A) refl
  where
    by : (t : Bool) → beyond e A ≡ t → beyond e A ≡ true
    by true h = h
    by false h = let w = within-limit e A h in absurd (n (edition-of e A w.0 w.1))

-- an accepted log
module _ (bytes : List ℕ) (r : Judged) (c : JudgeLogGives bytes r) where
  the-log : r.answer ≡ judged_log bytes
  the-log = ap (λ (x : Judged). x.answer) (judge-log-said bytes r c) ∙ log-answer bytes

  pub log-edition : number_of r.answer ≡ 0 → Edition (edition_in bytes) r.activities
  log-edition d =
      let ok : judged_log bytes ≡ Done = sym the-log ∙ done-is r.answer (ap (λ (n : ℕ). eqb n 0) d) in
      let a = log-accepted bytes ok in
      let same : r.activities ≡ log_activities bytes = ap (λ (x : Judged). x.activities) (judge-log-said bytes r c ∙ judged-accepted bytes ok) in
      edition-of (edition_in bytes) r.activities (omega (arith, same, a.activities)) (a.edition ∙ ap edition_for (sym same))

  -- 3 where the edition doesn't match A, tested with A: after 1 and 2
  pub log-3 : head_size ≤ length bytes → opens_file log_letters bytes ≡ true → (Edition (edition_in bytes) (log_activities bytes) → ⊥) → number_of r.answer ≡ 3
  unfolding judged_log log_head non
  log-3 l o n = ap number_of (the-log ∙ off)
    where
      off : judged_log bytes ≡ AboveLimit
      off = rw (le-ltb (length bytes) head_size l, o, edition-off (edition_in bytes) (log_activities bytes) n)

-- every A up to 128, and any traces within 01's limits, have a log
pub log-there : (A : ℕ) (L : List (List ℕ)) → WithinLimits A L → (r : Judged) → JudgeLogGives (log_bytes A L) r → number_of r.answer ≡ 0
log-there A L w r c = ap number_of (the-log (log_bytes A L) r c ∙ written-accepted A L w)

-- an accepted graph file
module _ (bytes : List ℕ) (r : Reading) (c : ReadGives bytes r) where
  the-read : r.answer ≡ judged_file bytes
  unfolding read_of
  the-read = ap (λ (x : Reading). x.answer) (read-said bytes r c)

  module _ (d : number_of r.answer ≡ 0) where
    file-done : judged_file bytes ≡ Done
    file-done = sym the-read ∙ done-is r.answer (ap (λ (n : ℕ). eqb n 0) d)

    the-graph : r.graph ≡ graph_in bytes
    unfolding read_of
    the-graph = ap (λ (x : Reading). x.graph) (read-said bytes r c) ∙ ap (λ (a : Answer). when is_done a then graph_in bytes else empty_graph) file-done

    pub file-edition : Edition (edition_in bytes) r.graph.head.activities
    unfolding graph_in
    file-edition =
        let h = head_done bytes (accepted bytes file-done).head in
        let same : r.graph.head.activities ≡ activities_in bytes = ap (λ (g : Graph). g.head.activities) the-graph in
        edition-of (edition_in bytes) r.graph.head.activities (omega (arith, same, h.few)) (h.edition ∙ ap edition_for (sym same))

    the-file : Bytes bytes → bytes ≡ bytes_of r.graph
    the-file small = sym (file-round bytes small file-done) ∙ ap bytes_of (sym the-graph)

  module _ (l : head_length false ≤ length bytes) (o : opens_file letters bytes ≡ true) where
    -- 1 again, for a file of edition 2 under 84 bytes, straight after 2
    pub file-1 : edition_in bytes ≡ 2 → length bytes < head_length true → number_of r.answer ≡ 1
    unfolding judged_file judged_before_rows judged_head non
    file-1 e s = ap number_of (the-read ∙ cut)
      where
        short : ltb (length bytes) (head_length (wide_in bytes)) ≡ true
        short = ap (λ (n : ℕ). ltb (length bytes) (head_length (eqb n 2))) e ∙ lt-ltb (length bytes) (head_length true) s

        cut : judged_file bytes ≡ TooShort
        cut = rw (le-ltb (length bytes) (head_length false) l, o, short)

    -- 3 where the edition doesn't match A, tested with A
    pub file-3 : head_length (wide_in bytes) ≤ length bytes → (Edition (edition_in bytes) (activities_in bytes) → ⊥) → number_of r.answer ≡ 3
    unfolding judged_file judged_before_rows judged_head non
    file-3 h n = ap number_of (the-read ∙ off)
      where
        off : judged_file bytes ≡ AboveLimit
        off =
            rw (
              le-ltb (length bytes) (head_length false) l,
              o,
              le-ltb (length bytes) (head_length (wide_in bytes)) h,
              edition-off (edition_in bytes) (activities_in bytes) n,
            )

-- "so every graph still has one file": two accepted files of one graph are the same
pub one-file : (file other : List ℕ) (r : Reading) → Bytes file → Bytes other → ReadGives file r → ReadGives other r → number_of r.answer ≡ 0
    → file ≡ other
one-file file other r small small' c c' d = the-file file r c d small ∙ sym (the-file other r c' d small')

-- ---- "Old files are read as before": edition 1 has the lengths above, and its letters, edition and limit are 01's

pub old-opens : (x y : ℕ) (bytes : List ℕ) → (edition_in bytes ≡ 2 → ⊥) → opens_file (x ∷ y ∷ []) bytes ≡ opens_with (x ∷ y ∷ 1 ∷ []) bytes
unfolding opens_file opens_with ◌and◌ ◌or◌ non
old-opens x y [] n = refl
old-opens x y (a ∷ []) n = none (eqb a x)
  where
    none : (p : Bool) → (p and false and false) ≡ (p and false)
    none true = refl
    none false = refl
old-opens x y (a ∷ b ∷ []) n = by2 (λ p q. (p and (q and true)) and false) (λ p q. p and (q and false)) tt (eqb a x) (eqb b y)
old-opens x y (a ∷ b ∷ e ∷ bytes) n =
    ap (λ (t : Bool). (eqb a x and (eqb b y and true)) and (eqb e 1 or t)) (ne_eqb e 2 n)
    ∙ by3 (λ p q r. (p and (q and true)) and (r or false)) (λ p q r. p and (q and (r and true))) tt (eqb a x) (eqb b y) (eqb e 1)

pub old-limit : (A : ℕ) → beyond 1 A ≡ ltb 64 A
unfolding beyond edition_for ◌or◌ non
old-limit A = by (ltb 64 A) refl
  where
    by : (t : Bool) → ltb 64 A ≡ t → beyond 1 A ≡ t
    by true h = ap (λ (t : Bool). ltb 128 A or non (eqb 1 (when t then 2 else 1))) h ∙ or-true (ltb 128 A)
    by false h = rw (h, le-ltb 128 A (omega (arith, ltb-false 64 A h)))
