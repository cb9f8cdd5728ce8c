-- The replays of a log's parts are those of its traces, and their bytes are put one after another. Assumes nothing.
use mathlib.Core.Path.{◌≡◌, refl, sym, ap, ap₂, ◌∙◌}
use mathlib.Core.Bool.{Bool, true, false}
use mathlib.Core.List.{List, [], ◌∷◌, ◌++◌}
use Prim.Native.Nat.{ℕ, zero, suc, ◌+◌, ◌≤◌, ◌<◌}
use native.Mathlib.Nat.{zero-add, add-suc, suc-add}
use native.Mathlib.Numerals.{add-one}
use native.Mathlib.Omega.{arith}
use lib.ListN.{length, get_or, drop, set}
use lib.Seq.{drop-cons, set_at, append_snoc}
use Rattle.sets.specs.Tests.{◌and◌, when◌then◌else◌}
use Rattle.sets.specs.Rows.{list_from}
use Rattle.sets.specs.Answers.{number_of, is_done, then_ask}
use Rattle.sets.specs.declared.answer.Answer.{Answer}
use Rattle.sets.specs.declared.answer.Answer.TheVariants.{Done, BufferTooSmall}
use Rattle.sets.proofs.RowLaws.{length-list_from}
use Rattle.sets.proofs.Asking.{both}
use Rattle.engine.specs.Relations.{in_tables}
use Rattle.engine.specs.Judged.{judged}
use Rattle.engine.specs.Replay.{walked_of, replay_from, replay_of}
use Rattle.engine.specs.declared.graph.Head.{Head}
use Rattle.engine.specs.declared.graph.Graph.{Graph}
use Rattle.engine.specs.declared.replay.Replayed.{Replayed}
use Rattle.engine.specs.declared.replay.Walked.{Walked}
use Rattle.engine.proofs.Acceptable.{replay-judged}
use Rattle.calllog.specs.Logs.{log_of, part_of, part_at, judged_of}
use Rattle.calllog.specs.declared.judge.Judged.{Judged}
use Rattle.calllog.proofs.Traces.{part-trace, read-within}
use Rattle.marks.specs.declared.replays.Replays.{Replays}
use Rattle.marks.specs.Marks.{is_yes, trace_number, judged_both}
use Rattle.marks.specs.Replays.{replay_byte, part_replay, replay_bytes, judged_replays, replays_of, replays_after}
use Rattle.marks.proofs.Asking.{replays-refused, replays-small, replays-done, both_is, both-done}

-- ---- one trace

pub part-ended : (head : Head) (tables log : List ℕ) (k : ℕ) (σ : List ℕ) (r : Walked) → σ ≡ part_at log k
    → r ≡ walked_of (replay_from head.events (in_tables tables) head.opening.state 0 σ) → r ≡ walked_of (part_replay head tables log k)
part-ended head tables log k σ r e h =
    h ∙ ap (λ (l : List ℕ). walked_of (replay_from head.events (in_tables tables) head.opening.state 0 l)) e

module _ (r : Walked) (d : Bool) (hd : d ≡ is_done r.answer) where
  pub no-yes : d ≡ false → false ≡ (is_done r.answer and r.accepting)
  unfolding ◌and◌
  no-yes n = sym (ap (λ (b : Bool). b and r.accepting) (sym hd ∙ n))

  pub then-accepting : d ≡ true → r.accepting ≡ (is_done r.answer and r.accepting)
  unfolding ◌and◌
  then-accepting n = sym (ap (λ (b : Bool). b and r.accepting) (sym hd ∙ n))

module _ (r : Walked) (q : Replayed) (b : Bool) (e : r ≡ walked_of q) (h : b ≡ (is_done r.answer and r.accepting)) where
  pub verdict-is : b ≡ is_yes q
  unfolding is_yes
  verdict-is = h ∙ ap (λ (x : Walked). is_done x.answer and x.accepting) e

  pub byte-yes : b ≡ true → 128 ≡ replay_byte q
  unfolding replay_byte
  byte-yes t = sym (ap (λ (x : Bool). when x then 128 else number_of q.answer) (sym verdict-is ∙ t))

  pub byte-other : (n : ℕ) → b ≡ false → n ≡ number_of r.answer → n ≡ replay_byte q
  unfolding replay_byte
  byte-other n t hn =
      hn
      ∙ ap (λ (x : Walked). number_of x.answer) e
      ∙ sym (ap (λ (x : Bool). when x then 128 else number_of q.answer) (sym verdict-is ∙ t))

pub ruleset judging_one = (part-ended, no-yes, then-accepting, verdict-is, byte-yes, byte-other)

-- ---- one byte after another

list-last : (n i : ℕ) (f : ℕ → ℕ) → list_from (suc n) i f ≡ list_from n i f ++ (f (i + n) ∷ [])
unfolding list_from
list-last zero i f = ap (λ (k : ℕ). f k ∷ []) (let same : i ≡ i + 0 = omega arith in same)
list-last (suc n) i f =
    ap (λ (l : List ℕ). f i ∷ l) (list-last n (suc i) f ∙ ap (λ (k : ℕ). list_from n (suc i) f ++ (f k ∷ [])) (suc-add i n ∙ sym (add-suc i n)))

-- the first k bytes, then what was there
abbrev pub bytes_put : (ℕ → ℕ) → ℕ → List ℕ → List ℕ
bytes_put f k out = list_from k 0 f ++ drop k out

pub bytes-first : (f : ℕ → ℕ) (out : List ℕ) → out ≡ bytes_put f 0 out
unfolding list_from
bytes-first f out = refl

pub bytes_next : (f : ℕ → ℕ) (out₀ out : List ℕ) (k n b : ℕ) → k < n → n ≤ length out₀ → out ≡ bytes_put f k out₀ → b ≡ f k
    → set out k b ≡ bytes_put f (k + 1) out₀
bytes_next f out₀ out k n b l m e h =
    let here : k < length out₀ = omega arith in
    ap₂ (λ (o : List ℕ) (x : ℕ). set o k x) (e ∙ ap (λ (w : List ℕ). list_from k 0 f ++ w) (drop-cons out₀ k 0 here)) h
    ∙ set_at (list_from k 0 f) (get_or out₀ k 0) (drop (suc k) out₀) (f k) k (length-list_from k 0 f)
    ∙ sym (append_snoc (list_from k 0 f) (f k) (drop (suc k) out₀))
    ∙ ap (λ (w : List ℕ). w ++ drop (suc k) out₀)
    (ap (λ (x : ℕ). list_from k 0 f ++ (f x ∷ [])) (sym (zero-add k)) ∙ sym (list-last k 0 f))
    ∙ ap (λ (x : ℕ). bytes_put f x out₀) (sym (add-one k))

pub ruleset byte_by_byte = (bytes-first, bytes_next)

-- ---- the parts of a log that is not refused are its traces, and its graph need not be judged again

module _ (g : Graph) (log : List ℕ) (d : judged_both g log ≡ Done) where
  pub part-replayed : (k : ℕ) → k < length (log_of log).traces → part_replay g.head g.relations log k ≡ replay_of g (trace_number log k)
  part-replayed k l =
      ap (replay_from g.head.events (in_tables g.relations) g.head.opening.state 0) (part-trace log k (part_of log k) l refl)
      ∙ sym (replay-judged g (both (log_of log).answer (judged g) d).1 (trace_number log k) ((read-within log).lengths k l))

list_ext : (n i : ℕ) (f h : ℕ → ℕ) → ((k : ℕ) → k < i + n → f k ≡ h k) → list_from n i f ≡ list_from n i h
unfolding list_from
list_ext zero i f h e = refl
list_ext (suc n) i f h e =
    ap₂ ◌∷◌ (e i (omega (arith, add-suc i n))) (list_ext n (suc i) f h (λ k l. e k (omega (arith, add-suc i n, suc-add i n))))

-- ---- the three ways out of `write_replays`

module _ (g : Graph) (log out : List ℕ) where
  abbrev given : Answer → ℕ → Replays
  given a n = record { answer = a; traces = n }

  by_answer : (a : Answer) (t : Bool) → a ≡ judged_replays g log (length out) → is_done a ≡ t
      → (given a (when t then length (log_of log).traces else 0) ≡ replays_of g log (length out))
      × ((when t then bytes_put (λ k. replay_byte (replay_of g (trace_number log k))) (length (log_of log).traces) out else out)
      ≡ replays_after g log out)
  unfolding replays_of replays_after
  by_answer a t e h = (
    (λ i. given (e i) (when (sym h ∙ ap is_done e) i then length (log_of log).traces else 0)),
    (λ i. when (sym h ∙ ap is_done e) i then replay_bytes g log ++ drop (length (log_of log).traces) out else out),
  )

  module _ (j : Judged) (a : Answer) (d : Bool) (hj : j ≡ judged_of log) (ha : a ≡ then_ask j.answer (judged g)) (hd : d ≡ is_done a) where
    pub refused-given : d ≡ false → given a 0 ≡ replays_of g log (length out)
    refused-given n = (by_answer a false (replays-refused log g j a d hj ha hd (length out) n) (sym hd ∙ n)).0

    pub refused-kept : d ≡ false → out ≡ replays_after g log out
    refused-kept n = (by_answer a false (replays-refused log g j a d hj ha hd (length out) n) (sym hd ∙ n)).1

    pub small-given : d ≡ true → length out < j.traces → given BufferTooSmall 0 ≡ replays_of g log (length out)
    small-given n l = (by_answer BufferTooSmall false (replays-small log g j a d hj ha hd (length out) n l) refl).0

    pub small-kept : d ≡ true → length out < j.traces → out ≡ replays_after g log out
    small-kept n l = (by_answer BufferTooSmall false (replays-small log g j a d hj ha hd (length out) n l) refl).1

    module _ (n : d ≡ true) (l : j.traces ≤ length out) where
      done-answer : a ≡ judged_replays g log (length out)
      done-answer = both_is log g j a d hj ha hd ∙ both-done log g j a d hj ha hd n ∙ replays-done log g j a d hj ha hd (length out) n l

      pub done-given : given a j.traces ≡ replays_of g log (length out)
      done-given =
          ap (λ (x : Judged). given a x.traces) hj ∙ (by_answer a true done-answer (sym hd ∙ n)).0

      pub done_held : (out' : List ℕ) → out' ≡ bytes_put (λ k. replay_byte (part_replay g.head g.relations log k)) j.traces out
          → out' ≡ replays_after g log out
      done_held out' h =
          h
          ∙ ap (λ (x : Judged). bytes_put (λ k. replay_byte (part_replay g.head g.relations log k)) x.traces out) hj
          ∙ ap (λ (w : List ℕ). w ++ drop (length (log_of log).traces) out)
          (list_ext (length (log_of log).traces) 0 _ (λ k. replay_byte (replay_of g (trace_number log k)))
          (λ k m. ap replay_byte (part-replayed g log (both-done log g j a d hj ha hd n) k (omega (arith, zero-add (length (log_of log).traces))))))
          ∙ (by_answer a true done-answer (sym hd ∙ n)).1

pub ruleset writing = (refused-given, refused-kept, small-given, small-kept, done-given, done_held)
