-- The traces of a log: how many, how long, which members, and that the bodies laid end to end are the traces. Assumes nothing.
use mathlib.Core.Path.{◌≡◌, refl, sym, ap, subst, ◌∙◌}
use mathlib.Core.Bool.{Bool, true, false}
use mathlib.Core.List.{List, [], ◌++◌, append_assoc, append-nil}
use Prim.Native.Nat.{ℕ, zero, suc, ◌+◌, ◌-◌, ◌≤◌, ◌<◌}
use native.Mathlib.Nat.{not-suc-le-zero, le_of_suc-le-suc, add-zero, zero-add, add-suc, suc-add, add_assoc}
use native.Mathlib.Omega.{arith}
use borrow.Author.Tests.{ltb-false}
use lib.Dec.{ltb}
use lib.ListN.{length, get_or, take, drop, length-drop, take-append-drop}
use lib.Seq.{drop-length, drop-drop, length-take-le}
use Rattle.sets.specs.Tests.{when◌then◌else◌}
use Rattle.sets.specs.Answers.{is_done}
use Rattle.sets.specs.declared.answer.Answer.TheVariants.{Done}
use Rattle.calllog.specs.Layout.{activities_in, traces_in, offset_at, length_at, bodies_start, events_before}
use Rattle.calllog.specs.Judged.{judged_log, all_below}
use Rattle.calllog.specs.Logs.{Log, start_at, trace_at, traces_from, log_of, no_part, where_part, part_of, part_at, found_of}
use Rattle.calllog.specs.Written.{end_to_end, WithinLimits}
use Rattle.calllog.specs.declared.trace.Part.{Part}
use Rattle.calllog.specs.declared.trace.Found.{Found}
use Rattle.sets.proofs.Asking.{done-is}
use Rattle.calllog.proofs.Accepted.{Accepted, accepted, events-most}
use Rattle.calllog.proofs.Given.{log-accepted, log-refused, length-traces_from}
use Rattle.calllog.proofs.Finding.{trace-within, part-there, found_part}
use Rattle.calllog.proofs.Ends.{below_each}

-- ---- trace by trace

pub at-traces_from : (bytes : List ℕ) (n j k : ℕ) → k < n → get_or (traces_from bytes n j) k [] ≡ trace_at bytes (j + k)
unfolding traces_from
at-traces_from bytes zero j k l = absurd (not-suc-le-zero l)
at-traces_from bytes (suc n) j zero l = ap (trace_at bytes) (sym (add-zero j))
at-traces_from bytes (suc n) j (suc k) l =
    at-traces_from bytes n (suc j) k (le_of_suc-le-suc l) ∙ ap (trace_at bytes) (suc-add j k ∙ sym (add-suc j k))

module _ (bytes : List ℕ) (d : judged_log bytes ≡ Done) where
  pub log-traces : (log_of bytes).traces ≡ traces_from bytes (traces_in bytes) 0
  log-traces = ap (λ (l : Log). l.traces) (log-accepted bytes d)

  pub log-activities : (log_of bytes).activities ≡ activities_in bytes
  log-activities = ap (λ (l : Log). l.activities) (log-accepted bytes d)

  -- the number of traces is T
  pub traces-number : length (log_of bytes).traces ≡ traces_in bytes
  traces-number = ap length log-traces ∙ length-traces_from bytes (traces_in bytes) 0

  -- trace k is the part of the bytes that its entry names
  pub trace-is : (k : ℕ) → k < traces_in bytes → get_or (log_of bytes).traces k [] ≡ trace_at bytes k
  trace-is k l =
      ap (λ (ts : List (List ℕ)). get_or ts k []) log-traces
      ∙ at-traces_from bytes (traces_in bytes) 0 k l
      ∙ ap (trace_at bytes) (zero-add k)

  pub trace-length : (k : ℕ) → k < traces_in bytes → length (get_or (log_of bytes).traces k []) ≡ length_at bytes k
  trace-length k l =
      let w = trace-within bytes k (accepted bytes d) l in
      ap length (trace-is k l)
      ∙ length-take-le (length_at bytes k) (drop (start_at bytes k) bytes) (omega (arith, length-drop (start_at bytes k) bytes))

-- ---- for callers: no log has to be judged again, and none has to be accepted

-- what the code cuts out, from a part's start to its end
pub part_cut : (bytes : List ℕ) (k : ℕ) (p : Part) → p ≡ part_of bytes k → take (p.start + p.length - p.start) (drop p.start bytes)
    ≡ part_at bytes k
part_cut bytes k p e =
    let same : p.start + p.length - p.start ≡ p.length = omega arith in
    ap (λ (m : ℕ). take m (drop p.start bytes)) same ∙ ap (λ (q : Part). take q.length (drop q.start bytes)) e

-- a part is within the bytes, whatever they are, so a caller may always take it out of its slice
pub part-within : (bytes : List ℕ) (k : ℕ) (p : Part) → p ≡ part_of bytes k → p.start + p.length ≤ length bytes
unfolding part_of where_part
part-within bytes k p e = subst fits (sym e) (outer (ltb k (traces_in bytes)))
  where
    fits : Part → Type 0
    fits x = x.start + x.length ≤ length bytes

    inner : (t : Bool) → ltb (length bytes) (start_at bytes k + length_at bytes k) ≡ t
        → fits (when t then no_part else record { start = start_at bytes k; length = length_at bytes k })
    inner true h = omega arith
    inner false h = ltb-false (length bytes) (start_at bytes k + length_at bytes k) h

    outer : (t : Bool) → fits (when t then where_part bytes k else no_part)
    outer true = inner (ltb (length bytes) (start_at bytes k + length_at bytes k)) refl
    outer false = omega arith

-- a log with a trace is accepted
pub trace-accepted : (bytes : List ℕ) (k : ℕ) → k < length (log_of bytes).traces → judged_log bytes ≡ Done
trace-accepted bytes k l = go (is_done (judged_log bytes)) refl
  where
    go : (t : Bool) → is_done (judged_log bytes) ≡ t → judged_log bytes ≡ Done
    go true e = done-is (judged_log bytes) e
    go false e = absurd (not-suc-le-zero (subst (λ (x : Log). k < length x.traces) (log-refused bytes e) l))

-- what `trace_part` gives of trace k is trace k
pub part-trace : (bytes : List ℕ) (k : ℕ) (p : Part) → k < length (log_of bytes).traces → p ≡ part_of bytes k
    → take p.length (drop p.start bytes) ≡ get_or (log_of bytes).traces k []
part-trace bytes k p l e =
    let d = trace-accepted bytes k l in
    let h : k < traces_in bytes = omega (arith, traces-number bytes d) in
    ap (λ (x : Part). take x.length (drop x.start bytes)) (e ∙ part-there bytes k d h) ∙ sym (trace-is bytes d k h)

-- what `find_trace` finds is trace k, within the bytes
pub found-trace : (bytes : List ℕ) (k : ℕ) (f : Found) → f ≡ found_of bytes k → f.answer ≡ Done
    → (f.start + f.length ≤ length bytes) × (take f.length (drop f.start bytes) ≡ get_or (log_of bytes).traces k [])
found-trace bytes k f e y =
    let r = found_part bytes k f e y in
    let p = part_of bytes k in
    let l : k < length (log_of bytes).traces = omega (arith, traces-number bytes r.0, r.1) in (
      subst (λ (x : Found). x.start + x.length ≤ length bytes) (sym r.2) (part-within bytes k p refl),
      ap (λ (x : Found). take x.length (drop x.start bytes)) r.2 ∙ part-trace bytes k p l refl,
    )

-- ---- end to end

-- from trace k on, n traces and what stands behind trace m
ends : (bytes : List ℕ) (m n k : ℕ) → Accepted bytes → m ≤ traces_in bytes → k + n ≡ m
    → end_to_end (traces_from bytes n k) ++ drop (bodies_start bytes + events_before bytes m) bytes ≡ drop (bodies_start bytes + events_before bytes k) bytes
unfolding traces_from end_to_end events_before
ends bytes m zero k a l e = ap (λ (x : ℕ). drop (bodies_start bytes + events_before bytes x) bytes) (sym e ∙ add-zero k)
ends bytes m (suc n) k a l e =
    let s = bodies_start bytes + events_before bytes k in
    let size = length_at bytes k in
    let o : offset_at bytes k ≡ events_before bytes k = a.offsets k (omega arith) in
    append_assoc (trace_at bytes k) (end_to_end (traces_from bytes n (suc k))) _
    ∙ ap (λ (r : List ℕ). trace_at bytes k ++ r) (ends bytes m n (suc k) a l (omega arith))
    ∙ ap (λ (x : ℕ). take size (drop (bodies_start bytes + x) bytes) ++ drop (bodies_start bytes + (events_before bytes k + size)) bytes) o
    ∙ ap (λ (x : ℕ). take size (drop s bytes) ++ drop x bytes) (sym (add_assoc (bodies_start bytes) (events_before bytes k) size))
    ∙ ap (λ (r : List ℕ). take size (drop s bytes) ++ r) (sym (drop-drop size s bytes))
    ∙ take-append-drop size (drop s bytes)

-- the traces laid end to end are the bodies
pub bodies-are-traces : (bytes : List ℕ) → judged_log bytes ≡ Done → end_to_end (log_of bytes).traces ≡ drop (bodies_start bytes) bytes
unfolding events_before
bodies-are-traces bytes d =
    let a = accepted bytes d in
    let n = traces_in bytes in
    let rest : drop (bodies_start bytes + events_before bytes n) bytes ≡ [] =
    ap (λ (x : ℕ). drop x bytes) (sym a.whole) ∙ drop-length bytes in
    ap end_to_end (log-traces bytes d)
    ∙ sym (append-nil (end_to_end (traces_from bytes n 0)))
    ∙ ap (λ (r : List ℕ). end_to_end (traces_from bytes n 0) ++ r) (sym rest)
    ∙ ends bytes n n 0 a (omega arith) (zero-add n)
    ∙ ap (λ (x : ℕ). drop x bytes) (add-zero (bodies_start bytes))

-- ---- what is read keeps to the limits; of a refused log it is nothing, which does too

none_within : WithinLimits 0 []
unfolding end_to_end
none_within =
    record {
      activities = omega arith;
      number = omega arith;
      lengths = λ k l. absurd (not-suc-le-zero l);
      events = omega arith;
      below = λ k l. absurd (not-suc-le-zero l);
    }

pub read-within : (bytes : List ℕ) → WithinLimits (log_of bytes).activities (log_of bytes).traces
read-within bytes = go (is_done (judged_log bytes)) refl
  where
    given : judged_log bytes ≡ Done → WithinLimits (log_of bytes).activities (log_of bytes).traces
    given d =
        let a = accepted bytes d in
        let n = traces-number bytes d in
        let e = bodies-are-traces bytes d in
        record {
          activities = omega (arith, a.activities, log-activities bytes d);
          number = omega (arith, a.traces, n);
          lengths = λ k l. omega (arith, trace-length bytes d k (omega arith), a.lengths k (omega arith));
          events =
              omega (
                arith,
                ap length e,
                length-drop (bodies_start bytes) bytes,
                a.whole,
                events-most bytes (traces_in bytes) a.totals,
              );
          below =
              below_each (log_of bytes).activities (log_of bytes).traces
              (ap (all_below (log_of bytes).activities) e
              ∙ ap (λ (x : ℕ). all_below x (drop (bodies_start bytes) bytes)) (log-activities bytes d)
              ∙ a.below);
        }

    go : (t : Bool) → is_done (judged_log bytes) ≡ t → WithinLimits (log_of bytes).activities (log_of bytes).traces
    go true e = given (done-is (judged_log bytes) e)
    go false e = subst (λ (l : Log). WithinLimits l.activities l.traces) (sym (log-refused bytes e)) none_within
