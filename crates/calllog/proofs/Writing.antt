-- A log written by the rules from A and traces within the limits is accepted, and gives that A and those traces. Assumes nothing.
use mathlib.Core.Path.{◌≡◌, refl, sym, ap, ap₂, ◌∙◌}
use mathlib.Core.Bool.{Bool, true, false}
use mathlib.Core.List.{List, [], ◌∷◌, ◌++◌, append-nil}
use Prim.Native.Nat.{ℕ, zero, suc, ◌+◌, ◌*◌, ◌/◌, ◌%◌, ◌≤◌, ◌<◌}
use native.Mathlib.Nat.{not-suc-le-zero, le_of_suc-le-suc, add-zero, zero-add, add_assoc, le_refl}
use native.Mathlib.Omega.{arith}
use lib.ListN.{length, get_or, take, drop, length-append, take-append-drop}
use lib.Seq.{take-suc, take-length, drop-drop, drop_at, get_or-append-add, ext_get_or}
use lib.Dec.{eqb, ltb}
use Rattle.sets.specs.Tests.{◌and◌, ◌or◌, when◌then◌else◌}
use Rattle.sets.specs.Members.{word}
use Rattle.sets.specs.declared.answer.Answer.TheVariants.{Done}
use Rattle.octets.specs.Numbers.{number_at}
use Rattle.octets.specs.Opens.{opens_with}
use Rattle.octets.proofs.NumberLaws.{two-bytes_lem}
use Rattle.octets.specs.Editions.{narrow_edition, wide_edition, edition_for, edition_in, opens_file}
use Rattle.calllog.specs.Layout.{letters, head_size, entry_size, activities_in, traces_in, offset_at, length_at, bodies_start, events_before}
use Rattle.calllog.specs.Judged.{judged_log, all_below}
use Rattle.calllog.specs.Logs.{Log, trace_at, traces_from, log_of}
use Rattle.calllog.specs.Written.{two_bytes, entries_of, end_to_end, log_bytes, WithinLimits}
use Rattle.calllog.proofs.Accepted.{accepts}
use Rattle.calllog.proofs.Given.{log-accepted, length-traces_from}
use Rattle.calllog.proofs.Ends.{below_all, end-append, cut}
use Rattle.calllog.proofs.Traces.{at-traces_from}

-- ---- numbers of two bytes, and entries

pub number_behind : (xs ys : List ℕ) (i : ℕ) → number_at 2 (xs ++ ys) (length xs + i) ≡ number_at 2 ys i
number_behind xs ys i =
    two-bytes_lem (xs ++ ys) (length xs + i)
    ∙ ap₂ (λ (x y : ℕ). x + 256 * y) (get_or-append-add xs ys i 0)
    (ap (λ (n : ℕ). get_or (xs ++ ys) n 0) (add_assoc (length xs) i 1) ∙ get_or-append-add xs ys (i + 1) 0)
    ∙ sym (two-bytes_lem ys i)

two_back : (n : ℕ) → n % 256 + 256 * (n / 256) ≡ n
two_back n = omega arith

pub length-entries : (earlier : ℕ) (ts : List (List ℕ)) → length (entries_of earlier ts) ≡ entry_size * length ts
unfolding entries_of
length-entries earlier [] = refl
length-entries earlier (t ∷ ts) = omega (arith, length-entries (earlier + length t) ts)

-- how many events stand before trace k
abbrev before : List (List ℕ) → ℕ → ℕ
before ts k = length (end_to_end (take k ts))

entry_at : (earlier : ℕ) (ts : List (List ℕ)) (rest : List ℕ) (k : ℕ) → k < length ts
    → (number_at 2 (entries_of earlier ts ++ rest) (entry_size * k) ≡ earlier + before ts k)
    × (number_at 2 (entries_of earlier ts ++ rest) (entry_size * k + 2) ≡ length (get_or ts k []))
unfolding entries_of end_to_end
entry_at earlier [] rest k l = absurd (not-suc-le-zero l)
entry_at earlier (t ∷ ts) rest zero l = (
  two-bytes_lem (entries_of earlier (t ∷ ts) ++ rest) 0 ∙ two_back earlier ∙ sym (add-zero earlier),
  two-bytes_lem (entries_of earlier (t ∷ ts) ++ rest) 2 ∙ two_back (length t),
)
entry_at earlier (t ∷ ts) rest (suc k) l =
    let ih = entry_at (earlier + length t) ts rest k (le_of_suc-le-suc l) in
    let four = two_bytes earlier ++ two_bytes (length t) in
    let tail = entries_of (earlier + length t) ts ++ rest in
    let i : entry_size * suc k ≡ 4 + entry_size * k = omega arith in
    let j : entry_size * suc k + 2 ≡ 4 + (entry_size * k + 2) = omega arith in (
      ap (number_at 2 (four ++ tail)) i
          ∙ number_behind four tail (entry_size * k)
          ∙ ih.0
          ∙ add_assoc earlier (length t) (before ts k)
          ∙ ap (λ (n : ℕ). earlier + n) (sym (length-append t (end_to_end (take k ts)))),
      ap (number_at 2 (four ++ tail)) j ∙ number_behind four tail (entry_size * k + 2) ∙ ih.1,
    )

before-next : (ts : List (List ℕ)) (k : ℕ) → k < length ts → before ts (suc k) ≡ before ts k + length (get_or ts k [])
unfolding end_to_end
before-next ts k l =
    ap (λ (us : List (List ℕ)). length (end_to_end us)) (take-suc ts k [] l)
    ∙ ap length (end-append (take k ts) (get_or ts k [] ∷ []) ∙ ap (λ (r : List ℕ). end_to_end (take k ts) ++ r) (append-nil (get_or ts k [])))
    ∙ length-append (end_to_end (take k ts)) (get_or ts k [])

-- ---- what a written log says

module _ (a : ℕ) (ts : List (List ℕ)) where
  abbrev behind : List ℕ
  behind = entries_of 0 ts ++ end_to_end ts

  says-activities : activities_in (log_bytes a ts) ≡ a
  unfolding activities_in log_bytes
  says-activities = refl

  says-traces : traces_in (log_bytes a ts) ≡ length ts
  unfolding traces_in log_bytes
  says-traces = two-bytes_lem (log_bytes a ts) 4 ∙ two_back (length ts)

  says-edition : edition_in (log_bytes a ts) ≡ edition_for a
  unfolding log_bytes
  says-edition = refl

  says-named : opens_file letters (log_bytes a ts) ≡ true
  unfolding opens_with ◌and◌ ◌or◌ log_bytes opens_file edition_for
  says-named = one-of_lem (ltb word a)
    where
      one-of_lem : (t : Bool) → (eqb (when t then wide_edition else narrow_edition) narrow_edition or eqb (when t then wide_edition else narrow_edition) wide_edition) ≡ true
      one-of_lem true = refl
      one-of_lem false = refl

  number_in : (i : ℕ) → number_at 2 (log_bytes a ts) (head_size + i) ≡ number_at 2 behind i
  unfolding log_bytes
  number_in i = number_behind (letters ++ (edition_for a ∷ a ∷ []) ++ two_bytes (length ts)) behind i

  says-offset : (k : ℕ) → k < length ts → offset_at (log_bytes a ts) k ≡ before ts k
  unfolding offset_at
  says-offset k l = number_in (entry_size * k) ∙ (entry_at 0 ts (end_to_end ts) k l).0 ∙ zero-add (before ts k)

  says-length : (k : ℕ) → k < length ts → length_at (log_bytes a ts) k ≡ length (get_or ts k [])
  unfolding length_at
  says-length k l =
      ap (number_at 2 (log_bytes a ts)) (add_assoc head_size (entry_size * k) 2)
      ∙ number_in (entry_size * k + 2)
      ∙ (entry_at 0 ts (end_to_end ts) k l).1

  says-events : (k : ℕ) → k ≤ length ts → events_before (log_bytes a ts) k ≡ before ts k
  unfolding events_before end_to_end
  says-events zero l = refl
  says-events (suc k) l = ap₂ (λ (x y : ℕ). x + y) (says-events k (omega arith)) (says-length k l) ∙ sym (before-next ts k l)

  says-start : bodies_start (log_bytes a ts) ≡ head_size + entry_size * length ts
  unfolding bodies_start
  says-start = ap (λ (n : ℕ). head_size + entry_size * n) says-traces

  says-size : length (log_bytes a ts) ≡ head_size + entry_size * length ts + length (end_to_end ts)
  unfolding log_bytes
  says-size = omega (arith, length-append (entries_of 0 ts) (end_to_end ts), length-entries 0 ts)

  -- behind the contents stand the bodies
  says-bodies : drop (bodies_start (log_bytes a ts)) (log_bytes a ts) ≡ end_to_end ts
  unfolding log_bytes
  says-bodies =
      ap (λ (n : ℕ). drop n (log_bytes a ts)) says-start
      ∙ sym (drop-drop (entry_size * length ts) head_size (log_bytes a ts))
      ∙ drop_at (entries_of 0 ts) (end_to_end ts) (entry_size * length ts) (length-entries 0 ts)

  says-trace : (k : ℕ) → k < length ts → trace_at (log_bytes a ts) k ≡ get_or ts k []
  says-trace k l =
      ap₂ (λ (n o : ℕ). take n (drop (bodies_start (log_bytes a ts) + o) (log_bytes a ts))) (says-length k l) (says-offset k l)
      ∙ ap (take (length (get_or ts k []))) (sym (drop-drop (before ts k) (bodies_start (log_bytes a ts)) (log_bytes a ts)) ∙ ap (drop (before ts k)) says-bodies)
      ∙ cut ts k l

  says_all : traces_from (log_bytes a ts) (traces_in (log_bytes a ts)) 0 ≡ ts
  says_all =
      let n = says-traces in
      let size = length-traces_from (log_bytes a ts) (traces_in (log_bytes a ts)) 0 in
      ext_get_or [] (traces_from (log_bytes a ts) (traces_in (log_bytes a ts)) 0) ts (size ∙ n)
      (λ k l.
      at-traces_from (log_bytes a ts) (traces_in (log_bytes a ts)) 0 k (omega arith)
      ∙ ap (trace_at (log_bytes a ts)) (zero-add k)
      ∙ says-trace k (omega arith))

  -- ---- it is accepted, and read back

  before-most : (k : ℕ) → before ts k ≤ length (end_to_end ts)
  before-most k =
      let e = ap length (ap end_to_end (sym (take-append-drop k ts)) ∙ end-append (take k ts) (drop k ts)) in
      omega (arith, e, length-append (end_to_end (take k ts)) (end_to_end (drop k ts)))

  pub written-accepted : WithinLimits a ts → judged_log (log_bytes a ts) ≡ Done
  written-accepted w =
      let n = says-traces in
      accepts (log_bytes a ts)
      (record {
        long = omega (arith, says-size);
        named = says-named;
        activities = omega (arith, says-activities, w.activities);
        edition = says-edition ∙ ap edition_for (sym says-activities);
        traces = omega (arith, w.number);
        lengths = λ k l. omega (arith, says-length k (omega arith), w.lengths k (omega arith));
        totals = λ k l.
            omega (
              arith,
              says-events k (omega arith),
              says-length k (omega arith),
              before-next ts k (omega arith),
              before-most (suc k),
              w.events,
            );
        offsets = λ k l. says-offset k (omega arith) ∙ sym (says-events k (omega arith));
        whole =
            says-size
            ∙ ap₂ (λ (x y : ℕ). x + y) (sym says-start)
            (ap (λ (us : List (List ℕ)). length (end_to_end us)) (sym (take-length ts))
            ∙ sym (says-events (length ts) (le_refl _))
            ∙ ap (events_before (log_bytes a ts)) (sym n));
        below = ap₂ all_below says-activities says-bodies ∙ below_all a ts w.below;
      })

  pub written_read : WithinLimits a ts → log_of (log_bytes a ts) ≡ record { answer = Done; activities = a; traces = ts }
  written_read w =
      log-accepted (log_bytes a ts) (written-accepted w)
      ∙ ap₂ {C = Log} (λ x us. record { answer = Done; activities = x; traces = us }) says-activities says_all
