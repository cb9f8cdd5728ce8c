-- What the calls of the marks and of the replays ensure, put together. Assumes nothing.
use mathlib.Core.Path.{◌≡◌, refl, sym, ap, ◌∙◌}
use mathlib.Core.Bool.{Bool, true, false}
use mathlib.Core.List.{List}
use Prim.Native.Nat.{ℕ, ◌+◌, ◌*◌, ◌%◌}
use Rattle.sets.specs.Tests.{when◌then◌else◌}
use Rattle.sets.specs.Answers.{number_of, is_done}
use Rattle.sets.specs.declared.answer.Answer.{Answer}
use Rattle.sets.proofs.Asking.{refused, passed}
use Rattle.calllog.specs.Logs.{log_of, judged_of}
use Rattle.calllog.specs.declared.judge.Judged.{Judged}
use Rattle.graphfile.specs.Held.{read_of}
use Rattle.graphfile.specs.declared.reader.Reading.{Reading}
use Rattle.marks.specs.Marks.{marks_of}
use Rattle.marks.specs.Replays.{replays_of, replays_after}
use Rattle.marks.specs.declared.marks.Marked.{Marked}
use Rattle.marks.specs.declared.replays.Replays.{Replays}
use Rattle.report.specs.Marks.{marked_of, marked_after}
use Rattle.report.specs.declared.writer.Listed.{Listed}
use Rattle.port.specs.Port.{packed_of}
use Rattle.port.specs.Marks.{before_marks, refused_marks, marks_in, two_counts, counts_number, text_number, replays_number, replays_buffer}

-- ---- the three ways: the log is refused, the file is, neither

module _ (file log : List ℕ) (j : Judged) (d : Bool) (hj : j ≡ judged_of log) (hd : d ≡ is_done j.answer) where
  log_is : j.answer ≡ (log_of log).answer
  log_is = ap (λ (x : Judged). x.answer) hj

  -- the log is refused
  module _ (n : d ≡ false) where
    log-first : j.answer ≡ before_marks file log
    log-first = refused j.answer (log_of log).answer d log_is hd (read_of file).answer n

    log-not : is_done (before_marks file log) ≡ false
    log-not = ap is_done (sym log-first) ∙ sym hd ∙ n

    pub log-marks : (labels : List ℕ) → refused_marks j.answer ≡ marks_in file log labels
    unfolding marks_in
    log-marks labels =
        ap refused_marks log-first
        ∙ sym (ap (λ (t : Bool). when t then marks_of (read_of file).graph log labels else refused_marks (before_marks file log)) log-not)

    pub log-number : (room k : ℕ) → k ≡ packed_of j.answer 0 → k ≡ replays_number file log room
    unfolding replays_number
    log-number room k e =
        e
        ∙ ap (λ (a : Answer). packed_of a 0) log-first
        ∙ sym (ap (λ (t : Bool). when t then
        packed_of (replays_of (read_of file).graph log room).answer (replays_of (read_of file).graph log room).traces
        else packed_of (before_marks file log) 0) log-not)

    pub log-buffer : (buffer : List ℕ) → buffer ≡ replays_buffer file log buffer
    unfolding replays_buffer
    log-buffer buffer = sym (ap (λ (t : Bool). when t then replays_after (read_of file).graph log buffer else buffer) log-not)

  module _ (n : d ≡ true) (r : Reading) (b : Bool) (hr : r ≡ read_of file) (hb : b ≡ is_done r.answer) where
    file-next : r.answer ≡ before_marks file log
    file-next =
        ap (λ (x : Reading). x.answer) hr ∙ sym (passed j.answer (log_of log).answer d log_is hd (read_of file).answer n)

    asked : (t : Bool) → b ≡ t → is_done (before_marks file log) ≡ t
    asked t e = ap is_done (sym file-next) ∙ sym hb ∙ e

    module _ (labels : List ℕ) where
      by-marks : (t : Bool) → b ≡ t
          → marks_in file log labels ≡ when t then marks_of (read_of file).graph log labels else refused_marks (before_marks file log)
      unfolding marks_in
      by-marks t e =
          ap (λ (x : Bool). when x then marks_of (read_of file).graph log labels else refused_marks (before_marks file log)) (asked t e)

      pub file-marks : b ≡ false → refused_marks r.answer ≡ marks_in file log labels
      file-marks e = ap refused_marks file-next ∙ sym (by-marks false (e))

      pub graph-marks : (m : Marked) → b ≡ true → m ≡ marks_of r.graph log labels → m ≡ marks_in file log labels
      graph-marks m e h = h ∙ ap (λ (x : Reading). marks_of x.graph log labels) hr ∙ sym (by-marks true (e))

    module _ (room k : ℕ) where
      abbrev numbered : Bool → ℕ
      numbered t =
          when t then packed_of (replays_of (read_of file).graph log room).answer (replays_of (read_of file).graph log room).traces
          else packed_of (before_marks file log) 0

      by_number : (t : Bool) → b ≡ t → numbered t ≡ replays_number file log room
      unfolding replays_number
      by_number t e = sym (ap numbered (asked t e))

      pub file-number : b ≡ false → k ≡ packed_of r.answer 0 → k ≡ replays_number file log room
      file-number e h = h ∙ ap (λ (a : Answer). packed_of a 0) file-next ∙ by_number false (e)

      pub graph-number : (q : Replays) → b ≡ true → q ≡ replays_of r.graph log room → k ≡ packed_of q.answer q.traces
          → k ≡ replays_number file log room
      graph-number q e hq h =
          h
          ∙ ap (λ (x : Replays). packed_of x.answer x.traces) (hq ∙ ap (λ (x : Reading). replays_of x.graph log room) hr)
          ∙ by_number true (e)

    module _ (buffer : List ℕ) where
      by-buffer : (t : Bool) → b ≡ t → (when t then replays_after (read_of file).graph log buffer else buffer) ≡ replays_buffer file log buffer
      unfolding replays_buffer
      by-buffer t e = sym (ap (λ (x : Bool). when x then replays_after (read_of file).graph log buffer else buffer) (asked t e))

      pub file-buffer : b ≡ false → buffer ≡ replays_buffer file log buffer
      file-buffer e = by-buffer false (e)

      pub graph-buffer : (buffer' : List ℕ) → b ≡ true → buffer' ≡ replays_after r.graph log buffer
          → buffer' ≡ replays_buffer file log buffer
      graph-buffer buffer' e h =
          h ∙ ap (λ (x : Reading). replays_after x.graph log buffer) hr ∙ by-buffer true (e)

pub ruleset marking-file = (log-marks, file-marks, graph-marks)

pub ruleset replaying-file = (log-number, log-buffer, file-number, file-buffer, graph-number, graph-buffer)

-- ---- the counts in one number

pub two-packed : (low high : ℕ) → low % 4096 + 4096 * (high % 4096) ≡ two_counts low high
unfolding two_counts
two-packed low high = refl

pub counts-packed : (m : Marked) (n p q : ℕ) → n ≡ number_of m.answer
    → p ≡ two_counts m.counts.true_positives m.counts.false_positives
    → q ≡ two_counts m.counts.false_negatives m.counts.true_negatives
    → n + 256 * p + 4294967296 * q ≡ counts_number m
unfolding counts_number
counts-packed m n p q hn hp hq = λ i. hn i + 256 * hp i + 4294967296 * hq i

pub counts-of_lem : (m m' : Marked) (n : ℕ) → m ≡ m' → n ≡ counts_number m → n ≡ counts_number m'
counts-of_lem m m' n e h = h ∙ ap counts_number e

-- ---- the text

pub text-number_lem : (m : Marked) (l : Listed) (room n : ℕ) → l ≡ marked_of m room → n ≡ packed_of l.answer l.length → n ≡ text_number m room
text-number_lem m l room n e h = h ∙ ap (λ (x : Listed). packed_of x.answer x.length) e

pub text_of : (m m' : Marked) (room n : ℕ) → m ≡ m' → n ≡ text_number m room → n ≡ text_number m' room
text_of m m' room n e h = h ∙ ap (λ (x : Marked). text_number x room) e

pub text_in : (m m' : Marked) (out out' : List ℕ) → m ≡ m' → out' ≡ marked_after m out → out' ≡ marked_after m' out
text_in m m' out out' e h = h ∙ ap (λ (x : Marked). marked_after x out) e

pub ruleset texts = (text-number_lem, text_of, text_in)
