-- The judgement of a log, test by test, as the code meets the tests. Assumes nothing.
use mathlib.Core.Path.{◌≡◌, sym, ◌∙◌}
use mathlib.Core.Bool.{Bool, true, false}
use mathlib.Core.List.{List}
use Prim.Native.Nat.{ℕ, ◌+◌, ◌≤◌, ◌<◌}
use borrow.Author.Tests.{lt-ltb, le-ltb, eq-eqb, ne_eqb}
use lib.ListN.{length, drop}
use Rattle.sets.specs.Tests.{non}
use Rattle.sets.specs.declared.answer.Answer.TheVariants.{Done, TooShort, WrongLetters, AboveLimit, WrongOffset, Outside}
use Rattle.octets.specs.Editions.{edition_in, opens_file, beyond}
use Rattle.calllog.specs.Layout.{letters, head_size, activities_in, traces_in, bodies_start}
use Rattle.sets.specs.Sizes.{most_traces, longest_trace, most_events}
use Rattle.calllog.specs.Judged.{all_below, judged_head, judged_entry, judged_bodies}

-- ---- the head. o, a, t and s are what the code has read

module _ (bytes : List ℕ) where
  pub head-short : length bytes < head_size → TooShort ≡ judged_head bytes
  unfolding judged_head
  head-short h = rw (lt-ltb (length bytes) head_size h)

  module _ (o : Bool) (eo : o ≡ opens_file letters bytes) (h : head_size ≤ length bytes) where
    pub head-letters : o ≡ false → WrongLetters ≡ judged_head bytes
    unfolding judged_head non
    head-letters f = rw (le-ltb (length bytes) head_size h, ← eo, f)

    module _ (e a : ℕ) (ee : e ≡ edition_in bytes) (ea : a ≡ activities_in bytes) (b : Bool) (eb : b ≡ beyond e a) (yes : o ≡ true) where
      is-beyond : beyond (edition_in bytes) (activities_in bytes) ≡ b
      is-beyond = (λ i. beyond (sym ee i) (sym ea i)) ∙ sym eb

      pub head-activities : b ≡ true → AboveLimit ≡ judged_head bytes
      unfolding judged_head non
      head-activities l = rw (le-ltb (length bytes) head_size h, ← eo, yes, is-beyond, l)

      module _ (t : ℕ) (et : t ≡ traces_in bytes) (few : b ≡ false) where
        pub head-traces : most_traces < t → AboveLimit ≡ judged_head bytes
        unfolding judged_head non
        head-traces l = rw (le-ltb (length bytes) head_size h, ← eo, yes, is-beyond, few, ← et, lt-ltb most_traces t l)

        module _ (s : ℕ) (es : s ≡ bodies_start bytes) (low : t ≤ most_traces) where
          pub head-cut : length bytes < s → TooShort ≡ judged_head bytes
          unfolding judged_head non
          head-cut l =
              rw (
                le-ltb (length bytes) head_size h,
                ← eo,
                yes,
                is-beyond,
                few,
                ← et,
                le-ltb most_traces t low,
                ← es,
                lt-ltb (length bytes) s l,
              )

          pub head_done : s ≤ length bytes → Done ≡ judged_head bytes
          unfolding judged_head non
          head_done l =
              rw (
                le-ltb (length bytes) head_size h,
                ← eo,
                yes,
                is-beyond,
                few,
                ← et,
                le-ltb most_traces t low,
                ← es,
                le-ltb (length bytes) s l,
              )

pub ruleset heads = (head-short, head-letters, head-activities, head-traces, head-cut, head_done)

-- ---- an entry

module _ (earlier offset size : ℕ) where
  pub entry-long : longest_trace < size → AboveLimit ≡ judged_entry earlier offset size
  unfolding judged_entry
  entry-long l = rw (lt-ltb longest_trace size l)

  module _ (short : size ≤ longest_trace) where
    pub entry-full : most_events < earlier + size → AboveLimit ≡ judged_entry earlier offset size
    unfolding judged_entry
    entry-full l = rw (le-ltb longest_trace size short, lt-ltb most_events (earlier + size) l)

    module _ (room : earlier + size ≤ most_events) where
      pub entry-wrong : (offset ≡ earlier → ⊥) → WrongOffset ≡ judged_entry earlier offset size
      unfolding judged_entry non
      entry-wrong d = rw (le-ltb longest_trace size short, le-ltb most_events (earlier + size) room, ne_eqb offset earlier d)

      pub entry_done : offset ≡ earlier → Done ≡ judged_entry earlier offset size
      unfolding judged_entry non
      entry_done e = rw (le-ltb longest_trace size short, le-ltb most_events (earlier + size) room, eq-eqb offset earlier e)

pub ruleset entries = (entry-long, entry-full, entry-wrong, entry_done)

-- ---- the bodies

module _ (bytes : List ℕ) (events s : ℕ) (es : s ≡ bodies_start bytes) where
  pub bodies-short : length bytes < s + events → TooShort ≡ judged_bodies bytes events
  unfolding judged_bodies
  bodies-short l = rw (← es, lt-ltb (length bytes) (s + events) l)

  module _ (enough : s + events ≤ length bytes) where
    pub bodies-more : s + events < length bytes → WrongOffset ≡ judged_bodies bytes events
    unfolding judged_bodies
    bodies-more l = rw (← es, le-ltb (length bytes) (s + events) enough, lt-ltb (s + events) (length bytes) l)

    module _ (a : ℕ) (ea : a ≡ activities_in bytes) (b : Bool) (eb : b ≡ all_below a (drop s bytes)) (all : length bytes ≤ s + events) where
      pub bodies-outside : b ≡ false → Outside ≡ judged_bodies bytes events
      unfolding judged_bodies non
      bodies-outside f =
          rw (← es, le-ltb (length bytes) (s + events) enough, le-ltb (s + events) (length bytes) all, ← ea, ← eb, f)

      pub bodies-done : b ≡ true → Done ≡ judged_bodies bytes events
      unfolding judged_bodies non
      bodies-done f =
          rw (← es, le-ltb (length bytes) (s + events) enough, le-ltb (s + events) (length bytes) all, ← ea, ← eb, f)

pub ruleset bodies = (bodies-short, bodies-more, bodies-outside, bodies-done)
