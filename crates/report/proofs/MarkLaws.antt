-- The text of marks, line by line, how long it is, and the three ways out of `write_marks`. Assumes nothing.
use mathlib.Core.Path.{◌≡◌, refl, sym, ap, subst, ◌∙◌}
use mathlib.Core.Bool.{Bool, true, false}
use mathlib.Core.List.{List, [], ◌∷◌, ◌++◌, append_assoc}
use Prim.Native.Nat.{ℕ, ◌+◌, ◌≤◌, ◌<◌}
use native.Mathlib.Omega.{arith}
use borrow.Author.Tests.{eq-eqb, ne_eqb}
use lib.Dec.{eqb}
use lib.ListN.{length, length-append}
use Rattle.sets.specs.Tests.{when◌then◌else◌}
use Rattle.sets.specs.Answers.{is_done}
use Rattle.sets.specs.declared.answer.Answer.TheVariants.{BufferTooSmall}
use Rattle.marks.specs.Counts.{precision_of, recall_of, accuracy_of}
use Rattle.marks.specs.declared.counts.Counts.{Counts}
use Rattle.marks.specs.declared.counts.Measure.{Measure}
use Rattle.marks.specs.declared.marks.Marked.{Marked}
use Rattle.report.specs.declared.writer.Listed.{Listed}
use Rattle.report.specs.Lines.{space, line_end, decimal, line}
use Rattle.report.specs.Listing.{refused_line}
use Rattle.report.specs.Marks.{TP, FP, FN, TN, precision_word, recall_word, accuracy_word, none_word, four_lines, count_lines, measure_line, measure_lines, marks_text, marked_text, longest_marks, marked_of, marked_after}
use Rattle.report.specs.Puts.{Put, Room, Wrote, named, three, four}
use Rattle.report.specs.declared.text.Page.{Page}
use Rattle.report.proofs.Figures.{at_most}
use Rattle.report.proofs.Longest.{refused-most}
use Rattle.report.proofs.Fitting.{small-given, small-held, fits, put-given, put-held}
use Rattle.report.proofs.PutLaws.{put_as, put_then, put_on, room-first, room-second, of-three-1, of-three-2, of-three-3, put_three, of-four-1, of-four-2, of-four-3, of-four-4, put_four, new-room, new-put}

-- ---- the counts

module _ (n₁ n₂ n₃ n₄ : ℕ) (p : Page) where
  abbrev tp : List ℕ
  tp = named TP n₁ line_end

  abbrev fp : List ℕ
  fp = named FP n₂ line_end

  abbrev fn : List ℕ
  fn = named FN n₃ line_end

  abbrev tn : List ℕ
  tn = named TN n₄ line_end

  count-text : four_lines n₁ n₂ n₃ n₄ ≡ four tp fp fn tn
  unfolding four_lines line named four
  count-text = refl

  module _ (room : Room p (four_lines n₁ n₂ n₃ n₄)) where
    room-four : Room p (four tp fp fn tn)
    room-four = subst (Room p) count-text room

    pub counts-1 : Room p tp
    counts-1 = of-four-1 tp fp fn tn p room-four

    pub counts-2 : (q : Page) → Wrote p tp q → Room q fp
    counts-2 = of-four-2 tp fp fn tn p room-four

    pub counts-3 : (q r : Page) → Wrote p tp q → Wrote q fp r → Room r fn
    counts-3 = of-four-3 tp fp fn tn p room-four

    pub counts-4 : (q r s : Page) → Wrote p tp q → Wrote q fp r → Wrote r fn s → Room s tn
    counts-4 = of-four-4 tp fp fn tn p room-four

  pub counts-put : (q r s t : Page) → Wrote p tp q → Wrote q fp r → Wrote r fn s → Wrote s tn t → Wrote p (four_lines n₁ n₂ n₃ n₄) t
  counts-put q r s t f g h k = put_as (sym count-text) (put_four tp fp fn tn p q r s t f g h k)

-- ---- a measure

module _ (word : List ℕ) (m : Measure) (p : Page) where
  abbrev line_by : Bool → List ℕ
  line_by t = when t then line (word ∷ none_word ∷ []) else line (word ∷ decimal m.part ∷ decimal m.whole ∷ [])

  module _ (z : m.whole ≡ 0) where
    none-text : measure_line word m ≡ (word ++ (space ∷ [])) ++ (none_word ++ (line_end ∷ []))
    unfolding measure_line line
    none-text = ap line_by (eq-eqb m.whole 0 z) ∙ sym (append_assoc word (space ∷ []) (none_word ++ (line_end ∷ [])))

    module _ (room : Room p (measure_line word m)) where
      room-none : Room p ((word ++ (space ∷ [])) ++ (none_word ++ (line_end ∷ [])))
      room-none = subst (Room p) none-text room

      pub none_1 : Room p (word ++ (space ∷ []))
      none_1 = room-first p (word ++ (space ∷ [])) _ room-none

      pub none_2 : (q : Page) → Wrote p (word ++ (space ∷ [])) q → Room q (none_word ++ (line_end ∷ []))
      none_2 q f = room-second (none_word ++ (line_end ∷ [])) f room-none

    pub none-put : (q r : Page) → Wrote p (word ++ (space ∷ [])) q → Wrote q (none_word ++ (line_end ∷ [])) r → Wrote p (measure_line word m) r
    none-put q r f g = put_as (sym none-text) (put_then f g)

  module _ (z : m.whole ≡ 0 → ⊥) where
    abbrev first : List ℕ
    first = named word m.part space

    abbrev second : List ℕ
    second = decimal m.whole ++ (line_end ∷ [])

    some-text : measure_line word m ≡ first ++ second
    unfolding measure_line line named
    some-text = ap line_by (ne_eqb m.whole 0 z) ∙ simp append_assoc

    module _ (room : Room p (measure_line word m)) where
      room-some : Room p (first ++ second)
      room-some = subst (Room p) some-text room

      pub some-1 : Room p first
      some-1 = room-first p first second room-some

      pub some-2 : (q : Page) → Wrote p first q → Room q second
      some-2 q f = room-second second f room-some

    pub some-put : (q r : Page) → Wrote p first q → Wrote q second r → Wrote p (measure_line word m) r
    some-put q r f g = put_as (sym some-text) (put_then f g)

pub ruleset measuring = (none_1, none_2, none-put, some-1, some-2, some-put)

-- ---- the measures

module _ (a b c : Measure) (p : Page) where
  abbrev l₁ : List ℕ
  l₁ = measure_line precision_word a

  abbrev l₂ : List ℕ
  l₂ = measure_line recall_word b

  abbrev l₃ : List ℕ
  l₃ = measure_line accuracy_word c

  measures-text : measure_lines a b c ≡ three l₁ l₂ l₃
  unfolding measure_lines three
  measures-text = refl

  module _ (room : Room p (measure_lines a b c)) where
    room-three : Room p (three l₁ l₂ l₃)
    room-three = subst (Room p) measures-text room

    pub measures-1 : Room p l₁
    measures-1 = of-three-1 l₁ l₂ l₃ p room-three

    pub measures-2 : (q : Page) → Wrote p l₁ q → Room q l₂
    measures-2 = of-three-2 l₁ l₂ l₃ p room-three

    pub measures-3 : (q r : Page) → Wrote p l₁ q → Wrote q l₂ r → Room r l₃
    measures-3 = of-three-3 l₁ l₂ l₃ p room-three

  pub measures-put : (q r s : Page) → Wrote p l₁ q → Wrote q l₂ r → Wrote r l₃ s → Wrote p (measure_lines a b c) s
  measures-put q r s f g h = put_as (sym measures-text) (put_three l₁ l₂ l₃ p q r s f g h)

-- ---- all lines

module _ (c : Counts) (x y z : Measure) (hx : x ≡ precision_of c) (hy : y ≡ recall_of c) (hz : z ≡ accuracy_of c) (o : List ℕ) where
  marks-text_lem : marks_text c ≡ count_lines c ++ measure_lines x y z
  unfolding marks_text
  marks-text_lem = λ i. count_lines c ++ measure_lines (sym hx i) (sym hy i) (sym hz i)

  pub marks-put : (o₁ o₂ : List ℕ) (a₁ a₂ : ℕ) → Put o 0 (count_lines c) o₁ a₁ → Put o₁ a₁ (measure_lines x y z) o₂ a₂
      → Put o 0 (marks_text c) o₂ a₂
  marks-put o₁ o₂ a₁ a₂ f g = subst (λ (text : List ℕ). Put o 0 text o₂ a₂) (sym marks-text_lem) (put_on f g)

  module _ (p : Page) (e : p.out.now ≡ o) (start : p.at ≡ 0) where
    module _ (room : 0 + length (marks_text c) ≤ length o) where
      room-marks : Room p (count_lines c ++ measure_lines x y z)
      room-marks = subst (Room p) marks-text_lem (new-room o _ p e start room)

      pub marks-1 : Room p (count_lines c)
      marks-1 = room-first p (count_lines c) (measure_lines x y z) room-marks

      pub marks-2 : (q : Page) → Wrote p (count_lines c) q → Room q (measure_lines x y z)
      marks-2 q f = room-second (measure_lines x y z) f room-marks

    pub marks-paged : (q r : Page) (o' : List ℕ) → Wrote p (count_lines c) q → Wrote q (measure_lines x y z) r → o' ≡ r.out.now
        → Put o 0 (marks_text c) o' r.at
    marks-paged q r o' f g h =
        marks-put q.out.now o' q.at r.at (new-put o (count_lines c) p q q.out.now e start f refl)
        (subst (λ (l : List ℕ). Put q.out.now q.at (measure_lines x y z) l r.at) (sym h) g.put)

-- ---- how long they are

five : (n : ℕ) → length (decimal n) ≤ 5
five n = at_most 5 n

measure-most : (word : List ℕ) (m : Measure) → length (measure_line word m) ≤ length word + 13
unfolding measure_line line
measure-most word m = by (eqb m.whole 0)
  where
    by : (t : Bool) → length (when t then line (word ∷ none_word ∷ []) else line (word ∷ decimal m.part ∷ decimal m.whole ∷ []))
        ≤ length word + 13
    by true = simp length-append (omega arith)
    by false = simp length-append (omega (arith, five m.part, five m.whole))

counts-most : (c : Counts) → length (count_lines c) ≤ 36
unfolding four_lines line
counts-most c =
    simp length-append
    (omega (arith, five c.true_positives, five c.false_positives, five c.false_negatives, five c.true_negatives))

marks-most : (c : Counts) → length (marks_text c) ≤ longest_marks
unfolding marks_text measure_lines
marks-most c =
    simp length-append
    (omega (
      arith,
      counts-most c,
      measure-most precision_word (precision_of c),
      measure-most recall_word (recall_of c),
      measure-most accuracy_word (accuracy_of c),
    ))

text-most : (m : Marked) → length (marked_text m) ≤ longest_marks
unfolding marked_text
text-most m = by (is_done m.answer)
  where
    by : (b : Bool) → length (when b then marks_text m.counts else refused_line m.answer) ≤ longest_marks
    by true = marks-most m.counts
    by false = omega (arith, refused-most m.answer)

-- ---- the three ways out

module _ (m : Marked) (out : List ℕ) where
  module _ (small : length out < longest_marks) where
    pub small-marked : ◌≡◌ {A = Listed} (record { answer = BufferTooSmall; length = 0 }) (marked_of m (length out))
    unfolding marked_of
    small-marked = small-given longest_marks m.answer (marked_text m) out small

    pub small-left : out ≡ marked_after m out
    unfolding marked_after
    small-left = small-held longest_marks m.answer (marked_text m) out small

  module _ (big : longest_marks ≤ length out) where
    module _ (text : List ℕ) (e : text ≡ marked_text m) where
      text-fits : 0 + length text ≤ length out
      text-fits = fits longest_marks m.answer (marked_text m) out big (text-most m) text e

      module _ (out' : List ℕ) (n : ℕ) (put : Put out 0 text out' n) where
        text-marked : ◌≡◌ {A = Listed} (record { answer = m.answer; length = n }) (marked_of m (length out))
        unfolding marked_of
        text-marked = put-given longest_marks m.answer (marked_text m) out big (text-most m) text out' n e put m.answer refl

        text-left : out' ≡ marked_after m out
        unfolding marked_after
        text-left = put-held longest_marks m.answer (marked_text m) out big (text-most m) text out' n e put

    module _ (d : Bool) (hd : d ≡ is_done m.answer) where
      text-by : (t : Bool) → d ≡ t → (when t then marks_text m.counts else refused_line m.answer) ≡ marked_text m
      unfolding marked_text
      text-by t e = ap (λ (b : Bool). when b then marks_text m.counts else refused_line m.answer) (sym e ∙ hd)

      module _ (n : d ≡ false) where
        pub line-fits : 0 + length (refused_line m.answer) ≤ length out
        line-fits = text-fits _ (text-by false (n))

        module _ (out' : List ℕ) (k : ℕ) (put : Put out 0 (refused_line m.answer) out' k) where
          pub line_marked : ◌≡◌ {A = Listed} (record { answer = m.answer; length = k }) (marked_of m (length out))
          line_marked = text-marked _ (text-by false (n)) out' k put

          pub line-left : out' ≡ marked_after m out
          line-left = text-left _ (text-by false (n)) out' k put

      module _ (n : d ≡ true) where
        pub marks-fit : 0 + length (marks_text m.counts) ≤ length out
        marks-fit = text-fits _ (text-by true (n))

        module _ (out' : List ℕ) (k : ℕ) (put : Put out 0 (marks_text m.counts) out' k) where
          pub marks-marked : ◌≡◌ {A = Listed} (record { answer = m.answer; length = k }) (marked_of m (length out))
          marks-marked = text-marked _ (text-by true (n)) out' k put

          pub marks-left : out' ≡ marked_after m out
          marks-left = text-left _ (text-by true (n)) out' k put

pub ruleset writing-marks = (small-marked, small-left, line-fits, line_marked, line-left, marks-fit, marks-marked, marks-left)
