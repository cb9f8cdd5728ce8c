-- The lines of pairs and of the counts: how they are put. Assumes nothing.
use mathlib.Core.Path.{◌≡◌, refl, sym, ap, subst, ◌∙◌}
use mathlib.Core.Bool.{Bool, true, false}
use mathlib.Core.List.{List, [], ◌∷◌, ◌++◌, append_assoc}
use Prim.Native.Nat.{ℕ, ◌+◌, ◌-◌, ◌≤◌, ◌<◌}
use Rattle.sets.specs.Members.{width, digit, mem, is_empty, Takes}
use Rattle.sets.specs.Rows.{row_at, in_row}
use Rattle.sets.specs.declared.set.Set.{Set}
use Rattle.sets.specs.Answers.{number_of}
use Rattle.engine.specs.declared.replay.Replayed.{Replayed}
use Rattle.engine.specs.declared.replay.Walked.{Walked}
use Rattle.engine.specs.Replay.{walked_of}
use Rattle.report.specs.Lines.{space, line_end, decimal, line, T}
use Rattle.report.specs.Pairs.{Pair, passing, with_each, pairs_from}
use Rattle.report.specs.Listing.{pair_line, pair_lines, trace_line}
use Rattle.report.specs.Puts.{Room, Wrote, named, four, trace_text}
use Rattle.report.specs.declared.text.Page.{Page}
use Rattle.std.specs.Int.{from_bool}
use Rattle.report.proofs.PutLaws.{put_as, put_then, room-first, room-second, Left, left-all, left_as, left-next, left-room, left-none}
use Rattle.report.proofs.PairLaws.{members-none, members-turn, pairs-row, pairs_end}

abbrev pair : ℕ → ℕ → Pair
pair s t = record { source = s; target = t }

-- ---- the line of a pair

module _ (letter : List ℕ) (s t : ℕ) where
  pair-text : named letter s space ++ (decimal t ++ (line_end ∷ [])) ≡ pair_line letter (pair s t)
  unfolding named pair_line line
  pair-text = simp append_assoc

  module _ (p : Page) where
    room_as : Room p (pair_line letter (pair s t)) → Room p (named letter s space ++ (decimal t ++ (line_end ∷ [])))
    room_as r = subst (Room p) (sym pair-text) r

    pub pair-room : Room p (pair_line letter (pair s t)) → Room p (named letter s space)
    pair-room r = room-first p (named letter s space) _ (room_as r)

    pub pair-second : (q : Page) → Wrote p (named letter s space) q → Room p (pair_line letter (pair s t)) → Room q (decimal t ++ (line_end ∷ []))
    pair-second q f r = room-second (decimal t ++ (line_end ∷ [])) f (room_as r)

    pub pair_put : (q r : Page) → Wrote p (named letter s space) q → Wrote q (decimal t ++ (line_end ∷ [])) r
        → Wrote p (pair_line letter (pair s t)) r
    pair_put q r f g = put_as pair-text (put_then f g)

pub ruleset pairing = (pair-room, pair-second, pair_put)

-- ---- one member of a row after another

abbrev pub row_text : List ℕ → ℕ → Set → List ℕ
row_text letter s targets = pair_lines letter (with_each s (passing (mem targets) width 0))

pub row-start : (p : Page) (letter : List ℕ) (s : ℕ) (targets rest : Set) → rest ≡ targets → Left p (row_text letter s targets) p (row_text letter s rest)
row-start p letter s targets rest e = left_as (left-all p (row_text letter s targets)) (ap (row_text letter s) (sym e))

module _ (p : Page) (whole : List ℕ) (q : Page) (letter : List ℕ) (s : ℕ) (rest : Set) (l : Left p whole q (row_text letter s rest)) where
  module _ (t : ℕ) (rest' : Set) (one : Takes rest t rest') where
    row-text_lem : row_text letter s rest ≡ pair_line letter (pair s t) ++ row_text letter s rest'
    unfolding pair_lines
    row-text_lem =
        ap (λ (ts : List ℕ). pair_lines letter (with_each s ts)) (members-turn rest rest' one.0 one.2)
        ∙ ap (λ (x : ℕ). pair_line letter (pair s x) ++ row_text letter s rest') (sym one.1)

    pub row_room : Room p whole → Room q (pair_line letter (pair s t))
    row_room room = left-room l (pair_line letter (pair s t)) _ row-text_lem room

    pub row-turn : (q' : Page) → Wrote q (pair_line letter (pair s t)) q' → Left p whole q' (row_text letter s rest')
    row-turn q' f = left-next l (row_text letter s rest') row-text_lem f

  pub row-end : is_empty rest ≡ true → Wrote p whole q
  unfolding pair_lines
  row-end n = left-none l (ap (λ (ts : List ℕ). pair_lines letter (with_each s ts)) (members-none rest n))

-- ---- one row after another

pub lines-append : (letter : List ℕ) (ps qs : List Pair) → pair_lines letter (ps ++ qs) ≡ pair_lines letter ps ++ pair_lines letter qs
unfolding pair_lines
lines-append letter [] qs = refl
lines-append letter (p ∷ ps) qs = ap (λ (x : List ℕ). pair_line letter p ++ x) (lines-append letter ps qs)
    ∙ sym (append_assoc (pair_line letter p) (pair_lines letter ps) (pair_lines letter qs))

abbrev pub rows_text : List ℕ → List ℕ → ℕ → List ℕ
rows_text letter rows x = pair_lines letter (pairs_from (in_row rows) (width - x) x)

module _ (p : Page) (whole : List ℕ) (q : Page) (letter rows : List ℕ) (x : ℕ) (l : Left p whole q (rows_text letter rows x)) where
  module _ (s : Set) (h : x < width) (e : s ≡ row_at rows x) where
    rows-text_lem : rows_text letter rows x ≡ row_text letter x s ++ rows_text letter rows (x + 1)
    rows-text_lem = ap (pair_lines letter) (pairs-row rows x h s e) ∙ lines-append letter (with_each x (passing (mem s) width 0)) _

    pub rows-room : Room p whole → Room q (row_text letter x s)
    rows-room room = left-room l (row_text letter x s) _ rows-text_lem room

    pub rows-turn : (r : Page) → Wrote q (row_text letter x s) r → Left p whole r (rows_text letter rows (x + 1))
    rows-turn r f = left-next l (rows_text letter rows (x + 1)) rows-text_lem f

  pub rows-end_lem : width ≤ x → Wrote p whole q
  unfolding pair_lines
  rows-end_lem h = left-none l (ap (pair_lines letter) (pairs_end rows x h))

pub ruleset row-by-row = (left-all, rows-room, rows-turn, rows-end_lem)

-- ---- the line of a trace

-- a test as a number
pub one-if : (b : Bool) (n : ℕ) → n ≡ from_bool b → n ≡ digit b
one-if true n e = e
one-if false n e = e

-- the line of a trace, by what its replay gave
module _ (p : Page) (k n number accepting : ℕ) (d : Walked) (end : Replayed) (he : d ≡ walked_of end) (hn : number
    ≡ number_of d.answer) (ha : accepting ≡ digit d.accepting) where
  trace-text_lem : trace_line k n end ≡ trace_text k n number accepting
  unfolding trace_line line named four
  trace-text_lem =
      (λ j.
      line
      (T
      ∷ decimal k
      ∷ decimal n
      ∷ decimal ((ap (λ (x : Walked). number_of x.answer) (sym he) ∙ sym hn) j)
      ∷ decimal ((ap (λ (x : Walked). digit x.accepting) (sym he) ∙ sym ha) j)
      ∷ []))
      ∙ simp append_assoc

  pub trace-room : Room p (trace_line k n end) → Room p (trace_text k n number accepting)
  trace-room room = subst (Room p) trace-text_lem room

  pub trace-put : (q : Page) → Wrote p (trace_text k n number accepting) q → Wrote p (trace_line k n end) q
  trace-put q f = put_as (sym trace-text_lem) f
