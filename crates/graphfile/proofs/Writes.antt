-- The ways out of a write, judged or not: its answer and length, and what the buffer holds. Assumes nothing.
use mathlib.Core.Path.{◌≡◌, refl, sym, ap, ◌∙◌}
use mathlib.Core.Bool.{Bool, true, false}
use mathlib.Core.List.{List, ◌++◌}
use Prim.Native.Nat.{ℕ, ◌+◌, ◌≤◌, ◌<◌}
use native.Mathlib.Nat.{zero-add}
use native.Mathlib.Omega.{arith}
use borrow.Author.Tests.{lt-ltb, le-ltb}
use lib.ListN.{length, drop}
use lib.Seq.{sets, sets-eq}
use Rattle.sets.specs.Tests.{when◌then◌else◌}
use Rattle.sets.specs.Answers.{is_done}
use Rattle.sets.specs.declared.answer.Answer.{Answer}
use Rattle.sets.specs.declared.answer.Answer.TheVariants.{Done, BufferTooSmall}
use Rattle.engine.specs.Judged.{judged}
use Rattle.engine.specs.Relations.{relation_count}
use Rattle.engine.specs.declared.graph.Graph.{Graph}
use Rattle.graphfile.specs.declared.writer.Written.{Written}
use Rattle.graphfile.specs.Layout.{wide_for, head_length, rows_length}
use Rattle.graphfile.specs.Writing.{rows_before, bytes_by, bytes_of, judged_room, judged_write, written_for, buffer_for}
use Rattle.graphfile.specs.Writing.{written_of, file_after, unjudged_of, unjudged_after}
use Rattle.sets.proofs.Asking.{refused, passed}
use Rattle.graphfile.proofs.Stores.{length-file}

-- the result and the buffer, by whether the write is done
module _ (g : Graph) (a : Answer) (b : Bool) (h : is_done a ≡ b) where
  written_is : written_for a g ≡ record { answer = a; length = when b then length (bytes_of g) else 0 }
  written_is = λ i. record { answer = a; length = when h i then length (bytes_of g) else 0 }

  buffer-is : (out : List ℕ) → buffer_for a g out ≡ when b then bytes_of g ++ drop (length (bytes_of g)) out else out
  buffer-is out = ap (λ (t : Bool). when t then bytes_of g ++ drop (length (bytes_of g)) out else out) h

-- ---- room or none

module _ (g : Graph) (out : List ℕ) (rows head long : ℕ) (wide : Bool) (hw : wide ≡ wide_for g.head.activities)
    (hl : rows ≡ rows_before wide g.relations relation_count) (hh : head ≡ head_length wide) (hr : long ≡ rows_length wide rows) where
  abbrev len : ℕ
  len = head + long

  file-len : len ≡ length (bytes_of g)
  file-len = (λ i. hh i + (hr ∙ ap (rows_length wide) hl) i) ∙ sym (length-file wide g) ∙ ap (λ (w : Bool). length (bytes_by w g)) hw

  small : length out < len → judged_room g (length out) ≡ BufferTooSmall
  small l = ap (λ (x : Bool). when x then BufferTooSmall else Done) (lt-ltb (length out) (length (bytes_of g)) (omega (arith, file-len)))

  enough : len ≤ length out → judged_room g (length out) ≡ Done
  enough l = ap (λ (x : Bool). when x then BufferTooSmall else Done) (le-ltb (length out) (length (bytes_of g)) (omega (arith, file-len)))

  pub room_small : length out < len → ◌≡◌ {A = Written} (record { answer = BufferTooSmall; length = 0 }) (unjudged_of g (length out))
  unfolding unjudged_of
  room_small l = ap (λ (x : Answer). record { answer = x; length = 0 }) (sym (small l)) ∙ sym (written_is g _ false (ap is_done (small l)))

  pub small-keeps : length out < len → out ≡ unjudged_after g out
  unfolding unjudged_after
  small-keeps l = sym (buffer-is g (judged_room g (length out)) false (ap is_done (small l)) out)

  pub room_whole : (out' : List ℕ) → len ≤ length out → out' ≡ sets out 0 (bytes_by wide g)
      → (◌≡◌ {A = Written} (record { answer = Done; length = len }) (unjudged_of g (length out))) × (out' ≡ unjudged_after g out)
  unfolding unjudged_of unjudged_after
  room_whole out' l f = (
    (λ i. record { answer = sym (enough l) i; length = file-len i }) ∙ sym (written_is g _ true (ap is_done (enough l))),
    f
        ∙ ap (λ (w : Bool). sets out 0 (bytes_by w g)) hw
        ∙ sets-eq (bytes_of g) out 0 (omega (arith, file-len))
        ∙ ap (λ (k : ℕ). bytes_of g ++ drop k out) (zero-add (length (bytes_of g)))
        ∙ sym (buffer-is g (judged_room g (length out)) true (ap is_done (enough l)) out),
  )

pub file-room : (tables out : List ℕ) (rows head long : ℕ) (wide : Bool) → rows ≡ rows_before wide tables relation_count → head ≡ head_length wide
    → long ≡ rows_length wide rows → head + long ≤ length out → head_length wide + rows_length wide (rows_before wide tables relation_count) ≤ length out
file-room tables out rows head long wide hl hh hr l = omega (arith, hr ∙ ap (rows_length wide) hl)

-- ---- judged first

module _ (g : Graph) (out : List ℕ) (a : Answer) (d : Bool) (e : a ≡ judged g) (t : d ≡ is_done a) where
  answer-refused : d ≡ false → a ≡ judged_write g (length out)
  unfolding judged_write
  answer-refused n = refused a (judged g) d e t _ n

  not_done : d ≡ false → is_done (judged_write g (length out)) ≡ false
  not_done n = ap is_done (sym (answer-refused n)) ∙ sym t ∙ n

  pub write-refused : d ≡ false → ◌≡◌ {A = Written} (record { answer = a; length = 0 }) (written_of g (length out))
  unfolding written_of
  write-refused n = ap (λ (x : Answer). record { answer = x; length = 0 }) (answer-refused n) ∙ sym (written_is g _ false (not_done n))

  pub refused-keeps : d ≡ false → out ≡ file_after g out
  unfolding file_after
  refused-keeps n = sym (buffer-is g (judged_write g (length out)) false (not_done n) out)

  passes : d ≡ true → judged_room g (length out) ≡ judged_write g (length out)
  unfolding judged_write
  passes n = sym (passed a (judged g) d e t _ n)

  pub write-passed : (w : Written) → d ≡ true → w ≡ unjudged_of g (length out) → w ≡ written_of g (length out)
  unfolding written_of unjudged_of
  write-passed w n h = h ∙ ap (λ (x : Answer). written_for x g) (passes n)

  pub passed-after : (out' : List ℕ) → d ≡ true → out' ≡ unjudged_after g out → out' ≡ file_after g out
  unfolding file_after unjudged_after
  passed-after out' n h = h ∙ ap (λ (x : Answer). buffer_for x g out) (passes n)

-- of a graph that is acceptable, a write is what it is unjudged
module _ (g : Graph) (out : List ℕ) (ok : judged g ≡ Done) where
  pub unjudged-written : unjudged_of g (length out) ≡ written_of g (length out)
  unjudged-written = write-passed g out Done true (sym ok) refl _ refl refl

  pub unjudged-after_lem : unjudged_after g out ≡ file_after g out
  unjudged-after_lem = passed-after g out Done true (sym ok) refl _ refl refl
