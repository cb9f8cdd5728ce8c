-- Both round trips carried to the code. Assumes nothing.
use mathlib.Core.Path.{◌≡◌, refl, sym, ap, ◌∙◌}
use mathlib.Core.Bool.{Bool, true, false}
use mathlib.Core.List.{List, ◌++◌}
use Prim.Native.Nat.{ℕ, ◌-◌, ◌≤◌}
use native.Mathlib.Nat.{sub-zero}
use native.Mathlib.Omega.{arith}
use borrow.Author.Tests.{ltb-false}
use lib.Dec.{ltb}
use lib.ListN.{length, take, drop}
use Rattle.sets.specs.Tests.{when◌then◌else◌}
use Rattle.sets.specs.Answers.{is_done, then_ask}
use Rattle.sets.specs.declared.answer.Answer.{Answer}
use Rattle.sets.specs.declared.answer.Answer.TheVariants.{Done, BufferTooSmall}
use Rattle.sets.proofs.Asking.{done-is, ask-stop, both, went}
use Rattle.engine.specs.Relations.{empty_graph}
use Rattle.engine.specs.Judged.{judged}
use Rattle.engine.specs.declared.graph.Graph.{Graph}
use Rattle.graphfile.specs.Refusals.{judged_file}
use Rattle.graphfile.specs.Held.{graph_in, read_of}
use Rattle.graphfile.specs.Writing.{bytes_of, judged_write, written_of, file_after}
use Rattle.graphfile.specs.declared.reader.Reading.{Reading}
use Rattle.graphfile.specs.declared.writer.Written.{Written}
use Rattle.octets.proofs.Codec.{Bytes}
use Rattle.graphfile.proofs.Accepted.{accepted}
use Rattle.graphfile.proofs.FileBack.{file-back_lem, graph-back_lem}
use Rattle.graphfile.proofs.GraphFile.{Machine}
use Rattle.graphfile.proofs.RoundTrips.{written-then-read}
use Rattle.promises.specs.Promised.{graph_back, judged_copy, file_back, file_copied}

-- ---- a file, read and written again

-- a file that is accepted is written as it was, and refused only for the buffer
module _ (file : List ℕ) (small : Bytes file) (ok : judged_file file ≡ Done) where
  same : bytes_of (graph_in file) ≡ file
  same = file-back_lem file small (accepted file ok)

  judged-copy_lem : (n : ℕ) → judged_write (graph_in file) n ≡ judged_copy file n
  unfolding judged_write judged_copy
  judged-copy_lem n i = then_ask ((graph-back_lem file small (accepted file ok) ∙ sym ok) i) (when ltb n (length (same i)) then BufferTooSmall else Done)

  written-copy : (n : ℕ) → written_of (graph_in file) n ≡ file_back file n
  unfolding written_of file_back
  written-copy n i = record { answer = judged-copy_lem n i; length = when is_done (judged-copy_lem n i) then length (same i) else 0 }

  buffer-copy : (before : List ℕ) → file_after (graph_in file) before ≡ file_copied file before
  unfolding file_after file_copied
  buffer-copy before i = when is_done (judged-copy_lem (length before) i) then same i ++ drop (length (same i)) before else before

module _ (file before : List ℕ) (r : Reading) (t : Bool) (hr : r ≡ read_of file) (ht : t ≡ is_done r.answer) where
  the-answer : r.answer ≡ judged_file file
  unfolding read_of
  the-answer = ap (λ (x : Reading). x.answer) hr

  pub file-refused : t ≡ false → (◌≡◌ {A = Written} (record { answer = r.answer; length = 0 }) (file_back file (length before))) × (before ≡ file_copied file before)
  unfolding file_back file_copied judged_copy
  file-refused n =
      let refused : is_done (judged_file file) ≡ false = ap is_done (sym the-answer) ∙ sym ht ∙ n in
      let stops : then_ask (judged_file file) (when ltb (length before) (length file) then BufferTooSmall else Done) ≡ judged_file file = ask-stop _ _ refused in
      let not_done = ap is_done stops ∙ refused in (
        (λ i. record { answer = (the-answer ∙ sym stops) i; length = when sym not_done i then length file else 0 }),
        (λ i. when sym not_done i then file ++ drop (length file) before else before),
      )

  pub file-done : t ≡ true → Bytes file → (w : Written) (after : List ℕ) → w ≡ written_of r.graph (length before) → after ≡ file_after r.graph before
      → (w ≡ file_back file (length before)) × (after ≡ file_copied file before)
  unfolding read_of
  file-done y small w after hw ha =
      let ok : judged_file file ≡ Done = sym the-answer ∙ done-is r.answer (sym ht ∙ y) in
      let held : r.graph ≡ graph_in file = ap (λ (x : Reading). x.graph) hr ∙ ap (λ (a : Answer). when is_done a then graph_in file else empty_graph) ok in (
        hw ∙ ap (λ (g : Graph). written_of g (length before)) held ∙ written-copy file small ok (length before),
        ha ∙ ap (λ (g : Graph). file_after g before) held ∙ buffer-copy file small ok before,
      )

-- ---- a graph, written and read again

module _ (g : Graph) (before after : List ℕ) (w : Written) (t : Bool) (hw : w ≡ written_of g (length before)) (ha : after ≡ file_after g before) (ht : t ≡ is_done w.answer) where
  the-write : w.answer ≡ judged_write g (length before)
  unfolding written_of
  the-write = ap (λ (x : Written). x.answer) hw

  pub graph-refused : t ≡ false → (e : Graph) → e ≡ empty_graph
      → (◌≡◌ {A = Reading} (record { answer = w.answer; graph = e }) (graph_back g (length before))) × (after ≡ file_after g before)
  unfolding graph_back
  graph-refused n e he =
      let refused : is_done (judged_write g (length before)) ≡ false = ap is_done (sym the-write) ∙ sym ht ∙ n in (
        (λ i. record { answer = the-write i; graph = (he ∙ sym (ap (λ (b : Bool). when b then g else empty_graph) refused)) i }),
        ha,
      )

  module _ (y : t ≡ true) where
    done : judged_write g (length before) ≡ Done
    done = sym the-write ∙ done-is w.answer (sym ht ∙ y)

    legal : judged g ≡ Done
    unfolding judged_write
    legal = (both _ _ done).0

    room : length (bytes_of g) ≤ length before
    unfolding judged_write
    room = ltb-false _ _ (went (ltb (length before) (length (bytes_of g))) BufferTooSmall Done refl (both (judged g) _ done).1).0

    pub graph-within_lem : length after ≡ length before → w.length ≤ length after
    unfolding written_of
    graph-within_lem e =
        let long : w.length ≡ length (bytes_of g) = ap (λ (x : Written). x.length) hw ∙ ap (λ (a : Answer). when is_done a then length (bytes_of g) else 0) done in
        omega (arith, room, long, e)

    pub graph-done : Machine g → (r : Reading) → r ≡ read_of (take (w.length - 0) after)
        → (r ≡ graph_back g (length before)) × (after ≡ file_after g before)
    unfolding graph_back
    graph-done machine r hr = (
      written-then-read g before after w r machine legal room hw ha (hr ∙ ap (λ (n : ℕ). read_of (take n after)) (sub-zero w.length))
          ∙ sym (ap (λ (a : Answer). record { answer = a; graph = when is_done a then g else empty_graph }) done),
      ha,
    )
