-- A file read without the set of enabled activities: what is had is the file's graph, and reading has judged it. Assumes nothing.
use mathlib.Core.Path.{◌≡◌, refl, sym, ap, ◌∙◌, subst}
use mathlib.Core.Bool.{Bool, true, false}
use mathlib.Core.List.{List}
use Prim.Native.Nat.{ℕ, ◌≤◌}
use borrow.Author.Tests.{ltb-false}
use lib.Dec.{T, eqb, ltb}
use Rattle.sets.specs.Tests.{◌and◌, when◌then◌else◌}
use Rattle.sets.specs.Members.{word, those, no_set}
use Rattle.sets.specs.Tables.{no_tables}
use Rattle.sets.specs.Answers.{is_done}
use Rattle.sets.specs.declared.set.Set.{Set}
use Rattle.sets.specs.declared.answer.Answer.{Answer}
use Rattle.sets.specs.declared.answer.Answer.TheVariants.{Done}
use Rattle.sets.proofs.Tests.{T-eq, false→F}
use Rattle.sets.proofs.Members.{Fits, whole-fits}
use Rattle.sets.proofs.Asking.{gone-on}
use Rattle.engine.specs.Markings.{empty_state}
use Rattle.engine.specs.Relations.{Relations, relation_count, in_tables, relations_of, empty_graph}
use Rattle.engine.specs.Judged.{state_within, judged}
use Rattle.engine.specs.Few.{gains_few, gains_for, state_for}
use Rattle.engine.specs.Replay.{replay_from}
use Rattle.engine.proofs.Acceptable.{judged-within}
use Rattle.engine.proofs.Narrow.{few-graph, few-walk}
use Rattle.graphfile.specs.Refusals.{judged_file}
use Rattle.graphfile.specs.Layout.{wide_for, events_in, state_in}
use Rattle.octets.specs.Editions.{narrow_edition, wide_edition, edition_for, wide_in}
use Rattle.graphfile.specs.Held.{relations_in, graph_in, bare_of, bare_tables, read_of}
use Rattle.graphfile.specs.declared.reader.Bare.{Bare}
use Rattle.octets.proofs.Codec.{Bytes}
use Rattle.octets.proofs.SetLaws.{set-whole}
use Rattle.engine.specs.declared.marking.State.{State}
use Rattle.graphfile.proofs.RoundTrips.{file-graph}
use Rattle.graphfile.proofs.Accepted.{accepted as parts, head_done}
use Rattle.engine.specs.declared.graph.Graph.{Graph}

-- a narrow file has few activities
narrow-few : (a : ℕ) → wide_for a ≡ false → a ≤ word
unfolding edition_for
narrow-few a h = by (ltb word a) refl h
  where
    by : (t : Bool) → ltb word a ≡ t → eqb (when t then wide_edition else narrow_edition) wide_edition ≡ false → a ≤ word
    by true e n = absurd (false→F n tt)
    by false e n = ltb-false word a e

module _ (file : List ℕ) (r : Bare) (hr : r ≡ bare_of file) where
  -- either reading has the same answer
  pub bare-answer : r.answer ≡ (read_of file).answer
  unfolding read_of bare_of
  bare-answer = ap (λ (x : Bare). x.answer) hr

  module _ (d : Bool) (hd : d ≡ is_done r.answer) where
    pub file-done : (t : Bool) → d ≡ t → is_done (read_of file).answer ≡ t
    file-done t h = sym (ap is_done bare-answer) ∙ sym hd ∙ h

    -- of a file that is accepted
    module _ (n : d ≡ true) where
      accepted : judged_file file ≡ Done
      unfolding read_of
      accepted = gone-on r.answer (judged_file file) d bare-answer hd n

      abbrev graph_by : Answer → Graph
      graph_by a = when is_done a then graph_in file else empty_graph

      pub bare-events : r.events ≡ (read_of file).graph.head.events
      unfolding read_of bare_of graph_in
      bare-events =
          ap (λ (x : Bare). x.events) hr
          ∙ ap (λ (a : Answer). when is_done a then events_in file else no_set) accepted
          ∙ sym (ap (λ (a : Answer). (graph_by a).head.events) accepted)

      pub bare-state : r.state ≡ (read_of file).graph.head.opening.state
      unfolding read_of bare_of graph_in
      bare-state =
          ap (λ (x : Bare). x.state) hr
          ∙ ap (λ (a : Answer). when is_done a then state_in file else empty_state) accepted
          ∙ sym (ap (λ (a : Answer). (graph_by a).head.opening.state) accepted)

      -- its form is that of its graph
      read-form : wide_in file ≡ wide_for (read_of file).graph.head.activities
      unfolding read_of graph_in
      read-form =
          ap (λ (n : ℕ). eqb n wide_edition) (head_done file (parts file accepted).head).edition
          ∙ sym (ap (λ (a : Answer). wide_for (graph_by a).head.activities) accepted)

      -- into tables that were lent empty
      module _ (tables : List ℕ) (ht : tables ≡ bare_tables file (no_tables relation_count)) where
        pub bare-relations : tables ≡ (read_of file).graph.relations
        unfolding read_of bare_tables graph_in
        bare-relations =
            ht
            ∙ ap (λ (a : Answer). when is_done a then relations_in file relation_count else no_tables relation_count) accepted
            ∙ sym (ap (λ (a : Answer). (graph_by a).relations) accepted)

        -- so what is said of the events and relations read is said of the graph's
        pub bare-graph : {A : Type 0} (F : Set → Relations → A)
            → F r.events (in_tables tables) ≡ F (read_of file).graph.head.events (relations_of (read_of file).graph)
        bare-graph F j = F (bare-events j) (in_tables (bare-relations j))

        -- and what is said of them in the file's form, in the graph's
        pub bare-formed : {A : Type 0} (F : Bool → Set → Relations → A) (w : Bool) → w ≡ wide_in file
            → F w r.events (in_tables tables)
            ≡ F (wide_for (read_of file).graph.head.activities) (read_of file).graph.head.events (relations_of (read_of file).graph)
        bare-formed F w hw =
            ap (λ (v : Bool). F v r.events (in_tables tables)) (hw ∙ read-form)
            ∙ bare-graph (F (wide_for (read_of file).graph.head.activities))

      pub read-judged : Bytes file → judged (read_of file).graph ≡ Done
      unfolding read_of
      read-judged small = ap (λ (a : Answer). judged (graph_by a)) accepted ∙ file-graph file small accepted

      -- the state that was read is one of the code's
      bare-fits : Bytes file → Fits r.state.executed × Fits r.state.pending × Fits r.state.included
      unfolding bare_of
      bare-fits small =
          let is : r.state ≡ state_in file = ap (λ (x : Bare). x.state) hr ∙ ap (λ (a : Answer). when is_done a then state_in file else empty_state) accepted in
          subst (λ (s : State). Fits s.executed × Fits s.pending × Fits s.included) (sym is)
          (whole-fits _ (set-whole _ file small _), whole-fits _ (set-whole _ file small _), whole-fits _ (set-whole _ file small _))

      -- a replay in the file's form leaves nothing out
      pub bare-walk : Bytes file → (tables : List ℕ) → tables ≡ bare_tables file (no_tables relation_count) → (w : Bool) → w ≡ wide_in file → (σ : List ℕ)
          → replay_from r.events (gains_for w (in_tables tables)) (state_for w r.state) 0 σ ≡ replay_from r.events (in_tables tables) r.state 0 σ
      bare-walk small tables ht w hw σ = by w (sym hw)
        where
          few : wide_in file ≡ false → T (state_within (those (λ a. ltb a word)) r.state and gains_few (in_tables tables))
          few h =
              let g = (read_of file).graph in
              T-eq (λ j. state_within (those (λ a. ltb a word)) (sym bare-state j) and gains_few (in_tables (sym (bare-relations tables ht) j)))
              (few-graph g (judged-within g 0 (read-judged small)) (narrow-few _ (sym read-form ∙ h)))

          by : (b : Bool) → wide_in file ≡ b
              → replay_from r.events (gains_for b (in_tables tables)) (state_for b r.state) 0 σ ≡ replay_from r.events (in_tables tables) r.state 0 σ
          by true h = refl
          by false h = let f = bare-fits small in few-walk (in_tables tables) r.events σ r.state f.0 f.1 f.2 (few h)
