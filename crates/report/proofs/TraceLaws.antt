-- The lines of the traces, one after another. Assumes nothing.
use mathlib.Core.Path.{◌≡◌, sym, ap, ◌∙◌}
use mathlib.Core.List.{List, ◌++◌}
use Prim.Native.Nat.{ℕ, ◌+◌, ◌-◌, ◌≤◌, ◌<◌}
use native.Mathlib.Numerals.{add-one}
use lib.ListN.{length}
use Rattle.sets.specs.declared.set.Set.{Set}
use Rattle.engine.specs.declared.marking.State.{State}
use Rattle.engine.specs.declared.replay.Replayed.{Replayed}
use Rattle.engine.specs.Relations.{Relations}
use Rattle.engine.specs.Replay.{replay_from}
use Rattle.calllog.specs.Logs.{part_at}
use Rattle.tally.specs.Passes.{walked}
use Rattle.tally.proofs.Walks.{walked_next, walked_end, walked_start}
use Rattle.report.specs.Listing.{trace_line, trace_lines}
use Rattle.report.specs.Puts.{Room, Wrote}
use Rattle.report.specs.declared.text.Page.{Page}
use Rattle.report.proofs.PutLaws.{Left, left-all, left_as, left-next, left-room, left-none}

module _ (events : Set) (q : Relations) (m : State) (log : List ℕ) (n : ℕ) where
  -- what a replay on these relations gives, and the lines from trace k on
  abbrev pub ended : List ℕ → Replayed
  ended σ = replay_from events q m 0 σ

  abbrev pub traces_text : ℕ → List ℕ
  traces_text k = trace_lines (replay_from events q m 0) k (walked log (n - k) k)

  pub traces-start : (p : Page) → Left p (trace_lines (replay_from events q m 0) 0 (walked log n 0)) p (traces_text 0)
  traces-start p = left_as (left-all p _) (ap (trace_lines (replay_from events q m 0) 0) (sym (walked_start log n)))

  module _ (p : Page) (whole : List ℕ) (p₁ : Page) (k : ℕ) (l : Left p whole p₁ (traces_text k)) where
    module _ (h : k < n) (cut : List ℕ) (e : cut ≡ part_at log k) where
      traces-text_lem : traces_text k ≡ trace_line k (length cut) (ended cut) ++ traces_text (k + 1)
      unfolding trace_lines
      traces-text_lem =
          ap (trace_lines (replay_from events q m 0) k) (walked_next log n k h)
          ∙ ap (λ (j : ℕ). trace_line k (length (part_at log k)) (ended (part_at log k)) ++ trace_lines (replay_from events q m 0) j
          (walked log (n - (k + 1)) (k + 1))) (sym (add-one k))
          ∙ ap (λ (σ : List ℕ). trace_line k (length σ) (ended σ) ++ traces_text (k + 1)) (sym e)

      pub traces-room : Room p whole → Room p₁ (trace_line k (length cut) (ended cut))
      traces-room room = left-room l (trace_line k (length cut) (ended cut)) (traces_text (k + 1)) traces-text_lem room

      pub traces-turn : (p₂ : Page) → Wrote p₁ (trace_line k (length cut) (ended cut)) p₂ → Left p whole p₂ (traces_text (k + 1))
      traces-turn p₂ f = left-next l (traces_text (k + 1)) traces-text_lem f

    pub traces-end : n ≤ k → Wrote p whole p₁
    unfolding trace_lines
    traces-end h = left-none l (ap (trace_lines (replay_from events q m 0) k) (walked_end log n k h))
