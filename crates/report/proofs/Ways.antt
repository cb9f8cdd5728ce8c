-- The three ways out of `write_listing`: what it gives, and what the buffer holds. Assumes nothing.
use mathlib.Core.Path.{◌≡◌, sym, ap, ◌∙◌}
use mathlib.Core.Bool.{Bool, true, false}
use mathlib.Core.List.{List}
use Prim.Native.Nat.{ℕ, ◌+◌, ◌≤◌, ◌<◌}
use native.Mathlib.Omega.{arith}
use lib.ListN.{length}
use Rattle.sets.specs.Tests.{when◌then◌else◌}
use Rattle.sets.specs.Answers.{is_done}
use Rattle.sets.specs.declared.answer.Answer.{Answer}
use Rattle.sets.specs.declared.answer.Answer.TheVariants.{BufferTooSmall}
use Rattle.engine.specs.Relations.{empty_graph, graph_of}
use Rattle.calllog.specs.Logs.{log_of}
use Rattle.rules.specs.declared.Profile.{Profile}
use Rattle.rules.specs.Mined.{mined_graph}
use Rattle.miner.specs.Mine.{headed_of, mined_of}
use Rattle.miner.specs.declared.mining.Headed.{Headed}
use Rattle.miner.proofs.FromLog.{whole_by}
use Rattle.miner.specs.declared.mining.Mined.{Mined}
use Rattle.report.specs.declared.writer.Listed.{Listed}
use Rattle.report.specs.Listing.{refused_line, listing_of, longest_listing, listed_of, listing_after}
use Rattle.report.specs.Puts.{Put, graph_text}
use Rattle.report.proofs.Longest.{longest}
use Rattle.report.proofs.Fitting.{small-given, small-held, fits, put-given, put-held}
use Rattle.report.proofs.WholeLaws.{listing-done, listing-refused}

module _ (log : List ℕ) (p : Profile) (out : List ℕ) (asked : ℕ) (said : asked ≡ longest_listing log) where
  module _ (small : length out < asked) where
    too-small_lem : length out < longest_listing log
    too-small_lem = omega (arith, said)

    pub small-listed : ◌≡◌ {A = Listed} (record { answer = BufferTooSmall; length = 0 }) (listed_of log p (length out))
    unfolding listed_of
    small-listed = small-given (longest_listing log) (log_of log).answer (listing_of log p) out too-small_lem

    pub small-kept : out ≡ listing_after log p out
    unfolding listing_after
    small-kept = small-held (longest_listing log) (log_of log).answer (listing_of log p) out too-small_lem

  module _ (big : asked ≤ length out) where
    enough : longest_listing log ≤ length out
    enough = omega (arith, said)

    -- the listing fits
    listing-fits : (text : List ℕ) → text ≡ listing_of log p → 0 + length text ≤ length out
    listing-fits = fits (longest_listing log) (log_of log).answer (listing_of log p) out enough (longest log p)

    module _ (text out' : List ℕ) (n : ℕ) (e : text ≡ listing_of log p) (put : Put out 0 text out' n) where
      put-listed : (x : Answer) → x ≡ (log_of log).answer → ◌≡◌ {A = Listed} (record { answer = x; length = n }) (listed_of log p (length out))
      unfolding listed_of
      put-listed = put-given (longest_listing log) (log_of log).answer (listing_of log p) out enough (longest log p) text out' n e put

      put-kept : out' ≡ listing_after log p out
      unfolding listing_after
      put-kept = put-held (longest_listing log) (log_of log).answer (listing_of log p) out enough (longest log p) text out' n e put

    module _ (given : Headed) (tables : List ℕ) (r : Bool) (hg : given ≡ headed_of log p) (ht : tables ≡ (mined_of log p).graph.relations)
        (hr : r ≡ is_done given.answer) where
      abbrev mined : Mined
      mined = record { answer = given.answer; graph = graph_of given.head tables }

      hm : mined ≡ mined_of log p
      hm = whole_by log p given tables hg ht

      answer-is : mined.answer ≡ (log_of log).answer
      unfolding mined_of
      answer-is = ap (λ (x : Mined). x.answer) hm

      done-is : (b : Bool) → r ≡ b → is_done (log_of log).answer ≡ b
      done-is b e = ap is_done (sym answer-is) ∙ sym hr ∙ e

      module _ (t : r ≡ false) where
        refused-is : refused_line mined.answer ≡ listing_of log p
        refused-is = listing-refused log p mined.answer (done-is false (t)) answer-is

        pub refused-fits : 0 + length (refused_line mined.answer) ≤ length out
        refused-fits = listing-fits _ refused-is

        module _ (out' : List ℕ) (n : ℕ) (put : Put out 0 (refused_line mined.answer) out' n) where
          pub refused-listed : ◌≡◌ {A = Listed} (record { answer = mined.answer; length = n }) (listed_of log p (length out))
          refused-listed = put-listed _ out' n refused-is put mined.answer answer-is

          pub refused-held : out' ≡ listing_after log p out
          refused-held = put-kept _ out' n refused-is put

      module _ (t : r ≡ true) where
        graph_is : graph_text mined.graph log ≡ listing_of log p
        unfolding mined_of
        graph_is =
            let done = done-is true (t) in
            listing-done log p mined.graph done
            (ap (λ (x : Mined). x.graph) hm
            ∙ ap (λ (b : Bool). when b then mined_graph (log_of log).activities (log_of log).traces p else empty_graph) done)

        pub graph-fits : 0 + length (graph_text mined.graph log) ≤ length out
        graph-fits = listing-fits _ graph_is

        module _ (out' : List ℕ) (n : ℕ) (put : Put out 0 (graph_text mined.graph log) out' n) where
          pub graph-listed : ◌≡◌ {A = Listed} (record { answer = mined.answer; length = n }) (listed_of log p (length out))
          graph-listed = put-listed _ out' n graph_is put mined.answer answer-is

          pub graph-held : out' ≡ listing_after log p out
          graph-held = put-kept _ out' n graph_is put
