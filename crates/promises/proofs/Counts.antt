-- The fifth stand-in that 01 names, a listing with invented pair counts: whatever `write_listing` may leave in a buffer for an accepted log, the
-- words of its first line that stand for the counts are the numbers of pairs of the mined relations, so any other count contradicts
-- the contract. Assumes nothing.
use mathlib.Core.Path.{◌≡◌, refl, sym, ap, ◌∙◌}
use mathlib.Core.Bool.{Bool, true, false}
use mathlib.Core.Logic.{◌⊎◌}
use mathlib.Core.List.{List, [], ◌∷◌, ◌++◌, append_assoc}
use Prim.Native.Nat.{ℕ, zero, suc, ◌/◌}
use native.Mathlib.Omega.{arith}
use lib.Dec.{eqb, ltb, T, eqb→eq}
use lib.ListN.{length, get_or, drop}
use Rattle.sets.specs.Tests.{◌and◌, ◌or◌, non, when◌then◌else◌}
use Rattle.sets.specs.Members.{width, mem, count_below}
use Rattle.sets.specs.Rows.{Relation}
use Rattle.sets.specs.Answers.{number_of, is_done}
use Rattle.sets.specs.declared.answer.Answer.TheVariants.{BufferTooSmall}
use Rattle.sets.proofs.Tests.{either, true→T, false→F, and_i, and_l, and_r, or-e, non-i, non-e}
use Rattle.engine.specs.Relations.{relations_of}
use Rattle.engine.specs.Replay.{replay_of}
use Rattle.engine.specs.declared.graph.Graph.{Graph}
use Rattle.calllog.specs.Logs.{log_of}
use Rattle.rules.specs.declared.Profile.{Profile}
use Rattle.rules.specs.Mined.{mined_graph}
use Rattle.report.specs.Lines.{figure, figures, decimal, line, events_word, traces_word, C, R, I, E}
use Rattle.report.specs.Pairs.{pair_count}
use Rattle.report.specs.Listing.{first_line, relation_lines, trace_lines, lines_of, refused_line, listing_of, longest_listing, listed_of, listing_after}
use Rattle.report.specs.declared.writer.Listed.{Listed}
use Rattle.report.proofs.Decimal.{value, decimal-reads}
use Rattle.report.proofs.PairLaws.{pairs-most}
use Rattle.promises.specs.Counted.{ends, word, words, first_words}
use Rattle.promises.proofs.Contracts.{WriteListingGives, write-listing-said}

-- ---- a text is cut into words in one way

-- a word up to the byte that ends it is known by the text
cut : (u v : List ℕ) (x : ℕ) (r r' : List ℕ) → ends x ≡ true → T (word u) → T (word v) → u ++ (x ∷ r) ≡ v ++ (x ∷ r') → (u ≡ v) × (r ≡ r')
unfolding word
cut [] [] x r r' s hu hv e = (refl, cc)
cut [] (b ∷ v) x r r' s hu hv e = let same : x ≡ b = cc in absurd (non-e _ (and_l _ _ hv) (true→T (ap ends (sym same) ∙ s)))
cut (a ∷ u) [] x r r' s hu hv e = let same : a ≡ x = cc in absurd (non-e _ (and_l _ _ hu) (true→T (ap ends same ∙ s)))
cut (a ∷ u) (b ∷ v) x r r' s hu hv e =
    let same : a ≡ b = cc in
    let tails : u ++ (x ∷ r) ≡ v ++ (x ∷ r') = cc in
    let rest = cut u v x r r' s (and_r _ _ hu) (and_r _ _ hv) tails in
    ((λ i. same i ∷ rest.0 i), rest.1)

-- so a line is known by the text that opens with it
same_line : (ws vs : List (List ℕ)) (r r' : List ℕ) → length ws ≡ length vs → T (words ws) → T (words vs) → line ws ++ r ≡ line vs ++ r' → ws ≡ vs
unfolding words line ends ◌or◌
same_line [] [] r r' n hw hv e = refl
same_line [] (v ∷ vs) r r' n hw hv e = absurd (omega arith)
same_line (w ∷ ws) [] r r' n hw hv e = absurd (omega arith)
same_line (w ∷ []) (v ∷ []) r r' n hw hv e =
    let c = cut w v 10 r r' refl (and_l _ _ hw) (and_l _ _ hv) (sym (append_assoc w (10 ∷ []) r) ∙ e ∙ append_assoc v (10 ∷ []) r') in
    λ i. c.0 i ∷ []
same_line (w ∷ []) (v ∷ y ∷ vs) r r' n hw hv e = absurd (omega arith)
same_line (w ∷ x ∷ ws) (v ∷ []) r r' n hw hv e = absurd (omega arith)
same_line (w ∷ x ∷ ws) (v ∷ y ∷ vs) r r' n hw hv e =
    let c = cut w v 32 (line (x ∷ ws) ++ r) (line (y ∷ vs) ++ r') refl (and_l _ _ hw) (and_l _ _ hv)
    (sym (append_assoc w (32 ∷ line (x ∷ ws)) r) ∙ e ∙ append_assoc v (32 ∷ line (y ∷ vs)) r') in
    let rest = same_line (x ∷ ws) (y ∷ vs) r r' (omega arith) (and_r _ _ hw) (and_r _ _ hv) c.1 in
    λ i. c.0 i ∷ rest i

-- ---- figures are words

figure-word : (n : ℕ) → T (non (ends (figure n)))
unfolding ends
figure-word n =
    non-i _ (λ t. either (or-e _ _ t) (λ e. omega (arith, eqb→eq (figure n) 32 e)) (λ e. omega (arith, eqb→eq (figure n) 10 e)))

word-append : (u v : List ℕ) → T (word u) → T (word v) → T (word (u ++ v))
unfolding word
word-append [] v hu hv = hv
word-append (b ∷ u) v hu hv = and_i _ _ (and_l _ _ hu) (word-append u v (and_r _ _ hu) hv)

figures-word : (k n : ℕ) → T (word (figures k n))
unfolding figures word
figures-word zero n = tt
figures-word (suc k) n = by (ltb n 10) (figures-word k (n / 10))
  where
    by : (b : Bool) → T (word (figures k (n / 10))) → T (word ((when b then [] else figures k (n / 10)) ++ (figure n ∷ [])))
    by true h = word-append [] (figure n ∷ []) tt (and_i _ _ (figure-word n) tt)
    by false h = word-append (figures k (n / 10)) (figure n ∷ []) h (and_i _ _ (figure-word n) tt)

-- ---- the first line

fixed : T (word events_word) × (T (word traces_word) × (T (word C) × (T (word R) × (T (word I) × T (word E)))))
unfolding word ends non ◌and◌ ◌or◌
fixed = (tt, (tt, (tt, (tt, (tt, tt)))))

first-words_lem : (a c r i e t : ℕ) → T (words (first_words (decimal a) (decimal c) (decimal r) (decimal i) (decimal e) (decimal t)))
unfolding words
first-words_lem a c r i e t =
    let f = figures-word 5 in
    let w = fixed.1.1 in
    and_i _ _ fixed.0 (and_i _ _ (f a) (and_i _ _ w.0 (and_i _ _ (f c) (and_i _ _ w.1.0 (and_i _ _ (f r) (and_i _ _ w.1.1.0 (and_i _ _ (f i)
    (and_i _ _ w.1.1.1 (and_i _ _ (f e) (and_i _ _ fixed.1.0 (and_i _ _ (f t) tt)))))))))))

regroup : (a b c d : List ℕ) → ((a ++ b) ++ c) ++ d ≡ a ++ ((b ++ c) ++ d)
regroup a b c d = simp append_assoc

-- a count is read back
reads : (r : Relation) (w : List ℕ) → w ≡ decimal (pair_count r) → value w ≡ pair_count r
reads r w h = ap value h ∙ decimal-reads (pair_count r) (omega (arith, pairs-most r width 0))

module _ (bytes : List ℕ) (p : Profile) (before : List ℕ) (r : Listed) (after : List ℕ) (c : WriteListingGives bytes p before r after) (d : number_of r.answer ≡ 0) where
  abbrev graph : Graph
  graph = mined_graph (log_of bytes).activities (log_of bytes).traces p

  abbrev given : Bool → Listed
  given t = when t then record { answer = BufferTooSmall; length = 0 } else record { answer = (log_of bytes).answer; length = length (listing_of bytes p) }

  -- there was room, and the log is accepted
  chosen : (t : Bool) → is_done (given t).answer ≡ true → (t ≡ false) × (is_done (log_of bytes).answer ≡ true)
  chosen true h = absurd (false→F (sym h) tt)
  chosen false h = (refl, h)

  taken : (ltb (length before) (longest_listing bytes) ≡ false) × (is_done (log_of bytes).answer ≡ true)
  unfolding listed_of
  taken =
      chosen (ltb (length before) (longest_listing bytes))
      (ap (λ (x : Listed). is_done x.answer) (sym (write-listing-said bytes p before r after c).0) ∙ ap (λ (n : ℕ). eqb n 0) d)

  abbrev rest : List ℕ
  rest = (relation_lines graph ++ trace_lines (replay_of graph) 0 (log_of bytes).traces) ++ drop (length (listing_of bytes p)) before

  listed : listing_of bytes p ≡ first_line graph (length (log_of bytes).traces) ++ relation_lines graph ++ trace_lines (replay_of graph) 0 (log_of bytes).traces
  unfolding listing_of lines_of
  listed = ap (λ (t : Bool). when t then lines_of graph (log_of bytes).traces else refused_line (log_of bytes).answer) taken.1

  text : after ≡ first_line graph (length (log_of bytes).traces) ++ rest
  unfolding listing_after
  text =
      (write-listing-said bytes p before r after c).1
      ∙ ap (λ (t : Bool). when t then before else listing_of bytes p ++ drop (length (listing_of bytes p)) before) taken.0
      ∙ ap (λ (l : List ℕ). l ++ drop (length (listing_of bytes p)) before) listed
      ∙ regroup (first_line graph (length (log_of bytes).traces)) (relation_lines graph) (trace_lines (replay_of graph) 0 (log_of bytes).traces) (drop (length (listing_of bytes p)) before)

  -- whatever words stand for the counts, they are the numbers of pairs
  module _ (ea ec er ei ee et rest' : List ℕ) (ok : T (words (first_words ea ec er ei ee et))) (h : after ≡ line (first_words ea ec er ei ee et) ++ rest') where
    abbrev counted : List (List ℕ)
    counted =
        first_words (decimal (count_below width (mem graph.head.events)))
        (decimal (pair_count (relations_of graph).conditions))
        (decimal (pair_count (relations_of graph).responses))
        (decimal (pair_count (relations_of graph).includes))
        (decimal (pair_count (relations_of graph).excludes))
        (decimal (length (log_of bytes).traces))

    same : first_words ea ec er ei ee et ≡ counted
    unfolding first_line
    same = same_line (first_words ea ec er ei ee et) counted rest' rest refl ok (first-words_lem _ _ _ _ _ _) (sym h ∙ text)

    nth : (k : ℕ) → get_or (first_words ea ec er ei ee et) k [] ≡ get_or counted k []
    nth k = ap (λ (ws : List (List ℕ)). get_or ws k []) same

    pub conditions-counted : value ec ≡ pair_count (relations_of graph).conditions
    conditions-counted = reads _ ec (nth 3)

    pub responses-counted : value er ≡ pair_count (relations_of graph).responses
    responses-counted = reads _ er (nth 5)

    pub includes-counted : value ei ≡ pair_count (relations_of graph).includes
    includes-counted = reads _ ei (nth 7)

    pub excludes-counted : value ee ≡ pair_count (relations_of graph).excludes
    excludes-counted = reads _ ee (nth 9)

    -- THE STAND-IN: a count other than the number of pairs, of any relation
    pub invents-counts :
        (value ec ≡ pair_count (relations_of graph).conditions → ⊥)
        ⊎ ((value er ≡ pair_count (relations_of graph).responses → ⊥)
        ⊎ ((value ei ≡ pair_count (relations_of graph).includes → ⊥)
        ⊎ (value ee ≡ pair_count (relations_of graph).excludes → ⊥)))
        → ⊥
    invents-counts x =
        either x (λ n. n conditions-counted)
        (λ y. either y (λ n. n responses-counted) (λ z. either z (λ n. n includes-counted) (λ n. n excludes-counted)))
