-- The pass over a trace, one place further: what is kept of the first places, and what is joined so far. Assumes nothing.
use mathlib.Core.Path.{◌≡◌, refl, sym, ap, ap₂, ◌∙◌, subst, transport}
use mathlib.Core.Bool.{Bool, true, false}
use mathlib.Core.List.{List, [], ◌∷◌, reverse_aux}
use Prim.Native.Nat.{ℕ, suc, ◌+◌, ◌≤◌, ◌<◌}
use native.Mathlib.Numerals.{add-one}
use native.Mathlib.Omega.{arith}
use borrow.Author.Tests.{lt-ltb, eqb-true, eqb-false, ltb-true}
use lib.Arith.{lt_of_le-ne}
use lib.Dec.{eqb, ltb, eqb_refl}
use lib.ListN.{length, get_or, set, drop, length-set, length-replicate, drop_of_length-le}
use lib.Seq.{take_all, get_or-set_same, get_or-set_other}
use Rattle.sets.specs.Tests.{◌and◌, ◌or◌, non, when◌then◌else◌}
use Rattle.sets.specs.Members.{mem, those, no_set, count_below}
use Rattle.sets.specs.Rows.{row_words, no_rows, row_at}
use Rattle.sets.proofs.Tests.{T→true, F→false, true→T, false→F, and_l, and_r, or_l, or_comm, non-e, true-and, false-and, and-true, and-false}
use Rattle.sets.proofs.Below.{count-ext, count_less, count-le}
use Rattle.sets.proofs.Members.{mem-none, mem-those}
use Rattle.sets.proofs.RowLaws.{row-none}
use Rattle.rules.specs.Traces.{◌has◌, at_some}
use Rattle.tally.proofs.Turns.{past_at, past_next, rest-next}
use Rattle.miner.proofs.After.{LastOf}
use Rattle.months.specs.Layout.{tally_width}
use Rattle.months.specs.declared.pairs.Seen.{Seen}
use Rattle.months.specs.Pairs.{Gained, Kept, back_to, walk_back, widened, with_first, is_new, seen_with, firsts_with, since_in}
use Rattle.months.proofs.Between.{joined_in, joined_is}
use Rattle.months.proofs.Gaining.{gained-none, gained-as, gained-both}
use Rattle.months.proofs.Cuts.{back_long, back-put, walk-new, widen-long, widen-walk, widened-at, first-put}

-- what is kept of a past
pub record Cut (past firsts gaps : List ℕ) (seen : Seen) : Type 0 where
  pub set_is : (x : ℕ) → x < tally_width → mem seen.set x ≡ past has x
  pub count-is : seen.count ≡ count_below tally_width (λ x. past has x)
  pub long : length firsts ≡ tally_width
  pub wide : length gaps ≡ row_words
  pub low : (j : ℕ) → j < seen.count → get_or firsts j 0 < tally_width
  pub fresh : (j : ℕ) → seen.count ≤ j → row_at gaps j ≡ no_set
  pub has-is : (u : ℕ) → u < tally_width → back_to firsts seen.count has u ≡ past has u
  pub since-is : (u v : ℕ) → u < tally_width → v < tally_width → walk_back (back_to firsts seen.count) gaps (mem no_set) u v ≡ since_in past u v

pub cut-kept : (past firsts gaps : List ℕ) (seen : Seen) → Cut past firsts gaps seen → Kept firsts gaps seen.count
cut-kept past firsts gaps seen c = (omega (arith, count-le tally_width (λ x. past has x), c.count-is), c.long, c.wide, c.low)

pub cut-start : (firsts gaps : List ℕ) → length firsts ≡ tally_width → gaps ≡ no_rows → Cut [] firsts gaps (record { set = no_set; count = 0 })
unfolding ◌has◌ walk_back since_in count_below
cut-start firsts gaps hf hg =
    record {
      set_is = λ x l. mem-none x;
      count-is = refl;
      long = hf;
      wide = ap length hg ∙ length-replicate {A = ℕ} row_words 0;
      low = λ j l. absurd (omega arith);
      fresh = λ j l. ap (λ (x : List ℕ). row_at x j) hg ∙ row-none j;
      has-is = λ u l. refl;
      since-is = λ u v lu lv. refl;
    }

module _ {past firsts gaps : List ℕ} {seen : Seen} (c : Cut past firsts gaps seen) (e : ℕ) where
  abbrev count : ℕ
  count = seen.count

  kept : Kept firsts gaps count
  kept = cut-kept past firsts gaps seen c

  -- the gap has gained e
  abbrev widened-now : List ℕ
  widened-now = widened gaps count e

  firsts-long : length (back_to firsts count) ≡ count
  firsts-long = back_long firsts count (omega (arith, kept.0, c.long))

  since-then : (u v : ℕ) → u < tally_width → v < tally_width → walk_back (back_to firsts count) widened-now (mem no_set) u v ≡ since_in (e ∷ past) u v
  unfolding since_in
  since-then u v lu lv =
      ap (λ (n : ℕ). walk_back (back_to firsts count) (widened gaps n e) (mem no_set) u v) (sym firsts-long)
      ∙ widen-walk (back_to firsts count) gaps e u v (omega arith) c.wide (omega (arith, kept.0, firsts-long))
      ∙ ap₂ (λ (a b : Bool). a or b and eqb v e) (c.since-is u v lu lv) (c.has-is u lu)

  -- e was seen, or is above the tally_width
  module _ (old : is_new seen e ≡ false) where
    was-seen : e < tally_width → past has e ≡ true
    was-seen l = sym (c.set_is e l) ∙ by (mem seen.set e) refl
      where
        by : (b : Bool) → mem seen.set e ≡ b → mem seen.set e ≡ true
        by true q = q
        by false q =
            absurd (false→F old (true→T (ap₂ (λ (x y : Bool). non x and y) q (lt-ltb e tally_width l) ∙ unfold non ◌and◌ in refl)))

    old-has : (u : ℕ) → u < tally_width → (e ∷ past) has u ≡ past has u
    unfolding ◌has◌ ◌or◌
    old-has u l = by (eqb u e) refl
      where
        by : (b : Bool) → eqb u e ≡ b → (b or past has u) ≡ past has u
        by true q =
            let same : u ≡ e = eqb-true u e q in
            sym (ap (λ (n : ℕ). past has n) same ∙ was-seen (subst (λ (n : ℕ). n < tally_width) same l))
        by false q = refl

    cut-old : Cut (e ∷ past) firsts (widened gaps count e) seen
    cut-old =
        record {
          set_is = λ x l. c.set_is x l ∙ sym (old-has x l);
          count-is = c.count-is ∙ count-ext tally_width _ _ (λ x l. sym (old-has x l));
          long = c.long;
          wide = widen-long gaps count e ∙ c.wide;
          low = c.low;
          fresh = λ j l. widened-at gaps count e j l ∙ c.fresh j l;
          has-is = λ u l. c.has-is u l ∙ sym (old-has u l);
          since-is = since-then;
        }

  -- this is its first place
  module _ (new : is_new seen e ≡ true) where
    e-low : e < tally_width
    e-low = ltb-true e tally_width (T→true _ (and_r _ _ (true→T new)))

    not_seen : past has e ≡ false
    not_seen = sym (c.set_is e e-low) ∙ F→false _ (non-e _ (and_l _ _ (true→T new)))

    one-more_lem : count_below tally_width (λ x. (e ∷ past) has x) ≡ suc count
    unfolding ◌has◌ non
    one-more_lem =
        count_less tally_width (λ x. (e ∷ past) has x) e e-low (or_l _ _ (eqb_refl e))
        ∙ ap suc (count-ext tally_width _ _ (λ x l. by x (eqb x e) refl) ∙ sym c.count-is)
      where
        by : (x : ℕ) (b : Bool) → eqb x e ≡ b → ((b or past has x) and non b) ≡ past has x
        by x true q = and-false _ ∙ sym (ap (λ (n : ℕ). past has n) (eqb-true x e q) ∙ not_seen)
        by x false q = unfold ◌or◌ non in and-true (past has x)

    room : count < tally_width
    room = let most = count-le tally_width (λ x. (e ∷ past) has x) in omega (arith, one-more_lem)

    abbrev put : List ℕ
    put = set firsts count e

    inside : count < length firsts
    inside = omega (arith, room, c.long)

    back-firsts : back_to put (count + 1) ≡ e ∷ back_to firsts count
    back-firsts = ap (back_to put) (add-one count) ∙ back-put firsts count e inside

    put_low : (j : ℕ) → j < count + 1 → get_or put j 0 < tally_width
    put_low j l = by (eqb j count) refl
      where
        by : (b : Bool) → eqb j count ≡ b → get_or put j 0 < tally_width
        by true q =
            subst (λ (n : ℕ). n < tally_width) (sym (ap (λ (n : ℕ). get_or put n 0) (eqb-true j count q) ∙ get_or-set_same firsts count e 0 inside)) e-low
        by false q =
            let ne = eqb-false j count q in
            let less : j < count = lt_of_le-ne (omega arith) ne in
            subst (λ (n : ℕ). n < tally_width) (sym (get_or-set_other firsts count j e 0 ne)) (c.low j less)

    cut-new : Cut (e ∷ past) put (widened gaps count e) (record { set = those (λ x. mem seen.set x or eqb x e); count = count + 1 })
    unfolding ◌has◌
    cut-new =
        record {
          set_is = λ x l.
              mem-those (λ y. mem seen.set y or eqb y e) x (omega arith) ∙ ap (λ (b : Bool). b or eqb x e) (c.set_is x l) ∙ or_comm (past has x) (eqb x e);
          count-is = add-one count ∙ sym one-more_lem;
          long = length-set firsts count e ∙ c.long;
          wide = widen-long gaps count e ∙ c.wide;
          low = put_low;
          fresh = λ j l. widened-at gaps count e j (omega arith) ∙ c.fresh j (omega arith);
          has-is = λ u l. ap (λ (F : List ℕ). F has u) back-firsts ∙ ap (λ (b : Bool). eqb u e or b) (c.has-is u l);
          since-is = λ u v lu lv.
              ap (λ (F : List ℕ). walk_back F widened-now (mem no_set) u v) back-firsts
              ∙ walk-new (back_to firsts count) widened-now e u v
              (ap (row_at widened-now) firsts-long ∙ widened-at gaps count e count (omega arith) ∙ c.fresh count (omega arith))
              ∙ since-then u v lu lv;
        }

  pub cut-turn : (firsts' gaps' : List ℕ) (seen' : Seen) → gaps' ≡ widened gaps count e → seen' ≡ seen_with seen e
      → firsts' ≡ firsts_with firsts seen e → Cut (e ∷ past) firsts' gaps' seen'
  unfolding seen_with firsts_with
  cut-turn firsts' gaps' seen' hg hs hf = by (is_new seen e) refl
    where
      by : (b : Bool) → is_new seen e ≡ b → Cut (e ∷ past) firsts' gaps' seen'
      by true q =
          let now = hs ∙ ap (λ (t : Bool). when t then record { set = those (λ x. mem seen.set x or eqb x e); count = count + 1 } else seen) q in
          let put-down = hf ∙ ap (λ (t : Bool). when t then with_first firsts count e else firsts) q ∙ sym (first-put firsts count e (room q)) in
          transport (λ i. Cut (e ∷ past) (sym put-down i) (sym hg i) (sym now i)) (cut-new q)
      by false q =
          let now = hs ∙ ap (λ (t : Bool). when t then record { set = those (λ x. mem seen.set x or eqb x e); count = count + 1 } else seen) q in
          let stays = hf ∙ ap (λ (t : Bool). when t then with_first firsts count e else firsts) q in
          transport (λ i. Cut (e ∷ past) (sym stays i) (sym hg i) (sym now i)) (cut-old q)

-- ---- the pass

pub record Along (σ t₀ t firsts gaps : List ℕ) (seen : Seen) (i : ℕ) : Type 0 where
  pub reached : i ≤ length σ
  pub same : length t ≡ length t₀
  pub cut : Cut (past_at σ i) firsts gaps seen
  pub joined : Gained t₀ (joined_in (past_at σ i) (drop i σ)) t

pub along-start : (σ t firsts gaps : List ℕ) → length firsts ≡ tally_width → gaps ≡ no_rows → Along σ t t firsts gaps (record { set = no_set; count = 0 }) 0
unfolding joined_in
along-start σ t firsts gaps hf hg =
    record {
      reached = omega arith;
      same = refl;
      cut = cut-start firsts gaps hf hg;
      joined = gained-none t (joined_in [] (drop 0 σ)) (λ u s v lu ls lv. refl);
    }

module _ {σ t₀ t firsts gaps : List ℕ} {seen : Seen} {i : ℕ} (inv : Along σ t₀ t firsts gaps seen i) (h : i < length σ) (last : List ℕ)
    (hl : LastOf last σ) where
  abbrev here : ℕ
  here = get_or σ i 0

  abbrev before : List ℕ
  before = past_at σ i

  abbrev rest : List ℕ
  rest = drop (i + 1) σ

  abbrev met : ℕ → ℕ → Bool
  met = walk_back (back_to firsts seen.count) gaps (mem no_set)

  joins : (u x v : ℕ) → u < tally_width → x < tally_width → v < tally_width
      → (ltb here tally_width and eqb (get_or last here 0) i and (eqb x here and met u v)) ≡ (eqb x here and non (rest has x) and since_in before u v)
  joins u x v lu lx lv =
      ap (λ (b : Bool). ltb here tally_width and eqb (get_or last here 0) i and (eqb x here and b)) (inv.cut.since-is u v lu lv) ∙ by (eqb x here) refl
    where
      by : (b : Bool) → eqb x here ≡ b
          → (ltb here tally_width and eqb (get_or last here 0) i and (b and since_in before u v)) ≡ (b and non (rest has x) and since_in before u v)
      by true q =
          let same-one : x ≡ here = eqb-true x here q in
          let low : here < tally_width = subst (λ (n : ℕ). n < tally_width) same-one lx in
          (λ j. lt-ltb here tally_width low j and hl i h (omega arith) j and (true and since_in before u v))
          ∙ ap (λ (b : Bool). true and non (rest has here) and b) (true-and (since_in before u v))
          ∙ ap (λ (n : ℕ). true and non (rest has n) and since_in before u v) (sym same-one)
      by false q =
          ap (λ (b : Bool). ltb here tally_width and eqb (get_or last here 0) i and b) (false-and (since_in before u v)) ∙ and-false _
          ∙ sym (ap (λ (b : Bool). b and since_in before u v) (false-and (non (rest has x))) ∙ false-and (since_in before u v))

  pub along-turn : (t' firsts' gaps' : List ℕ) (seen' : Seen) → length t' ≡ length t
      → Gained t (λ u x v. ltb here tally_width and eqb (get_or last here 0) i and (eqb x here and met u v)) t'
      → gaps' ≡ widened gaps seen.count here → seen' ≡ seen_with seen here → firsts' ≡ firsts_with firsts seen here
      → Along σ t₀ t' firsts' gaps' seen' (i + 1)
  unfolding joined_in
  along-turn t' firsts' gaps' seen' len hg hw hs hf =
      record {
        reached = omega arith;
        same = len ∙ inv.same;
        cut = subst (λ (l : List ℕ). Cut l firsts' gaps' seen') (sym (past_next σ i h)) (cut-turn inv.cut here firsts' gaps' seen' hw hs hf);
        joined =
            gained-as t₀ t' _ (joined_in (past_at σ (i + 1)) rest)
            (λ u x v lu lx lv.
            (λ j. joined_in before (rest-next σ i h j) u x v or joins u x v lu lx lv j)
            ∙ ap (λ (l : List ℕ). joined_in l rest u x v) (sym (past_next σ i h)))
            (gained-both t₀ t t' (joined_in before (drop i σ)) _ inv.joined hg);
      }

pub along-end : (σ t₀ t firsts gaps : List ℕ) (seen : Seen) (i : ℕ) → Along σ t₀ t firsts gaps seen i → length σ ≤ i
    → Gained t₀ (λ u s v. at_some v (λ past rest. past has u and rest has s) σ) t
along-end σ t₀ t firsts gaps seen i inv over =
    gained-as t₀ t _ _
    (λ u s v lu ls lv.
    ap₂ (λ (p r : List ℕ). joined_in p r u s v) (ap (λ (l : List ℕ). reverse_aux l []) (take_all i σ over)) (drop_of_length-le σ over)
    ∙ joined_is u s v σ)
    inv.joined
