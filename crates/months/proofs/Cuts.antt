-- A trace cut at the first place of each activity: walking back over the cuts, one gap that gains, one cut more. Assumes nothing.
use mathlib.Core.Path.{◌≡◌, refl, sym, ap, ap₂, ◌∙◌, subst}
use mathlib.Core.Bool.{Bool, true, false}
use mathlib.Core.List.{List, [], ◌∷◌, reverse_aux}
use Prim.Native.Nat.{ℕ, zero, suc, ◌+◌, ◌-◌, ◌*◌, ◌≤◌, ◌<◌}
use native.Mathlib.Numerals.{add-one}
use native.Mathlib.Omega.{arith}
use borrow.Author.Tests.{lt-ltb, le-ltb, eqb-true, eqb-false}
use lib.Arith.{lt_of_le-ne}
use lib.Dec.{eqb, ltb, eqb_refl}
use lib.ListN.{length, get_or, set, length-set, length-replicate}
use lib.Seq.{get_or-set_same, get_or-set_other, take-set-le}
use Rattle.sets.specs.Tests.{◌and◌, ◌or◌, non, when◌then◌else◌}
use Rattle.sets.specs.Members.{width, mem, those, no_set, count_below}
use Rattle.sets.specs.Rows.{row_words, no_rows, row_at, with_row, in_row}
use Rattle.sets.specs.declared.set.Set.{Set}
use Rattle.sets.proofs.Tests.{T→true, true→T, or_assoc, or-true, or-false, and-true, and-false, false-and}
use Rattle.sets.proofs.Below.{count-ext, count_less, count-le}
use Rattle.sets.proofs.Tautologies.{by3, by5}
use Rattle.sets.proofs.Members.{mem-none, mem-those}
use Rattle.sets.proofs.MadeSets.{is-those}
use Rattle.sets.proofs.RowLaws.{row-put-same, row-put-other, length-put}
use Rattle.octets.specs.Sets.{set_length, set_put}
use Rattle.rules.specs.Traces.{◌has◌}
use Rattle.tally.proofs.Turns.{past_next, with-one}
use Rattle.months.specs.Layout.{tally_width, pair_set, set_in}
use Rattle.months.specs.declared.pairs.Seen.{Seen}
use Rattle.months.specs.Pairs.{Gained, Kept, back_to, walk_back, widened, with_first, is_new, seen_with, firsts_with}
use Rattle.months.proofs.Packed.{gain-pair}
use Rattle.months.proofs.Gaining.{gained-none, gained-as, gained-both}

-- ---- the numbers before a place, the latest first

pub back-next : (l : List ℕ) (i : ℕ) → i < length l → back_to l (suc i) ≡ get_or l i 0 ∷ back_to l i
back-next l i h = ap (back_to l) (sym (add-one i)) ∙ past_next l i h

pub back_long : (l : List ℕ) (i : ℕ) → i ≤ length l → length (back_to l i) ≡ i
back_long l zero h = refl
back_long l (suc i) h = ap length (back-next l i h) ∙ ap suc (back_long l i (omega arith))

-- one of them put down anew
pub back-put : (l : List ℕ) (i x : ℕ) → i < length l → back_to (set l i x) (suc i) ≡ x ∷ back_to l i
back-put l i x h =
    back-next (set l i x) i (subst (λ (n : ℕ). i < n) (sym (length-set l i x)) h)
    ∙ ap₂ ◌∷◌ (get_or-set_same l i x 0 h) (ap (λ (t : List ℕ). reverse_aux t []) (take-set-le i l i x (omega arith)))

-- ---- walking back

pub walk_same : (F gaps : List ℕ) (f g : ℕ → Bool) (u v : ℕ) → f v ≡ g v → walk_back F gaps f u v ≡ walk_back F gaps g u v
unfolding walk_back
walk_same [] gaps f g u v e = refl
walk_same (x ∷ F) gaps f g u v e =
    let more : (f v or in_row gaps (length F) v) ≡ (g v or in_row gaps (length F) v) = ap (λ (b : Bool). b or in_row gaps (length F) v) e in
    ap₂ (λ (b c : Bool). eqb u x and b or c) more
    (walk_same F gaps (λ z. f z or in_row gaps (length F) z) (λ z. g z or in_row gaps (length F) z) u v more)

-- only the gaps of these first places count
walk-gaps : (F gaps gaps' : List ℕ) (f : ℕ → Bool) (u v : ℕ) → ((j : ℕ) → j < length F → in_row gaps j v ≡ in_row gaps' j v)
    → walk_back F gaps f u v ≡ walk_back F gaps' f u v
unfolding walk_back
walk-gaps [] gaps gaps' f u v e = refl
walk-gaps (x ∷ F) gaps gaps' f u v e =
    let here : (f v or in_row gaps (length F) v) ≡ (f v or in_row gaps' (length F) v) = ap (λ (b : Bool). f v or b) (e (length F) (omega arith)) in
    ap₂ (λ (b c : Bool). eqb u x and b or c) here
    (walk_same F gaps (λ z. f z or in_row gaps (length F) z) (λ z. f z or in_row gaps' (length F) z) u v here
    ∙ walk-gaps F gaps gaps' (λ z. f z or in_row gaps' (length F) z) u v (λ j l. e j (omega arith)))

shuffle : (f q m : Bool) → (f or q or m) ≡ (f or m or q)
unfolding ◌and◌ ◌or◌ non
shuffle = by3 (λ f q m. f or q or m) (λ f q m. f or m or q) tt

more : (e q h a w : Bool) → (e and (a or q) or (w or h and q)) ≡ (e and a or w or (e or h) and q)
unfolding ◌and◌ ◌or◌ non
more = by5 (λ e q h a w. e and (a or q) or (w or h and q)) (λ e q h a w. e and a or w or (e or h) and q) tt

walk_more : (F gaps : List ℕ) (f q : ℕ → Bool) (u v : ℕ) → walk_back F gaps (λ y. f y or q y) u v ≡ (walk_back F gaps f u v or F has u and q v)
unfolding walk_back ◌has◌ ◌and◌ ◌or◌
walk_more [] gaps f q u v = refl
walk_more (x ∷ F) gaps f q u v =
    let m : ℕ → Bool = in_row gaps (length F) in
    ap₂ (λ (b c : Bool). eqb u x and b or c) (shuffle (f v) (q v) (m v))
    (walk_same F gaps (λ z. f z or q z or m z) (λ z. f z or m z or q z) u v (shuffle (f v) (q v) (m v)) ∙ walk_more F gaps (λ z. f z or m z) q u v)
    ∙ more (eqb u x) (q v) (F has u) (f v or m v) (walk_back F gaps (λ z. f z or m z) u v)

-- the latest gap gains those that pass, the others stay
gap_more : (F gaps gaps' : List ℕ) (x : ℕ) (f q : ℕ → Bool) (u v : ℕ) → in_row gaps' (length F) v ≡ (in_row gaps (length F) v or q v)
    → ((j : ℕ) → j < length F → in_row gaps' j v ≡ in_row gaps j v)
    → walk_back (x ∷ F) gaps' f u v ≡ (walk_back (x ∷ F) gaps f u v or (x ∷ F) has u and q v)
unfolding walk_back ◌has◌
gap_more F gaps gaps' x f q u v e others =
    let m : ℕ → Bool = in_row gaps (length F) in
    let gains : (f v or in_row gaps' (length F) v) ≡ (f v or m v or q v) = ap (λ (b : Bool). f v or b) e ∙ sym (or_assoc (f v) (m v) (q v)) in
    ap₂ (λ (b c : Bool). eqb u x and b or c) gains
    (walk-gaps F gaps' gaps _ u v others
    ∙ walk_same F gaps (λ z. f z or in_row gaps' (length F) z) (λ z. f z or m z or q z) u v gains
    ∙ walk_more F gaps (λ z. f z or m z) q u v)
    ∙ more (eqb u x) (q v) (F has u) (f v or m v) (walk_back F gaps (λ z. f z or m z) u v)

-- a cut more, with an empty gap, tells nothing yet
pub walk-new : (F gaps : List ℕ) (x : ℕ) (u v : ℕ) → row_at gaps (length F) ≡ no_set
    → walk_back (x ∷ F) gaps (mem no_set) u v ≡ walk_back F gaps (mem no_set) u v
unfolding walk_back in_row ◌and◌ ◌or◌
walk-new F gaps x u v h =
    let none : (mem no_set v or mem (row_at gaps (length F)) v) ≡ false = ap₂ ◌or◌ (mem-none v) (ap (λ (s : Set). mem s v) h ∙ mem-none v) in
    ap₂ (λ (b c : Bool). eqb u x and b or c) none
    (walk_same F gaps (λ z. mem no_set z or mem (row_at gaps (length F)) z) (mem no_set) u v (none ∙ sym (mem-none v)))
    ∙ ap (λ (b : Bool). b or walk_back F gaps (mem no_set) u v) (and-false (eqb u x))

-- ---- the loop that walks back

abbrev pub LeftBack : List ℕ → ℕ → List ℕ → List ℕ → ℕ → List ℕ → Set → ℕ → Type 0
LeftBack t₀ s firsts gaps count t since j =
    (t' : List ℕ) → Gained t (λ u x v. eqb x s and walk_back (back_to firsts j) gaps (mem since) u v) t'
    → Gained t₀ (λ u x v. eqb x s and walk_back (back_to firsts count) gaps (mem no_set) u v) t'

apart : (k e b w : Bool) → (k and (e and b) or e and w) ≡ (e and (k and b or w))
unfolding ◌and◌ ◌or◌ non
apart true true b w = refl
apart true false b w = refl
apart false true b w = refl
apart false false b w = refl

module _ (t₀ : List ℕ) (s : ℕ) (firsts gaps : List ℕ) (count : ℕ) (ls : s < tally_width) (kept : Kept firsts gaps count) where
  pub back-turn : (t t' : List ℕ) (since g since' : Set) (j : ℕ) → 0 < j → j ≤ count → LeftBack t₀ s firsts gaps count t since j
      → g ≡ row_at gaps (j - 1) → since' ≡ those (λ a. mem since a or mem g a)
      → t' ≡ set_put false t (set_length false * pair_set (get_or firsts (j - 1) 0) s) (those (λ v. mem (set_in t (pair_set (get_or firsts (j - 1) 0) s)) v or mem since' v))
      → LeftBack t₀ s firsts gaps count t' since' (j - 1)
  unfolding walk_back in_row
  back-turn t t' since g since' j l h inv hg hs ht t'' left =
      let i : ℕ = j - 1 in
      let k : ℕ = get_or firsts i 0 in
      let next : suc i ≡ j = omega arith in
      let low : k < tally_width = kept.3 i (omega arith) in
      let long : length (back_to firsts i) ≡ i = back_long firsts i (omega (arith, kept.0, kept.1)) in
      let here : Gained t (λ u x v. eqb u k and (eqb x s and mem since' v)) t' =
      λ base p tail e. ht ∙ gain-pair base p tail t e k s low ls (mem since') in
      inv t'' (gained-as t t'' _ _ (λ u x v lu lx lv.
      let gains : mem since' v ≡ (mem since v or mem (row_at gaps (length (back_to firsts i))) v) =
      is-those since' _ hs v (omega arith) ∙ ap (λ (a : Set). mem since v or mem a v) (hg ∙ ap (row_at gaps) (sym long)) in
      apart (eqb u k) (eqb x s) (mem since' v) (walk_back (back_to firsts i) gaps (mem since') u v)
      ∙ ap₂ (λ (b c : Bool). eqb x s and (eqb u k and b or c)) gains
      (walk_same (back_to firsts i) gaps (mem since') (λ z. mem since z or mem (row_at gaps (length (back_to firsts i))) z) u v gains)
      ∙ ap (λ (F : List ℕ). eqb x s and walk_back F gaps (mem since) u v)
      (sym (back-next firsts i (omega (arith, kept.0, kept.1))) ∙ ap (back_to firsts) next))
      (gained-both t t' t'' _ _ here left))

  pub back_end : (t : List ℕ) (since : Set) (j : ℕ) → j ≤ 0 → LeftBack t₀ s firsts gaps count t since j
      → Gained t₀ (λ u x v. eqb x s and walk_back (back_to firsts count) gaps (mem no_set) u v) t
  unfolding walk_back
  back_end t since j z inv =
      let none : j ≡ 0 = omega arith in
      inv t (gained-none t _ (λ u x v lu lx lv.
      ap (λ (n : ℕ). eqb x s and walk_back (back_to firsts n) gaps (mem since) u v) none ∙ and-false (eqb x s)))

-- ---- the latest gap gains e

module _ (gaps : List ℕ) (count e : ℕ) where
  pub widen-some : (one : Set) (out : List ℕ) → 0 < count → one ≡ those (λ b. eqb b e)
      → out ≡ with_row gaps (count - 1) (those (λ b. mem (row_at gaps (count - 1)) b or mem one b)) → out ≡ widened gaps count e
  unfolding widened
  widen-some one out l ho h =
      h ∙ ap (λ (s : Set). with_row gaps (count - 1) (those (λ b. mem (row_at gaps (count - 1)) b or mem s b))) ho
      ∙ sym (ap (λ (t : Bool). when t then with_row gaps (count - 1) (those (λ x. mem (row_at gaps (count - 1)) x
      or mem (those (λ b. eqb b e)) x)) else gaps) (lt-ltb 0 count l))

  pub widen_none : count ≤ 0 → gaps ≡ widened gaps count e
  unfolding widened
  widen_none l =
      sym (ap (λ (t : Bool). when t then with_row gaps (count - 1) (those (λ x. mem (row_at gaps (count - 1)) x
      or mem (those (λ b. eqb b e)) x)) else gaps) (le-ltb 0 count l))

abbrev gained_by : List ℕ → ℕ → ℕ → Set
gained_by gaps i e = those (λ x. mem (row_at gaps i) x or mem (those (λ b. eqb b e)) x)

widened-suc : (gaps : List ℕ) (i e : ℕ) → widened gaps (suc i) e ≡ with_row gaps i (gained_by gaps i e)
widened-suc gaps i e = sym (widen-some gaps (suc i) e _ _ (omega arith) refl refl) ∙ ap (λ (n : ℕ). with_row gaps n (gained_by gaps n e)) same
  where
    same : suc i - 1 ≡ i
    same = omega arith

pub widen-long : (gaps : List ℕ) (count e : ℕ) → length (widened gaps count e) ≡ length gaps
widen-long gaps zero e = ap length (sym (widen_none gaps 0 e (omega arith)))
widen-long gaps (suc i) e = ap length (widened-suc gaps i e) ∙ length-put gaps i _

-- the gaps behind the latest stay as they are
pub widened-at : (gaps : List ℕ) (count e j : ℕ) → count ≤ j → row_at (widened gaps count e) j ≡ row_at gaps j
widened-at gaps zero e j h = ap (λ (x : List ℕ). row_at x j) (sym (widen_none gaps 0 e (omega arith)))
widened-at gaps (suc i) e j h =
    ap (λ (x : List ℕ). row_at x j) (widened-suc gaps i e) ∙ row-put-other gaps i (gained_by gaps i e) j (λ q. omega arith)

-- what stands since each first place then
pub widen-walk : (F gaps : List ℕ) (e u v : ℕ) → v < width → length gaps ≡ row_words → length F ≤ width
    → walk_back F (widened gaps (length F) e) (mem no_set) u v ≡ (walk_back F gaps (mem no_set) u v or F has u and eqb v e)
unfolding walk_back in_row ◌has◌ ◌and◌ ◌or◌
widen-walk [] gaps e u v lv lg lc = refl
widen-walk (x ∷ F) gaps e u v lv lg lc =
    let i : ℕ = length F in
    ap (λ (l : List ℕ). walk_back (x ∷ F) l (mem no_set) u v) (widened-suc gaps i e)
    ∙ gap_more F gaps (with_row gaps i (gained_by gaps i e)) x (mem no_set) (λ y. eqb y e) u v
    (ap (λ (s : Set). mem s v) (row-put-same gaps i (gained_by gaps i e) (omega arith) lg)
    ∙ mem-those (λ y. mem (row_at gaps i) y or mem (those (λ b. eqb b e)) y) v lv
    ∙ ap (λ (b : Bool). mem (row_at gaps i) v or b) (mem-those (λ b. eqb b e) v lv))
    (λ j l. ap (λ (s : Set). mem s v) (row-put-other gaps i (gained_by gaps i e) j (λ q. omega arith)))

-- ---- as many first places as activities that were seen

kept-none_count : count_below tally_width (λ x. false) ≡ 0
unfolding count_below
kept-none_count = refl

pub kept-none : (firsts gaps : List ℕ) → length firsts ≡ tally_width → gaps ≡ no_rows
    → (0 ≡ count_below tally_width (mem no_set)) × Kept firsts gaps 0
kept-none firsts gaps hf hg = (
  sym (count-ext tally_width (mem no_set) (λ x. false) (λ x l. mem-none x) ∙ kept-none_count),
  (omega arith, hf, ap length hg ∙ length-replicate {A = ℕ} row_words 0, λ j l. absurd (omega arith)),
)

pub kept-wide : (firsts gaps gaps' : List ℕ) (count e : ℕ) → Kept firsts gaps count → gaps' ≡ widened gaps count e → Kept firsts gaps' count
kept-wide firsts gaps gaps' count e kept h = (kept.0, kept.1, ap length h ∙ widen-long gaps count e ∙ kept.2, kept.3)

-- one more: e
module _ (seen : Seen) (e : ℕ) (h : seen.count ≡ count_below tally_width (mem seen.set)) (new : mem seen.set e ≡ false) (low : e < tally_width) where
  pub counted-more : (both : Set) → both ≡ those (λ x. mem seen.set x or eqb x e) → seen.count + 1 ≡ count_below tally_width (mem both)
  unfolding non
  counted-more both hb =
      let has-e : mem both e ≡ true =
      is-those both _ hb e (omega arith) ∙ ap (λ (b : Bool). mem seen.set e or b) (T→true _ (eqb_refl e)) ∙ or-true (mem seen.set e) in
      add-one seen.count
      ∙ ap suc h
      ∙ sym (count_less tally_width (mem both) e low (true→T has-e)
      ∙ ap suc (count-ext tally_width _ _
      (λ x l. ap (λ (b : Bool). b and non (eqb x e)) (is-those both _ hb x (omega arith)) ∙ by x (eqb x e) refl)))
    where
      by : (x : ℕ) (b : Bool) → eqb x e ≡ b → ((mem seen.set x or b) and non b) ≡ mem seen.set x
      by x true q = and-false _ ∙ sym (ap (mem seen.set) (eqb-true x e q) ∙ new)
      by x false q = and-true _ ∙ or-false (mem seen.set x)

  pub room-more : seen.count < tally_width
  room-more =
      let most = count-le tally_width (mem (those (λ x. mem seen.set x or eqb x e))) in
      let more = counted-more (those (λ x. mem seen.set x or eqb x e)) refl in
      omega (arith, most, more)

  module _ (firsts gaps : List ℕ) (kept : Kept firsts gaps seen.count) where
    inside : seen.count < length firsts
    inside = omega (arith, room-more, kept.1)

    low-more : (j : ℕ) → j < seen.count + 1 → (b : Bool) → eqb j seen.count ≡ b → get_or (set firsts seen.count e) j 0 < tally_width
    low-more j l true q =
        subst (λ (n : ℕ). n < tally_width)
        (sym (ap (λ (n : ℕ). get_or (set firsts seen.count e) n 0) (eqb-true j seen.count q) ∙ get_or-set_same firsts seen.count e 0 inside)) low
    low-more j l false q =
        let ne = eqb-false j seen.count q in
        let less : j < seen.count = lt_of_le-ne (omega arith) ne in
        subst (λ (n : ℕ). n < tally_width) (sym (get_or-set_other firsts seen.count j e 0 ne)) (kept.3 j less)

    pub kept-more : Kept (set firsts seen.count e) gaps (seen.count + 1)
    kept-more = (omega (arith, room-more), length-set firsts seen.count e ∙ kept.1, kept.2, λ j l. low-more j l (eqb j seen.count) refl)

-- ---- a first place

pub first-put : (firsts : List ℕ) (count e : ℕ) → count < tally_width → set firsts count e ≡ with_first firsts count e
unfolding with_first
first-put firsts count e l = sym (ap (λ (t : Bool). when t then set firsts count e else firsts) (lt-ltb count tally_width l))

module _ (firsts : List ℕ) (seen : Seen) (e : ℕ) where
  old-stays : is_new seen e ≡ false → (seen ≡ seen_with seen e) × (firsts ≡ firsts_with firsts seen e)
  unfolding seen_with firsts_with
  old-stays n = (
    sym (ap (λ (t : Bool). when t then record { set = those (λ x. mem seen.set x or eqb x e); count = seen.count + 1 } else seen) n),
    sym (ap (λ (t : Bool). when t then with_first firsts seen.count e else firsts) n),
  )

  module _ (r : Bool) (hr : r ≡ mem seen.set e) where
    pub seen-again : r ≡ true → (seen ≡ seen_with seen e) × (firsts ≡ firsts_with firsts seen e)
    unfolding non
    seen-again y = old-stays (ap (λ (b : Bool). non b and ltb e tally_width) (sym hr ∙ y) ∙ false-and _)

    pub seen-above : tally_width ≤ e → (seen ≡ seen_with seen e) × (firsts ≡ firsts_with firsts seen e)
    seen-above g = old-stays (ap (λ (b : Bool). non (mem seen.set e) and b) (le-ltb e tally_width g) ∙ and-false _)

    pub seen-new : (one both : Set) (out : List ℕ) → r ≡ false → e < tally_width → out ≡ with_first firsts seen.count e → one ≡ those (λ b. eqb b e)
        → both ≡ those (λ a. mem seen.set a or mem one a)
        → (◌≡◌ {A = Seen} (record { set = both; count = seen.count + 1 }) (seen_with seen e)) × (out ≡ firsts_with firsts seen e)
    unfolding seen_with firsts_with non ◌and◌
    seen-new one both out n l h ho hb =
        let new : is_new seen e ≡ true = ap₂ (λ (a b : Bool). non a and b) (sym hr ∙ n) (lt-ltb e tally_width l) in (
          ap (λ (s : Set). record { set = s; count = seen.count + 1 }) (with-one seen.set one both e ho hb)
              ∙ sym (ap (λ (t : Bool). when t then record { set = those (λ x. mem seen.set x or eqb x e); count = seen.count + 1 } else seen) new),
          h ∙ sym (ap (λ (t : Bool). when t then with_first firsts seen.count e else firsts) new),
        )
