-- One turn of a pass over a trace: what stands before place i, the set of it, and what the row of the event gains. Assumes nothing.
use Rattle.sets.specs.Members.{no_set, width, word, mem, those}
use mathlib.Core.Path.{◌≡◌, refl, sym, ap, ◌∙◌}
use mathlib.Core.Bool.{Bool, true, false}
use mathlib.Core.List.{List, [], ◌∷◌, ◌++◌, reverse_aux}
use Prim.Native.Nat.{ℕ, ◌+◌, ◌≤◌, ◌<◌}
use native.Mathlib.Numerals.{add-one}
use borrow.Author.Tests.{ltb-true, ltb-false}
use lib.Dec.{eqb, ltb}
use lib.ListN.{length, get_or, take, drop, drop_of_length-le}
use lib.Seq.{take-suc, take_all, drop-cons}
use Rattle.sets.specs.Tests.{◌and◌, ◌or◌, non, when◌then◌else◌}
use Rattle.sets.specs.Rows.{row_at, with_row}
use Rattle.sets.specs.Tables.{table_at, with_row_in, gained_in}
use Rattle.sets.specs.declared.set.Set.{Set}
use Rattle.sets.proofs.Tests.{T→true, F→false, split, either, and-false, and_comm, or_assoc, or_comm, or-false}
use Rattle.sets.proofs.Tautologies.{by2, by3}
use Rattle.sets.proofs.Ways.{failed, held, taken, passed-by}
use Rattle.sets.proofs.Members.{none-those, those-ext, those-of}
use Rattle.sets.proofs.MadeSets.{Is, is-those}
use Rattle.sets.proofs.RowLaws.{put-out}
use Rattle.sets.proofs.TableLaws.{table-put-above}
use Rattle.rules.specs.Traces.{◌has◌, ◌begins_with◌}
use Rattle.tally.specs.Passes.{Fact, Turn, gained, gains, gained_for, gains_in, noted_in, forward, reaches, cut, is_earlier, not_earlier, not_directly}
use Rattle.tally.specs.Passes.{is_later, not_later, is_next}
use Rattle.tally.specs.Tallies.{before_table, later_table, unpreceded_table, unanswered_table, unchained_table, followed_table, note_rest_in}
use Rattle.tally.specs.Tallies.{past_by, rest_by}

-- what stands before place i, the nearest first
abbrev pub past_at : List ℕ → ℕ → List ℕ
past_at σ i = reverse_aux (take i σ) []

past-snoc : (xs : List ℕ) (x : ℕ) (ys : List ℕ) → reverse_aux (xs ++ x ∷ []) ys ≡ x ∷ reverse_aux xs ys
past-snoc [] x ys = refl
past-snoc (z ∷ xs) x ys = past-snoc xs x (z ∷ ys)

pub past_next : (σ : List ℕ) (i : ℕ) → i < length σ → past_at σ (i + 1) ≡ get_or σ i 0 ∷ past_at σ i
past_next σ i h =
    ap (λ (n : ℕ). past_at σ n) (add-one i) ∙ ap (λ (l : List ℕ). reverse_aux l []) (take-suc σ i 0 h) ∙ past-snoc (take i σ) (get_or σ i 0) []

pub rest-next : (σ : List ℕ) (i : ℕ) → i < length σ → drop i σ ≡ get_or σ i 0 ∷ drop (i + 1) σ
rest-next σ i h = drop-cons σ i 0 h ∙ ap (λ (n : ℕ). get_or σ i 0 ∷ drop n σ) (sym (add-one i))

-- the set of what stands in a list
abbrev pub seen_in : List ℕ → Set
seen_in past = those (λ x. past has x)

-- the set of what stands at its front
abbrev pub last_in : List ℕ → Set
last_in past = those (λ x. past begins_with x)

-- the set of what stands in it that a form holds
abbrev pub held_in : Bool → List ℕ → Set
held_in wide past = those (λ x. reaches wide x and past has x)

-- of an empty list each is the empty set
pub seen_none : ◌≡◌ {A = Set} no_set (seen_in [])
unfolding ◌has◌
seen_none = none-those (λ x. [] has x) (λ x l. refl)

pub held_none : (wide : Bool) → ◌≡◌ {A = Set} no_set (held_in wide [])
unfolding ◌has◌
held_none wide = none-those (λ x. reaches wide x and [] has x) (λ x l. and-false (reaches wide x))

pub last_none : ◌≡◌ {A = Set} no_set (last_in [])
unfolding ◌begins_with◌
last_none = none-those (λ x. [] begins_with x) (λ x l. refl)

-- order does not matter to what stands in a list
pub has-past : (x : ℕ) (xs ys : List ℕ) → reverse_aux xs ys has x ≡ (xs has x or ys has x)
unfolding ◌has◌ ◌or◌
has-past x [] ys = refl
has-past x (y ∷ xs) ys =
    has-past x xs (y ∷ ys) ∙ sym (or_assoc (xs has x) (eqb x y) (ys has x)) ∙ ap (λ (t : Bool). t or ys has x) (or_comm (xs has x) (eqb x y))

-- after the last turn all of the trace was seen
module _ (σ : List ℕ) (i : ℕ) where
  has_all : length σ ≤ i → (x : ℕ) → past_at σ i has x ≡ σ has x
  unfolding ◌has◌
  has_all h x = has-past x (take i σ) [] ∙ or-false _ ∙ ap (λ (l : List ℕ). l has x) (take_all i σ h)

  pub seen_all : (seen : Set) → length σ ≤ i → seen ≡ seen_in (past_at σ i) → seen ≡ those (λ x. σ has x)
  seen_all seen h e = e ∙ those-ext (λ x. past_at σ i has x) (λ x. σ has x) (λ x l. has_all h x)

  pub held_all : (wide : Bool) (seen : Set) → length σ ≤ i → seen ≡ held_in wide (past_at σ i) → seen ≡ held_in wide σ
  held_all wide seen h e =
      e
      ∙ those-ext (λ x. reaches wide x and past_at σ i has x) (λ x. reaches wide x and σ has x)
      (λ x l. ap (λ (t : Bool). reaches wide x and t) (has_all h x))

-- a set with one member more
pub with-one : (seen one r : Set) (e : ℕ) → one ≡ those (λ b. eqb b e) → r ≡ those (λ a. mem seen a or mem one a) → r
    ≡ those (λ x. mem seen x or eqb x e)
with-one seen one r e ho hr = hr ∙ those-of one (λ b. eqb b e) (λ a t. mem seen a or t) ho

-- what was seen, one place further
pub seen_next : (σ : List ℕ) (i : ℕ) (h : i < length σ) (seen : Set) → seen ≡ seen_in (past_at σ i) → (r : Set)
    → r ≡ those (λ x. mem seen x or eqb x (get_or σ i 0)) → r ≡ seen_in (past_at σ (i + 1))
unfolding ◌has◌
seen_next σ i h seen hs r hr =
    hr
    ∙ those-of seen (λ x. past_at σ i has x) (λ x t. t or eqb x (get_or σ i 0)) hs
    ∙ those-ext _ (λ x. (get_or σ i 0 ∷ past_at σ i) has x) (λ x l. or_comm (past_at σ i has x) (eqb x (get_or σ i 0)))
    ∙ ap seen_in (sym (past_next σ i h))

-- the same of what a form holds
pub held_more : (wide : Bool) (past : List ℕ) (e : ℕ) (seen one both seen' : Set) → seen ≡ held_in wide past → one ≡ those (λ b. eqb b e)
    → both ≡ those (λ a. mem seen a or mem one a) → seen' ≡ those (λ x. reaches wide x and mem both x) → seen' ≡ held_in wide (e ∷ past)
unfolding ◌has◌
held_more wide past e seen one both seen' hs ho hb h =
    h
    ∙ those-of both (λ x. mem seen x or eqb x e) (λ x t. reaches wide x and t) (with-one seen one both e ho hb)
    ∙ those-of seen (λ x. reaches wide x and past has x) (λ x t. reaches wide x and (t or eqb x e)) hs
    ∙ those-ext (λ x. reaches wide x and (reaches wide x and past has x or eqb x e)) (λ x. reaches wide x and (e ∷ past) has x)
    (λ x l. by3 (λ r p o. r and (r and p or o)) (λ r p o. r and (o or p)) (unfold ◌and◌ ◌or◌ non in tt) (reaches wide x) (past has x) (eqb x e))

-- a row that gained a set that is known
pub joined_by : (wide : Bool) (rows : List ℕ) (e : ℕ) (q : ℕ → Bool) (s : Set) (rows' : List ℕ) → s ≡ those q → rows' ≡ gained_for wide rows e (mem s)
    → rows' ≡ gained_for wide rows e q
unfolding gained_for gained
joined_by wide rows e q s rows' hs h =
    h ∙ ap (λ (row : Set). when reaches wide e then with_row rows e row else rows) (those-of s q (λ b t. mem (row_at rows e) b or t) hs)

pub joined-row : (rows : List ℕ) (e : ℕ) (q : ℕ → Bool) (s : Set) (rows' : List ℕ) → s ≡ those q
    → rows' ≡ with_row rows e (those (λ b. mem (row_at rows e) b or mem s b)) → rows' ≡ gained rows e q
unfolding gained
joined-row rows e q s rows' hs h = h ∙ ap (with_row rows e) (those-of s q (λ b t. mem (row_at rows e) b or t) hs)

-- a row for e is put only where e is below the width: what it gains may be said otherwise there
pub put-where : (e : ℕ) (row : Set) (old : List ℕ) (put : Set → List ℕ) → ((s : Set) → width ≤ e → old ≡ put s) → (p q : ℕ → Bool)
    → (e < width → (x : ℕ) → x < width → p x ≡ q x) → put (those (λ x. mem row x or p x)) ≡ put (those (λ x. mem row x or q x))
put-where e row old put out p q h =
    either (split (ltb e width))
    (λ t. ap put (those-ext _ _ (λ x l. ap (λ (b : Bool). mem row x or b) (h (ltb-true e width (T→true _ t)) x l))))
    (λ f. let g = ltb-false e width (F→false _ f) in sym (out _ g) ∙ out _ g)

-- the row of the event gains what passes, and below the width that is the fact; a number past it has no row
pub gains-row : (p : Fact) (rows : List ℕ) (e : ℕ) (past rest : List ℕ) (q : ℕ → Bool) (rows' : List ℕ)
    → (e < width → (x : ℕ) → x < width → q x ≡ p e past rest x) → rows' ≡ gained rows e q → rows' ≡ gains p rows e past rest
unfolding gains gained
gains-row p rows e past rest q rows' f h = h ∙ put-where e (row_at rows e) rows (with_row rows e) (put-out rows e) q (p e past rest) f

pub gains-below : (wide : Bool) (p : Fact) (rows : List ℕ) (e : ℕ) (past rest : List ℕ) (q : ℕ → Bool) (rows' : List ℕ)
    → (e < width → (x : ℕ) → x < width → q x ≡ cut wide p e past rest x) → rows' ≡ gained_for wide rows e q → rows' ≡ gains_in wide p rows e past rest
unfolding gains_in gained_for gains
gains-below wide p rows e past rest q rows' f h =
    h ∙ ap (λ (l : List ℕ). when reaches wide e then l else rows) (gains-row (cut wide p) rows e past rest q _ f refl)

-- ---- the same of tables

module _ (tables : List ℕ) (k e : ℕ) where
  pub noted-where : (p q : ℕ → Bool) → (e < width → (x : ℕ) → x < width → p x ≡ q x) → noted_in tables k e p ≡ noted_in tables k e q
  unfolding noted_in
  noted-where = put-where e (row_at (table_at tables k) e) tables (with_row_in tables k e) (table-put-above tables k e)

  noted-as : (p q : ℕ → Bool) → ((x : ℕ) → x < width → p x ≡ q x) → noted_in tables k e p ≡ noted_in tables k e q
  noted-as p q h = noted-where p q (λ l. h)

  -- a join with a set whose members are known
  pub noted-by : (s : Set) (p : ℕ → Bool) (out : List ℕ) → Is s p → out ≡ gained_in tables k e s → out ≡ noted_in tables k e p
  unfolding noted_in
  noted-by s p out hs h = h ∙ noted-as (mem s) p hs

-- three of them, one after another
module _ (tables : List ℕ) (j k l e : ℕ) where
  abbrev pub thrice : (ℕ → Bool) → (ℕ → Bool) → (ℕ → Bool) → List ℕ
  thrice p q r = noted_in (noted_in (noted_in tables j e p) k e q) l e r

  pub joined-thrice : (s u v : Set) (p q r : ℕ → Bool) (one two out : List ℕ) → Is s p → Is u q → Is v r
      → one ≡ gained_in tables j e s → two ≡ gained_in one k e u → out ≡ gained_in two l e v → out ≡ thrice p q r
  joined-thrice s u v p q r one two out hs hu hv h1 h2 h3 =
      noted-by two l e v r out hv h3
      ∙ ap (λ (x : List ℕ). noted_in x l e r) (noted-by one k e u q two hu h2
      ∙ ap (λ (x : List ℕ). noted_in x k e q) (noted-by tables j e s p one hs h1))

  thrice-as : (p q r p' q' r' : ℕ → Bool) → ((x : ℕ) → x < width → p x ≡ p' x) → ((x : ℕ) → x < width → q x ≡ q' x)
      → ((x : ℕ) → x < width → r x ≡ r' x) → thrice p q r ≡ thrice p' q' r'
  thrice-as p q r p' q' r' hp hq hr =
      noted-as (noted_in (noted_in tables j e p) k e q) l e r r' hr
      ∙ ap (λ (x : List ℕ). noted_in x l e r')
      (noted-as (noted_in tables j e p) k e q q' hq ∙ ap (λ (x : List ℕ). noted_in x k e q') (noted-as tables j e p p' hp))

-- ---- in a form

-- what a form holds of a set: in the wide one all, in the narrow one what is below 64
pub all_held : (wide : Bool) (s : Set) → those (mem s) ≡ s → wide ≡ true → s ≡ those (λ x. reaches wide x and mem s x)
unfolding reaches ◌and◌ ◌or◌
all_held wide s whole t = sym whole ∙ ap (λ (b : Bool). those (λ x. (b or ltb x word) and mem s x)) (sym t)

pub low_held : (wide : Bool) (s low r : Set) → wide ≡ false → low ≡ those (λ a. ltb a word) → r ≡ those (λ a. mem s a and mem low a)
    → r ≡ those (λ x. reaches wide x and mem s x)
unfolding reaches ◌or◌
low_held wide s low r t hl hr =
    hr
    ∙ those-of low (λ a. ltb a word) (λ a b. mem s a and b) hl
    ∙ those-ext (λ a. mem s a and ltb a word) (λ x. ltb x word and mem s x) (λ a l. and_comm (mem s a) (ltb a word))
    ∙ ap (λ (b : Bool). those (λ x. (b or ltb x word) and mem s x)) (sym t)

-- what the form holds of a set that is known
pub held_of : (wide : Bool) (s c : Set) (p : ℕ → Bool) → Is s p → c ≡ those (λ x. reaches wide x and mem s x) → Is c (λ x. reaches wide x and p x)
held_of wide s c p hs hc x l = is-those c _ hc x l ∙ ap (λ (t : Bool). reaches wide x and t) (hs x l)

pub where-held : (x z y : List ℕ) (b : Bool) → (b ≡ true → x ≡ z) → (when b then x else y) ≡ (when b then z else y)
where-held x z y true h = h refl
where-held x z y false h = refl

twice-held : (r p : Bool) → (r and (r and p)) ≡ (r and p)
twice-held = by2 (λ r p. r and (r and p)) (λ r p. r and p) (unfold ◌and◌ ◌or◌ non in tt)

-- in the form, what it does not hold of a list does not stand there
pub not-held : (r p : Bool) → (r and non (r and p)) ≡ (r and non p)
not-held = by2 (λ r p. r and non (r and p)) (λ r p. r and non p) (unfold ◌and◌ ◌or◌ non in tt)

-- a place of either pass, as its function puts it down: a set, what is not in it, and another or what is not in that
module _ (wide : Bool) (tables : List ℕ) (e : ℕ) where
  pub past-put : (seen last s c c' d d' : Set) (one two out : List ℕ) → s ≡ those (λ x. reaches wide x and mem seen x)
      → one ≡ gained_in tables before_table e s → c ≡ those (λ a. non (mem seen a)) → c' ≡ those (λ x. reaches wide x and mem c x)
      → two ≡ gained_in one unpreceded_table e c' → d ≡ those (λ a. non (mem last a)) → d' ≡ those (λ x. reaches wide x and mem d x)
      → out ≡ gained_in two unchained_table e d' → out ≡ past_by wide tables e seen last
  unfolding past_by
  past-put seen last s c c' d d' one two out hs h1 hc hc' h2 hd hd' h3 =
      joined-thrice tables before_table unpreceded_table unchained_table e s c' d' _ _ _ one two out (is-those s _ hs)
      (held_of wide c c' _ (is-those c _ hc) hc') (held_of wide d d' _ (is-those d _ hd) hd') h1 h2 h3

  pub rest_put : (after next : Set) (h : Bool) → h ≡ reaches wide e → h ≡ true → (s c c' n : Set) (one two out : List ℕ)
      → s ≡ those (λ x. reaches wide x and mem after x) → one ≡ gained_in tables later_table e s → c ≡ those (λ a. non (mem after a))
      → c' ≡ those (λ x. reaches wide x and mem c x) → two ≡ gained_in one unanswered_table e c' → n ≡ those (λ x. reaches wide x and mem next x)
      → out ≡ gained_in two followed_table e n → out ≡ rest_by wide tables e after next
  unfolding rest_by
  rest_put after next h hh hn s c c' n one two out hs h1 hc hc' h2 hx h3 =
      taken (reaches wide e) _ tables out (held _ h hh hn) (joined-thrice tables later_table unanswered_table followed_table e s c' n _ _ _ one two out
      (is-those s _ hs) (held_of wide c c' _ (is-those c _ hc) hc') (is-those n _ hx) h1 h2 h3)

  pub rest-left : (after next : Set) (h : Bool) → h ≡ reaches wide e → h ≡ false → tables ≡ rest_by wide tables e after next
  unfolding rest_by
  rest-left after next h hh hn = passed-by (reaches wide e) _ tables tables (failed _ h hh hn) refl

  -- by sets of what stands there, it is what the place says
  module _ (past rest : List ℕ) where
    pub past_is : (seen last : Set) → seen ≡ held_in wide past → last ≡ last_in past → past_by wide tables e seen last
        ≡ thrice tables before_table unpreceded_table unchained_table e (cut wide is_earlier e past rest) (cut wide not_earlier e past rest)
        (cut wide not_directly e past rest)
    unfolding past_by cut is_earlier not_earlier not_directly
    past_is seen last hs hl =
        let seen-in = is-those seen _ hs in
        let last-in = is-those last _ hl in
        thrice-as tables before_table unpreceded_table unchained_table e _ _ _ _ _ _
        (λ x l. ap (λ (t : Bool). reaches wide x and t) (seen-in x l) ∙ twice-held (reaches wide x) (past has x))
        (λ x l. ap (λ (t : Bool). reaches wide x and non t) (seen-in x l) ∙ not-held (reaches wide x) (past has x)) (λ x l. ap (λ (t : Bool). reaches wide x and non t) (last-in x l))

    pub rest-is : (after next : Set) → after ≡ held_in wide rest → next ≡ last_in rest → rest_by wide tables e after next ≡ note_rest_in wide tables e past rest
    unfolding rest_by note_rest_in cut is_later not_later is_next
    rest-is after next ha hn =
        let after-in = is-those after _ ha in
        let next-in = is-those next _ hn in
        ap (λ (l : List ℕ). when reaches wide e then l else tables) (thrice-as tables later_table unanswered_table followed_table e _ _ _ _ _ _
        (λ x l. ap (λ (t : Bool). reaches wide x and t) (after-in x l) ∙ twice-held (reaches wide x) (rest has x))
        (λ x l. ap (λ (t : Bool). reaches wide x and non t) (after-in x l) ∙ not-held (reaches wide x) (rest has x)) (λ x l. ap (λ (t : Bool). reaches wide x and t) (next-in x l)))

-- the forward loop: before the first turn, one turn further, after the last
module _ (turn : Turn) (σ all : List ℕ) where
  pub forward-next : (i : ℕ) (rows rows' : List ℕ) → i < length σ → rows' ≡ turn rows (get_or σ i 0) (past_at σ i) (drop (i + 1) σ)
      → forward turn rows (past_at σ i) (drop i σ) ≡ all → forward turn rows' (past_at σ (i + 1)) (drop (i + 1) σ) ≡ all
  unfolding forward
  forward-next i rows rows' h hr inv =
      ap (λ (l : List ℕ). forward turn rows' l (drop (i + 1) σ)) (past_next σ i h)
      ∙ ap (λ (r : List ℕ). forward turn r (get_or σ i 0 ∷ past_at σ i) (drop (i + 1) σ)) hr
      ∙ ap (forward turn rows (past_at σ i)) (sym (rest-next σ i h))
      ∙ inv

  pub forward-end : (i : ℕ) (rows : List ℕ) → length σ ≤ i → forward turn rows (past_at σ i) (drop i σ) ≡ all → rows ≡ all
  unfolding forward
  forward-end i rows h inv = ap (forward turn rows (past_at σ i)) (sym (drop_of_length-le σ h)) ∙ inv
