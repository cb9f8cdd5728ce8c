-- A relation's rows put down as pairs: what the loops of `fill` leave, and what the list then holds. Assumes nothing.
use mathlib.Core.Path.{◌≡◌, refl, sym, ap, ◌∙◌, subst}
use mathlib.Core.Bool.{Bool, true, false}
use mathlib.Core.List.{List, [], ◌∷◌, ◌++◌, append_assoc}
use Prim.Native.Nat.{ℕ, zero, suc, ◌+◌, ◌*◌, ◌/◌, ◌%◌, ◌≤◌, ◌<◌}
use native.Mathlib.Numerals.{add-one}
use native.Mathlib.Omega.{arith}
use borrow.Author.Tests.{lt-ltb, le-ltb, ltb-false, eq-eqb, ne_eqb}
use lib.Dec.{T, eqb, ltb, eqb→eq, lt→ltb, ltb→lt}
use lib.ListN.{length, get_or, set, drop, length-append, length-set}
use lib.Seq.{drop-cons, set_at}
use Rattle.sets.specs.Tests.{◌and◌, ◌or◌, when◌then◌else◌}
use Rattle.sets.specs.Members.{width, digit, mem, some_below}
use Rattle.sets.specs.Rows.{Relation, row_at, in_row}
use Rattle.sets.specs.Tables.{table_at}
use Rattle.sets.specs.declared.set.Set.{Set}
use Rattle.sets.specs.declared.answer.Answer.TheVariants.{Done, BufferTooSmall}
use Rattle.sets.proofs.Tests.{and_l, and_r, and_i, T-ext, F→false, eqb_of, split, either, or-false}
use Rattle.sets.proofs.Below.{some-i, some-e, some-last}
use Rattle.sets.proofs.Bits.{digit-le}
use Rattle.plain.specs.declared.fill.Filled.{Filled}
use Rattle.plain.specs.Pairs.{most_pairs, source_of, target_of, some_in, is_among}
use Rattle.plain.specs.Filling.{relation_at, questions, numbered, is_pair, pairs_below, pairs_of, put_down, filled_of, memory_after}
use Rattle.plain.specs.Same.{pair_in}

-- ---- one pair of the relation

module _ (tables : List ℕ) (kind k : ℕ) (row : Set) (q : Bool) where
  pub of-conditions : kind ≡ 0 → row ≡ row_at (table_at tables kind) (k % width) → q ≡ mem row (k / width) → q
      ≡ is_pair (relation_at tables kind) k
  unfolding is_pair relation_at in_row
  of-conditions e h t =
      t
      ∙ ap (λ (s : Set). mem s (k / width)) h
      ∙ sym (ap (λ (b : Bool). when b then in_row (table_at tables kind) (k % width) (k / width)
      else in_row (table_at tables kind) (k / width) (k % width)) (eq-eqb kind 0 e))

  pub of_others : (kind ≡ 0 → ⊥) → row ≡ row_at (table_at tables kind) (k / width) → q ≡ mem row (k % width) → q
      ≡ is_pair (relation_at tables kind) k
  unfolding is_pair relation_at in_row
  of_others e h t =
      t
      ∙ ap (λ (s : Set). mem s (k % width)) h
      ∙ sym (ap (λ (b : Bool). when b then in_row (table_at tables kind) (k % width) (k / width)
      else in_row (table_at tables kind) (k / width) (k % width)) (ne_eqb kind 0 e))

-- the place after a pair that is wanted or not

module _ (q : Bool) where
  pub digit-none : q ≡ false → 0 ≡ digit q
  digit-none h = ap digit (sym (h))

  pub digit-one : q ≡ true → 1 ≡ digit q
  digit-one h = ap digit (sym (h))

  module _ (n : ℕ) where
    pub place_none : q ≡ false → n ≡ n + digit q
    place_none h = let d = digit-none h in omega arith

    pub place-one : q ≡ true → n + 1 ≡ n + digit q
    place-one h = let d = digit-one h in omega arith

    pub place-room : (l : ℕ) → n + digit q ≤ l → q ≡ true → n < l
    place-room l g h = let d = digit-one h in omega arith

-- ---- the list grows

piece-length : (q : Bool) (p : ℕ) → length (when q then p ∷ [] else []) ≡ digit q
piece-length true p = refl
piece-length false p = refl

nothing-more : (xs : List ℕ) → xs ++ [] ≡ xs
nothing-more [] = refl
nothing-more (x ∷ xs) = ap (λ (l : List ℕ). x ∷ l) (nothing-more xs)

module _ (r : Relation) where
  below_next : (k : ℕ) → length (pairs_below (suc k) r) ≡ length (pairs_below k r) + digit (is_pair r k)
  unfolding pairs_below
  below_next k =
      length-append (pairs_below k r) (when is_pair r k then numbered k ∷ [] else [])
      ∙ ap (λ (n : ℕ). length (pairs_below k r) + n) (piece-length (is_pair r k) (numbered k))

  below-le : (k : ℕ) → length (pairs_below k r) ≤ k
  unfolding pairs_below
  below-le zero = omega arith
  below-le (suc k) = let a = below_next k in let b = below-le k in let c = digit-le (is_pair r k) in omega arith

  -- a relation has no more pairs than a list may have
  pub pairs-fit : length (pairs_of r) ≤ most_pairs
  pairs-fit = below-le questions

  below-grows : (j k : ℕ) → j ≤ k → length (pairs_below j r) ≤ length (pairs_below k r)
  below-grows j zero l = let same : j ≡ zero = omega arith in let e = ap (λ (n : ℕ). length (pairs_below n r)) same in omega arith
  below-grows j (suc k) l =
      either (split (ltb j (suc k)))
      (λ t. let lt = ltb→lt j (suc k) t in let a = below-grows j k (omega arith) in let b = below_next k in omega arith)
      (λ f.
      let ge = ltb-false j (suc k) (F→false _ f) in
      let same : j ≡ suc k = omega arith in
      let e = ap (λ (n : ℕ). length (pairs_below n r)) same in
      omega arith)

  pub count-begin : 0 ≡ length (pairs_below 0 r)
  unfolding pairs_below
  count-begin = refl

  module _ (k n : ℕ) (q : Bool) (hq : q ≡ is_pair r k) (hn : n ≡ length (pairs_below k r)) where
    pub count_next : (d : ℕ) → d ≡ digit q → n + d ≡ length (pairs_below (k + 1) r)
    count_next d hd =
        let a = below_next k in
        let b = ap digit hq in
        let c = ap (λ (m : ℕ). length (pairs_below m r)) (add-one k) in
        omega arith

    pub place-next : (n' : ℕ) → n' ≡ n + digit q → n' ≡ length (pairs_below (k + 1) r)
    place-next n' h = h ∙ count_next (digit q) refl

    -- there is room for the pair that comes next
    pub room : (memory memory₀ : List ℕ) → k < questions → length (pairs_of r) ≤ length memory₀ → length memory ≡ length memory₀
        → n + digit q ≤ length memory
    room memory memory₀ l g h =
        let a = count_next (digit q) refl in
        let b = below-grows (k + 1) questions (omega arith) in
        omega arith

    pub put_next : (memory memory₀ out : List ℕ) → k < questions → length (pairs_of r) ≤ length memory₀
        → memory ≡ put_down (pairs_below k r) memory₀ → out ≡ (when q then set memory n (numbered k) else memory)
        → out ≡ put_down (pairs_below (k + 1) r) memory₀
    unfolding pairs_below
    put_next memory memory₀ out l g hm ho =
        ho
        ∙ (λ i. when hq i then set (hm i) (hn i) (numbered k) else hm i)
        ∙ go (is_pair r k) refl
        ∙ ap (λ (m : ℕ). put_down (pairs_below m r) memory₀) (sym (add-one k))
      where
        go : (b : Bool) → is_pair r k ≡ b
            → (when b then set (put_down (pairs_below k r) memory₀) (length (pairs_below k r)) (numbered k)
            else put_down (pairs_below k r) memory₀)
            ≡ put_down (pairs_below (suc k) r) memory₀
        go true e =
            let xs = pairs_below k r in
            let a = below_next k in
            let d = ap digit e in
            let b = below-grows (suc k) questions (omega arith) in
            let low : length xs < length memory₀ = omega arith in
            let more : suc (length xs) ≡ length (pairs_below (suc k) r) = omega arith in
            ap (λ (rest : List ℕ). set (xs ++ rest) (length xs) (numbered k)) (drop-cons memory₀ (length xs) 0 low)
            ∙ set_at xs (get_or memory₀ (length xs) 0) (drop (suc (length xs)) memory₀) (numbered k) (length xs) refl
            ∙ sym (append_assoc xs (numbered k ∷ []) (drop (suc (length xs)) memory₀))
            ∙ ap (λ (m : ℕ). (xs ++ (numbered k ∷ [])) ++ drop m memory₀) more
            ∙ ap (λ (t : Bool). (xs ++ (when t then numbered k ∷ [] else [])) ++ drop (length (pairs_below (suc k) r)) memory₀) (sym e)
        go false e =
            let xs = pairs_below k r in
            let a = below_next k in
            let d = ap digit e in
            let same : length xs ≡ length (pairs_below (suc k) r) = omega arith in
            ap (λ (m : ℕ). xs ++ drop m memory₀) same
            ∙ ap (λ (ys : List ℕ). ys ++ drop (length (pairs_below (suc k) r)) memory₀) (sym (nothing-more xs))
            ∙ ap (λ (t : Bool). (xs ++ (when t then numbered k ∷ [] else [])) ++ drop (length (pairs_below (suc k) r)) memory₀) (sym e)

  pub count-end : (k n : ℕ) → questions ≤ k → k ≤ questions → n ≡ length (pairs_below k r) → n ≡ length (pairs_of r)
  count-end k n l g h = let same : k ≡ questions = omega arith in h ∙ ap (λ (m : ℕ). length (pairs_below m r)) same

  pub put-begin : (memory : List ℕ) → memory ≡ put_down (pairs_below 0 r) memory
  unfolding pairs_below
  put-begin memory = refl

  pub put-end : (k : ℕ) (memory memory₀ : List ℕ) → questions ≤ k → k ≤ questions → memory ≡ put_down (pairs_below k r) memory₀
      → memory ≡ put_down (pairs_of r) memory₀
  put-end k memory memory₀ l g h = let same : k ≡ questions = omega arith in h ∙ ap (λ (m : ℕ). put_down (pairs_below m r) memory₀) same

-- the memory keeps its length
pub put-length : (memory memory₀ out : List ℕ) (n p : ℕ) (q : Bool) → length memory ≡ length memory₀ → out
    ≡ (when q then set memory n p else memory)
    → length out ≡ length memory₀
put-length memory memory₀ out n p q h e = ap length e ∙ by q ∙ h
  where
    by : (b : Bool) → length (when b then set memory n p else memory) ≡ length memory
    by true = length-set memory n p
    by false = refl

pub put_one : (memory : List ℕ) (n p : ℕ) (q : Bool) → q ≡ true → set memory n p ≡ when q then set memory n p else memory
put_one memory n p q h = ap (λ (b : Bool). when b then set memory n p else memory) (sym (h))

pub put-none : (memory : List ℕ) (n p : ℕ) (q : Bool) → q ≡ false → memory ≡ when q then set memory n p else memory
put-none memory n p q h = ap (λ (b : Bool). when b then set memory n p else memory) (sym (h))

-- ---- the answer

module _ (r : Relation) (memory : List ℕ) (n : ℕ) (hn : n ≡ length (pairs_of r)) where
  too-small_lem : length memory < n → ltb (length memory) (length (pairs_of r)) ≡ true
  too-small_lem l = lt-ltb (length memory) (length (pairs_of r)) (omega arith)

  enough : n ≤ length memory → ltb (length memory) (length (pairs_of r)) ≡ false
  enough l = le-ltb (length memory) (length (pairs_of r)) (omega arith)

  pub small-answer : length memory < n → ◌≡◌ {A = Filled} (record { answer = BufferTooSmall; pairs = 0 }) (filled_of r memory)
  unfolding filled_of
  small-answer l = rw (too-small_lem l)

  pub small-memory : length memory < n → memory ≡ memory_after r memory
  unfolding memory_after
  small-memory l = rw (too-small_lem l)

  pub done-answer : n ≤ length memory → ◌≡◌ {A = Filled} (record { answer = Done; pairs = n }) (filled_of r memory)
  unfolding filled_of
  done-answer l = rw (enough l) (λ i. record { answer = Done; pairs = hn i })

  pub done-memory : n ≤ length memory → (out : List ℕ) → out ≡ put_down (pairs_of r) memory → out ≡ memory_after r memory
  unfolding memory_after
  done-memory l out h = rw (enough l) h

-- ---- what the list holds

among_first : (x : ℕ) (xs : List ℕ) (p : ℕ) → is_among (x ∷ xs) p ≡ (eqb x p or is_among xs p)
unfolding is_among some_in some_below
among_first x xs p = refl

among_none : (p : ℕ) → is_among [] p ≡ false
unfolding is_among some_in some_below
among_none p = refl

among-append : (xs ys : List ℕ) (p : ℕ) → is_among (xs ++ ys) p ≡ (is_among xs p or is_among ys p)
unfolding ◌or◌
among-append [] ys p = sym (ap (λ (t : Bool). t or is_among ys p) (among_none p))
among-append (x ∷ xs) ys p =
    among_first x (xs ++ ys) p
    ∙ ap (λ (t : Bool). eqb x p or t) (among-append xs ys p)
    ∙ assoc (eqb x p) (is_among xs p) (is_among ys p)
    ∙ ap (λ (t : Bool). t or is_among ys p) (sym (among_first x xs p))
  where
    assoc : (a b c : Bool) → (a or (b or c)) ≡ (a or b or c)
    assoc true b c = refl
    assoc false b c = refl

module _ (r : Relation) (p : ℕ) where
  among-piece : (q : Bool) (n : ℕ) → is_among (when q then n ∷ [] else []) p ≡ (q and eqb n p)
  unfolding ◌and◌
  among-piece true n = among_first n [] p ∙ ap (λ (t : Bool). eqb n p or t) (among_none p) ∙ or-false (eqb n p)
  among-piece false n = among_none p

  among_below : (k : ℕ) → is_among (pairs_below k r) p ≡ some_below k (λ j. is_pair r j and eqb (numbered j) p)
  unfolding pairs_below some_below
  among_below zero = among_none p
  among_below (suc k) =
      among-append (pairs_below k r) (when is_pair r k then numbered k ∷ [] else []) p
      ∙ (λ i. among_below k i or among-piece (is_pair r k) (numbered k) i)
      ∙ sym (some-last k (λ j. is_pair r j and eqb (numbered j) p))

  -- just the pairs of the relation
  pub pairs-hold : is_among (pairs_of r) p ≡ pair_in r p
  unfolding pair_in is_pair
  pairs-hold =
      among_below questions
      ∙ T-ext _ _
      (λ h.
      let at = some-e questions (λ j. is_pair r j and eqb (numbered j) p) h in
      let k = at.0 in
      let low : k < questions = at.1 in
      let e : numbered k ≡ p = eqb→eq (numbered k) p (and_r _ _ at.2) in
      let s : k / width ≡ source_of p = omega arith in
      let t : k % width ≡ target_of p = omega arith in
      let ls : source_of p < width = omega arith in
      let lt : target_of p < width = omega arith in
      and_i _ _ (and_i _ _ (lt→ltb (source_of p) width ls) (lt→ltb (target_of p) width lt))
      (subst (λ (b : ℕ). T (r (source_of p) b)) t (subst (λ (a : ℕ). T (r a (k % width))) s (and_l _ _ at.2))))
      (λ h.
      let ls = ltb→lt (source_of p) width (and_l _ _ (and_l _ _ h)) in
      let lt = ltb→lt (target_of p) width (and_r _ _ (and_l _ _ h)) in
      let k : ℕ = source_of p * width + target_of p in
      let s : source_of p ≡ k / width = omega arith in
      let t : target_of p ≡ k % width = omega arith in
      let e : numbered k ≡ p = omega arith in
      some-i questions (λ j. is_pair r j and eqb (numbered j) p) k (omega arith)
      (and_i _ _ (subst (λ (b : ℕ). T (r (k / width) b)) t (subst (λ (a : ℕ). T (r a (target_of p))) s (and_r _ _ h))) (eqb_of e)))
