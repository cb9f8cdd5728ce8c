-- A pass over a trace, and over all traces, puts into row a what some place of a says: in either order of the places. Assumes nothing.
use mathlib.Core.Path.{◌≡◌, refl, sym, ap, ◌∙◌, subst}
use mathlib.Core.Bool.{Bool, true, false}
use mathlib.Core.List.{List, [], ◌∷◌}
use Prim.Native.Nat.{ℕ}
use lib.Dec.{T, eqb, eqb→eq}
use Rattle.sets.specs.Tests.{◌and◌, ◌or◌, when◌then◌else◌}
use Rattle.sets.specs.Rows.{Relation, no_rows, rows_of}
use Rattle.sets.proofs.Tests.{and_i, and_l, and_r, or_assoc, or_comm, or-false, false-or, and-false, T-ext}
use Rattle.sets.proofs.RowLaws.{rows_of-ext, gain-rows_of, empty-rows_of}
use Rattle.rules.specs.Traces.{Traces, at_some_from, at_some, some_trace}
use Rattle.tally.specs.Passes.{Fact, Turn, gained, gains, gained_for, gains_in, forward, backward, through, reaches, cut}

-- of two that are the same it may be said of either
pub at_same : (a e : ℕ) (f : ℕ → Bool) → (eqb a e and f e) ≡ (eqb a e and f a)
at_same a e f =
    T-ext _ _
    (λ t. and_i _ _ (and_l _ _ t) (subst (λ (n : ℕ). T (f n)) (sym (eqb→eq a e (and_l _ _ t))) (and_r _ _ t)))
    (λ t. and_i _ _ (and_l _ _ t) (subst (λ (n : ℕ). T (f n)) (eqb→eq a e (and_l _ _ t)) (and_r _ _ t)))

-- what the places of a say, in the rest of a trace
abbrev pub said : Fact → List ℕ → List ℕ → Relation
said p past rest a x = at_some_from a (λ q s. p a q s x) past rest

-- a pass whose turn puts the fact into a relation's rows
module _ (p : Fact) (turn : Turn)
    (one : (r : Relation) (e : ℕ) (past rest : List ℕ) → turn (rows_of r) e past rest ≡ rows_of (λ a x. r a x or eqb a e and p e past rest x)) where
  pub forward-by : (r : Relation) (past rest : List ℕ) → forward turn (rows_of r) past rest ≡ rows_of (λ a x. r a x or said p past rest a x)
  unfolding forward at_some_from
  forward-by r past [] = rows_of-ext r (λ a x. r a x or false) (λ a x ha hx. sym (or-false (r a x)))
  forward-by r past (e ∷ rest) =
      ap (λ (l : List ℕ). forward turn l (e ∷ past) rest) (one r e past rest)
      ∙ forward-by (λ a x. r a x or eqb a e and p e past rest x) (e ∷ past) rest
      ∙ rows_of-ext (λ a x. r a x or eqb a e and p e past rest x or said p (e ∷ past) rest a x) (λ a x. r a x or said p past (e ∷ rest) a x)
      (λ a x ha hx.
      or_assoc (r a x) (eqb a e and p e past rest x) (said p (e ∷ past) rest a x)
      ∙ ap (λ (b : Bool). r a x or (b or said p (e ∷ past) rest a x)) (at_same a e (λ n. p n past rest x)))

  pub backward-by : (r : Relation) (past rest : List ℕ) → backward turn (rows_of r) past rest ≡ rows_of (λ a x. r a x or said p past rest a x)
  unfolding backward at_some_from
  backward-by r past [] = rows_of-ext r (λ a x. r a x or false) (λ a x ha hx. sym (or-false (r a x)))
  backward-by r past (e ∷ rest) =
      ap (λ (l : List ℕ). turn l e past rest) (backward-by r (e ∷ past) rest)
      ∙ one (λ a x. r a x or said p (e ∷ past) rest a x) e past rest
      ∙ rows_of-ext (λ a x. r a x or said p (e ∷ past) rest a x or eqb a e and p e past rest x) (λ a x. r a x or said p past (e ∷ rest) a x)
      (λ a x ha hx.
      or_assoc (r a x) (said p (e ∷ past) rest a x) (eqb a e and p e past rest x)
      ∙ ap (λ (b : Bool). r a x or b) (or_comm (said p (e ∷ past) rest a x) (eqb a e and p e past rest x))
      ∙ ap (λ (b : Bool). r a x or (b or said p (e ∷ past) rest a x)) (at_same a e (λ n. p n past rest x)))

pub forward-rows_of : (p : Fact) (r : Relation) (past rest : List ℕ) → forward (gains p) (rows_of r) past rest ≡ rows_of (λ a x. r a x or said p past rest a x)
unfolding gains gained
forward-rows_of p = forward-by p (gains p) (λ r e past rest. gain-rows_of r e (p e past rest))

-- the fact of a place, as far as a form holds its activity and what is put there
abbrev pub formed : Bool → Fact → Fact
formed wide p e past rest x = reaches wide e and cut wide p e past rest x

pub gains-in_lem : (wide : Bool) (p : Fact) (r : Relation) (e : ℕ) (past rest : List ℕ) → gains_in wide p (rows_of r) e past rest
    ≡ rows_of (λ a x. r a x or eqb a e and formed wide p e past rest x)
unfolding gains_in gained_for gained ◌and◌
gains-in_lem wide p r e past rest = by (reaches wide e)
  where
    by : (b : Bool) → (when b then gained (rows_of r) e (cut wide p e past rest) else rows_of r) ≡ rows_of (λ a x. r a x or eqb a e and (b and cut wide p e past rest x))
    by true = gain-rows_of r e (cut wide p e past rest)
    by false = rows_of-ext r _ (λ a x ha hx. sym (ap (λ (t : Bool). r a x or t) (and-false (eqb a e)) ∙ or-false (r a x)))

pub forward-in : (wide : Bool) (p : Fact) (r : Relation) (past rest : List ℕ)
    → forward (gains_in wide p) (rows_of r) past rest ≡ rows_of (λ a x. r a x or said (formed wide p) past rest a x)
forward-in wide p = forward-by (formed wide p) (gains_in wide p) (gains-in_lem wide p)

-- what some trace says
abbrev pub heard : Fact → Traces → Relation
heard p L a x = some_trace L (at_some a (λ q s. p a q s x))

-- what is heard in a form of what the form can hold
pub heard-cut : (wide : Bool) (p : Fact) (L : Traces) (a x : ℕ) → reaches wide x ≡ true → heard (cut wide p) L a x ≡ heard p L a x
unfolding cut ◌and◌
heard-cut wide p L a x h = ap (λ (b : Bool). some_trace L (at_some a (λ q s. b and p a q s x))) h

pub heard-in : (wide : Bool) (p : Fact) (L : Traces) (a x : ℕ) → reaches wide a ≡ true → reaches wide x ≡ true → heard (formed wide p) L a x ≡ heard p L a x
unfolding ◌and◌
heard-in wide p L a x ha hx = ap (λ (b : Bool). some_trace L (at_some a (λ q s. b and cut wide p a q s x))) ha ∙ heard-cut wide p L a x hx

-- one pass after another, over all traces: `pass` takes rows and a trace
module _ (p : Fact) (pass : List ℕ → List ℕ → List ℕ)
    (one : (r : Relation) (σ : List ℕ) → pass (rows_of r) σ ≡ rows_of (λ a x. r a x or said p [] σ a x)) where
  pub through-rows_of : (r : Relation) (L : Traces) → through pass (rows_of r) L ≡ rows_of (λ a x. r a x or heard p L a x)
  unfolding through some_trace
  through-rows_of r [] = rows_of-ext r (λ a x. r a x or false) (λ a x ha hx. sym (or-false (r a x)))
  through-rows_of r (σ ∷ L) =
      ap (λ (l : List ℕ). through pass l L) (one r σ)
      ∙ through-rows_of (λ a x. r a x or said p [] σ a x) L
      ∙ rows_of-ext (λ a x. r a x or said p [] σ a x or heard p L a x) (λ a x. r a x or heard p (σ ∷ L) a x)
      (λ a x ha hx. or_assoc (r a x) (said p [] σ a x) (heard p L a x))

  -- from rows without a member: the fact's own rows
  pub through-all : (L : Traces) → through pass no_rows L ≡ rows_of (heard p L)
  through-all L =
      ap (λ (l : List ℕ). through pass l L) (empty-rows_of (λ a x. false) (λ a x ha hx. refl))
      ∙ through-rows_of (λ a x. false) L
      ∙ rows_of-ext (λ a x. false or heard p L a x) (heard p L) (λ a x ha hx. false-or (heard p L a x))
