-- A place's bytes, read and stored: what shows at the same place, and that nothing shows at another. Assumes nothing.
use mathlib.Core.Path.{◌≡◌, sym, ap, ◌∙◌}
use mathlib.Core.Bool.{Bool, true, false, not}
use mathlib.Core.Logic.{◌⊎◌, inl, inr, ◌≢◌}
use mathlib.Core.List.{List, [], ◌∷◌}
use Prim.Native.Nat.{ℕ, ◌+◌, ◌*◌, ◌^◌, ◌≤◌, ◌<◌}
use native.Mathlib.Omega.{arith}
use borrow.Author.Tests.{lt-ltb, le-ltb, ltb-true, ltb-false}
use lib.Dec.{T, eqb, ltb}
use Rattle.std.specs.Prelude.{None, Some}
use Rattle.std.specs.Bool.{then_some}
use lib.ListN.{length, get_or, set, length-set}
use lib.Seq.{length-sets, get_or-set_same, get_or-set_other}
use Rattle.sets.specs.Tests.{◌and◌, non}
use Rattle.sets.specs.Members.{every_below}
use Rattle.sets.proofs.Tests.{T→true, F→false, false→F, non-i, non-e, split, either, not-non, non-non, and_l}
use Rattle.sets.proofs.Ways.{above, not-above, stops-l, goes, failed, passed}
use Rattle.sets.proofs.Below.{least-only, some-least, non-some, every-ext}
use Rattle.engine.specs.declared.marking.Marking.{Marking}
use Rattle.graphfile.specs.Markings.{marking_bytes, marking_held, marking_put}
use Rattle.octets.proofs.Parts.{get_or-apart}
use Rattle.graphfile.proofs.LoneMarkings.{held-there, put-there, length-marking, marking-apart, marking-back, WholeMarking, HeldMarking}
use Rattle.desk.specs.Places.{place_count, place_length, table_length, place_start, is_open, marking_at_place, with_marking, with_place, lowest_free, free_place}

-- ---- where a place begins: laws for `omega`, to which the product of two unknown numbers is closed

pub place-most : (wide : Bool) → place_length wide ≤ 65
place-most true = omega arith
place-most false = omega arith

pub place_up : (wide : Bool) (p q : ℕ) → p ≤ q → place_start wide p ≤ place_start wide q
unfolding place_start
place_up true p q l = omega arith
place_up false p q l = omega arith

pub place-next : (wide : Bool) (p q : ℕ) → p < q → place_start wide p + place_length wide ≤ place_start wide q
unfolding place_start
place-next true p q l = omega arith
place-next false p q l = omega arith

pub place-room : (wide : Bool) (p : ℕ) → p < place_count → place_start wide p + place_length wide ≤ table_length wide
unfolding place_start
place-room true p l = omega arith
place-room false p l = omega arith

module _ (wide : Bool) (n : ℕ) (e : n ≡ place_length wide) where
  pub start_is : (p : ℕ) → n * p ≡ place_start wide p
  unfolding place_start
  start_is p = ap (λ (k : ℕ). k * p) e

  pub start_fits : (p : ℕ) → p < place_count → n * p < 2 ^ 64
  start_fits p l = omega (arith, start_is p, place-room wide p l, place-most wide)

  pub table_fits : n * place_count < 2 ^ 64
  table_fits = omega (arith, place-most wide)

pub ruleset starts = (start_is, start_fits, table_fits)

-- a place's marking stands after its first byte
pub mark-fits : (wide : Bool) (p at : ℕ) → p < place_count → at ≡ place_start wide p → at + 1 < 2 ^ 64
mark-fits wide p at l e = omega (arith, place-room wide p l, place-most wide)

-- ---- ways through the code

pub open_above : (wide : Bool) (table : List ℕ) (p : ℕ) → place_count ≤ p → false ≡ is_open wide table p
unfolding is_open
open_above wide table p h = stops-l (ltb p place_count) (non (eqb (get_or table (place_start wide p) 0) 0)) (not-above p place_count h)

-- an open place is one of the 32
pub open-below : (wide : Bool) (table : List ℕ) (p : ℕ) → T (is_open wide table p) → p < place_count
unfolding is_open
open-below wide table p t = ltb-true p place_count (T→true _ (and_l (ltb p place_count) (non (eqb (get_or table (place_start wide p) 0) 0)) t))

module _ (taken : ℕ → Bool) (p : ℕ) where
  pub lowest-is : p ≤ place_count → (p < place_count → T (non (taken p))) → passed taken p → p ≡ lowest_free taken
  unfolding lowest_free
  lowest-is l here lower =
      least-only place_count (λ q. non (taken q)) p l here
      (λ a b t.
      either (split (ltb a p)) (λ low. absurd (non-e (taken a) t (lower a (ltb-true a p (T→true _ low))))) (λ up. ltb-false a p (F→false _ up)))

  pub lowest-here : (r : Bool) → p < place_count → r ≡ taken p → r ≡ false → passed taken p → p ≡ lowest_free taken
  lowest-here r l e n = lowest-is (omega arith) (λ b. non-i (taken p) (λ t. false→F (sym (failed (taken p) r e n)) t))

  pub lowest-none : p ≤ place_count → place_count ≤ p → passed taken p → p ≡ lowest_free taken
  lowest-none l u = lowest-is l (λ b. absurd (omega arith))

-- the same, where there is one
module _ (taken : ℕ → Bool) (p : ℕ) where
  pub found_free : (r : Bool) → p < place_count → r ≡ taken p → r ≡ false → passed taken p → Some p ≡ free_place taken
  found_free r l e n h =
      let here : p ≡ lowest_free taken = lowest-here taken p r l e n h in
      ap Some here ∙ ap (λ (t : Bool). then_some t (lowest_free taken)) (sym (lt-ltb (lowest_free taken) place_count (omega arith)))

  pub none-free : p ≤ place_count → place_count ≤ p → passed taken p → None ≡ free_place taken
  none-free l u h =
      let all : p ≡ lowest_free taken = lowest-none taken p l u h in
      ap (λ (t : Bool). then_some t (lowest_free taken)) (sym (le-ltb (lowest_free taken) place_count (omega arith)))

-- all are taken just where there is no lowest free place
pub all-taken : (taken : ℕ → Bool) → every_below place_count taken ≡ non (ltb (lowest_free taken) place_count)
unfolding lowest_free
all-taken taken =
    every-ext place_count taken (λ p. non (non (taken p))) (λ a l. sym (non-non (taken a)))
    ∙ sym (non-some place_count (λ p. non (taken p)))
    ∙ ap non (some-least place_count (λ p. non (taken p)))

-- ---- a marking at a place

module _ (wide : Bool) (table : List ℕ) (long : table_length wide ≤ length table) (p : ℕ) (low : p < place_count) where
  module _ (at : ℕ) (here : at ≡ place_start wide p) where
    pub byte-room : at < length table
    byte-room = omega (arith, place-room wide p low)

    pub open-byte : not (eqb (get_or table at 0) 0) ≡ is_open wide table p
    unfolding is_open
    open-byte =
        goes (ltb p place_count) (non (eqb (get_or table (place_start wide p) 0) 0)) (not (eqb (get_or table at 0) 0)) (above p place_count low)
        (not-non (eqb (get_or table at 0) 0) ∙ ap (λ (n : ℕ). non (eqb (get_or table n 0) 0)) here)

    pub held_at : (m : Marking) → m ≡ marking_held wide table (at + 1) → m ≡ marking_at_place wide table p
    unfolding marking_at_place
    held_at m e =
        e ∙ ap (λ (n : ℕ). marking_held wide table (n + 1)) here
        ∙ held-there wide table (place_start wide p + 1) (omega (arith, place-room wide p low))

    pub stored_at : (m : Marking) (table' : List ℕ) → table' ≡ marking_put wide m table (at + 1) → table' ≡ with_marking wide table p m
    unfolding with_marking
    stored_at m table' e =
        e ∙ ap (λ (n : ℕ). marking_put wide m table (n + 1)) here
        ∙ put-there wide m table (place_start wide p + 1) (omega (arith, place-room wide p low))

    pub placed_at : (first : ℕ) (m : Marking) (table' : List ℕ) → table' ≡ with_marking wide (set table at first) p m
        → table' ≡ with_place wide table p first m
    unfolding with_place
    placed_at first m table' e = e ∙ ap (λ (n : ℕ). with_marking wide (set table n first) p m) here

  -- what was stored is read
  pub marking-same : (m : Marking) → WholeMarking m → HeldMarking wide m → marking_at_place wide (with_marking wide table p m) p ≡ m
  unfolding marking_at_place with_marking
  marking-same m w k = marking-back wide table (place_start wide p + 1) m (omega (arith, place-room wide p low)) w k

  pub open-same : (b : ℕ) → is_open wide (set table (place_start wide p) b) p ≡ non (eqb b 0)
  unfolding is_open
  open-same b =
      sym (goes (ltb p place_count) (non (eqb (get_or (set table (place_start wide p) b) (place_start wide p) 0) 0)) (non (eqb b 0)) (above p place_count low)
      (ap (λ (x : ℕ). non (eqb x 0)) (sym (get_or-set_same table (place_start wide p) b 0 (omega (arith, place-room wide p low))))))

-- ---- nothing shows at another place, nor in the other part of the same

apart : (p q : ℕ) → p ≢ q → (p < q) ⊎ (q < p)
apart p q n =
    either (split (ltb p q)) (λ l. inl (ltb-true p q (T→true _ l)))
    (λ h. let u = ltb-false p q (F→false _ h) in
    either (split (ltb q p)) (λ l. inr (ltb-true q p (T→true _ l)))
    (λ g. let v = ltb-false q p (F→false _ g) in let same : p ≡ q = omega arith in absurd (n same)))

module _ (wide : Bool) (table : List ℕ) (p q : ℕ) where
  module _ (m : Marking) where
    pub open_kept : is_open wide (with_marking wide table p m) q ≡ is_open wide table q
    unfolding is_open with_marking
    open_kept =
        ap (λ (x : ℕ). ltb q place_count and non (eqb x 0))
        (get_or-apart table (place_start wide q) (place_start wide p + 1) (marking_bytes wide m)
        (either (split (ltb p q))
        (λ l. let k = place-next wide p q (ltb-true p q (T→true _ l)) in inr (omega (arith, length-marking wide m)))
        (λ h. let k = place_up wide q p (ltb-false p q (F→false _ h)) in inl (omega arith))))

    pub marking-kept : p ≢ q → marking_at_place wide (with_marking wide table p m) q ≡ marking_at_place wide table q
    unfolding marking_at_place with_marking
    marking-kept n =
        marking-apart wide table (place_start wide q + 1) (place_start wide p + 1) (marking_bytes wide m)
        (either (apart p q n) (λ l. let k = place-next wide p q l in inr (omega (arith, length-marking wide m)))
        (λ l. let k = place-next wide q p l in inl (omega arith)))

  module _ (b : ℕ) where
    pub byte-open : p ≢ q → is_open wide (set table (place_start wide p) b) q ≡ is_open wide table q
    unfolding is_open
    byte-open n =
        ap (λ (x : ℕ). ltb q place_count and non (eqb x 0))
        (get_or-set_other table (place_start wide p) (place_start wide q) b 0
        (λ e. n (either (apart p q n) (λ l. let k = place-next wide p q l in absurd (omega arith))
        (λ l. let k = place-next wide q p l in absurd (omega arith)))))

    pub byte-marking : marking_at_place wide (set table (place_start wide p) b) q ≡ marking_at_place wide table q
    unfolding marking_at_place
    byte-marking =
        marking-apart wide table (place_start wide q + 1) (place_start wide p) (b ∷ [])
        (either (split (ltb q p))
        (λ l. let k = place-next wide q p (ltb-true q p (T→true _ l)) in inl (omega arith))
        (λ h. let k = place_up wide p q (ltb-false q p (F→false _ h)) in inr (omega arith)))

-- ---- how long the table is

pub length_marked : (wide : Bool) (table : List ℕ) (p : ℕ) (m : Marking) → length (with_marking wide table p m) ≡ length table
unfolding with_marking
length_marked wide table p m = length-sets table (place_start wide p + 1) (marking_bytes wide m)

pub length-placed : (wide : Bool) (table : List ℕ) (p b : ℕ) (m : Marking) → length (with_place wide table p b m) ≡ length table
unfolding with_place
length-placed wide table p b m = length_marked wide (set table (place_start wide p) b) p m ∙ length-set table (place_start wide p) b

-- ---- a whole place: open or not, and its marking

module _ (wide : Bool) (table : List ℕ) (p b : ℕ) (m : Marking) where
  module _ (long : table_length wide ≤ length table) (low : p < place_count) where
    pub placed-open : is_open wide (with_place wide table p b m) p ≡ non (eqb b 0)
    unfolding with_place
    placed-open = open_kept wide (set table (place_start wide p) b) p p m ∙ open-same wide table long p low b

    pub placed-marking : WholeMarking m → HeldMarking wide m → marking_at_place wide (with_place wide table p b m) p ≡ m
    unfolding with_place
    placed-marking w k =
        let same = length-set table (place_start wide p) b in marking-same wide (set table (place_start wide p) b) (omega arith) p low m w k

  module _ (q : ℕ) (n : p ≢ q) where
    pub else-open : is_open wide (with_place wide table p b m) q ≡ is_open wide table q
    unfolding with_place
    else-open = open_kept wide (set table (place_start wide p) b) p q m ∙ byte-open wide table p q b n

    pub else-marking : marking_at_place wide (with_place wide table p b m) q ≡ marking_at_place wide table q
    unfolding with_place
    else-marking = marking-kept wide (set table (place_start wide p) b) p q m n ∙ byte-marking wide table p q b

pub length-after : (wide : Bool) (table table' : List ℕ) (p at first : ℕ) (m : Marking) → table' ≡ with_marking wide (set table at first) p m
    → length table' ≡ length table
length-after wide table table' p at first m e = ap length e ∙ length_marked wide (set table at first) p m ∙ length-set table at first

pub ruleset placing = (mark-fits, open_above, byte-room, open-byte, held_at, stored_at, placed_at, length-after)

pub ruleset lowest = (found_free, none-free)
