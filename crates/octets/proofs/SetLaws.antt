-- Sets in bytes: what is put is read again at its place, and does not show elsewhere; what is read, put down again, is what was there. Assumes nothing.
use mathlib.Core.Path.{◌≡◌, refl, sym, ap, ap₂, ◌∙◌, subst}
use mathlib.Core.Bool.{Bool, true, false}
use mathlib.Core.Logic.{inl, inr}
use mathlib.Core.List.{List, [], ◌∷◌, ◌++◌}
use Prim.Native.Nat.{ℕ, ◌+◌, ◌*◌, ◌^◌, ◌≤◌, ◌<◌}
use native.Mathlib.Omega.{arith}
use borrow.Author.Tests.{lt-ltb, le-ltb, ltb-false}
use lib.Dec.{T, ltb}
use lib.ListN.{length, get_or, take, drop, length-append}
use lib.Seq.{sets, length-sets, take_at, drop_at}
use Rattle.sets.specs.Tests.{when◌then◌else◌}
use Rattle.sets.specs.Members.{word, mem, those, no_set}
use Rattle.octets.specs.Numbers.{little_endian, value_of, number_at}
use Rattle.sets.specs.declared.set.Set.{Set}
use Rattle.sets.proofs.Tests.{false→F}
use Rattle.sets.proofs.Bits.{bits_of-ext}
use Rattle.sets.proofs.Members.{Whole, whole-fits, whole-low, those-mem, mem-none, none-high, low-alone}
use Rattle.octets.specs.Sets.{word_length, set_length, set_bytes, set_there, set_at, set_put}
use Rattle.octets.proofs.Codec.{Bytes, length-number}
use Rattle.octets.proofs.Parts.{part, meet, length_part, part_room, follow, Apart, part_apart, get_or-apart, part-stored}
use Rattle.octets.proofs.Rooms.{ways}
use Rattle.octets.proofs.NumberLaws.{number_read, part-number, number-below}

-- the form can hold the set: no member is past its last bit
abbrev pub Holds : Bool → Set → Type 0
Holds wide s = (a : ℕ) → T (mem s a) → a < 8 * set_length wide

-- ---- ways through the code

pub length-wide : (wide : Bool) → wide ≡ true → 16 ≡ set_length wide
length-wide wide e = sym (ap set_length e)

pub length-narrow : (wide : Bool) → wide ≡ false → 8 ≡ set_length wide
length-narrow wide e = sym (ap set_length e)

pub ruleset lengths = (length-wide, length-narrow)

append-nil : (xs : List ℕ) → xs ++ [] ≡ xs
append-nil [] = refl
append-nil (x ∷ xs) = ap (λ (l : List ℕ). x ∷ l) (append-nil xs)

module _ (wide : Bool) (bytes : List ℕ) (at : ℕ) (few : Bool) (n : ℕ) (k : n ≡ set_length wide) (e : few ≡ ltb (length bytes) (at + n)) where
  is-few : few ≡ ltb (length bytes) (at + set_length wide)
  is-few = e ∙ ap (λ (m : ℕ). ltb (length bytes) (at + m)) k

  pub at_none : few ≡ true → no_set ≡ set_at wide bytes at
  unfolding set_at
  at_none h = ap (λ (t : Bool). when t then no_set else set_there wide bytes at) (sym h ∙ is-few)

  at-some_lem : few ≡ false → set_there wide bytes at ≡ set_at wide bytes at
  unfolding set_at
  at-some_lem h = ap (λ (t : Bool). when t then no_set else set_there wide bytes at) (sym h ∙ is-few)

  pub at_wide : (x y : ℕ) → few ≡ false → x ≡ number_at word_length bytes at → wide ≡ true → y ≡ number_at word_length bytes (at + word_length)
      → record { low = x; high = y } ≡ set_at wide bytes at
  unfolding set_there
  at_wide x y h ex w ey =
      (λ i. record { low = ex i; high = (ey ∙ ap (λ (t : Bool). when t then number_at word_length bytes (at + word_length) else 0) (sym w)) i }) ∙ at-some_lem h

  pub at-narrow : (x : ℕ) → few ≡ false → x ≡ number_at word_length bytes at → wide ≡ false → record { low = x; high = 0 } ≡ set_at wide bytes at
  unfolding set_there
  at-narrow x h ex w =
      (λ i. record { low = ex i; high = ap (λ (t : Bool). when t then number_at word_length bytes (at + word_length) else 0) (sym w) i }) ∙ at-some_lem h

  -- there is room for the first word, and for the second
  pub room-first : few ≡ false → at + word_length ≤ length bytes
  room-first h = by wide (ltb-false (length bytes) (at + set_length wide) (sym is-few ∙ h))
    where
      by : (t : Bool) → at + set_length t ≤ length bytes → at + word_length ≤ length bytes
      by true l = omega arith
      by false l = l

  pub room-second : few ≡ false → wide ≡ true → at + word_length + word_length ≤ length bytes
  room-second h w =
      let all : at + set_length wide ≤ length bytes = ltb-false (length bytes) (at + set_length wide) (sym is-few ∙ h) in
      let long : set_length wide ≡ 16 = ap set_length w in
      omega arith

  -- and the second word's place is a machine's number
  pub place-second : few ≡ false → wide ≡ true → length bytes < 2 ^ 64 → at + word_length < 2 ^ 64
  place-second h w l = let r = room-second h w in omega arith

  pub put-place_lem : few ≡ false → wide ≡ true → length bytes < 2 ^ 64 → at + word_length < 2 ^ 64
  put-place_lem h w l = place-second (h) w l

  pub put_first : few ≡ false → at + word_length ≤ length bytes
  put_first h = room-first (h)

  pub put_second : (mid : List ℕ) → length mid ≡ length bytes → few ≡ false → wide ≡ true → at + word_length + word_length ≤ length mid
  put_second mid q h w = let l = room-second (h) w in omega arith

  module _ (s : Set) where
    pub put-nothing : few ≡ true → bytes ≡ set_put wide bytes at s
    unfolding set_put
    put-nothing h = ap (λ (t : Bool). when t then bytes else sets bytes at (set_bytes wide s)) (sym (h) ∙ is-few)

    put_some : (bytes' : List ℕ) → few ≡ false → bytes' ≡ sets bytes at (set_bytes wide s) → bytes' ≡ set_put wide bytes at s
    unfolding set_put
    put_some bytes' h q = q ∙ ap (λ (t : Bool). when t then bytes else sets bytes at (set_bytes wide s)) (sym (h) ∙ is-few)

    pub put-narrow : (bytes' : List ℕ) → few ≡ false → wide ≡ false → bytes' ≡ sets bytes at (little_endian word_length s.low) → bytes' ≡ set_put wide bytes at s
    unfolding set_bytes
    put-narrow bytes' h w q =
        put_some bytes' h
        (q ∙ ap (λ (l : List ℕ). sets bytes at l)
        (sym (append-nil (little_endian word_length s.low))
        ∙ ap (λ (t : Bool). little_endian word_length s.low ++ (when t then little_endian word_length s.high else [])) (sym w)))

    pub put-wide : (mid bytes' : List ℕ) → few ≡ false → wide ≡ true → mid ≡ sets bytes at (little_endian word_length s.low)
        → bytes' ≡ sets mid (at + word_length) (little_endian word_length s.high) → bytes' ≡ set_put wide bytes at s
    unfolding set_bytes
    put-wide mid bytes' h w qm q =
        put_some bytes' h
        (follow bytes mid bytes' (little_endian word_length s.low) (little_endian word_length s.high) at (at + word_length)
        (ap (λ (n : ℕ). at + n) (sym (length-number word_length s.low))) qm q
        ∙ ap (λ (t : Bool). sets bytes at (little_endian word_length s.low ++ (when t then little_endian word_length s.high else []))) (sym w))

pub ruleset reading = (lengths, at_none, at_wide, at-narrow, room-first, room-second, place-second)

pub ruleset storing = (lengths, put-nothing, put-narrow, put-wide, put_first, put_second, put-place_lem)

-- ---- where there is room, and where there is none

module _ (wide : Bool) (bytes : List ℕ) (at : ℕ) where
  pub at_there : at + set_length wide ≤ length bytes → set_at wide bytes at ≡ set_there wide bytes at
  unfolding set_at
  at_there h = ap (λ (t : Bool). when t then no_set else set_there wide bytes at) (le-ltb (length bytes) (at + set_length wide) h)

  pub at-missing : length bytes < at + set_length wide → set_at wide bytes at ≡ no_set
  unfolding set_at
  at-missing h = ap (λ (t : Bool). when t then no_set else set_there wide bytes at) (lt-ltb (length bytes) (at + set_length wide) h)

  pub put-there : (s : Set) → at + set_length wide ≤ length bytes → set_put wide bytes at s ≡ sets bytes at (set_bytes wide s)
  unfolding set_put
  put-there s h = ap (λ (t : Bool). when t then bytes else sets bytes at (set_bytes wide s)) (le-ltb (length bytes) (at + set_length wide) h)

  pub put-missing : (s : Set) → length bytes < at + set_length wide → set_put wide bytes at s ≡ bytes
  unfolding set_put
  put-missing s h = ap (λ (t : Bool). when t then bytes else sets bytes at (set_bytes wide s)) (lt-ltb (length bytes) (at + set_length wide) h)

-- ---- how long

-- no form is without bytes
pub set-some : (wide : Bool) → 0 < set_length wide
set-some true = omega arith
set-some false = omega arith

pub length-set : (wide : Bool) (s : Set) → length (set_bytes wide s) ≡ set_length wide
unfolding set_bytes
length-set true s =
    length-append (little_endian word_length s.low) (little_endian word_length s.high)
    ∙ ap₂ ◌+◌ (length-number word_length s.low) (length-number word_length s.high)
length-set false s = ap length (append-nil (little_endian word_length s.low)) ∙ length-number word_length s.low

pub length-put : (wide : Bool) (bytes : List ℕ) (at : ℕ) (s : Set) → length (set_put wide bytes at s) ≡ length bytes
length-put wide bytes at s =
    ways _ bytes at (set_length wide) (λ h. ap length (put-there wide bytes at s h) ∙ length-sets bytes at (set_bytes wide s)) (λ h. ap length (put-missing wide bytes at s h))

-- a put is a store, and keeps the length
module _ (wide : Bool) (o o₁ : List ℕ) (at : ℕ) (s : Set) (h : o₁ ≡ set_put wide o at s) where
  pub set-stored : at + set_length wide ≤ length o → o₁ ≡ sets o at (set_bytes wide s)
  set-stored room = h ∙ put-there wide o at s room

  pub set-kept : length o₁ ≡ length o
  set-kept = ap length h ∙ length-put wide o at s

-- ---- what was put, read again

-- two words that stand one after the other stand each in its place
module _ (l xs ys : List ℕ) (at n m : ℕ) (long : length xs ≡ n) (room : at + n ≤ length l) (e : part l at (n + m) ≡ xs ++ ys) where
  both : part l at n ++ part l (at + n) m ≡ xs ++ ys
  both = meet l (part l at n) (part l (at + n) m) at n (at + n) m refl refl refl ∙ e

  pub part-first : part l at n ≡ xs
  part-first = sym (take_at (part l at n) (part l (at + n) m) n (length_part l at n room)) ∙ ap (take n) both ∙ take_at xs ys n long

  pub part-second : part l (at + n) m ≡ ys
  part-second = sym (drop_at (part l at n) (part l (at + n) m) n (length_part l at n room)) ∙ ap (drop n) both ∙ drop_at xs ys n long

-- a set stands where its bytes stand
pub set-read : (wide : Bool) (l : List ℕ) (at : ℕ) (s : Set) → part l at (set_length wide) ≡ set_bytes wide s → Whole s → Holds wide s → set_at wide l at ≡ s
unfolding set_bytes set_there
set-read wide l at s e w holds = at_there wide l at room ∙ by wide e holds room
  where
    room : at + set_length wide ≤ length l
    room = part_room l at (set_length wide) (ap length e ∙ length-set wide s) (set-some wide)

    by : (t : Bool) → part l at (set_length t) ≡ little_endian word_length s.low ++ (when t then little_endian word_length s.high else [])
        → Holds t s → at + set_length t ≤ length l → set_there t l at ≡ s
    by true q h r =
        let low = part-first l (little_endian word_length s.low) (little_endian word_length s.high) at word_length word_length
        (length-number word_length s.low) (omega arith) q in
        let high = part-second l (little_endian word_length s.low) (little_endian word_length s.high) at word_length word_length
        (length-number word_length s.low) (omega arith) q in
        λ i.
        record {
          low = number_read l word_length at s.low low (whole-fits s w).0 i;
          high = number_read l word_length (at + word_length) s.high high (whole-fits s w).1 i;
        }
    by false q h r =
        λ i.
        record {
          low = number_read l word_length at s.low (q ∙ append-nil (little_endian word_length s.low)) (whole-fits s w).0 i;
          high = sym (none-high s w h) i;
        }

pub set_back : (wide : Bool) (bytes : List ℕ) (at : ℕ) (s : Set) → at + set_length wide ≤ length bytes → Whole s → Holds wide s
    → set_at wide (set_put wide bytes at s) at ≡ s
set_back wide bytes at s h w holds =
    ap (λ (l : List ℕ). set_at wide l at) (put-there wide bytes at s h)
    ∙ set-read wide (sets bytes at (set_bytes wide s)) at s (part-stored bytes at (set_length wide) (set_bytes wide s) (length-set wide s) h) w holds

-- ---- what was put, seen from elsewhere

-- any store that is apart leaves a set as it is
pub set_apart : (wide : Bool) (l : List ℕ) (at i : ℕ) (vs : List ℕ) → Apart at (set_length wide) i (length vs) → set_at wide (sets l i vs) at ≡ set_at wide l at
unfolding set_at set_there number_at
set_apart wide l at i vs a = λ k. when ltb (length-sets l i vs k) (at + set_length wide) then no_set else there wide a k
  where
    near : (n m : ℕ) → Apart at (n + m) i (length vs) → Apart at n i (length vs)
    near n m (inl h) = inl (omega arith)
    near n m (inr h) = inr h

    far : (n m : ℕ) → Apart at (n + m) i (length vs) → Apart (at + n) m i (length vs)
    far n m (inl h) = inl (omega arith)
    far n m (inr h) = inr (omega arith)

    there : (t : Bool) → Apart at (set_length t) i (length vs) → set_there t (sets l i vs) at ≡ set_there t l at
    there true b =
        λ k.
        record {
          low = value_of (part_apart l at word_length i vs (near word_length word_length b) k);
          high = value_of (part_apart l (at + word_length) word_length i vs (far word_length word_length b) k);
        }
    there false b = λ k. record { low = value_of (part_apart l at word_length i vs b k); high = 0 }

module _ (wide : Bool) (bytes : List ℕ) (i : ℕ) (s : Set) where
  pub put-apart : (form : Bool) (at : ℕ) → Apart at (set_length form) i (set_length wide) → set_at form (set_put wide bytes i s) at ≡ set_at form bytes at
  put-apart form at a =
      ways _ bytes i (set_length wide)
      (λ h. ap (λ (l : List ℕ). set_at form l at) (put-there wide bytes i s h)
      ∙ set_apart form bytes at i (set_bytes wide s) (subst (Apart at (set_length form) i) (sym (length-set wide s)) a))
      (λ h. ap (λ (l : List ℕ). set_at form l at) (put-missing wide bytes i s h))

  pub byte-apart : (k : ℕ) → Apart k 1 i (set_length wide) → get_or (set_put wide bytes i s) k 0 ≡ get_or bytes k 0
  byte-apart k a =
      ways _ bytes i (set_length wide)
      (λ h. ap (λ (l : List ℕ). get_or l k 0) (put-there wide bytes i s h) ∙ get_or-apart bytes k i (set_bytes wide s) (subst (Apart k 1 i) (sym (length-set wide s)) a))
      (λ h. ap (λ (l : List ℕ). get_or l k 0) (put-missing wide bytes i s h))

-- ---- what was read, put down again

module _ (wide : Bool) (l : List ℕ) (bytes : Bytes l) (at : ℕ) where
  -- the bytes of a set that was read are those that stand there
  pub set-part : at + set_length wide ≤ length l → set_bytes wide (set_at wide l at) ≡ part l at (set_length wide)
  unfolding set_bytes set_there
  set-part h = ap (set_bytes wide) (at_there wide l at h) ∙ by wide h
    where
      by : (t : Bool) → at + set_length t ≤ length l → set_bytes t (set_there t l at) ≡ part l at (set_length t)
      by true r =
          meet l (little_endian word_length (number_at word_length l at)) (little_endian word_length (number_at word_length l (at + word_length)))
          at word_length (at + word_length) word_length refl
          (part-number l bytes at word_length (omega arith)) (part-number l bytes (at + word_length) word_length (omega arith))
      by false r = append-nil (little_endian word_length (number_at word_length l at)) ∙ part-number l bytes at word_length r

  -- a set that was read is one of the code's, and its form can hold it
  pub set-whole : Whole (set_at wide l at)
  unfolding set_there
  set-whole =
      ways _ l at (set_length wide) (λ h. subst Whole (sym (at_there wide l at h)) (by wide h))
      (λ h. subst Whole (sym (at-missing wide l at h)) (those-mem no_set (omega arith, omega arith)))
    where
      by : (t : Bool) → at + set_length t ≤ length l → Whole (set_there t l at)
      by true r =
          those-mem (record { low = number_at word_length l at; high = number_at word_length l (at + word_length) })
          (number-below l bytes at word_length (omega arith), number-below l bytes (at + word_length) word_length (omega arith))
      by false r = those-mem (record { low = number_at word_length l at; high = 0 }) (number-below l bytes at word_length r, omega arith)

-- its form can hold a set that was read
pub set_holds : (wide : Bool) (l : List ℕ) → Bytes l → (at : ℕ) → Holds wide (set_at wide l at)
unfolding set_there
set_holds true l bytes at = λ a t. whole-low (set_at true l at) (set-whole true l bytes at) a t
set_holds false l bytes at =
    ways (Holds false (set_at false l at)) l at word_length (λ h. subst (Holds false) (sym (at_there false l at h)) there)
    (λ h. subst (Holds false) (sym (at-missing false l at h)) (λ a t. absurd (false→F (mem-none a) t)))
  where
    there : Holds false (set_there false l at)
    there a t = low-alone (number_at word_length l at) a t

-- two sets that agree below 64 have the same narrow form
pub narrow-ext : (p q : ℕ → Bool) → ((a : ℕ) → a < word → p a ≡ q a) → set_bytes false (those p) ≡ set_bytes false (those q)
unfolding set_bytes those
narrow-ext p q e = ap (λ (n : ℕ). little_endian word_length n ++ []) (bits_of-ext word p q e)
