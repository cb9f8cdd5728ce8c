use mathlib.Core.Path.{sym, ap, ◌∙◌, subst}
use mathlib.Core.List.{List}
use Prim.Native.Nat.{ℕ}
use lib.ListN.{set}
use Rattle.tally.proofs.Turns.{with-one}
use Rattle.months.specs.declared.pairs.Seen.{Seen}
use Rattle.months.specs.Pairs.{Kept}
use Rattle.months.proofs.Cuts.{seen-again, seen-above, seen-new, first-put, counted-more, room-more, kept-more}
use Rattle.months.proofs.pairs.Cuts.note.Goals as goal

pub returns-then-has-clause-now_seen : goal.returns-then-has-clause-now_seen
returns-then-has-clause-now_seen c = let s = c.args.self.now in
    c.widen.ensures.same_seen ∙ (seen-again s.firsts s.seen c.args.e.0 _ c.has.ensures c.if-has.true).0

pub returns-then-has-clause-now_firsts : goal.returns-then-has-clause-now_firsts
returns-then-has-clause-now_firsts c = let s = c.args.self.now in
    c.widen.ensures.same_firsts ∙ (seen-again s.firsts s.seen c.args.e.0 _ c.has.ensures c.if-has.true).1

pub returns-then-e-ge-LIMIT-clause-now_seen : goal.returns-then-e-ge-LIMIT-clause-now_seen
returns-then-e-ge-LIMIT-clause-now_seen c = let s = c.args.self.now in
    c.widen.ensures.same_seen ∙ (seen-above s.firsts s.seen c.args.e.0 _ c.has.ensures c.if-e-ge-LIMIT.true).0

pub returns-then-e-ge-LIMIT-clause-now_firsts : goal.returns-then-e-ge-LIMIT-clause-now_firsts
returns-then-e-ge-LIMIT-clause-now_firsts c = let s = c.args.self.now in
    c.widen.ensures.same_firsts ∙ (seen-above s.firsts s.seen c.args.e.0 _ c.has.ensures c.if-e-ge-LIMIT.true).1

pub bounds-self-seen : goal.bounds-self-seen
bounds-self-seen c = let s = c.args.self.now in
    room-more s.seen c.args.e.0 s.counted (sym c.has.ensures ∙ c.if-has.false) c.if-e-ge-LIMIT.false

pub invariant_of-self : goal.invariant_of-self
invariant_of-self c = let s = c.args.self.now in
    let wide = c.widen.new.self in
    let new = sym c.has.ensures ∙ c.if-has.false in
    let kept = subst (λ (n : ℕ). Kept wide.firsts wide.gaps n) (ap (λ (x : Seen). x.count) c.widen.ensures.same_seen) wide.kept in record {
      counted = counted-more s.seen c.args.e.0 s.counted new c.if-e-ge-LIMIT.false _ (with-one s.seen.set _ _ c.args.e.0 c.one.ensures c.union.ensures);
      kept = kept-more s.seen c.args.e.0 s.counted new c.if-e-ge-LIMIT.false wide.firsts wide.gaps kept;
    }

pub returns-clause-now_seen : goal.returns-clause-now_seen
returns-clause-now_seen c = (let s = c.args.self.now in
    let room = room-more s.seen c.args.e.0 s.counted (sym c.has.ensures ∙ c.if-has.false) c.if-e-ge-LIMIT.false in
    seen-new s.firsts s.seen c.args.e.0 _ c.has.ensures _ _ _ c.if-has.false c.if-e-ge-LIMIT.false (first-put s.firsts s.seen.count c.args.e.0 room)
    c.one.ensures c.union.ensures).0

pub returns-clause-now_firsts : goal.returns-clause-now_firsts
returns-clause-now_firsts c = let s = c.args.self.now in
    let room = room-more s.seen c.args.e.0 s.counted (sym c.has.ensures ∙ c.if-has.false) c.if-e-ge-LIMIT.false in
    ap (λ (l : List ℕ). set l s.seen.count c.args.e.0) c.widen.ensures.same_firsts
    ∙ (seen-new s.firsts s.seen c.args.e.0 _ c.has.ensures _ _ _ c.if-has.false c.if-e-ge-LIMIT.false (first-put s.firsts s.seen.count c.args.e.0 room)
    c.one.ensures c.union.ensures).1
